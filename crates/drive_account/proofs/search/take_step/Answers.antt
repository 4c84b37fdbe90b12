use Rattle.std.proofs.Common.{Err, refl, sym, ap, subst}
use Rattle.std.proofs.lemmas.Result.{IfOk-weaker}
use Rattle.meaning_runs.proofs.Stand.{on_err}
use Rattle.path_finder.specs.Looking.{Await, means, wants}
use Rattle.machine_shown.specs.Shown.{shown}
use Rattle.drive_account.specs.Searching.{Fits}
use Rattle.drive_account.proofs.Making.{in_at}
use Rattle.drive_account.proofs.Results.{on_err_then}
use Rattle.drive_account.proofs.Searching.{at_reads, safe_reads, may_give, counted, counts_same}
use Rattle.drive_account.proofs.search.take_step.Goals as goal

pub give_want-requires-clause-may : goal.give_want-requires-clause-may
give_want-requires-clause-may g c =
    let old = g.P.Port.view c.args.port.now in
    let s = shown old.number old.mine in
    let k = c.requires.safe.0 in
    may_give s c.in-Ok.want (means c.next.new.self) k
    (safe_reads (g.T.Tree.files c.args.tree.now) (means c.args.look.now c.args.input) (wants c.in-Ok.want (means c.next.new.self)) s k c.in-Ok.ensures.goes c.requires.safe.1)

pub returns-in-Ok-clause-stays : goal.returns-in-Ok-clause-stays
returns-in-Ok-clause-stays g c = c.give_want.ensures.stays

pub returns-in-Ok-clause-holds : goal.returns-in-Ok-clause-holds
returns-in-Ok-clause-holds g c = c.give_want.ensures.holds

pub returns-in-Ok-clause-taken : goal.returns-in-Ok-clause-taken
returns-in-Ok-clause-taken g c =
    let files = g.T.Tree.files c.args.tree.now in
    let old = g.P.Port.view c.args.port.now in
    let before = means c.args.look.now c.args.input in
    let after = wants c.in-Ok.want (means c.next.new.self) in
    IfOk-weaker c.give_want.result _ _ (λ it given. record {
      moves = λ k whole fuel a. given.moves files (means c.next.new.self) k whole fuel (at_reads before after k c.in-Ok.ensures.goes a);
      safe = λ k h. given.safe (means c.next.new.self) k (safe_reads files before after (shown old.number old.mine) k c.in-Ok.ensures.goes h);
      counts = counts_same c.in-Ok.ensures.faults_stay it (given.counts (g.T.Tree.faults c.args.tree.now));
    }) c.give_want.ensures.given

pub returns-in-Ok-clause-fits : goal.returns-in-Ok-clause-fits
returns-in-Ok-clause-fits g c = IfOk-weaker c.give_want.result _ _ (λ it given. subst (λ (kind : Await). Fits kind it) (sym c.in-Ok.ensures.awaits) given.fits) c.give_want.ensures.given

pub returns-in-Ok-clause-kept : goal.returns-in-Ok-clause-kept
returns-in-Ok-clause-kept g c =
    IfOk-weaker c.give_want.result _ _ (λ it given. counted c.in-Ok.want (g.T.Tree.lists c.args.tree.now) (g.T.Tree.lists c.next.new.tree) (g.P.Port.view c.args.port.now).mine (g.P.Port.view c.give_want.new.port).mine c.in-Ok.ensures.counts given.kept) c.give_want.ensures.given

pub returns-in-Ok-clause-part : goal.returns-in-Ok-clause-part
returns-in-Ok-clause-part g c =
    let files = g.T.Tree.files c.args.tree.now in
    let before = means c.args.look.now c.args.input in
    let after = wants c.in-Ok.want (means c.next.new.self) in
    on_err_then c.give_want.result c.give_want.ensures.part (λ parted k whole fuel a. parted files (means c.next.new.self) k whole fuel (at_reads before after k c.in-Ok.ensures.goes a))

pub returns-in-Ok-clause-refused : goal.returns-in-Ok-clause-refused
returns-in-Ok-clause-refused g c =
    let files = g.T.Tree.files c.args.tree.now in
    let before = means c.args.look.now c.args.input in
    let after = wants c.in-Ok.want (means c.next.new.self) in
    λ is k whole fuel a. c.give_want.ensures.refused is files (means c.next.new.self) k whole fuel (at_reads before after k c.in-Ok.ensures.goes a)

pub returns-in-Err-Failed-clause-taken : goal.returns-in-Err-Failed-clause-taken
returns-in-Err-Failed-clause-taken g c =
    let old = g.P.Port.view c.args.port.now in
    IfOk-weaker c.unread.result _ _ (λ it taken. taken (g.T.Tree.files c.args.tree.now) (g.T.Tree.faults c.args.tree.now) (g.T.Tree.faults c.next.new.tree) old.number old.mine (means c.args.look.now c.args.input) (means c.next.new.self)
    (c.in-Err-Failed.ensures.failed (ap Err c.in-Err-Failed.field-0-is))) c.unread.ensures.taken

pub returns-in-Err-Failed-clause-fits : goal.returns-in-Err-Failed-clause-fits
returns-in-Err-Failed-clause-fits g c = IfOk-weaker c.unread.result _ _ (λ it fits. fits _) c.unread.ensures.fits

pub returns-in-Err-Failed-clause-part : goal.returns-in-Err-Failed-clause-part
returns-in-Err-Failed-clause-part g c = on_err c.unread.result (λ k whole fuel a. in_at (g.P.Port.view c.args.port.now).mine _ _ _ refl a)

pub returns-in-Err-Failed-clause-refused : goal.returns-in-Err-Failed-clause-refused
returns-in-Err-Failed-clause-refused g c = λ is. absurd (c.unread.ensures.refused is)

pub returns-in-Err-NoMemory-clause-part : goal.returns-in-Err-NoMemory-clause-part
returns-in-Err-NoMemory-clause-part g c = λ k whole fuel a. in_at (g.P.Port.view c.args.port.now).mine _ _ _ refl a
