use Rattle.std.proofs.Common.{◌≡◌, ◌-◌, ℕ, ◌∙◌, subst}
use Rattle.std.proofs.lemmas.Result.{IfOk-weaker}
use Rattle.machine_events.specs.declared.event.Event.TheVariants as ev
use Rattle.machine_events.specs.declared.event.Reply.TheVariants.{Done}
use Rattle.machine_events.specs.declared.event.Outcome.TheVariants as o
use Rattle.meaning_runs.specs.Runs.{Run}
use Rattle.meaning_runs.proofs.Stand.{in_some}
use Rattle.drive_account.proofs.Staying.{stays_trans}
use Rattle.drive_account.specs.Ending.{GaveAll, Gave}
use Rattle.drive_account.proofs.Giving.{lists_grow}
use Rattle.drive_account.proofs.Meant.{follows_of, broken_in, is_read}
use Rattle.meaning_script.specs.Meaning.{outcome_of}
use Rattle.py_run.specs.Overs.{Overs, IsUnfailed}
use Rattle.py_run.specs.Starts.{started}
use Rattle.py_run.specs.declared.drive.Over.{Over}
use Rattle.py_run.specs.declared.drive.Over.TheVariants as over
use Rattle.drive_account.proofs.Results.{on_err_then}
use Rattle.py_run.proofs.Results.{if_ok}
use Rattle.py_run.proofs.Whole.{meant_came, meant_out, meant_read, meant_over, broken_out, broken_read, no_end_in, no_end_out, no_end_read, lists_whole, came_shown, spent_idle, unread_idle, unread_left}
use Rattle.py_run.proofs.whole_thread.run_on.Goals as goal

pub returns-in-Err-clause-part : goal.returns-in-Err-clause-part
returns-in-Err-clause-part g c = broken_in _ _ c.in-Err.ensures.part

pub came-requires-clause-ready : goal.came-requires-clause-ready
came-requires-clause-ready g c = c.run.ensures.stays.ready c.requires.begun.ready

pub came-requires-clause-knows : goal.came-requires-clause-knows
came-requires-clause-knows g c =
    let whole : Run = started c.args.script c.args.start in
    let files = g.T.Tree.files c.args.tree.now in
    let v = g.P.Port.view c.run.new.port in
    let came : Overs files (g.T.Tree.faults c.args.tree.now) (g.T.Tree.faults c.run.new.tree) whole c.args.fuel v.mine (over.Came c.in-Came.flow) =
    subst (λ (o : Over). Overs files (g.T.Tree.faults c.args.tree.now) (g.T.Tree.faults c.run.new.tree) whole c.args.fuel v.mine o) c.in-Came.is c.in-Ok.ensures.over in
    came_shown (g.P.Port.view c.args.port.now) v files c.args.script whole c.args.fuel c.in-Came.flow c.requires.begun c.run.ensures.stays c.requires.safe came

pub returns-in-Came-clause-stays : goal.returns-in-Came-clause-stays
returns-in-Came-clause-stays g c = stays_trans _ _ _ c.run.ensures.stays c.came.ensures.stays

pub returns-in-Came-clause-meant : goal.returns-in-Came-clause-meant
returns-in-Came-clause-meant g c =
    let whole : Run = started c.args.script c.args.start in
    let files = g.T.Tree.files c.args.tree.now in
    let v = g.P.Port.view c.run.new.port in
    let came : Overs files (g.T.Tree.faults c.args.tree.now) (g.T.Tree.faults c.run.new.tree) whole c.args.fuel v.mine (over.Came c.in-Came.flow) =
    subst (λ (o : Over). Overs files (g.T.Tree.faults c.args.tree.now) (g.T.Tree.faults c.run.new.tree) whole c.args.fuel v.mine o) c.in-Came.is c.in-Ok.ensures.over in
    IfOk-weaker c.came.result _ _ (λ ending ends. rw ends.0 (meant_came c.args.script whole c.args.fuel came.0 v.mine (g.P.Port.view c.came.new.port).mine c.in-Came.flow came.1 ends.1)) c.came.ensures.ends

pub returns-in-Came-clause-follows : goal.returns-in-Came-clause-follows
returns-in-Came-clause-follows g c = λ told e. IfOk-weaker c.came.result _ _ (λ ending meant. follows_of (meant_over e meant) c.requires.safe) (returns-in-Came-clause-meant g c)

pub returns-in-Came-clause-part : goal.returns-in-Came-clause-part
returns-in-Came-clause-part g c =
    let whole : Run = started c.args.script c.args.start in
    let files = g.T.Tree.files c.args.tree.now in
    let v = g.P.Port.view c.run.new.port in
    let came : Overs files (g.T.Tree.faults c.args.tree.now) (g.T.Tree.faults c.run.new.tree) whole c.args.fuel v.mine (over.Came c.in-Came.flow) =
    subst (λ (o : Over). Overs files (g.T.Tree.faults c.args.tree.now) (g.T.Tree.faults c.run.new.tree) whole c.args.fuel v.mine o) c.in-Came.is c.in-Ok.ensures.over in
    on_err_then c.came.result c.came.ensures.err (λ same. rw same (broken_in _ _ (in_some came.1)))

pub returns-in-Came-clause-read : goal.returns-in-Came-clause-read
returns-in-Came-clause-read g c = IfOk-weaker c.came.result _ _ (λ ending other is. absurd (other is)) c.came.ensures.read

pub returns-in-Came-clause-unfailed : goal.returns-in-Came-clause-unfailed
returns-in-Came-clause-unfailed g c = if_ok c.came.result (λ ending other. subst (IsUnfailed (g.T.Tree.faults c.args.tree.now) (g.T.Tree.faults c.run.new.tree)) c.in-Came.is c.in-Ok.ensures.unfailed)

pub spent-requires : goal.spent-requires
spent-requires g c =
    let whole : Run = started c.args.script c.args.start in
    let files = g.T.Tree.files c.args.tree.now in
    let v = g.P.Port.view c.run.new.port in
    let out : Overs files (g.T.Tree.faults c.args.tree.now) (g.T.Tree.faults c.run.new.tree) whole c.args.fuel v.mine (over.Out c.in-Out.of_tree) =
    subst (λ (o : Over). Overs files (g.T.Tree.faults c.args.tree.now) (g.T.Tree.faults c.run.new.tree) whole c.args.fuel v.mine o) c.in-Out.is c.in-Ok.ensures.over in
    record { idle = spent_idle (g.P.Port.view c.args.port.now) v files c.args.script whole c.args.fuel c.in-Out.of_tree c.run.new.execution.held c.requires.begun c.run.ensures.stays c.requires.safe c.in-Ok.ensures.holds out }

pub returns-in-Out-clause-stays : goal.returns-in-Out-clause-stays
returns-in-Out-clause-stays g c = stays_trans _ _ _ c.run.ensures.stays c.spent.ensures.stays

pub returns-in-Out-clause-meant : goal.returns-in-Out-clause-meant
returns-in-Out-clause-meant g c =
    let whole : Run = started c.args.script c.args.start in
    let files = g.T.Tree.files c.args.tree.now in
    let v = g.P.Port.view c.run.new.port in
    let mine' = (g.P.Port.view c.spent.new.port).mine in
    let out : Overs files (g.T.Tree.faults c.args.tree.now) (g.T.Tree.faults c.run.new.tree) whole c.args.fuel v.mine (over.Out c.in-Out.of_tree) =
    subst (λ (o : Over). Overs files (g.T.Tree.faults c.args.tree.now) (g.T.Tree.faults c.run.new.tree) whole c.args.fuel v.mine o) c.in-Out.is c.in-Ok.ensures.over in
    let number : v.number ≡ c.args.script = c.run.ensures.stays.number ∙ c.requires.begun.number in
    IfOk-weaker c.spent.result _ _ (λ ending ends. rw ends.0
    (meant_out c.args.script whole c.args.fuel out.0 c.in-Out.of_tree v.mine mine' out.1 (subst (λ (t : ℕ). GaveAll t v.mine mine' o.Fuel c.args.fuel) number ends.1))) c.spent.ensures.ends

pub returns-in-Out-clause-follows : goal.returns-in-Out-clause-follows
returns-in-Out-clause-follows g c = λ told e. IfOk-weaker c.spent.result _ _ (λ ending meant. follows_of (meant_over e meant) c.requires.safe) (returns-in-Out-clause-meant g c)

pub returns-in-Out-clause-part : goal.returns-in-Out-clause-part
returns-in-Out-clause-part g c =
    let whole : Run = started c.args.script c.args.start in
    let files = g.T.Tree.files c.args.tree.now in
    let v = g.P.Port.view c.run.new.port in
    let mine' = (g.P.Port.view c.spent.new.port).mine in
    let out : Overs files (g.T.Tree.faults c.args.tree.now) (g.T.Tree.faults c.run.new.tree) whole c.args.fuel v.mine (over.Out c.in-Out.of_tree) =
    subst (λ (o : Over). Overs files (g.T.Tree.faults c.args.tree.now) (g.T.Tree.faults c.run.new.tree) whole c.args.fuel v.mine o) c.in-Out.is c.in-Ok.ensures.over in
    let number : v.number ≡ c.args.script = c.run.ensures.stays.number ∙ c.requires.begun.number in
    on_err_then c.spent.result c.spent.ensures.part (λ gave. broken_out c.args.script whole c.args.fuel out.0 c.in-Out.of_tree v.mine mine' _ _ out.1 (subst (λ (t : ℕ). Gave t v.mine mine') number gave))

pub returns-in-Out-clause-read : goal.returns-in-Out-clause-read
returns-in-Out-clause-read g c = IfOk-weaker c.spent.result _ _ (λ ending other is. absurd (other is)) c.spent.ensures.read

pub returns-in-Out-clause-unfailed : goal.returns-in-Out-clause-unfailed
returns-in-Out-clause-unfailed g c = if_ok c.spent.result (λ ending other. subst (IsUnfailed (g.T.Tree.faults c.args.tree.now) (g.T.Tree.faults c.run.new.tree)) c.in-Out.is c.in-Ok.ensures.unfailed)

pub overflow_sub-paid : goal.overflow_sub-paid
overflow_sub-paid g c =
    let whole : Run = started c.args.script c.args.start in
    let files = g.T.Tree.files c.args.tree.now in
    let v = g.P.Port.view c.run.new.port in
    let lost : Overs files (g.T.Tree.faults c.args.tree.now) (g.T.Tree.faults c.run.new.tree) whole c.args.fuel v.mine (over.Unread c.in-Unread.left) =
    subst (λ (o : Over). Overs files (g.T.Tree.faults c.args.tree.now) (g.T.Tree.faults c.run.new.tree) whole c.args.fuel v.mine o) c.in-Unread.is c.in-Ok.ensures.over in
    unread_left whole c.args.fuel c.in-Unread.left v.mine lost.0

pub unread-requires : goal.unread-requires
unread-requires g c =
    let whole : Run = started c.args.script c.args.start in
    let files = g.T.Tree.files c.args.tree.now in
    let v = g.P.Port.view c.run.new.port in
    let lost : Overs files (g.T.Tree.faults c.args.tree.now) (g.T.Tree.faults c.run.new.tree) whole c.args.fuel v.mine (over.Unread c.in-Unread.left) =
    subst (λ (o : Over). Overs files (g.T.Tree.faults c.args.tree.now) (g.T.Tree.faults c.run.new.tree) whole c.args.fuel v.mine o) c.in-Unread.is c.in-Ok.ensures.over in
    record { idle = unread_idle (g.P.Port.view c.args.port.now) v files c.args.script whole c.args.fuel c.in-Unread.left c.run.new.execution.held c.requires.begun c.run.ensures.stays c.requires.safe c.in-Ok.ensures.holds lost.0 }

pub returns-clause-stays : goal.returns-clause-stays
returns-clause-stays g c = stays_trans _ _ _ c.run.ensures.stays c.unread.ensures.stays

pub returns-clause-meant : goal.returns-clause-meant
returns-clause-meant g c =
    let whole : Run = started c.args.script c.args.start in
    let files = g.T.Tree.files c.args.tree.now in
    let v = g.P.Port.view c.run.new.port in
    let mine' = (g.P.Port.view c.unread.new.port).mine in
    let lost : Overs files (g.T.Tree.faults c.args.tree.now) (g.T.Tree.faults c.run.new.tree) whole c.args.fuel v.mine (over.Unread c.in-Unread.left) =
    subst (λ (o : Over). Overs files (g.T.Tree.faults c.args.tree.now) (g.T.Tree.faults c.run.new.tree) whole c.args.fuel v.mine o) c.in-Unread.is c.in-Ok.ensures.over in
    let number : v.number ≡ c.args.script = c.run.ensures.stays.number ∙ c.requires.begun.number in
    IfOk-weaker c.unread.result _ _ (λ ending ends. rw ends.0
    (meant_read c.args.script whole c.args.fuel c.in-Unread.left v.mine mine' lost.0 (subst (λ (t : ℕ). GaveAll t v.mine mine' o.Read (c.args.fuel - c.in-Unread.left)) number ends.1))) c.unread.ensures.ends

pub returns-clause-follows : goal.returns-clause-follows
returns-clause-follows g c = λ told e. IfOk-weaker c.unread.result _ _ (λ ending meant. follows_of (meant_over e meant) c.requires.safe) (returns-clause-meant g c)

pub returns-clause-part : goal.returns-clause-part
returns-clause-part g c =
    let whole : Run = started c.args.script c.args.start in
    let files = g.T.Tree.files c.args.tree.now in
    let v = g.P.Port.view c.run.new.port in
    let mine' = (g.P.Port.view c.unread.new.port).mine in
    let lost : Overs files (g.T.Tree.faults c.args.tree.now) (g.T.Tree.faults c.run.new.tree) whole c.args.fuel v.mine (over.Unread c.in-Unread.left) =
    subst (λ (o : Over). Overs files (g.T.Tree.faults c.args.tree.now) (g.T.Tree.faults c.run.new.tree) whole c.args.fuel v.mine o) c.in-Unread.is c.in-Ok.ensures.over in
    let number : v.number ≡ c.args.script = c.run.ensures.stays.number ∙ c.requires.begun.number in
    on_err_then c.unread.result c.unread.ensures.part (λ gave. broken_read c.args.script whole c.args.fuel c.in-Unread.left v.mine mine' _ _ lost.0 (subst (λ (t : ℕ). Gave t v.mine mine') number gave) lost.1)

pub returns-clause-read : goal.returns-clause-read
returns-clause-read g c =
    let whole : Run = started c.args.script c.args.start in
    let files = g.T.Tree.files c.args.tree.now in
    let v = g.P.Port.view c.run.new.port in
    let lost : Overs files (g.T.Tree.faults c.args.tree.now) (g.T.Tree.faults c.run.new.tree) whole c.args.fuel v.mine (over.Unread c.in-Unread.left) =
    subst (λ (o : Over). Overs files (g.T.Tree.faults c.args.tree.now) (g.T.Tree.faults c.run.new.tree) whole c.args.fuel v.mine o) c.in-Unread.is c.in-Ok.ensures.over in
    if_ok c.unread.result (λ ending is. lost.1)

pub returns-clause-unfailed : goal.returns-clause-unfailed
returns-clause-unfailed g c = IfOk-weaker c.unread.result _ _ (λ ending ends other. absurd (other (is_read ending ends.0))) c.unread.ensures.ends

pub returns-in-Err-clause-goes_on : goal.returns-in-Err-clause-goes_on
returns-in-Err-clause-goes_on g c = no_end_in c.args.script (started c.args.script c.args.start) c.args.fuel _ c.in-Err.ensures.part c.requires.safe

pub returns-in-Came-clause-goes_on : goal.returns-in-Came-clause-goes_on
returns-in-Came-clause-goes_on g c =
    let whole : Run = started c.args.script c.args.start in
    let files = g.T.Tree.files c.args.tree.now in
    let v = g.P.Port.view c.run.new.port in
    let came : Overs files (g.T.Tree.faults c.args.tree.now) (g.T.Tree.faults c.run.new.tree) whole c.args.fuel v.mine (over.Came c.in-Came.flow) =
    subst (λ (o : Over). Overs files (g.T.Tree.faults c.args.tree.now) (g.T.Tree.faults c.run.new.tree) whole c.args.fuel v.mine o) c.in-Came.is c.in-Ok.ensures.over in
    on_err_then c.came.result c.came.ensures.err (λ same. rw same (no_end_in c.args.script whole c.args.fuel v.mine (in_some came.1) c.requires.safe))

pub returns-in-Came-clause-lists : goal.returns-in-Came-clause-lists
returns-in-Came-clause-lists g c =
    let v = g.P.Port.view c.run.new.port in
    IfOk-weaker c.came.result _ _ (λ ending ends. lists_whole _ _ (g.P.Port.view c.args.port.now).mine v.mine _ c.requires.begun.first c.in-Ok.ensures.kept
    (lists_grow v.mine _ (ev.End (outcome_of c.in-Came.flow) c.args.fuel) Done ends.1)) c.came.ensures.ends

pub returns-in-Out-clause-goes_on : goal.returns-in-Out-clause-goes_on
returns-in-Out-clause-goes_on g c =
    let whole : Run = started c.args.script c.args.start in
    let files = g.T.Tree.files c.args.tree.now in
    let v = g.P.Port.view c.run.new.port in
    let mine' = (g.P.Port.view c.spent.new.port).mine in
    let out : Overs files (g.T.Tree.faults c.args.tree.now) (g.T.Tree.faults c.run.new.tree) whole c.args.fuel v.mine (over.Out c.in-Out.of_tree) =
    subst (λ (o : Over). Overs files (g.T.Tree.faults c.args.tree.now) (g.T.Tree.faults c.run.new.tree) whole c.args.fuel v.mine o) c.in-Out.is c.in-Ok.ensures.over in
    let number : v.number ≡ c.args.script = c.run.ensures.stays.number ∙ c.requires.begun.number in
    on_err_then c.spent.result c.spent.ensures.part (λ gave. no_end_out c.args.script whole c.args.fuel out.0 c.in-Out.of_tree v.mine mine' out.1 c.requires.safe (subst (λ (t : ℕ). Gave t v.mine mine') number gave))

pub returns-in-Out-clause-lists : goal.returns-in-Out-clause-lists
returns-in-Out-clause-lists g c =
    let v = g.P.Port.view c.run.new.port in
    IfOk-weaker c.spent.result _ _ (λ ending grew. lists_whole _ _ (g.P.Port.view c.args.port.now).mine v.mine _ c.requires.begun.first c.in-Ok.ensures.kept grew) c.spent.ensures.grows

pub returns-clause-goes_on : goal.returns-clause-goes_on
returns-clause-goes_on g c =
    let whole : Run = started c.args.script c.args.start in
    let files = g.T.Tree.files c.args.tree.now in
    let v = g.P.Port.view c.run.new.port in
    let mine' = (g.P.Port.view c.unread.new.port).mine in
    let lost : Overs files (g.T.Tree.faults c.args.tree.now) (g.T.Tree.faults c.run.new.tree) whole c.args.fuel v.mine (over.Unread c.in-Unread.left) =
    subst (λ (o : Over). Overs files (g.T.Tree.faults c.args.tree.now) (g.T.Tree.faults c.run.new.tree) whole c.args.fuel v.mine o) c.in-Unread.is c.in-Ok.ensures.over in
    let number : v.number ≡ c.args.script = c.run.ensures.stays.number ∙ c.requires.begun.number in
    on_err_then c.unread.result c.unread.ensures.part (λ gave. no_end_read c.args.script whole c.args.fuel c.in-Unread.left v.mine mine' lost.0 c.requires.safe (subst (λ (t : ℕ). Gave t v.mine mine') number gave))

pub returns-clause-lists : goal.returns-clause-lists
returns-clause-lists g c =
    let v = g.P.Port.view c.run.new.port in
    IfOk-weaker c.unread.result _ _ (λ ending grew. lists_whole _ _ (g.P.Port.view c.args.port.now).mine v.mine _ c.requires.begun.first c.in-Ok.ensures.kept grew) c.unread.ensures.grows
