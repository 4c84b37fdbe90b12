use Rattle.std.proofs.Common.{◌≡◌, ◌∙◌, ℕ, Err, refl, ap, subst, sym}
use Rattle.tree_files.specs.Count.{Rose}
use Rattle.meaning_runs.specs.Runs.{Run}
use Rattle.meaning_runs.proofs.Stand.{in_some}
use Rattle.drive_account.specs.At.{At}
use Rattle.drive_account.specs.declared.port.Halt.TheVariants.{Refused}
use Rattle.drive_account.proofs.Staying.{stays_refl, stays_trans}
use Rattle.drive_straight.specs.Remains.{due}
use Rattle.drive_straight.specs.declared.next.Next.{Next}
use Rattle.py_run.specs.Turns.{After, Counts}
use Rattle.py_run.specs.Starts.{started}
use Rattle.py_run.specs.declared.turns.Turn.{Turn}
use Rattle.drive_account.proofs.Asking.{asked_refl, asked_trans, kept_refl, kept_trans}
use Rattle.py_run.proofs.Turning.{begins, stands_first, holds_first, stood, after_turn, parted, refused_at}
use Rattle.py_run.proofs.drive.run.Goals as goal

pub turns-init : goal.turns-init
turns-init g c = record {
  stays = stays_refl _;
  holds = holds_first (g.P.Port.view c.args.port.now) c.args.script c.args.fuel c.args.execution.now c.requires.begun.first c.requires.fresh;
  at = subst (λ (run : Run). At (g.T.Tree.files c.args.tree.now) (started c.args.script c.args.start) c.args.fuel (g.P.Port.view c.args.port.now).mine c.args.execution.now.budget run) (sym (ap (λ (n : Next). due n c.args.execution.now) c.in-Ok-wanted.ensures))
      (begins (g.T.Tree.files c.args.tree.now) c.args.script c.args.fuel (started c.args.script c.args.start) c.in-Ok.want (g.P.Port.view c.args.port.now).mine c.args.execution.now c.requires.begun.first c.requires.fresh c.in-Ok.ensures);
  unfailed = refl;
  asked = asked_refl _ _;
  kept = kept_refl _ _;
}

pub give-requires : goal.give-requires
give-requires g c =
    let whole : Run = started c.args.script c.args.start in
    record {
      stood = stood (g.P.Port.view c.args.port.now) (g.P.Port.view c.turns.port) (g.T.Tree.files c.args.tree.now) c.args.script c.args.fuel whole c.turns.execution c.turns.next
          c.requires.begun c.turns.invariant.stays c.turns.invariant.holds c.turns.invariant.at c.requires.safe;
    }

pub returns-then-turns-clause-part : goal.returns-then-turns-clause-part
returns-then-turns-clause-part g c = in_some c.turns.invariant.at.stands

pub returns-in-Err-give-clause-part : goal.returns-in-Err-give-clause-part
returns-in-Err-give-clause-part g c =
    parted (g.T.Tree.files c.args.tree.now) (g.T.Tree.files c.turns.tree) (started c.args.script c.args.start) c.args.fuel (g.P.Port.view c.turns.port).mine (g.P.Port.view c.give.new.port).mine c.turns.execution c.turns.next
    c.turns.invariant.asked.files c.turns.invariant.at c.in-Err-give.ensures.part

pub returns-in-Err-give-clause-refused : goal.returns-in-Err-give-clause-refused
returns-in-Err-give-clause-refused g c = λ is.
    let same : c.in-Err-give.halt ≡ Refused = cc in
    refused_at (g.P.Port.view c.give.new.port) (g.T.Tree.files c.args.tree.now) (g.T.Tree.files c.turns.tree) (started c.args.script c.args.start) c.args.fuel (g.P.Port.view c.turns.port).mine c.turns.execution c.turns.next
    c.turns.invariant.asked.files c.turns.invariant.at (c.in-Err-give.ensures.refused (ap Err same))

pub turns-preserved : goal.turns-preserved
turns-preserved g c =
    let whole : Run = started c.args.script c.args.start in
    let files = g.T.Tree.files c.args.tree.now in
    let mine' = (g.P.Port.view c.give.new.port).mine in
    record {
      stays = stays_trans _ _ _ c.turns.invariant.stays c.in-Ok-give.ensures.stays;
      holds = c.in-Ok-give.ensures.holds;
      at = subst (λ (t : Turn). After files whole c.args.fuel mine' c.give.new.execution t) c.in-On.is
          (after_turn files (g.T.Tree.files c.turns.tree) whole c.args.fuel _ _ (g.P.Port.view c.turns.port).mine mine' c.turns.execution c.give.new.execution c.turns.next c.in-Ok-give.turn c.turns.invariant.asked.files c.turns.invariant.at c.in-Ok-give.ensures.turned);
      unfailed = subst (λ (t : Turn). Counts (g.T.Tree.faults c.turns.tree) (g.T.Tree.faults c.give.new.tree) t) c.in-On.is c.in-Ok-give.ensures.turned.counts ∙ c.turns.invariant.unfailed;
      asked = asked_trans c.turns.invariant.asked c.in-Ok-give.ensures.asked;
      kept = kept_trans _ _ _ (g.P.Port.view c.args.port.now).mine (g.P.Port.view c.turns.port).mine mine' c.turns.invariant.kept c.in-Ok-give.ensures.kept;
    }

pub returns-in-Came-clause-over : goal.returns-in-Came-clause-over
returns-in-Came-clause-over g c =
    let whole : Run = started c.args.script c.args.start in
    let files = g.T.Tree.files c.args.tree.now in
    let mine' = (g.P.Port.view c.give.new.port).mine in
    let after = subst (λ (t : Turn). After files whole c.args.fuel mine' c.give.new.execution t) c.in-Came.is
    (after_turn files (g.T.Tree.files c.turns.tree) whole c.args.fuel _ _ (g.P.Port.view c.turns.port).mine mine' c.turns.execution c.give.new.execution c.turns.next c.in-Ok-give.turn c.turns.invariant.asked.files c.turns.invariant.at c.in-Ok-give.ensures.turned) in
    (c.give.new.execution.budget.left, after.stands)

pub returns-in-Came-clause-unfailed : goal.returns-in-Came-clause-unfailed
returns-in-Came-clause-unfailed g c = subst (λ (t : Turn). Counts (g.T.Tree.faults c.turns.tree) (g.T.Tree.faults c.give.new.tree) t) c.in-Came.is c.in-Ok-give.ensures.turned.counts ∙ c.turns.invariant.unfailed

pub returns-in-Out-clause-over : goal.returns-in-Out-clause-over
returns-in-Out-clause-over g c =
    let whole : Run = started c.args.script c.args.start in
    let files = g.T.Tree.files c.args.tree.now in
    let mine' = (g.P.Port.view c.give.new.port).mine in
    let after = subst (λ (t : Turn). After files whole c.args.fuel mine' c.give.new.execution t) c.in-Out.is
    (after_turn files (g.T.Tree.files c.turns.tree) whole c.args.fuel _ _ (g.P.Port.view c.turns.port).mine mine' c.turns.execution c.give.new.execution c.turns.next c.in-Ok-give.turn c.turns.invariant.asked.files c.turns.invariant.at c.in-Ok-give.ensures.turned) in
    (c.give.new.execution.budget.left, after)

pub returns-in-Out-clause-unfailed : goal.returns-in-Out-clause-unfailed
returns-in-Out-clause-unfailed g c = subst (λ (t : Turn). Counts (g.T.Tree.faults c.turns.tree) (g.T.Tree.faults c.give.new.tree) t) c.in-Out.is c.in-Ok-give.ensures.turned.counts ∙ c.turns.invariant.unfailed

pub returns-in-Unread-clause-over : goal.returns-in-Unread-clause-over
returns-in-Unread-clause-over g c =
    let whole : Run = started c.args.script c.args.start in
    let files = g.T.Tree.files c.args.tree.now in
    let mine' = (g.P.Port.view c.give.new.port).mine in
    let after = subst (λ (t : Turn). After files whole c.args.fuel mine' c.give.new.execution t) c.in-Unread.is
    (after_turn files (g.T.Tree.files c.turns.tree) whole c.args.fuel _ _ (g.P.Port.view c.turns.port).mine mine' c.turns.execution c.give.new.execution c.turns.next c.in-Ok-give.turn c.turns.invariant.asked.files c.turns.invariant.at c.in-Ok-give.ensures.turned) in
    let rose = subst (λ (t : Turn). Counts (g.T.Tree.faults c.turns.tree) (g.T.Tree.faults c.give.new.tree) t) c.in-Unread.is c.in-Ok-give.ensures.turned.counts in
    (after, subst (λ (n : ℕ). Rose n (g.T.Tree.faults c.give.new.tree)) c.turns.invariant.unfailed rose)

-- where not even the first want was made

pub returns-in-Err-clause-stays : goal.returns-in-Err-clause-stays
returns-in-Err-clause-stays g c = stays_refl _

pub returns-in-Err-clause-asked : goal.returns-in-Err-clause-asked
returns-in-Err-clause-asked g c = asked_refl _ _

pub returns-in-Err-clause-part : goal.returns-in-Err-clause-part
returns-in-Err-clause-part g c =
    stands_first (g.T.Tree.files c.args.tree.now) (started c.args.script c.args.start) c.args.fuel (g.P.Port.view c.args.port.now).mine c.requires.begun.first

pub returns-in-Err-wanted-clause-stays : goal.returns-in-Err-wanted-clause-stays
returns-in-Err-wanted-clause-stays g c = stays_refl _

pub returns-in-Err-wanted-clause-asked : goal.returns-in-Err-wanted-clause-asked
returns-in-Err-wanted-clause-asked g c = asked_refl _ _

pub returns-in-Err-wanted-clause-part : goal.returns-in-Err-wanted-clause-part
returns-in-Err-wanted-clause-part g c =
    stands_first (g.T.Tree.files c.args.tree.now) (started c.args.script c.args.start) c.args.fuel (g.P.Port.view c.args.port.now).mine c.requires.begun.first
