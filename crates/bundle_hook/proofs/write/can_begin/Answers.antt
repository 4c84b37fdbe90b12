use Rattle.std.proofs.Common.{◌∙◌, sym, false}
use Rattle.std.specs.Prelude.{IsTrue}
use Rattle.std.proofs.lemmas.Bool.{false≢true}
use Rattle.bundle_hook.proofs.Written.{same_again, not_again}
use Rattle.bundle_hook.proofs.write.can_begin.Goals as goal

pub returns-in-Some : goal.returns-in-Some
returns-in-Some c =
    let read = sym c.in-Some.is ∙ c.in_ok-again.ensures in
    let can = same_again c.args.entries.now c.in-Some.again c.in-Some._left c.args.front.now c.requires c.if-front-gt-MOST_FRONT.false read in
    (λ t. can.0 (c.is_same.ensures.0 t), λ begins. c.is_same.ensures.1 (can.1 begins))

pub returns-in-None : goal.returns-in-None
returns-in-None c =
    let read = sym c.in-None.is ∙ c.in_ok-again.ensures in
    (λ (t : IsTrue false). absurd (false≢true t), λ begins. absurd (not_again c.args.entries.now c.args.front.now c.requires read begins))
