use Rattle.std.proofs.Common.{◌≡◌, ◌∙◌, List, ℕ, length, sym, ap, subst}
use Rattle.words_rounds.specs.declared.rounds.Round.{Round}
use Rattle.program_rounds.specs.Rounds.{CanRun, opening_in, scripts_of}
use Rattle.program_check.proofs.entries.machine_of.Goals as goal

pub ground_for-requires-clause-can_run : goal.ground_for-requires-clause-can_run
ground_for-requires-clause-can_run c = subst CanRun (sym c.as_slice.ensures) c.requires.fit.can_run

pub ground_for-requires-clause-texts : goal.ground_for-requires-clause-texts
ground_for-requires-clause-texts c = ap length c.in_ok-texts.ensures ∙ (c.requires.fit.many ∙ ap (λ (r : List Round). length (scripts_of r)) (sym c.as_slice.ensures))

pub returns : goal.returns
returns c =
    let made = c.in_ok-opening.ensures in
    made.machine ∙ (made.opening ∙ (ap (λ (r : List Round). opening_in c.args.run.now r c.in_ok-texts.texts) c.as_slice.ensures ∙ ap (λ (t : List (List ℕ)). opening_in c.args.run.now c.args.it.now.rounds t) c.in_ok-texts.ensures))
