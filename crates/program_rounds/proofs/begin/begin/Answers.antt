use Rattle.std.proofs.Common.{◌≡◌, ◌∙◌, sym}
use Rattle.program_rounds.proofs.Begun.{can_run, many_scripts}
use Rattle.program_rounds.proofs.begin.begin.Goals as goal

pub ground_for-requires-clause-can_run : goal.ground_for-requires-clause-can_run
ground_for-requires-clause-can_run g c = can_run c.args.rounds.now c.requires.single c.requires.few

pub ground_for-requires-clause-texts : goal.ground_for-requires-clause-texts
ground_for-requires-clause-texts g c = c.requires.texts ∙ sym (many_scripts c.args.rounds.now c.requires.single)
