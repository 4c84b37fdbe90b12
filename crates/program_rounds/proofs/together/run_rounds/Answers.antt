use Rattle.std.proofs.Common.{◌∙◌, sym}
use Rattle.program_rounds.proofs.Answering.{several_by, single_by}
use Rattle.program_rounds.proofs.Begun.{few_by, many_scripts}
use Rattle.program_rounds.proofs.together.run_rounds.Goals as goal

pub run_rounds_alone-requires-clause-single : goal.run_rounds_alone-requires-clause-single
run_rounds_alone-requires-clause-single g c κs within = single_by c.args.rounds.now (sym c.are_single.ensures ∙ c.if-are_single.true)

pub run_rounds_alone-requires-clause-few : goal.run_rounds_alone-requires-clause-few
run_rounds_alone-requires-clause-few g c κs within = few_by c.args.rounds.now (single_by c.args.rounds.now (sym c.are_single.ensures ∙ c.if-are_single.true)) c.requires.can_run

pub run_rounds_alone-requires-clause-texts : goal.run_rounds_alone-requires-clause-texts
run_rounds_alone-requires-clause-texts g c κs within = c.requires.texts ∙ many_scripts c.args.rounds.now (single_by c.args.rounds.now (sym c.are_single.ensures ∙ c.if-are_single.true))

pub run_together-requires-clause-several : goal.run_together-requires-clause-several
run_together-requires-clause-several g c κs within = several_by c.args.rounds.now (sym c.are_single.ensures ∙ c.if-are_single.false)
