use Rattle.program_commands.proofs.Made.{makes_by}
use Rattle.program_commands.proofs.make.make.Goals as goal

pub returns-clause-makes : goal.returns-clause-makes
returns-clause-makes g c = makes_by (g.T.Tree.files c.args.tree.now) c.args.word.now c.in_ok-packing.packing c.made_by.result c.in_ok-packing.ensures.told c.made_by.ensures.made
