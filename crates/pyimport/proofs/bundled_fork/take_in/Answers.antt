use Rattle.std.proofs.Common.{◌∙◌, ap}
use Rattle.tree_files.specs.Count.{raised}
use Rattle.pyimport.proofs.Counted.{taken_in}
use Rattle.pyimport.proofs.bundled_fork.take_in.Goals as goal

pub returns-clause-faults : goal.returns-clause-faults
returns-clause-faults g c = c.absorb.ensures.faults ∙ ap (λ n. raised (g.T.Tree.faults c.args.tree.now) n) c.close.ensures.faults

pub returns-clause-lists : goal.returns-clause-lists
returns-clause-lists g c = taken_in _ _ _ _ c.absorb.ensures.lists c.close.ensures.lists
