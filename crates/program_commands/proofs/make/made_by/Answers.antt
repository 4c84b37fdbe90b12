use Rattle.std.proofs.Common.{IfOk, sym, subst}
use Rattle.tree_walk.specs.declared.pack.Packing.{Packing}
use Rattle.program_commands.specs.Making.{IsMadeOf}
use Rattle.program_commands.proofs.make.made_by.Goals as goal

pub returns-in-Files-clause-made : goal.returns-in-Files-clause-made
returns-in-Files-clause-made c = subst (λ (it : Packing). IfOk c.made_of.result (IsMadeOf it)) (sym c.in-Files.is) c.made_of.ensures.made
