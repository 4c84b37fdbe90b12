use Rattle.std.proofs.Common.{refl, List, subst}
use Rattle.bundle_hook.specs.declared.bundle.Packed.{Packed}
use Rattle.bundle_hook.specs.Bundle.{IsBundle}
use Rattle.program_commands.proofs.make.made_of.Goals as goal

pub returns-in-Ok-clause-made : goal.returns-in-Ok-clause-made
returns-in-Ok-clause-made c = (c.args.files.now, refl, subst (λ (files : List Packed). IsBundle files c.in-Ok.bytes.items) c.as_slice.ensures c.in-Ok.ensures.ok)
