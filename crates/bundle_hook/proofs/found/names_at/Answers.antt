use Rattle.std.proofs.Common.{sym, subst}
use Rattle.bundle_hook.specs.Things.{AscendItems}
use Rattle.bundle_hook.proofs.found.names_at.Goals as goal

pub names_of-requires : goal.names_of-requires
names_of-requires c = subst AscendItems (sym c.as_slice.ensures) c.in-Some.ensures.ascend
