use Rattle.std.proofs.Common.{sym, subst}
use Rattle.bundle_hook.specs.Things.{AscendItems}
use Rattle.bundle_hook.proofs.found.inner_at.Goals as goal

pub thing_at-requires : goal.thing_at-requires
thing_at-requires c = subst AscendItems (sym c.as_slice.ensures) c.in-Some.ensures.ascend
