use Rattle.std.proofs.Common.{◌≡◌, ◌≤◌, ◌+◌, length, drop, false}
use Rattle.std.specs.Prelude.{IfSome, slice_get}
use Rattle.std.specs.Ordering.{is_lt}
use Rattle.base_types.specs.Path.{path_cmp}
use Rattle.bundle_hook.specs.Things.{thing_among}
use Rattle.bundle_hook.proofs.inside.count_before.Given as goal

abbrev pub invariant-loop-left : goal.invariant-loop-left
invariant-loop-left l = record {
  within : l.count + l.left ≤ length l.items;
  before : thing_among (drop l.count l.items) l.path ≡ thing_among l.items l.path;
  reached : IfSome (slice_get l.items (l.count + l.left)) (λ item. is_lt (path_cmp item.path l.path) ≡ false);
}

abbrev pub decreases-loop-left : goal.decreases-loop-left
decreases-loop-left l = l.left
