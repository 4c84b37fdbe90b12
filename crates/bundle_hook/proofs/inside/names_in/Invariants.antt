use Rattle.std.proofs.Common.{◌≡◌, ◌∷◌, [], ◌++◌, ℕ, List, take}
use Rattle.std.specs.List.{list_any}
use Rattle.tree_files.specs.Edits.{is_within}
use Rattle.tree_overlay.specs.Gathered.{holds}
use Rattle.bundle_hook.specs.declared.bundle.Item.{Item}
use Rattle.bundle_hook.proofs.inside.names_in.Given as goal

abbrev pub invariant-loop-item : goal.invariant-loop-item
invariant-loop-item l = (other : List ℕ) → holds l.names other ≡ list_any (λ (item : Item). is_within (l.folder ++ other ∷ []) item.path) (take l.item-index l.items)
