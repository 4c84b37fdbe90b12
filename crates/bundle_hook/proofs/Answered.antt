-- Files of a tree that has answered before.
use Rattle.std.proofs.Common.{◌≡◌, refl, subst, ◌<◌, List, [], ◌∷◌, length, Option, Some, None, IfSome, arith}
use Rattle.tree_files.specs.Files.{Files, IsTree}
use Rattle.bundle_hook.specs.declared.kept.Kept.{Kept}
use Rattle.bundle_hook.specs.Indexes.{StandAsTree, HasAnswered}

-- what an answer tells of the files is kept
pub keeps_answer : (told : Option Files) (kept : List Kept) → IfSome told IsTree → HasAnswered told kept
keeps_answer None kept tree low f is = cc
keeps_answer (Some f) kept tree low g is = let same : f ≡ g = cc is in subst StandAsTree same (tree.root, tree.inside)

-- where something is kept, the files are known to be a tree
pub answer_kept : (told : Option Files) (kept : List Kept) → HasAnswered told kept → 0 < length kept → IfSome told IsTree
answer_kept None kept answered low = tt
answer_kept (Some f) kept answered low = let stands = answered low f refl in record { root = stands.0; inside = stands.1 }

pub some_kept : (kept : List Kept) → (kept ≡ [] → ⊥) → 0 < length kept
some_kept [] some = absurd (some refl)
some_kept (first ∷ kept) some = omega arith
