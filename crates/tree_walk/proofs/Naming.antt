-- From what stands at a path to what a word names.
use Rattle.std.proofs.Common.{◌≡◌, ℕ, List, Option, Some, None, Result, Ok, Err, IfOk, IfSome, sym, subst}
use Rattle.base_types.specs.Path.{Path, Spells}
use Rattle.tree_files.specs.Files.{Files, node_at}
use Rattle.tree_files.specs.declared.tree.TreeFault.{TreeFault}
use Rattle.tree_walk.specs.Reading.{IsFile, read_of}
use Rattle.tree_walk.specs.declared.open.Read.{Read}
use Rattle.tree_walk.specs.declared.open.Read.TheVariants as read

-- the word spells the path
pub file_at : (tree : Option Files) (most : ℕ) (word : List ℕ) (path : Path) (r : Result Read TreeFault) → Spells word path → IfSome tree (λ f. IfOk r (λ it. it ≡ read_of most (node_at f path)))
    → IfSome tree (λ f. IfOk r (IsFile f most word))
file_at None most word path r s h = tt
file_at (Some f) most word path (Ok it) s h = subst (λ (x : Read). IsFile f most word x) (sym h) (IsFile.at_path path s)
file_at (Some f) most word path (Err e) s h = tt

-- the word spells none
pub file_not : (tree : Option Files) (most : ℕ) (word : List ℕ) → ((path : Path) → Spells word path → ⊥) → IfSome tree (λ f. IsFile f most word read.Missing)
file_not None most word never = tt
file_not (Some f) most word never = IsFile.no_path never
