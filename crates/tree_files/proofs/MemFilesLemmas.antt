-- What a map of paths in memory and its tree have to do with each other.
use Rattle.std.proofs.Common.{◌≡◌, ◌∙◌, refl, sym, ap, List, [], ◌∷◌, ◌++◌, ℕ, Bool, true, false, cond, None, Some, IsTrue, is_some, subst}
use Rattle.std.specs.Map.{lookup}
use Rattle.std.specs.BTreeMap.{BTreeMap, get_by, is_at}
use Rattle.std.specs.FinMap.{find, get-from_entries, get-insert, get-empty, empty}
use Rattle.std.specs.Ordering.{eq_by_cmp}
use Rattle.std.specs.Cmp.{IsTotalOrder}
use Rattle.std.specs.Cmp.Lexicographic.{nat_list_cmp_total, lists_total}
use Rattle.base_types.specs.Path.{Path, path_cmp}
use Rattle.tree_files.specs.Files.{node_at, is_dir, IsTree}
use Rattle.tree_files.specs.MemFiles.{map_files, root_alone}
use Rattle.tree_files.specs.declared.tree.Node.{Node}
use Rattle.tree_files.specs.declared.tree.Node.TheVariants.{Dir}

pub path_total : IsTotalOrder path_cmp
path_total = lists_total nat_list_cmp_total

lookup-find : (p : Path) (es : List (Path × Node)) → lookup (is_at (path_cmp p)) es ≡ find path_cmp p es
lookup-find p [] = refl
lookup-find p (e ∷ es) = ap (cond (is_at (path_cmp p) e.0) (Some e.1)) (lookup-find p es)

-- what the map has at a path is what stands there
pub get_by-node_at : (m : BTreeMap Path Node) (p : Path) → get_by (path_cmp p) m ≡ node_at (map_files m) p
get_by-node_at m p = lookup-find p m.entries ∙ sym (get-from_entries path_total m.entries p)

node_at-root_alone : (q : Path) → node_at root_alone q ≡ cond (eq_by_cmp path_cmp q []) (Some (Dir 0)) None
node_at-root_alone q = get-insert path_total empty [] (Dir 0) q ∙ ap (cond (eq_by_cmp path_cmp q []) (Some (Dir 0))) (get-empty path_cmp q)

nothing_inside : (p : Path) (part : List ℕ) → IsTrue (is_some (node_at root_alone (p ++ part ∷ []))) → ⊥
nothing_inside [] part h = let no : ◌≡◌ {A = Bool} false true = subst (λ o. IsTrue (is_some o)) (node_at-root_alone (part ∷ [])) h in cc
nothing_inside (x ∷ p) part h = let no : ◌≡◌ {A = Bool} false true = subst (λ o. IsTrue (is_some o)) (node_at-root_alone (x ∷ (p ++ part ∷ []))) h in cc

pub IsTree-root_alone : IsTree root_alone
IsTree-root_alone = record {
  root = subst (λ o. IsTrue (is_dir o)) (sym (node_at-root_alone [])) refl;
  inside = λ p part h. absurd (nothing_inside p part h);
}
