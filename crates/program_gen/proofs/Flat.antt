-- A root that holds files alone.
use Rattle.std.proofs.Common.{◌≡◌, ◌∙◌, ap, refl, ℕ, List, [], ◌∷◌, Bool, true, false, cond, Option, Some}
use Rattle.std.specs.FinMap.{empty, get-insert, get-empty}
use Rattle.std.specs.Ordering.{eq_by_cmp}
use Rattle.base_types.specs.Path.{path_cmp}
use Rattle.tree_files.specs.Files.{Files, node_at, is_dir}
use Rattle.tree_files.specs.Edits.{placed, prefixes, with_dirs}
use Rattle.tree_files.specs.MemFiles.{root_alone}
use Rattle.tree_files.specs.declared.tree.Node.{Node}
use Rattle.tree_files.specs.declared.tree.Node.TheVariants.{Dir, File}
use Rattle.tree_files.proofs.EditLemmas.{same_after_dirs}
use Rattle.tree_files.proofs.MemFilesLemmas.{path_total}
use Rattle.program_gen.specs.Generator.{IsFlat}

kept : (b : Bool) (text : List ℕ) (o : Option Node) → is_dir o ≡ false → is_dir (cond b (Some (File text)) o) ≡ false
kept true text o h = refl
kept false text o h = h

pub flat_root : IsFlat root_alone
flat_root name = ap is_dir (get-insert path_total empty [] (Dir 0) (name ∷ []) ∙ get-empty path_cmp (name ∷ []))

pub flat_placed : (files : Files) (file text : List ℕ) → IsFlat files → IsFlat (placed files (file ∷ []) (File text))
flat_placed files file text flat name =
    ap is_dir (get-insert path_total (with_dirs files (prefixes (file ∷ []))) (file ∷ []) (File text) (name ∷ []))
    ∙ kept (eq_by_cmp path_cmp (name ∷ []) (file ∷ [])) text (node_at (with_dirs files (prefixes (file ∷ []))) (name ∷ []))
    (ap is_dir (same_after_dirs files (name ∷ [])) ∙ flat name)
