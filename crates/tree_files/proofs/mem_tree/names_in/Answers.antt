use Rattle.std.proofs.Common.{◌≡◌, ◌∙◌, rules, ap, sym, subst, [], ◌++◌, ◌∷◌, is_some}
use Rattle.std.specs.List.{filter_map}
use Rattle.std.specs.BTreeMap.{keys}
use Rattle.std.specs.FinMap.{get-from_entries}
use Rattle.tree_files.specs.Files.{IsListing, name_below}
use Rattle.std.specs.Arc.{arc_value}
use Rattle.tree_files.specs.MemFiles.{mem_files}
use Rattle.tree_files.proofs.NamesBelow.{has_name-find, names_sorted}
use Rattle.tree_files.proofs.MemFilesLemmas.{path_total}
use Rattle.tree_files.proofs.mem_tree.names_in.Goals as goal

pub returns : goal.returns
returns c =
    let nodes = arc_value c.args.nodes.now.held in
    let dir = c.args.dir.now in
    let made : c.loop-path.names ≡ filter_map (name_below dir) (keys nodes) = search rules in
    subst (IsListing (mem_files c.args.nodes.now) dir) (sym made) (record {
      ordered = names_sorted dir (keys nodes) (rw c.map.ensures at c.keys-path-items.ensures.ordered);
      exact = λ name. has_name-find dir name nodes.entries ∙ ap is_some (sym (get-from_entries path_total nodes.entries (dir ++ name ∷ [])));
    })
