use Rattle.std.proofs.Common.{rules, ◌≡◌, ◌∙◌, ap}
use Rattle.std.specs.Arc.{arc_value}
use Rattle.std.specs.FinMap.{insert}
use Rattle.tree_files.specs.MemFiles.{map_files}
use Rattle.tree_files.proofs.EditLemmas.{map_files-insert}
use Rattle.tree_files.proofs.nodes.Nodes.put.Goals as goal

pub returns-in-Some-clause-ok : goal.returns-in-Some-clause-ok
returns-in-Some-clause-ok c =
    rw c.in-Some.ensures.value at (map_files-insert c.in-Some.map.now c.insert.new.self _ _ c.in_ok-insert.ensures.updates)

pub returns-clause-ok : goal.returns-clause-ok
returns-clause-ok c =
    let held : arc_value c.in_ok-self.field-0 ≡ c.insert-2.new.self = search rules in
    ap map_files held ∙ map_files-insert c.in_ok-map.map c.insert-2.new.self _ _ c.in_ok-insert-2.ensures.updates
    ∙ ap (λ f. insert f c.args.path c.args.node) c.in_ok-map.ensures
