use Rattle.std.proofs.Common.{◌≡◌, ◌∙◌, ◌-◌, ℕ, List, ap, take, drop, length, length-drop, arith}
use Rattle.std.proofs.lemmas.List.{take_all}
use Rattle.base_types.specs.Path.{Path}
use Rattle.tree_walk.proofs.Spelling.{part_is, path_behind}
use Rattle.tree_walk.proofs.names.behind.Goals as goal

pub child-requires : goal.child-requires
child-requires c =
    let n = c.min-first.result in
    let xs : Path = c.as_slice.result.now in
    let fits = length-drop c.min-first.result c.as_slice.result.now in
    let rest : take (length xs - n) (drop n xs) ≡ drop n c.args.path.now = take_all (length xs - n) (drop n xs) (omega (arith, fits)) ∙ ap (drop n) (c.as_slice.ensures ∙ c.parts-3.ensures) in
    part_is (drop n c.args.path.now) (take (length xs - n) (drop n xs)) c.loop-part.part-index c.part-item.result (path_behind n c.args.path.now c.in_ok-look_at.ensures) rest c.loop-part-test.true c.part-item.is
