use Rattle.std.proofs.Common.{◌∙◌, ◌<◌, length, arith}
use Rattle.tree_walk.proofs.Spelling.{part_is}
use Rattle.tree_walk.proofs.names.child_by.Goals as goal

pub child-requires : goal.child-requires
child-requires c =
    let some : 0 < length c.as_slice.result.now = omega (arith, c.in-len1.len_at_least) in
    part_is c.args.path.now c.as_slice.result.now 0 c.part-item.result c.requires (c.as_slice.ensures ∙ c.parts.ensures) some c.part-item.is
