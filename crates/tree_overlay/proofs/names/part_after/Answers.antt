use Rattle.std.proofs.Common.{◌≡◌, true, false}
use Rattle.tree_files.specs.Edits.{is_within}
use Rattle.tree_overlay.proofs.Within.{part_there, no_part}
use Rattle.tree_overlay.proofs.names.part_after.Goals as goal

pub returns-then-is_within : goal.returns-then-is_within
returns-then-is_within c =
    let within : is_within c.args.dir.now c.args.path.now ≡ true = cc in
    let there = part_there c.args.dir.now c.args.path.now within in
    cc

pub returns-else-is_within : goal.returns-else-is_within
returns-else-is_within c =
    let apart : is_within c.args.dir.now c.args.path.now ≡ false = cc in
    let none = no_part c.args.dir.now c.args.path.now apart in
    cc
