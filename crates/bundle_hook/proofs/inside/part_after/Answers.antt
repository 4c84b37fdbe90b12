use Rattle.std.proofs.Common.{◌≡◌, true, false}
use Rattle.tree_files.specs.Edits.{is_within}
use Rattle.tree_overlay.proofs.Within.{within_taken, part_there, no_part}
use Rattle.bundle_hook.proofs.inside.part_after.Goals as goal

pub returns-then-starts_with : goal.returns-then-starts_with
returns-then-starts_with c =
    let taken = within_taken c.args.folder.now c.args.path.now in
    let within : is_within c.args.folder.now c.args.path.now ≡ true = cc in
    let there = part_there c.args.folder.now c.args.path.now within in
    cc

pub returns-else-starts_with : goal.returns-else-starts_with
returns-else-starts_with c =
    let taken = within_taken c.args.folder.now c.args.path.now in
    let apart : is_within c.args.folder.now c.args.path.now ≡ false = cc in
    let none = no_part c.args.folder.now c.args.path.now apart in
    cc
