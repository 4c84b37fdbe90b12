use Rattle.std.proofs.Common.{◌≡◌, ◌+◌, ◌-◌, ◌<◌, ◌^◌, min, length, refl, arith}
use Rattle.bundle_hook.proofs.Slices.{stored_told}
use Rattle.bundle_hook.proofs.found.read_stored.Goals as goal

pub returns-clause-told : goal.returns-clause-told
returns-clause-told g c =
    let low : c.args.at < c.args.item.now.size = omega arith in
    let place : c.saturating_add.result ≡ min (c.args.item.now.at + c.args.at) (2 ^ 64 - 1) = omega arith in
    let room : c.min-room.result ≡ min (c.args.item.now.size - c.args.at) (length c.args.into.now) = omega arith in
    stored_told (g.T.Tree.files c.args.tree.now) c.args.bundle.now c.args.item.now.at c.args.item.now.size c.args.at c.saturating_add.result c.min-room.result c.args.into.now _ c.read.new.into _ c.in_ok-count.count low place room refl refl
    c.in_ok-count.ensures.count c.in_ok-count.ensures.told
