use Rattle.std.proofs.Common.{◌≡◌, subst, length, take, min, arith, IfSome}
use Rattle.tree_files.specs.Files.{node_at, bytes_of}
use Rattle.bundle_hook.specs.Spelling.{most_front}
use Rattle.bundle_hook.proofs.TreeFronts.{whole}
use Rattle.bundle_hook.proofs.front.read_front.Goals as goal

pub returns-clause-told : goal.returns-clause-told
returns-clause-told g c =
    let all : c.loop-done.done ≡ c.min-len.result = omega arith in
    let long : length c.loop-done.front.items ≡ c.min-len.result = omega (arith, c.loop-done.front.ok, c.loop-done.invariant.room) in
    let looked : c.min-len.result ≡ min c.args.size most_front = omega arith in
    whole (g.T.Tree.files c.args.tree.now) c.args.file.now c.loop-done.front.items c.min-len.result c.args.size long looked
    (subst (λ k. IfSome (g.T.Tree.files c.args.tree.now) (λ f. take k c.loop-done.front.items ≡ take k (bytes_of (node_at f c.args.file.now)))) all c.loop-done.invariant.so_far)
