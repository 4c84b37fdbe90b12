use Rattle.std.proofs.Common.{subst, IfSome}
use Rattle.tree_files.specs.Files.{node_at}
use Rattle.tree_walk.specs.Reading.{IsLoaded, IsWithin}
use Rattle.tree_walk.proofs.Walking.{too_long_stops, file_taken}
use Rattle.tree_walk.proofs.take.take_file.Goals as goal

pub returns-in_default-clause-takes : goal.returns-in_default-clause-takes
returns-in_default-clause-takes g c =
    too_long_stops (g.T.Tree.files c.args.tree.now) c.args.file.now c.args.walk.now c.args.walk.now c.requires.file c.requires.tree c.in_ok-path.ensures.path
    (subst (λ o. IfSome (g.T.Tree.files c.args.tree.now) (λ f. IsLoaded c.args.walk.now.room (node_at f c.args.file.now) o)) c.in_default.is c.in_ok-bytes.ensures.loaded)

pub returns-clause-takes : goal.returns-clause-takes
returns-clause-takes g c =
    let fits = subst (λ o. IsWithin c.args.walk.now.room o) c.in-Some.is c.in_ok-bytes.ensures.fits in
    file_taken (g.T.Tree.files c.args.tree.now) c.args.file.now c.args.walk.now c.in_ok-path.path c.in-Some.bytes c.push.new.self c.len.result c.len.ensures c.requires.file c.requires.tree c.in_ok-path.ensures.path c.in_ok-path.ensures.rest
    (subst (λ o. IfSome (g.T.Tree.files c.args.tree.now) (λ f. IsLoaded c.args.walk.now.room (node_at f c.args.file.now) o)) c.in-Some.is c.in_ok-bytes.ensures.loaded)
    fits c.in_ok-push.ensures.ok
