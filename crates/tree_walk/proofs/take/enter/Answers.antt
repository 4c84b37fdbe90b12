use Rattle.std.proofs.Common.{rules, ◌≤◌, ◌<◌, ◌-◌, length, ap, arith}
use Rattle.tree_walk.proofs.Walking.{deep_stops, entered}
use Rattle.tree_walk.proofs.take.enter.Goals as goal

pub returns-then-saturating_sub-gt-MOST_PARTS-clause-takes : goal.returns-then-saturating_sub-gt-MOST_PARTS-clause-takes
returns-then-saturating_sub-gt-MOST_PARTS-clause-takes g c =
    let long = ap length c.parts.ensures in
    let deep : 64 < length c.args.dir - c.args.walk.now.parts = omega (arith, long) in
    deep_stops (g.T.Tree.files c.args.tree.now) c.args.dir c.args.walk.now c.args.walk.now c.requires.dir c.requires.tree (search rules) deep

pub returns-clause-takes : goal.returns-clause-takes
returns-clause-takes g c =
    let long = ap length c.parts.ensures in
    let low : length c.args.dir - c.args.walk.now.parts ≤ 64 = omega (arith, long) in
    entered (g.T.Tree.files c.args.tree.now) c.args.dir c.args.walk.now c.in_ok-names.names c.push.new.self c.requires.dir c.requires.tree low c.in_ok-names.ensures.told c.in_ok-push.ensures.ok
