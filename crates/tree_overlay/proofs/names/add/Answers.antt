use Rattle.tree_overlay.proofs.NameLemmas.{holds-added}
use Rattle.tree_overlay.proofs.names.add.Goals as goal

pub returns-in_ok-insert : goal.returns-in_ok-insert
returns-in_ok-insert c =
    holds-added c.args.names.now c.insert.new.self _ c.args.name.now c.args.wanted c.if-wanted.true c.in_ok-copy.ensures c.in_ok-insert.ensures.updates
