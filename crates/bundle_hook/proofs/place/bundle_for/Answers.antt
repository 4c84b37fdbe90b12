use Rattle.bundle_hook.proofs.Above.{above_leads}
use Rattle.bundle_hook.proofs.Leading.{on_leads}
use Rattle.bundle_hook.proofs.place.bundle_for.Goals as goal

pub returns-in-Some-clause-told : goal.returns-in-Some-clause-told
returns-in-Some-clause-told g c =
    above_leads (g.T.Tree.files c.args.tree.now) c.args.kept.now c.args.path.now c.in-Some.found c.requires.right c.in-Some.ensures.along c.in-Some.ensures.told

pub returns-then-not-is_empty-clause-told : goal.returns-then-not-is_empty-clause-told
returns-then-not-is_empty-clause-told g c = on_leads (g.T.Tree.files c.args.tree.now) c.bundle_on.new.kept c.args.path.now c.in_ok-found.found c.in_ok-found.ensures.told
