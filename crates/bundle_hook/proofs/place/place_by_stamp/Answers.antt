use Rattle.bundle_hook.proofs.Leading.{dir_leads, none_leads}
use Rattle.bundle_hook.proofs.place.place_by_stamp.Goals as goal

pub returns-in-Dir-clause-told : goal.returns-in-Dir-clause-told
returns-in-Dir-clause-told g c =
    dir_leads (g.T.Tree.files c.args.tree.now) c.args.kept.now c.args.path.now c.in-Dir.field-0 c.in_ok-stamp.stamp c.in_ok-stamp.ensures.is_tree c.in_ok-stamp.ensures.told c.in-Dir.is

pub returns-in-None-clause-told : goal.returns-in-None-clause-told
returns-in-None-clause-told g c =
    none_leads (g.T.Tree.files c.args.tree.now) (g.T.Tree.files c.stamp.new.self) c.bundle_on.new.kept c.args.path.now c.in_ok-stamp.stamp c.in_ok-found.field-0
    c.in_ok-stamp.ensures.files_stay c.in-None.is c.in_ok-found.ensures.told c.in_ok-stamp.ensures.told
