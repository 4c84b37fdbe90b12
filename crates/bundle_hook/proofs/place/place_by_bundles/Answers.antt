use Rattle.std.proofs.Common.{sym, subst, IfSome}
use Rattle.bundle_hook.specs.Places.{Leads}
use Rattle.bundle_hook.specs.declared.place.Place.TheVariants.{Outside}
use Rattle.bundle_hook.proofs.Leading.{none_leads}
use Rattle.bundle_hook.proofs.place.place_by_bundles.Goals as goal

pub returns-in_ok-stamp-in-None-clause-told : goal.returns-in_ok-stamp-in-None-clause-told
returns-in_ok-stamp-in-None-clause-told g c =
    subst (λ told. IfSome told (λ f. Leads f c.bundle_on.new.kept c.args.path.now (Outside c.in_ok-stamp-in-None.stamp))) c.in_ok-found.ensures.files_stay
    (none_leads (g.T.Tree.files c.bundle_on.new.tree) (g.T.Tree.files c.args.tree.now) c.bundle_on.new.kept c.args.path.now c.in_ok-stamp-in-None.stamp c.in_ok-found.field-0
    (sym c.in_ok-found.ensures.files_stay) c.in-None.is c.in_ok-found.ensures.told c.in_ok-stamp-in-None.ensures.told)
