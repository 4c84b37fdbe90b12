use Rattle.std.proofs.Common.{◌≡◌, ◌∙◌, ◌-◌, sym, ap, take, get_or, false}
use Rattle.bundle_hook.specs.Expand.{is_bundle_name, names_bundle}
use Rattle.bundle_hook.proofs.Leading.{named_by_part, no_name_told}
use Rattle.bundle_hook.proofs.place.bundle_named.Goals as goal

pub bundle_at-requires-clause-named : goal.bundle_at-requires-clause-named
bundle_at-requires-clause-named g c =
    let part = c.index-as_slice-parts.result in
    named_by_part c.args.path.now c.args.parts part c.requires.some c.requires.within
    ∙ ap is_bundle_name (sym (c.index-as_slice-parts.is ∙ ap (λ l. get_or l (c.args.parts - 1) part) (c.as_slice.ensures ∙ c.parts.ensures)))
    ∙ sym c.is_bundle_name.ensures ∙ c.if-is_bundle_name.true

pub returns-else-is_bundle_name-clause-told : goal.returns-else-is_bundle_name-clause-told
returns-else-is_bundle_name-clause-told g c =
    let part = c.index-as_slice-parts.result in
    let named : names_bundle (take c.args.parts c.args.path.now) ≡ false =
    named_by_part c.args.path.now c.args.parts part c.requires.some c.requires.within
    ∙ ap is_bundle_name (sym (c.index-as_slice-parts.is ∙ ap (λ l. get_or l (c.args.parts - 1) part) (c.as_slice.ensures ∙ c.parts.ensures)))
    ∙ sym c.is_bundle_name.ensures ∙ c.if-is_bundle_name.false in
    no_name_told (g.T.Tree.files c.args.tree.now) c.args.path.now c.args.parts named
