use Rattle.std.proofs.Common.{◌≡◌, ◌∙◌, sym, refl, subst, length, IfSome, false}
use Rattle.std.specs.Ordering.{is_lt}
use Rattle.std.proofs.lemmas.Option.{slice_get_read}
use Rattle.base_types.specs.Path.{path_cmp}
use Rattle.bundle_hook.proofs.Ascending.{found_at}
use Rattle.bundle_hook.proofs.inside.thing_among.Goals as goal

pub returns-in-Some : goal.returns-in-Some
returns-in-Some c =
    let items = c.args.items.now in
    let item = c.in-Some.item.now in
    let there = slice_get_read items (length items) c.count_before.result item refl c.in-Some.ensures.lookup.3.0 c.in-Some.ensures.lookup.1 in
    c.thing_by.ensures
    ∙ sym (found_at items c.count_before.result item c.args.path.now c.requires there (subst (λ o. IfSome o (λ it. is_lt (path_cmp it.path c.args.path.now) ≡ false)) there c.count_before.ensures.reached))
    ∙ c.count_before.ensures.before
