use Rattle.std.proofs.Common.{◌≡◌, ◌∙◌, ◌+◌, ◌-◌, refl, sym, length, arith}
use Rattle.std.specs.Prelude.{◌≢◌}
use Rattle.std.proofs.lemmas.Option.{MatchOption-at_some, MatchOption-at_none}
use Rattle.bundle_hook.specs.Bundle.{sizes, items_from}
use Rattle.bundle_hook.proofs.Indexed.{no_front, left_within, no_fit, is_index}
use Rattle.bundle_hook.proofs.index.read_index.Goals as goal

pub returns-in_default : goal.returns-in_default
returns-in_default c = no_front c.args.front.now c.args.size (sym c.in_default.is ∙ c.in_ok-entries.ensures)

pub overflow_sub-head : goal.overflow_sub-head
overflow_sub-head c =
    let within = left_within c.args.front.now c.in-Some.entries c.in-Some.left (sym c.in-Some.is ∙ c.in_ok-entries.ensures) in
    omega (arith, within)

pub returns-in-Some-2 : goal.returns-in-Some-2
returns-in-Some-2 c =
    let read = sym c.in-Some.is ∙ c.in_ok-entries.ensures in
    let fits = MatchOption-at_some (length c.args.front.now - c.in-Some.left + sizes c.in-Some.entries ≢ c.args.size)
    (λ items. (length c.args.front.now - c.in-Some.left + sizes c.in-Some.entries ≡ c.args.size) × (items ≡ items_from (length c.args.front.now - c.in-Some.left) c.in-Some.entries))
    c.in-Some-2.items c.in-Some-2.is c.in_ok-items.ensures in
    is_index c.args.front.now c.args.size c.in-Some.left (length c.args.front.now - c.in-Some.left) c.in-Some.entries c.in-Some-2.items refl read c.requires fits.0 fits.1

pub returns : goal.returns
returns c =
    let read = sym c.in-Some.is ∙ c.in_ok-entries.ensures in
    let other = MatchOption-at_none (length c.args.front.now - c.in-Some.left + sizes c.in-Some.entries ≢ c.args.size)
    (λ items. (length c.args.front.now - c.in-Some.left + sizes c.in-Some.entries ≡ c.args.size) × (items ≡ items_from (length c.args.front.now - c.in-Some.left) c.in-Some.entries))
    c.in-None.is c.in_ok-items.ensures in
    no_fit c.args.front.now c.args.size c.in-Some.left (length c.args.front.now - c.in-Some.left) c.in-Some.entries refl read other
