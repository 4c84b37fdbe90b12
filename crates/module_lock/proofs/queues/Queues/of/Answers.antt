use Rattle.std.proofs.Common.{◌≡◌, ℕ, List, [], Option, Some, None, sym, ap, ◌∙◌}
use Rattle.std.specs.Option.{option_copied, unwrap_or}
use Rattle.std.specs.Cmp.Lexicographic.{nat_list_cmp_total}
use Rattle.std.specs.FinMap as map
use Rattle.spec_core.proofs.Entries.{look}
use Rattle.module_lock.proofs.queues.Queues.of.Goals as goal

pub returns-in-None : goal.returns-in-None
returns-in-None c =
    let none : map.get c.args.self.now c.args.name.now ≡ None = ap (λ m. map.get m c.args.name.now) (sym c.self.view_is) ∙ look nat_list_cmp_total c.self.inside.map.entries c.args.name.now ∙ sym c.get.ensures.value ∙ ap option_copied c.in-None.is in
    sym (ap (λ (o : Option (List ℕ)). unwrap_or o []) none)

pub returns-in-Some : goal.returns-in-Some
returns-in-Some c =
    let some : map.get c.args.self.now c.args.name.now ≡ Some c.in-Some.queue.now = ap (λ m. map.get m c.args.name.now) (sym c.self.view_is) ∙ look nat_list_cmp_total c.self.inside.map.entries c.args.name.now ∙ sym c.get.ensures.value ∙ ap option_copied c.in-Some.is in
    c.as_slice.ensures ∙ sym (ap (λ (o : Option (List ℕ)). unwrap_or o []) some)
