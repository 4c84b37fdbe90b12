use Rattle.std.proofs.Common.{◌≡◌, ℕ, List, get_or, sym, subst}
use Rattle.source_functions.proofs.Locals.{one_more}
use Rattle.source_functions.proofs.function.set_of.Goals as goal

pub loop-name-preserved : goal.loop-name-preserved
loop-name-preserved c = λ n.
    let all = c.as_slice-name-items.result.now in
    let i = c.loop-name.name-index in
    let key : c.in_ok-copy.field-0 ≡ get_or all i c.in_ok-copy.field-0 = subst (λ (m : List ℕ). m ≡ get_or all i m) (sym c.in_ok-copy.ensures) c.name-item.is in
    one_more all c.loop-name.set.keys c.insert.new.self.keys i c.in_ok-copy.field-0 n c.loop-name-test.true key c.in_ok-insert.ensures.keys (c.loop-name.invariant n)
