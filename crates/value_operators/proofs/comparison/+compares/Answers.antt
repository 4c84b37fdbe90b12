use Rattle.std.proofs.Common.{◌≡◌, ◌∙◌, sym, ◌<◌, map, length, length-drop, drop, arith}
use Rattle.std.proofs.lemmas.List.{length-map}
use Rattle.value_operators.specs.Comparison.{order_of, compared_items}
use Rattle.value_operators.proofs.Ends.{longer, shorter}
use Rattle.value_operators.proofs.comparison.+compares.Goals as goal

pub compared_items-returns-then-ys-i : goal.compared_items-returns-then-ys-i
compared_items-returns-then-ys-i t c =
    let xs = drop c.loop-i.i c.as_slice-xs.result.now in
    let ys = drop c.loop-i.i c.as_slice-ys.result.now in
    let more : 0 < length (map order_of xs) = simp (length-map, length-drop) (omega arith) in
    let none : length ys ≡ 0 = simp length-drop (omega arith) in
    sym (longer (map order_of xs) ys more none) ∙ sym c.loop-i.invariant.rest ∙ (λ k. compared_items (map order_of (c.as_slice-xs.ensures k)) (c.as_slice-ys.ensures k))

pub compared_items-returns-then-xs-ys : goal.compared_items-returns-then-xs-ys
compared_items-returns-then-xs-ys t c =
    let xs = drop c.loop-i.i c.as_slice-xs.result.now in
    let ys = drop c.loop-i.i c.as_slice-ys.result.now in
    let none : length (map order_of xs) ≡ 0 = simp (length-map, length-drop) (omega arith) in
    let more : 0 < length ys = simp length-drop (omega arith) in
    sym (shorter (map order_of xs) ys none more) ∙ sym c.loop-i.invariant.rest ∙ (λ k. compared_items (map order_of (c.as_slice-xs.ensures k)) (c.as_slice-ys.ensures k))
