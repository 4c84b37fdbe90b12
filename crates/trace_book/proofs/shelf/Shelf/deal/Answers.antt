-- The i-th pass goes to the number from + i.
use Rattle.std.proofs.Common.{◌≡◌, ◌∷◌, [], suc, ◌+◌, ◌-◌, ◌<◌, rules, refl, sym, ap, ◌∙◌, arith}
use Rattle.trace_book.specs.declared.view.Phase.TheVariants.{Idle}
use Rattle.trace_book.specs.Views.{Within, view, numbers_from, kept_of}
use Rattle.trace_book.specs.Told.{new_passes}
use Rattle.trace_book.specs.Plays.{Seated}
use Rattle.trace_book.proofs.Moves.{first_number, next_numbers, named_again, rests_new, pass_told, passes_more}
use Rattle.trace_book.proofs.shelf.Shelf.deal.Goals as goal

pub split-other-requires-clause-seat : goal.split-other-requires-clause-seat
split-other-requires-clause-seat g c =
    let k = c.args.from in
    let i = c.loop-i.i in
    let n = c.args.n in
    let o = c.args.seat.me.0.base in
    let below : i < n = let test = c.loop-i-test.true in omega (arith, test) in
    let is = c.loop-i.invariant.1 ∙ ap (λ ns. (view o ns o.first Idle, [])) (first_number k i n below) in
    (n - suc i, named_again _ o _ o.first is)

pub invariant_of-add : goal.invariant_of-add
invariant_of-add g c =
    let k = c.args.from in
    let i = c.loop-i.i in
    let n = c.args.n in
    let o = c.args.seat.me.0.base in
    let below : i < n = let test = c.loop-i-test.true in omega (arith, test) in
    let first = c.requires.round.0 in
    let size = c.requires.round.1 in
    let within : Within o (k + i) = (omega (arith, first), omega (arith, first, size, below)) in
    let is = c.split-other.ensures.new ∙ ap (λ (x : Seated g.row.O.Denot). (view x.0.base ((k + i) ∷ []) x.0.seen Idle, [])) c.loop-i.invariant.1 in
    rests_new o (k + i) (k + i) _ c.split-other.result.me refl c.into_badge.ensures.2 is within

pub loop-i-preserved : goal.loop-i-preserved
loop-i-preserved g c =
    let k = c.args.from in
    let i = c.loop-i.i in
    let n = c.args.n in
    let o = c.args.seat.me.0.base in
    let z = c.args.self.now.table.shared.table_id in
    let below : i < n = let test = c.loop-i-test.true in omega (arith, test) in
    let next : i + 1 ≡ suc i = omega arith in
    let old = c.loop-i.invariant.1 in
    let is = old ∙ ap (λ ns. (view o ns o.first Idle, [])) (first_number k i n below) in
    let new = c.split-other.ensures.new ∙ ap (λ (x : Seated g.row.O.Denot). (view x.0.base ((k + i) ∷ []) x.0.seen Idle, [])) old in
    let table = c.into_badge.ensures.0 ∙ (c.split-other.ensures.table.1 ∙ c.loop-i.invariant.0) in
    let pass = pass_told z _ (k + i) (k + i) _ c.split-other.result.me o table refl c.into_badge.ensures.2 new in (
      search rules,
      c.split-other.ensures.seat ∙ (ap (λ (x : Seated g.row.O.Denot). (kept_of x.0, [])) is ∙ ap (λ ns. (view o ns o.first Idle, [])) (next_numbers k i (i + 1) n next)),
      passes_more z o k i _ _ _ c.loop-i.invariant.2 c.add.ensures.items pass ∙ ap (new_passes z o k) (sym next),
      search rules,
      search rules,
    )

pub invariant_of-add-2 : goal.invariant_of-add-2
invariant_of-add-2 g c =
    let k = c.args.from in
    let i = c.loop-i.i in
    let n = c.args.n in
    let o = c.args.seat.me.0.base in
    let some = c.requires.some in
    let first = c.requires.round.0 in
    let size = c.requires.round.1 in
    let bound = c.loop-i.auto.i-end in
    let over = c.loop-i-test.false in
    let one : n - i ≡ 1 = omega (arith, some, bound, over) in
    let number : k + (n - 1) ≡ k + i = omega (arith, some, bound, over) in
    let within : Within o (k + i) = (omega (arith, first), omega (arith, first, size, some, bound)) in
    let is = c.loop-i.invariant.1 ∙ ap (λ m. (view o (numbers_from (k + i) m) o.first Idle, [])) one in
    rests_new o (k + i) (k + (n - 1)) _ c.loop-i.seat.me number c.into_badge-2.ensures.2 is within

pub returns : goal.returns
returns g c =
    let k = c.args.from in
    let i = c.loop-i.i in
    let n = c.args.n in
    let o = c.args.seat.me.0.base in
    let z = c.args.self.now.table.shared.table_id in
    let some = c.requires.some in
    let bound = c.loop-i.auto.i-end in
    let over = c.loop-i-test.false in
    let one : n - i ≡ 1 = omega (arith, some, bound, over) in
    let all : suc i ≡ n = omega (arith, some, bound, over) in
    let number : k + (n - 1) ≡ k + i = omega (arith, some, bound, over) in
    let is = c.loop-i.invariant.1 ∙ ap (λ m. (view o (numbers_from (k + i) m) o.first Idle, [])) one in
    let table = c.into_badge-2.ensures.0 ∙ c.loop-i.invariant.0 in
    let pass = pass_told z _ (k + i) (k + (n - 1)) _ c.loop-i.seat.me o table number c.into_badge-2.ensures.2 is in
    passes_more z o k i _ _ _ c.loop-i.invariant.2 c.add-2.ensures.items pass ∙ ap (new_passes z o k) all
