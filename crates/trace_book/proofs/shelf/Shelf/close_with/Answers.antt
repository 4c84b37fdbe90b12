use Rattle.std.proofs.Common.{◌≡◌, Some, ap, sym, ◌∙◌, subst}
use mathlib.Core.Option as m
use Rattle.trace_book.specs.Rule.{Written}
use Rattle.trace_book.proofs.Passes.{closes_with, closed_book}
use Rattle.trace_book.proofs.shelf.Shelf.close_with.Goals as goal

pub unreachable-requires : goal.unreachable-requires
unreachable-requires g c =
    let rests = c.requires.ready.0 in
    let last = closes_with _ _ _ _ c.args.seat.me.0 _ _ (ap (λ v. v.phase) rests.idle) c.requires.all c.close_with-closed.ensures.values.2 in
    let same : c.take-slot.result ≡ Some last.0 = m.some-injective _ _ (sym c.take-slot.ensures.value ∙ last.1) in
    c.in_default.not-Some _ same

pub returns : goal.returns
returns g c =
    let rests = c.requires.ready.0 in
    let v = c.args.seat.me.0 in
    let last = closes_with _ _ _ _ v _ _ (ap (λ v. v.phase) rests.idle) c.requires.all c.close_with-closed.ensures.values.2 in
    let same : c.take-slot.result ≡ Some last.0 = m.some-injective _ _ (sym c.take-slot.ensures.value ∙ last.1) in
    let book : last.0 ≡ c.in-Some.book = cc (same, c.in-Some.is) in
    subst (λ b. Written g.O.Outlet.piece g.O.Outlet.out v.base v.seen b) (book ∙ sym c.into_inner.ensures) (closed_book _ _ v last.0 last.2 last.3 rests.round c.requires.all)
