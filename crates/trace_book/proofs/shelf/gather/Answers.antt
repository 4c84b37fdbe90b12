-- The pass that took another in is a pass between calls again.
use Rattle.std.proofs.Common.{◌≡◌, ◌⊎◌, List, ◌∷◌, [], ◌++◌, refl, ap, sym, ◌∙◌, subst}
use mathlib.Core.List.{IsPrefix}
use Rattle.machine_events.specs.declared.event.Entry.{Entry}
use Rattle.trace_book.specs.declared.view.View.{View}
use Rattle.trace_book.specs.declared.view.Phase.TheVariants.{Idle}
use Rattle.trace_book.specs.Views.{view, longer}
use Rattle.trace_book.specs.Told.{Told, view_in}
use Rattle.trace_book.specs.Plays.{Seated}
use Rattle.trace_book.specs.Seats.{Rests}
use Rattle.trace_book.proofs.Passes.{has_first}
use Rattle.trace_book.proofs.shelf.gather.Goals as goal

pub into_seat-seat-requires : goal.into_seat-seat-requires
into_seat-seat-requires g c = (c.into.invariant.0, (λ i. (c.replace-mine.ensures.value i).views) ∙ c.into.invariant.1)

pub invariant_of-into : goal.invariant_of-into
invariant_of-into g c =
    let a = c.into_seat-seat.result.me.0 in
    let b = c.into_seat.result.me.0 in
    let t = c.into.inside.number in
    let v = c.into.invariant.0 in
    let views : v ∷ [] ≡ a ∷ [] = sym c.into.invariant.1 ∙ ((λ i. (sym c.replace-mine.ensures.value i).views) ∙ c.into_seat-seat.ensures.2) in
    let same : v ≡ a = cc (views) in
    let rests : Rests a t = subst (λ (x : View). Rests x t) same c.into.invariant.2 in (
      view a.base (a.numbers ++ b.numbers) (longer a.seen b.seen) Idle,
      c.into_badge.ensures.2 ∙ ap (λ (x : Seated g.row.O.Denot). x.0 ∷ []) c.merge.ensures.seat,
      record { idle = refl; number = has_first t a.numbers b.numbers rests.number; within = rests.within; round = c.merge.ensures.round rests.round },
    )

pub returns-clause-begins : goal.returns-clause-begins
returns-clause-begins g c =
    let a = c.into_seat-seat.result.me.0 in
    let b = c.into_seat.result.me.0 in
    let mine : c.into.inside.badge.views ≡ a ∷ [] = (λ i. (sym c.replace-mine.ensures.value i).views) ∙ c.into_seat-seat.ensures.2 in
    let seen = ap (λ (p : Told). p.seen) (sym c.into.view_is) ∙ ap (λ (vs : List View). (view_in vs).seen) mine in
    let other = ap (λ (p : Told). p.seen) (sym c.other.view_is) ∙ ap (λ (vs : List View). (view_in vs).seen) c.into_seat.ensures.2 in
    subst (λ (p : List Entry × List Entry). IsPrefix p.0 p.1 ⊎ IsPrefix p.1 p.0) (λ i. (sym seen i, sym other i)) c.merge.ensures.begins
