use Rattle.std.proofs.Common.{ℕ, List, sym, subst}
use Rattle.trace_book.specs.declared.view.View.{View}
use Rattle.trace_book.specs.Told.{Told, view_in}
use Rattle.trace_book.specs.Views.{Has, Within}
use Rattle.trace_book.proofs.shelf.Shelf.close.Goals as goal

pub close_with-requires-clause-all : goal.close_with-requires-clause-all
close_with-requires-clause-all g c =
    let all = subst (λ (p : Told). (i : ℕ) → Within p.base i → Has i p.numbers) (sym c.pass.view_is) c.requires.all in
    subst (λ (vs : List View). (i : ℕ) → Within (view_in vs).base i → Has i (view_in vs).numbers) c.into_seat.ensures.2 all
