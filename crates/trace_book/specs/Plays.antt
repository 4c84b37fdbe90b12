-- What each step tells: of the seat before, the number found, and the seat after.
use Rattle.std.specs.Prelude.{◌≡◌, ◌≢◌, ◌==◌, ℕ, ◌⊎◌, List, [], ◌∷◌, true, false, Option, Some, None}
use mathlib.Core.List.{IsPrefix}
use Rattle.atomic_table.specs.Table.{Me, Step, rest}
use Rattle.machine_events.specs.declared.event.Entry.{Entry}
use Rattle.machine_shown.specs.Own.{own}
use Rattle.machine_book.specs.Bound.{BoundTo}
use Rattle.machine_desk.specs.Outgo.{Outgo, Pieces}
use Rattle.trace_book.specs.declared.view.View.{View}
use Rattle.trace_book.specs.declared.view.Phase.TheVariants.{New}
use Rattle.trace_book.specs.Views.{Has, Rounded, holding, idle_as, merged, taken_seen, taken_numbers, longer}
use Rattle.trace_book.specs.Rule.{Sees, Written}

-- a seat as its view and the slots that it has out; there is one slot, for the book
abbrev pub Seated : Type 0 → Type 0
Seated O = Me (Option (BoundTo O)) View

module _ {O : Type 0} where
  -- an empty slot has no history
  abbrev pub history_in : Option (BoundTo O) → List Entry
  history_in (Some b) = b.history
  history_in None = []

  -- the history of the book that the seat has out
  abbrev pub history_out : List (ℕ × Option (BoundTo O)) → List Entry
  history_out [] = []
  history_out (x ∷ xs) = history_in x.1

  -- the seat without the turn, which it found at 2
  abbrev pub refused : Seated O → Seated O
  refused me = (idle_as true me.0 me.0.seen, me.1)

  -- a new view has the slot out, which is empty, and will give back the history that it was opened with
  abbrev pub Fills : Step (Option (BoundTo O)) → Seated O → ℕ → Seated O → Type 0
  Fills s me found after = (h : List Entry) × (after ≡ (holding me.0 h, (0, None) ∷ [])) × (me.0.phase ≡ New h)

  -- the view will give back the history that the book has now
  abbrev pub Notes : Step (Option (BoundTo O)) → Seated O → ℕ → Seated O → Type 0
  Notes s me found after = after ≡ (holding me.0 (history_out me.1), me.1)

  -- the book goes home with the turn, and the view has seen all that the book has;
  -- where the turn is left at 2, the view knows that the shared book is stopped
  abbrev pub GivesBack : Step (Option (BoundTo O)) → Seated O → ℕ → Seated O → Type 0
  GivesBack s me found after = after ≡ (idle_as (s.first == 2) me.0 (history_out me.1), rest me.1)

  -- one view took another in: what one of them had seen begins what the other had, it keeps the longer, and no number
  -- of either gains or loses an event by that
  abbrev pub Merges : Step (Option (BoundTo O)) → Seated O → ℕ → Seated O → Type 0
  Merges s me found after =
      let other = taken_seen me.0.phase in
      let both = longer me.0.seen other in
      (after ≡ (merged me.0, me.1)) × (IsPrefix me.0.seen other ⊎ IsPrefix other me.0.seen)
      × ((i : ℕ) → Has i me.0.numbers → own i both ≡ own i me.0.seen)
      × ((i : ℕ) → Has i (taken_numbers me.0.phase) → own i both ≡ own i other)
      × (Rounded me.0.base me.0.seen → Rounded me.0.base both)

module _ {O : Type 0} (piece : Pieces) (out : O → Outgo) where
  -- the turn was had, with a book whose history begins with what was
  -- seen, and in which the seat's own events are as it knows them
  abbrev pub GotTurn : Seated O → Seated O → Type 0
  GotTurn me after =
      (b : BoundTo O) × (after ≡ (holding me.0 b.history, (0, Some b) ∷ [])) × Written piece out me.0.base b.history b
      × Sees b.history me.0.numbers me.0.seen

  -- the turn is had where it was found free, which a view that knows of a stop never finds; where it was found at 2, the
  -- view knows of the stop from then on; and else nothing changes
  abbrev pub Takes : Step (Option (BoundTo O)) → Seated O → ℕ → Seated O → Type 0
  Takes s me found after =
      (found ≡ 0 → GotTurn me after) × (found ≡ 0 → me.0.stopped ≡ false) × (found ≡ 2 → after ≡ refused me)
      × (found ≢ 0 → found ≢ 2 → after ≡ me)
