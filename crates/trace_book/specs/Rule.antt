-- The rule of a shared book: one history, of which each view has seen a beginning, and one turn.
use Rattle.std.specs.Prelude.{◌≡◌, ℕ, ◌⊎◌, List, [], ◌∷◌, ◌++◌, length, slice_index, true, false, Option, Some, None}
use mathlib.Core.Option as m
use mathlib.Core.List.{IsPrefix}
use lib.ListN.{get_elem?}
use Rattle.atomic_table.specs.Table.{State}
use Rattle.machine_events.specs.declared.event.Entry.{Entry}
use Rattle.machine_shown.specs.Own.{own}
use Rattle.machine_book.specs.Bound.{BoundTo}
use Rattle.machine_desk.specs.Outgo.{Outgo, Pieces, Kept}
use Rattle.trace_book.specs.declared.view.Base.{Base}
use Rattle.trace_book.specs.declared.view.View.{View}
use Rattle.trace_book.specs.declared.view.Phase.{Phase}
use Rattle.trace_book.specs.declared.view.Phase.TheVariants.{New, Idle, Holding, Joined, Spent}
use Rattle.trace_book.specs.Views.{Has, Within, Rounded, Opened, base_of, outgo_of, next_of, is_spent, taken_numbers, taken_seen}

-- of a history, a beginning was seen that has all events of these numbers
abbrev pub Sees : List Entry → List ℕ → List Entry → Type 0
Sees h ns seen = IsPrefix seen h × ((i : ℕ) → Has i ns → own i seen ≡ own i h)

-- this one view speaks for each of these numbers
abbrev pub Speaks : (ℕ → ℕ) → ℕ → List ℕ → Type 0
Speaks who by ns = (i : ℕ) → Has i ns → who i ≡ by

-- one view, where h is the history that has been given back, and `who` says which view speaks for a number
pub record Fits (o : Base) (h : List Entry) (who : ℕ → ℕ) (by : ℕ) (v : View) : Type 0 where
  pub base : is_spent v.phase ≡ false → v.base ≡ o
  pub sees : Sees h v.numbers v.seen
  pub takes : Sees h (taken_numbers v.phase) (taken_seen v.phase)
  pub speaks : Speaks who by v.numbers
  pub speaks_too : Speaks who by (taken_numbers v.phase)

-- next is the history, or has one entry more, of a number of the view's own
abbrev pub Follows : List Entry → List ℕ → List Entry → Type 0
Follows h ns next = (next ≡ h) ⊎ ((e : Entry) × (next ≡ h ++ e ∷ []) × Has e.thread ns)

-- each number of the round is spoken for, by the view that `who` names
abbrev pub Voices : Base → (ℕ → ℕ) → List View → Type 0
Voices o who views =
    (i : ℕ) → Within o i → (v : View) × (get_elem? views (who i) ≡ m.some v) × (Has i v.numbers ⊎ Has i (taken_numbers v.phase))

module _ {O : Type 0} where
  -- a new view finds the slot empty and at home; any other that has the turn has the slot out
  abbrev pub place_of : Phase → m.Option (Option (BoundTo O))
  place_of (New next) = m.some None
  place_of (Holding next) = m.none
  place_of Idle = m.none
  place_of (Joined ns seen) = m.none
  place_of Spent = m.none

  -- the view v of the seat `by` has the turn
  pub record Held (h : List Entry) (by : ℕ) (v : View) (next : List Entry) (s : State (Option (BoundTo O)) View)
      : Type 0 where
    pub there : get_elem? s.views by ≡ m.some v
    pub holds : next_of v.phase ≡ Some next
    pub follows : Follows h v.numbers next
    pub words : s.words ≡ 1 ∷ length next ∷ []
    pub homes : s.homes ≡ place_of v.phase ∷ []
    pub voice : (i : ℕ) × Has i v.numbers × Within v.base i
    pub alone : (j : ℕ) (u : View) → get_elem? s.views j ≡ m.some u → (j ≡ by) ⊎ (next_of u.phase ≡ None)

  -- some view has the turn
  abbrev pub IsHeld : List Entry → State (Option (BoundTo O)) View → Type 0
  IsHeld h s = (by : ℕ) × (v : View) × (next : List Entry) × Held h by v next s

  -- no view has the turn
  abbrev pub NobodyHas : State (Option (BoundTo O)) View → Type 0
  NobodyHas s = (by : ℕ) (v : View) → get_elem? s.views by ≡ m.some v → next_of v.phase ≡ None

module _ {O : Type 0} (piece : Pieces) (out : O → Outgo) where
  -- the book has this history, and its outlet kept up with what that gained since the shared book was opened
  pub record Written (o : Base) (h : List Entry) (b : BoundTo O) : Type 0 where
    pub opening : b.opening ≡ o.opening
    pub history : b.history ≡ h
    pub round : Rounded o h
    pub kept : Kept piece (outgo_of o.start) (out b.outlet) round.since

  -- no view has the turn, and the book is at home
  pub record AtHome (o : Base) (h : List Entry) (s : State (Option (BoundTo O)) View) : Type 0 where
    pub turn : ℕ
    pub free : (turn ≡ 0) ⊎ (turn ≡ 2)
    pub words : s.words ≡ turn ∷ length h ∷ []
    pub book : BoundTo O
    pub homes : s.homes ≡ m.some (Some book) ∷ []
    pub written : Written o h book
    pub none : NobodyHas s

  -- what holds of a shared book after every step: its views fit one history of the round, each number is spoken for,
  -- the turn is 2 where a view knows of a stop, and either nobody has the turn or one view has it
  pub record Shelved (o : Base) (s : State (Option (BoundTo O)) View) : Type 0 where
    pub history : List Entry
    pub who : ℕ → ℕ
    pub each : (by : ℕ) (v : View) → get_elem? s.views by ≡ m.some v → Fits o history who by v
    pub some_one : Voices o who s.views
    pub round : Rounded o history
    pub stops : (by : ℕ) (v : View) → get_elem? s.views by ≡ m.some v → v.stopped ≡ true → slice_index s.words 0 ≡ 2
    pub place : AtHome o history s ⊎ IsHeld history s

  -- the same, of a shared book that was opened with this
  abbrev pub Holds : Opened O → State (Option (BoundTo O)) View → Type 0
  Holds key s = Shelved (base_of out key) s
