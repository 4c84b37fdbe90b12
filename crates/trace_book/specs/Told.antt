-- Passes as contracts see them.
use Rattle.std.specs.Prelude.{◌≡◌, ℕ, zero, suc, Bool, false, List, [], ◌∷◌, None}
pub use Rattle.atomic_table.specs.Seated.{TableId}
use Rattle.machine_events.specs.declared.event.Event.{Event}
use Rattle.machine_events.specs.declared.event.Reply.{Reply}
use Rattle.machine_events.specs.declared.event.Entry.{Entry}
use Rattle.machine_shown.specs.Own.{own}
use Rattle.machine_desk.specs.Outgo.{Outgo}
use Rattle.machine_desk.specs.Sight.{Sight}
use Rattle.trace_book.specs.declared.view.Base.{Base}
use Rattle.trace_book.specs.declared.view.View.{View}
use Rattle.trace_book.specs.declared.place.Place.{Place}
use Rattle.trace_book.specs.Views.{Opened, base_of, spent}

-- of which shared book a pass is, what that was opened with, its number, the numbers that it speaks for, what it has
-- seen, and whether it knows that the shared book is stopped
pub record Told : Type 0 where
  pub table : TableId
  pub base : Base
  pub number : ℕ
  pub numbers : List ℕ
  pub seen : List Entry
  pub stopped : Bool

-- a pass tells of its view all but whether it has the turn
abbrev pub told : TableId → ℕ → View → Told
told z t v = record { table = z; base = v.base; number = t; numbers = v.numbers; seen = v.seen; stopped = v.stopped }

-- the view of a pass, which has just one
abbrev pub view_in : List View → View
view_in [] = spent
view_in (v ∷ vs) = v

-- the events of the pass's own number, with their replies
abbrev pub mine_of : Told → List (Event × Reply)
mine_of p = own p.number p.seen

-- a new pass speaks for its own number alone, and has seen what the shared book was opened with
abbrev pub new_pass : TableId → Base → ℕ → Told
new_pass z o t = record { table = z; base = o; number = t; numbers = t ∷ []; seen = o.first; stopped = false }

-- n new passes, for the numbers from k on
abbrev pub new_passes : TableId → Base → ℕ → ℕ → List Told
new_passes z o k zero = []
new_passes z o k (suc n) = new_pass z o k ∷ new_passes z o (suc k) n

-- the passes that a shared book deals at its opening
abbrev pub dealt : {O : Type 0} → (O → Outgo) → TableId → Opened O → List Told
dealt out z key = new_passes z (base_of out key) key.1 key.2

-- a pass is still of the same shared book, opening and number
abbrev pub SamePlace : Told → Told → Type 0
SamePlace old new = (new.table ≡ old.table) × (new.base ≡ old.base) × (new.number ≡ old.number)

-- a pass as the desk of its number: what the desk tells of its book's outlet comes at the closing of the shared book
abbrev pub sight_of : Told → Sight Place
sight_of p = record {
  opening = p.base.opening;
  number = p.number;
  place = record { base = p.base; table = p.table; numbers = p.numbers };
  seen = p.seen;
  telling = None;
  mine = mine_of p;
}

-- the sight of a seat's view
abbrev pub seat_sight : TableId → ℕ → View → Sight Place
seat_sight z t v = sight_of (told z t v)
