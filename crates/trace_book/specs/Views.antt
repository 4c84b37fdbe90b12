-- Views, and how a step changes one.
use Rattle.std.specs.Prelude.{◌≡◌, ℕ, zero, suc, ◌+◌, ◌<◌, ◌≤◌, ◌⊎◌, List, [], ◌∷◌, ◌++◌, length, leb, Bool, true, false, Option, Some, None}
use Rattle.machine_events.specs.declared.event.Entry.{Entry}
use Rattle.machine_spec.specs.Opening.{opening}
use Rattle.machine_desk.specs.declared.outlet.Flow.TheVariants.{Open}
use Rattle.machine_book.specs.Bound.{BoundTo}
use Rattle.machine_desk.specs.Outgo.{Outgo}
use Rattle.trace_book.specs.declared.view.Start.{Start}
use Rattle.trace_book.specs.declared.view.Base.{Base}
use Rattle.trace_book.specs.declared.view.View.{View}
use Rattle.trace_book.specs.declared.view.Phase.{Phase}
use Rattle.trace_book.specs.declared.view.Phase.TheVariants.{New, Idle, Holding, Joined, Spent}

-- the number is among these
abbrev pub Has : ℕ → List ℕ → Type 0
Has i [] = ⊥
Has i (x ∷ xs) = (i ≡ x) ⊎ Has i xs

-- n numbers from k on
abbrev pub numbers_from : ℕ → ℕ → List ℕ
numbers_from k zero = []
numbers_from k (suc n) = k ∷ numbers_from (suc k) n

-- the number is one of the round
abbrev pub Within : Base → ℕ → Type 0
Within o i = (o.from ≤ i) × (i < o.from + o.size)

-- each of the entries is of a number of the round
abbrev pub AllWithin : Base → List Entry → Type 0
AllWithin o [] = Unit {0}
AllWithin o (e ∷ es) = Within o e.thread × AllWithin o es

-- a history begins with the entries that the shared book was opened with, and each one after them is of a number of
-- the round
pub record Rounded (o : Base) (h : List Entry) : Type 0 where
  pub since : List Entry
  pub joined : o.first ++ since ≡ h
  pub each : AllWithin o since

-- what one pass knows, whether it knows that the shared book is stopped, and how it stands to the turn
abbrev pub view_as : Bool → Base → List ℕ → List Entry → Phase → View
view_as stopped o ns seen phase = record { base = o; numbers = ns; seen = seen; phase = phase; stopped = stopped }

-- the same of a pass that knows of no stop
abbrev pub view : Base → List ℕ → List Entry → Phase → View
view o ns seen phase = view_as false o ns seen phase

-- what a shared book is opened with: a book, the number of the round's first script, and how many there are
abbrev pub Opened : Type 0 → Type 0
Opened O = BoundTo O × ℕ × ℕ

-- what an outlet is, kept as a start, and back
abbrev pub start_of : Outgo → Start
start_of x = record { trace = x.trace; written = x.written; faults = x.faults; flow = x.flow }

-- a start gives back what the outlet was
abbrev pub outgo_of : Start → Outgo
outgo_of x = record { trace = x.trace; written = x.written; faults = x.faults; flow = x.flow }

-- what no step of a shared book changes: its book as it was at the opening, and the round
abbrev pub base_of : {O : Type 0} → (O → Outgo) → Opened O → Base
base_of out key = record {
  opening = key.0.opening;
  first = key.0.history;
  from = key.1;
  size = key.2;
  start = start_of (out key.0.outlet);
}

-- the first view speaks for all numbers of the round, and has the turn
abbrev pub new_view : Base → View
new_view o = view o (numbers_from o.from o.size) o.first (New o.first)

-- the same, of a shared book that is opened with this
abbrev pub first_view : {O : Type 0} → (O → Outgo) → Opened O → View
first_view out key = new_view (base_of out key)

-- the history to come of a view that has the turn
abbrev pub next_of : Phase → Option (List Entry)
next_of (New next) = Some next
next_of (Holding next) = Some next
next_of Idle = None
next_of (Joined ns seen) = None
next_of Spent = None

-- another view took it in
abbrev pub is_spent : Phase → Bool
is_spent (New next) = false
is_spent (Holding next) = false
is_spent Idle = false
is_spent (Joined ns seen) = false
is_spent Spent = true

-- the view has the turn, and will give this history back
abbrev pub holding : View → List Entry → View
holding v next = view v.base v.numbers v.seen (Holding next)

-- the view is without the turn, has seen this, and knows or does not know that the shared book is stopped
abbrev pub idle_as : Bool → View → List Entry → View
idle_as stopped v seen = view_as stopped v.base v.numbers seen Idle

-- the same where it knows of no stop
abbrev pub idle : View → List Entry → View
idle v seen = idle_as false v seen

-- the first number alone, if there is one
abbrev pub first_of : List ℕ → List ℕ
first_of [] = []
first_of (x ∷ xs) = x ∷ []

-- all numbers but the first
abbrev pub others_of : List ℕ → List ℕ
others_of [] = []
others_of (x ∷ xs) = xs

-- what a split gives away, and what it keeps
abbrev pub handed : View → View
handed v = view v.base (first_of v.numbers) v.seen Idle

-- all numbers but the first, and the turn, if it was had
abbrev pub kept_of : View → View
kept_of v = view v.base (others_of v.numbers) v.seen v.phase

-- the view with another one to be taken in
abbrev pub joined : View → View → View
joined v w = view v.base v.numbers v.seen (Joined w.numbers w.seen)

-- a spent view names nothing
abbrev pub no_base : Base
no_base = record {
  opening = opening [] [] [] [];
  first = [];
  from = 0;
  size = 0;
  start = record { trace = false; written = None; faults = 0; flow = Open };
}

-- a view that another took in speaks for no number, has seen nothing and never has the turn
abbrev pub spent : View
spent = view no_base [] [] Spent

-- the second where the test holds, and else the first
abbrev pub longer_if : Bool → List Entry → List Entry → List Entry
longer_if true xs ys = ys
longer_if false xs ys = xs

-- the longer of two histories; where they are as long, the second
abbrev pub longer : List Entry → List Entry → List Entry
longer xs ys = longer_if (leb (length xs) (length ys)) xs ys

-- the numbers of the view that is still to be taken in
abbrev pub taken_numbers : Phase → List ℕ
taken_numbers (New next) = []
taken_numbers (Holding next) = []
taken_numbers Idle = []
taken_numbers (Joined ns seen) = ns
taken_numbers Spent = []

-- what that view has seen
abbrev pub taken_seen : Phase → List Entry
taken_seen (New next) = []
taken_seen (Holding next) = []
taken_seen Idle = []
taken_seen (Joined ns seen) = seen
taken_seen Spent = []

-- the view after it took the other one in
abbrev pub merged : View → View
merged v = view v.base (v.numbers ++ taken_numbers v.phase) (longer v.seen (taken_seen v.phase)) Idle
