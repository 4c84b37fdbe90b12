-- What the seat of a pass is, between calls and while it has the turn, and what is told of a step at it.
use Rattle.std.specs.Prelude.{◌≡◌, ℕ, Bool, true, false, List, [], ◌∷◌, ◌++◌, Some}
use Rattle.machine_events.specs.declared.event.Event.{Event}
use Rattle.machine_events.specs.declared.event.Event.TheVariants.{Wake}
use Rattle.machine_events.specs.declared.event.Reply.{Reply}
use Rattle.machine_events.specs.declared.event.Entry.{Entry}
use Rattle.machine_events.specs.Fitting.{Fits}
use Rattle.machine_spec.specs.Allowed.{allowed}
use Rattle.machine_spec.specs.Legal.{Allowed, IsLegal, replay}
use Rattle.machine_shown.specs.Own.{own}
use Rattle.machine_laws.specs.Begun.{Begun, first}
use Rattle.machine_book.specs.Bound.{BoundTo}
use Rattle.machine_desk.specs.Outgo.{Outgo, Pieces}
use Rattle.machine_desk.specs.Sight.{Continues, Gains}
use Rattle.trace_book.specs.declared.view.Base.{Base}
use Rattle.trace_book.specs.declared.view.View.{View}
use Rattle.trace_book.specs.declared.view.Phase.TheVariants.{Idle}
use Rattle.trace_book.specs.Views.{Has, Within, Rounded, view, holding, idle_as, longer}
use Rattle.trace_book.specs.Told.{TableId, seat_sight}
use Rattle.trace_book.specs.Rule.{Written, Sees}
use Rattle.trace_book.specs.Plays.{Seated, history_out}

-- a view between calls: t is among its numbers and of the round, and what was seen is of the round too
pub record Rests (v : View) (t : ℕ) : Type 0 where
  pub idle : v ≡ idle_as v.stopped v v.seen
  pub number : Has t v.numbers
  pub within : Within v.base t
  pub round : Rounded v.base v.seen

-- a seat between calls
abbrev pub Ready : {O : Type 0} → Seated O → ℕ → Type 0
Ready me t = Rests me.0 t × (me.1 ≡ [])

-- the seat has the turn, and the book out, which it may give back
abbrev pub HasBook : {O : Type 0} → Pieces → (O → Outgo) → Seated O → Type 0
HasBook {O} piece out me =
    (b : BoundTo O) × (me ≡ (holding me.0 b.history, (0, Some b) ∷ [])) × Written piece out me.0.base b.history b

-- the book that the seat has out may take a step for its thread: the event is allowed there
pub record MayStep {O : Type 0} (me : Seated O) (t : ℕ) (e : Event) : Type 0 where
  pub number : Has t me.0.numbers
  pub within : Within me.0.base t
  pub sees : Sees (history_out me.1) me.0.numbers me.0.seen
  pub allowed : (b : Begun) × (first b ≡ me.0.base.opening) → IsLegal me.0.base.opening (history_out me.1)
      → Allowed (replay me.0.base.opening (history_out me.1)) t e

-- a line of a history
abbrev pub entry : ℕ → Event → Reply → Entry
entry t e r = record { thread = t; event = e; reply = r }

-- the history of the book that the seat has out, with one entry at its end
abbrev pub longer_by : {O : Type 0} → Seated O → ℕ → Event → Reply → List Entry
longer_by me t e r = history_out me.1 ++ entry t e r ∷ []

-- with the entry at its end, the history is legal and of the round, and the reply is one that the event can have
pub record IsLegalWith {O : Type 0} (me : Seated O) (t : ℕ) (e : Event) (r : Reply) : Type 0 where
  pub legal : IsLegal me.0.base.opening (longer_by me t e r)
  pub round : Rounded me.0.base (longer_by me t e r)
  pub fits : Fits e r

-- the seat has the turn still, and its book has one entry more
pub record GainsEntry {O : Type 0} (piece : Pieces) (out : O → Outgo) (me after : Seated O) (t : ℕ) (e : Event)
    (r : Reply) : Type 0 where
  pub has_book : HasBook piece out after
  pub view : after.0 ≡ holding me.0 (longer_by me t e r)
  pub history : history_out after.1 ≡ longer_by me t e r
  pub made : IsLegalWith me t e r

-- whether the machine of the book that the seat has out lets a thread that waits wake up
abbrev pub may_wake : {O : Type 0} → Seated O → ℕ → Bool
may_wake me t = allowed (replay me.0.base.opening (history_out me.1)) t Wake

-- whether the machine lets a thread that waits wake up after all that the seat has seen
abbrev pub wakes_after : {O : Type 0} → Seated O → ℕ → Bool
wakes_after me t = allowed (replay me.0.base.opening me.0.seen) t Wake

-- the seat without the turn, which has seen these entries, and knows or does not know that the shared book is stopped
abbrev pub resting_as : {O : Type 0} → Bool → Seated O → List Entry → Seated O
resting_as stopped me seen = (idle_as stopped me.0 seen, [])

-- the same where it knows of no stop
abbrev pub resting : {O : Type 0} → Seated O → List Entry → Seated O
resting me seen = resting_as false me seen

-- a seat that knows that the shared book is stopped
abbrev pub Stopped : {O : Type 0} → Seated O → Type 0
Stopped me = me.0.stopped ≡ true

-- the seat without the turn, which speaks for these numbers
abbrev pub speaking : {O : Type 0} → Seated O → List ℕ → Seated O
speaking me ns = (view me.0.base ns me.0.seen Idle, [])

-- the longer of what two seats have seen, and the seat that took the other in
abbrev pub seen_by_both : {O : Type 0} → Seated O → Seated O → List Entry
seen_by_both me other = longer me.0.seen other.0.seen

-- who took the other in speaks for the numbers of both, and is without the turn
abbrev pub taken_in : {O : Type 0} → Seated O → Seated O → Seated O
taken_in me other = (view me.0.base (me.0.numbers ++ other.0.numbers) (seen_by_both me other) Idle, [])

-- what the desk of a seat tells goes on from one seat to the other
abbrev pub GoesOn : {O : Type 0} → TableId → ℕ → Seated O → Seated O → Type 0
GoesOn z t old new = Continues (seat_sight z t old.0) (seat_sight z t new.0)

-- the desk of a seat gains this event with its reply
abbrev pub DeskGains : {O : Type 0} → TableId → ℕ → Seated O → Seated O → Event → Reply → Type 0
DeskGains z t old new e r = Gains (seat_sight z t old.0) (seat_sight z t new.0) e r

-- the thread's own events are the same
abbrev pub SameOwn : {O : Type 0} → ℕ → Seated O → Seated O → Type 0
SameOwn t old new = own t new.0.seen ≡ own t old.0.seen

-- the events of these numbers are the same
abbrev pub SameOf : List ℕ → List Entry → List Entry → Type 0
SameOf ns history seen = (i : ℕ) → Has i ns → own i history ≡ own i seen

-- if the old history is of the round, so is the new one
abbrev pub RoundedToo : Base → List Entry → List Entry → Type 0
RoundedToo o old new = Rounded o old → Rounded o new
