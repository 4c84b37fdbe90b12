-- The verdict on a history that was replayed, and with which what each script means was compared.
use Rattle.std.specs.Prelude.{ℕ, ◌≡◌, ◌<◌, ◌≤◌, ◌+◌, ◌==◌, ◌&&◌, ◌||◌, ◌⊎◌, nat_lt, nat_le, Bool, true, List, Some, take, length, slice_get, count_by, if◌then◌else◌}
use Rattle.machine_events.specs.declared.event.Entry.{Entry}
use Rattle.machine_events.specs.declared.event.Follow.{Follow}
use Rattle.machine_events.specs.declared.event.Follow.TheVariants as ways
use Rattle.trace_check.specs.declared.answers.Why.{Why}
use Rattle.trace_check.specs.declared.answers.Why.TheVariants as cause
use Rattle.trace_check.specs.declared.answers.Replayed.{Replayed}
use Rattle.trace_check.specs.declared.answers.Replayed.TheVariants as replays
use Rattle.trace_check.specs.declared.answers.Verdict.{Verdict}
use Rattle.trace_check.specs.declared.answers.Verdict.TheVariants as verdicts

-- how many entries of a history are of this thread
abbrev pub made : ℕ → List Entry → ℕ
made t history = count_by (λ e. e.thread == t) history

-- here stands the thread's entry before which so many entries of it stand
pub record IsPlaceOf (history : List Entry) (t count place : ℕ) : Type 0 where
  pub entry : Entry
  pub there : slice_get history place ≡ Some entry
  pub its : entry.thread ≡ t
  pub before : made t (take place history) ≡ count

-- a script parts there, after so many entries: at the line of its next entry, whose event is not the one that is
-- due; or, where it has no more, at the line after the last. The first line of a trace tells its format
abbrev pub Parts : List Entry → ℕ → ℕ → ℕ → Why → Type 0
Parts history t at line cause.Text = ⊥
Parts history t at line cause.Thread = ⊥
Parts history t at line cause.Call = (place : ℕ) × IsPlaceOf history t at place × (line ≡ place + 2)
Parts history t at line cause.Allowed = ⊥
Parts history t at line cause.Reply = ⊥
Parts history t at line cause.End = (made t history ≤ at) × (line ≡ length history + 2)

-- the same, where it parts at all
abbrev pub PartsBy : List Entry → ℕ → Follow → ℕ → Why → Type 0
PartsBy history t ways.Yes line why = ⊥
PartsBy history t (ways.Parts at) line why = Parts history t at line why

-- the replay breaks at this line
abbrev pub BreaksAt : Replayed → ℕ → Why → Type 0
BreaksAt (replays.Legal counts) line why = ⊥
BreaksAt (replays.Breaks at why) line why' = (line ≡ at + 2) × (why' ≡ why)

-- a reason to say no: the replay breaks at this line, or a script parts there
abbrev pub IsFault : List Entry → Replayed → List Follow → ℕ → Why → Type 0
IsFault history replayed follows line why =
    BreaksAt replayed line why ⊎ ((t : ℕ) × (f : Follow) × (slice_get follows t ≡ Some f) × PartsBy history t f line why)

-- the order of causes on one line: the thread, the call, what is allowed, the reply, and then the others
abbrev pub rank : Why → ℕ
rank cause.Thread = 0
rank cause.Call = 1
rank cause.Allowed = 2
rank cause.Reply = 3
rank cause.End = 4
rank cause.Text = 5

-- a fault does not come after another: its line is less, or it is the same and its cause comes first or is the same
abbrev pub is_first : ℕ → Why → ℕ → Why → Bool
is_first line why line' why' = nat_lt line line' || (line == line' && nat_le (rank why) (rank why'))

-- the first of some faults
abbrev pub IsFirst : (ℕ → Why → Type 0) → ℕ → Why → Type 0
IsFirst Fault line why = Fault line why × ((line' : ℕ) (why' : Why) → Fault line' why' → is_first line why line' why' ≡ true)

-- the verdict by some faults: yes, with the counts of the replay, where there is none, and else the first of them
abbrev pub JudgesBy : (ℕ → Why → Type 0) → Replayed → Verdict → Type 0
JudgesBy Fault replayed (verdicts.Yes counts) = (replayed ≡ replays.Legal counts) × ((line : ℕ) (why : Why) → Fault line why → ⊥)
JudgesBy Fault replayed (verdicts.No line why) = IsFirst Fault line why

-- the verdict on a history, by its replay and by where each script parts
abbrev pub Judges : List Entry → Replayed → List Follow → Verdict → Type 0
Judges history replayed follows verdict = JudgesBy (IsFault history replayed follows) replayed verdict

-- the place at which a replay breaks is below this number
abbrev pub IsPlaced : Replayed → ℕ → Type 0
IsPlaced (replays.Legal counts) n = Unit {0}
IsPlaced (replays.Breaks at why) n = at < n

-- the verdict of a replay alone
abbrev pub verdict_of_replay : Replayed → Verdict
verdict_of_replay (replays.Legal counts) = verdicts.Yes counts
verdict_of_replay (replays.Breaks at why) = verdicts.No (at + 2) why

-- the verdict with one more fault
abbrev pub first_of : Verdict → ℕ → Why → Verdict
first_of (verdicts.Yes counts) line why = verdicts.No line why
first_of (verdicts.No line' why') line why = if is_first line' why' line why then verdicts.No line' why' else verdicts.No line why

-- each script follows
abbrev pub AllFollow : List Follow → Type 0
AllFollow follows = (t : ℕ) (f : Follow) → slice_get follows t ≡ Some f → f ≡ ways.Yes
