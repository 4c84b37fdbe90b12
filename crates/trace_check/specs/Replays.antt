-- What a replay of a history on the machine answers.
use Rattle.std.specs.Prelude.{ℕ, ◌≡◌, ◌<◌, ◌≤◌, Bool, true, false, List, Option, Some, None, take, slice_get, count_by}
use Rattle.machine_events.specs.declared.event.Reply.{Reply}
use Rattle.machine_events.specs.declared.event.Reply.TheVariants as r
use Rattle.machine_events.specs.declared.event.Entry.{Entry}
use Rattle.machine_spec.specs.declared.state.State.{State}
use Rattle.machine_spec.specs.Allowed.{allowed, scripts}
use Rattle.machine_spec.specs.Step.{step}
use Rattle.machine_spec.specs.Legal.{Allowed, IsLegal, replay}
use Rattle.trace_check.specs.declared.answers.Counts.{Counts}
use Rattle.trace_check.specs.declared.answers.Why.{Why}
use Rattle.trace_check.specs.declared.answers.Why.TheVariants as cause
use Rattle.trace_check.specs.declared.answers.Replayed.{Replayed}
use Rattle.trace_check.specs.declared.answers.Replayed.TheVariants as replays

-- the body of a module begins, of one that is new or of one that slept
abbrev pub begins_body : Reply → Bool
begins_body (r.Load load mid) = true
begins_body (r.Yours load text) = true
begins_body reply = false

-- the thread is to wait for a lock
abbrev pub waits : Reply → Bool
waits (r.Wait n) = true
waits reply = false

-- the module is given as far as it is, since waiting for it would close a cycle
abbrev pub is_cycle : Reply → Bool
is_cycle (r.Cycle m) = true
is_cycle reply = false

-- waiting for the lock would close a cycle, and there is no module to give
abbrev pub is_deadlock : Reply → Bool
is_deadlock r.Deadlock = true
is_deadlock reply = false

-- how many entries have such a reply
abbrev pub replied : (Reply → Bool) → List Entry → ℕ
replied is history = count_by (λ e. is e.reply) history

-- the four counts of a history
abbrev pub counts_of : List Entry → Counts
counts_of history = record {
  loads = replied begins_body history;
  waits = replied waits history;
  cycles = replied is_cycle history;
  deadlocks = replied is_deadlock history;
}

-- why an entry is not as the machine says in a state: its thread is none of the scripts;
-- or else its event is not allowed there; or else the machine has another reply
abbrev pub IsWrong : State → Entry → Why → Type 0
IsWrong s e cause.Text = ⊥
IsWrong s e cause.Thread = scripts s ≤ e.thread
IsWrong s e cause.Call = ⊥
IsWrong s e cause.Allowed = (e.thread < scripts s) × (allowed s e.thread e.event ≡ false)
IsWrong s e cause.Reply = (e.thread < scripts s) × Allowed s e.thread e.event × (e.reply ≡ (step s e.thread e.event).0 → ⊥)
IsWrong s e cause.End = ⊥

-- the entry at this place is the first that is not as the machine says
pub record IsBroken (s : State) (history : List Entry) (at : ℕ) (why : Why) : Type 0 where
  pub entry : Entry
  pub there : slice_get history at ≡ Some entry
  pub before : IsLegal s (take at history)
  pub wrong : IsWrong (replay s (take at history)) entry why

-- a history that begins in this state is legal, with these counts, or breaks at its first wrong entry
abbrev pub Replays : State → List Entry → Replayed → Type 0
Replays s history (replays.Legal counts) = IsLegal s history × (counts ≡ counts_of history)
Replays s history (replays.Breaks at why) = IsBroken s history at why

-- the replay of one entry: the machine has made its event, or it is wrong
abbrev pub Tests : State → State → Entry → Option Why → Type 0
Tests s s' e None = Allowed s e.thread e.event × (e.reply ≡ (step s e.thread e.event).0) × (s' ≡ (step s e.thread e.event).1)
Tests s s' e (Some why) = IsWrong s e why
