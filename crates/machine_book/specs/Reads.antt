-- Events that only read.
use Rattle.std.specs.Prelude.{ℕ, ◌≡◌, Bool, true, false}
use Rattle.machine_events.specs.declared.event.Event.{Event}
use Rattle.machine_events.specs.declared.event.Reply.{Reply}
use Rattle.machine_events.specs.declared.event.Reply.TheVariants as replies
use Rattle.machine_spec.specs.declared.state.State.{State}
use Rattle.machine_spec.specs.Step.{step}

-- with this answer it leaves every state as it is, whichever thread makes it
abbrev pub OnlyReads : Event → Reply → Type 0
OnlyReads event answer = (s : State) (t : ℕ) → answer ≡ (step s t event).0 → (step s t event).1 ≡ s

-- the answers of Ask where nothing is waited for: the module, that there is none, and that the import is halted
abbrev pub is_told_at_once : Reply → Bool
is_told_at_once (replies.Module m) = true
is_told_at_once replies.Missing = true
is_told_at_once replies.Halted = true
is_told_at_once other = false
