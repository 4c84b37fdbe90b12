-- Histories that the machine allows.
use Rattle.std.specs.Prelude.{ℕ, ◌≡◌, List, [], ◌∷◌, IsTrue}
use Rattle.machine_events.specs.declared.event.Event.{Event}
use Rattle.machine_events.specs.declared.event.Entry.{Entry}
use Rattle.machine_spec.specs.declared.state.State.{State}
use Rattle.machine_spec.specs.Step.{step}
use Rattle.machine_spec.specs.Allowed.{allowed}

-- the test of the event is passed
abbrev pub Allowed : State → ℕ → Event → Type 0
Allowed s t e = IsTrue (allowed s t e)

-- the state after a history that begins in a state
abbrev pub replay : State → List Entry → State
replay s [] = s
replay s (e ∷ es) = replay (step s e.thread e.event).1 es

-- each entry is allowed in the state before it, and has the reply of the machine there
abbrev pub IsLegal : State → List Entry → Type 0
IsLegal s [] = Unit {0}
IsLegal s (e ∷ es) = Allowed s e.thread e.event × (e.reply ≡ (step s e.thread e.event).0) × IsLegal (step s e.thread e.event).1 es
