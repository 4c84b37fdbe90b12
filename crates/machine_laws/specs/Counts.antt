-- How often a lock is taken.
use Rattle.std.specs.Prelude.{◌<◌, ℕ, List}
use Rattle.machine_events.specs.declared.event.Event.{Event}
use Rattle.module_lock.specs.Table.{lock_of, taken_count}
use Rattle.machine_spec.specs.declared.state.State.{State}
use Rattle.machine_spec.specs.Step.{step}

-- how often the lock of this name is taken by its owner; one that nobody owns, not once
abbrev pub count_of : State → List ℕ → ℕ
count_of s n = taken_count (lock_of s.locks n)

-- the event leaves the lock of this name taken less often than it was
abbrev pub Falls : State → ℕ → Event → List ℕ → Type 0
Falls s t event n = count_of (step s t event).1 n < count_of s n
