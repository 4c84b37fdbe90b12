-- Which lock an event gives back once.
use Rattle.std.specs.Prelude.{ℕ, List, Option, Some, None, slice_get, option_and_then}
use Rattle.std.specs.Option.{option_map}
use Rattle.machine_events.specs.declared.event.Event.{Event}
use Rattle.machine_events.specs.declared.event.Event.TheVariants as events
use Rattle.machine_spec.specs.declared.state.State.{State}

-- the name that a module was first loaded under, which is that of its lock
abbrev pub name_of : State → ℕ → Option (List ℕ)
name_of s mid = option_map (λ o. o.spec.name) (slice_get s.table.objects mid)

-- the name whose lock's count the event lowers
abbrev pub gives : State → Event → Option (List ℕ)
gives s (events.Finish load good) = option_and_then (λ l. name_of s l.mid) (slice_get s.table.loads load)
gives s (events.Release n) = Some n
gives s (events.AddLazy spec text) = Some spec.name
gives s (events.ReloadEnd mid (Some load)) = name_of s mid
gives s event = None
