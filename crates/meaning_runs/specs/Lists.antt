-- How many events of a kind a script made, and how often it listed a directory.
use Rattle.std.specs.Prelude.{ℕ, ◌+◌, ◌≤◌, List, [], ◌∷◌}
use Rattle.machine_events.specs.declared.event.Event.{Event}
use Rattle.machine_events.specs.declared.event.Event.TheVariants as e
use Rattle.machine_events.specs.declared.event.Reply.{Reply}
use Rattle.meaning_runs.specs.Runs.{Run, keeps, due}

-- the DirSet events
abbrev pub lists_in : List (Event × Reply) → ℕ
lists_in [] = 0
lists_in (p ∷ pairs) = keeps p.0 + lists_in pairs

-- whether an event is an End, counted
abbrev pub ends : Event → ℕ
ends (e.End outcome spent) = 1
ends event = 0

-- the End events
abbrev pub ends_in : List (Event × Reply) → ℕ
ends_in [] = 0
ends_in (p ∷ pairs) = ends p.0 + ends_in pairs

-- from a count of lists to a later one, where the script has made these pairs and the rest of its run is
-- due: each list but the last is one of its DirSet events, and so is the last, unless that event is due next
pub record Listed (old new : ℕ) (mine : List (Event × Reply)) (rest : Run) : Type 0 where
  pub bound : new ≤ old + (lists_in mine + due rest)
