-- What one thread sees of a history, and who has ended in it.
use Rattle.std.specs.Prelude.{◌≡◌, ◌⊎◌, ◌<◌, ℕ, ◌==◌, List, [], ◌∷◌, map, filter, Some, slice_get}
use Rattle.machine_events.specs.declared.event.Event.{Event}
use Rattle.machine_events.specs.declared.event.Event.TheVariants as e
use Rattle.machine_events.specs.declared.event.Reply.{Reply}
use Rattle.machine_events.specs.declared.event.Entry.{Entry}

-- the events of one thread with their replies, in their order
abbrev pub own : ℕ → List Entry → List (Event × Reply)
own t history = map (λ e. (e.event, e.reply)) (filter (λ e. e.thread == t) history)

-- the event with which a script ends, however it ended
abbrev pub IsEnd : Event → Type 0
IsEnd (e.End outcome spent) = Unit {0}
IsEnd event = ⊥

-- the thread's End stands in the history
abbrev pub HasEnded : List Entry → ℕ → Type 0
HasEnded [] t = ⊥
HasEnded (entry ∷ entries) t = ((entry.thread ≡ t) × IsEnd entry.event) ⊎ HasEnded entries t

-- the thread is one of the scripts, and every thread of an earlier round has its End in
-- the history; the rounds tell for each thread the number of the first one of its round
pub record Ready (rounds : List ℕ) (history : List Entry) (t : ℕ) : Type 0 where
  pub first : ℕ
  pub round : slice_get rounds t ≡ Some first
  pub ended : (u : ℕ) → u < first → HasEnded history u

-- the round of the thread has no other script
abbrev pub IsLone : List ℕ → ℕ → Type 0
IsLone rounds t = (u : ℕ) → slice_get rounds u ≡ slice_get rounds t → u ≡ t
