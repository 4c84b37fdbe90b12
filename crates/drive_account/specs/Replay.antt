-- A recorded list of events with their replies.
use Rattle.std.specs.Prelude.{◌≡◌, ◌≤◌, ℕ, Bool, true, false, List, [], ◌∷◌, map, take, length, Option, Some, None}
use Rattle.machine_events.specs.declared.event.Event.{Event}
use Rattle.machine_events.specs.declared.event.Reply.{Reply}
use Rattle.machine_events.specs.declared.event.Pair.{Pair}
use Rattle.machine_events.specs.Fitting.{Fits}

-- the recorded list, as meanings and laws speak of a script's events
abbrev pub pairs_of : List Pair → List (Event × Reply)
pairs_of own = map (λ (p : Pair). (p.event, p.reply)) own

-- why the pair at a place of the list does not serve an event: there is none or it has
-- another event; or, under the flag, it has this event with a reply that is of no kind for it
abbrev pub IsOther : Bool → Option Pair → Event → Type 0
IsOther false None event = Unit {0}
IsOther false (Some p) event = p.event ≡ event → ⊥
IsOther true None event = ⊥
IsOther true (Some p) event = (p.event ≡ event) × (Fits event p.reply → ⊥)

-- each reply is of a kind that its event can get
abbrev pub AllFit : List (Event × Reply) → Type 0
AllFit [] = Unit {0}
AllFit (pair ∷ own) = Fits pair.0 pair.1 × AllFit own

-- so many pairs of the list were met: they stand in it, and their replies fit
pub record Met (own : List Pair) (at : ℕ) : Type 0 where
  pub within : at ≤ length own
  pub fit : AllFit (pairs_of (take at own))
