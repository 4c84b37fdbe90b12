-- What a desk stands for, and what its calls do to that.
use Rattle.std.specs.Prelude.{◌≡◌, ℕ, List, [], ◌∷◌, ◌++◌, Option, Some, None}
use Rattle.machine_events.specs.declared.event.Event.{Event}
use Rattle.machine_events.specs.declared.event.Reply.{Reply}
use Rattle.machine_events.specs.declared.event.Entry.{Entry}
use Rattle.machine_events.specs.Fitting.{Fits}
use Rattle.machine_spec.specs.declared.state.State.{State}
use Rattle.machine_spec.specs.Legal.{IsLegal}
use Rattle.machine_shown.specs.Own.{Ready}
use Rattle.machine_desk.specs.Histories.{Begins, EndsWith}
use Rattle.machine_desk.specs.Outgo.{Outgo, Pieces, Kept}

-- what a desk can tell of its book's outlet: the pieces that it writes, and what it has written
pub record Telling : Type 0 where
  pub piece : Pieces
  pub out : Outgo

-- the outlet kept up with these entries, where that is told
abbrev pub KeepsUp : Option Telling → Option Telling → List Entry → Type 0
KeepsUp None None entries = Unit {0}
KeepsUp (Some old) (Some new) entries = (new.piece ≡ old.piece) × Kept old.piece old.out new.out entries
KeepsUp None (Some new) entries = ⊥
KeepsUp (Some old) None entries = ⊥

-- P is what desks of one kind say of themselves
pub record Sight (P : Type 0) : Type 0 where
  -- the state that the machine was opened in
  pub opening : State
  -- the desk's thread
  pub number : ℕ
  -- what else the desk says of itself that no call changes, as where it works
  pub place : P
  -- the history so far, as far as the desk saw it
  pub seen : List Entry
  -- the book's outlet, if the desk can tell
  pub telling : Option Telling
  -- the thread's own events with their replies
  pub mine : List (Event × Reply)

-- the desk's thread is one of the scripts, and every thread of an earlier round has its End in what is seen
abbrev pub IsReady : {P : Type 0} → Sight P → Type 0
IsReady sight = Ready sight.opening.rounds sight.seen sight.number

-- no call changes the first three, and the history only grows
pub record Continues {P : Type 0} (old new : Sight P) : Type 0 where
  pub opening : new.opening ≡ old.opening
  pub number : new.number ≡ old.number
  pub place : new.place ≡ old.place
  pub seen : Begins old.seen new.seen
  pub keeps : KeepsUp old.telling new.telling seen.rest

-- the event was made, and got this reply; what is seen then is legal
pub record Gains {P : Type 0} (old new : Sight P) (event : Event) (reply : Reply) : Type 0 where
  pub legal : IsLegal new.opening new.seen
  pub entry : EndsWith new.seen (record { thread = new.number; event = event; reply = reply })
  pub mine : new.mine ≡ old.mine ++ (event, reply) ∷ []
  pub fits : Fits event reply
