-- The history of scripts that run alone, each in a round of its own.
use Rattle.std.specs.Prelude.{◌≡◌, ◌<◌, ◌≤◌, ◌⊎◌, ℕ, ◌+◌, List, [], ◌∷◌, ◌++◌, length, slice_get, Option, Some, None, true}
use Rattle.machine_events.specs.declared.event.Event.{Event}
use Rattle.machine_events.specs.declared.event.Reply.{Reply}
use Rattle.machine_events.specs.declared.event.Outcome.{Outcome}
use Rattle.machine_events.specs.declared.event.Outcome.TheVariants as o
use Rattle.machine_events.specs.declared.event.Entry.{Entry}
use Rattle.machine_spec.specs.declared.state.State.{State}
use Rattle.machine_spec.specs.Legal.{IsLegal}
use Rattle.machine_shown.specs.Own.{own}
use Rattle.machine_shown.specs.Shown.{shown_first}
use Rattle.meaning_runs.specs.Runs.{Safe, GivesUp}
use Rattle.meaning_runs.specs.Follows.{Follows, IsPart}
use Rattle.meaning_solo.specs.Made.{Turn}

-- each round has one script: the first of a script's round is the script itself
abbrev pub AreAlone : State → Type 0
AreAlone opening = (t first : ℕ) → slice_get opening.rounds t ≡ Some first → first ≡ t

-- the script ends by a failed call of the tree exactly where a stop is given, and then with that budget
abbrev pub StopsBy : Option ℕ → Outcome → ℕ → Type 0
StopsBy None o.Read k = ⊥
StopsBy None outcome k = Unit {0}
StopsBy (Some stop) o.Read k = k ≡ stop
StopsBy (Some stop) outcome k = ⊥

-- the pairs are those of the script's run over the files of its round, and then its end
pub record Plays (turn : Turn) (t fuel : ℕ) (mine : List (Event × Reply)) : Type 0 where
  pub outcome : Outcome
  pub follows : Follows turn.files t turn.run fuel mine outcome
  pub stops : StopsBy turn.stop outcome follows.paid

-- each of these scripts plays, of which the first has the number t
abbrev pub AllPlay : List Turn → ℕ → ℕ → List Entry → Type 0
AllPlay [] t fuel history = Unit {0}
AllPlay (turn ∷ turns) t fuel history = Plays turn t fuel (own t history) × AllPlay turns (t + 1) fuel history

-- the machine allows the history, and each script's own pairs are those of its turn
pub record IsSolo (opening : State) (turns : List Turn) (fuel : ℕ) (history : List Entry) : Type 0 where
  pub many : length turns ≡ length opening.rounds
  pub legal : IsLegal opening history
  pub each : AllPlay turns 0 fuel history

-- what is shown is enough for each of these runs
abbrev pub AllSafe : List Turn → ℕ → Type 0
AllSafe [] t = Unit {0}
AllSafe (turn ∷ turns) t = Safe (shown_first t) turn.run × AllSafe turns (t + 1)

-- where memory was wanted in a script: its pairs are a part of those of its run; or a call of the
-- tree had failed, and with the budget that was paid before it, all that was held was being given up
abbrev pub BreaksAt : Option ℕ → Turn → ℕ → ℕ → List (Event × Reply) → Type 0
BreaksAt None turn t fuel mine = IsPart turn.files t turn.run fuel mine
BreaksAt (Some stop) turn t fuel mine = GivesUp (Some turn.files) t turn.run stop mine true × (stop + 1 ≤ fuel)

-- no later script has begun
abbrev pub AreToCome : List Turn → ℕ → List Entry → Type 0
AreToCome [] t history = Unit {0}
AreToCome (turn ∷ turns) t history = (turn.stop ≡ None) × (own t history ≡ []) × AreToCome turns (t + 1) history

-- each of these scripts played, up to one that was broken off, if one was
abbrev pub PlayOrBreak : List Turn → ℕ → ℕ → List Entry → Type 0
PlayOrBreak [] t fuel history = Unit {0}
PlayOrBreak (turn ∷ turns) t fuel history =
    (Plays turn t fuel (own t history) × PlayOrBreak turns (t + 1) fuel history) ⊎ (BreaksAt turn.stop turn t fuel (own t history) × AreToCome turns (t + 1) history)

-- memory may have been wanting: the machine allows the history, and each script played, up to one that was broken off
pub record IsBroken (opening : State) (turns : List Turn) (fuel : ℕ) (history : List Entry) : Type 0 where
  pub many : length turns ≡ length opening.rounds
  pub legal : IsLegal opening history
  pub each : PlayOrBreak turns 0 fuel history
