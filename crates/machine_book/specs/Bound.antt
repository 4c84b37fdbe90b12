-- A book over an outlet.
use Rattle.std.specs.Prelude.{◌≡◌, ◌≤◌, List, length}
use Rattle.std.specs.List.{sum}
use Rattle.machine_events.specs.declared.event.Entry.{Entry}
use Rattle.machine_spec.specs.declared.state.State.{State}
use Rattle.machine_spec.specs.Opening.{opening}
use Rattle.machine_laws.specs.Begun.{HaveScripts}
use Rattle.machine_book.specs.declared.opening.Opening.{Opening}

-- the state before the first event
abbrev pub opened : Opening → State
opened o = opening o.scripts o.texts o.path o.rounds

-- there are 1 to 16 scripts, as many texts, and the sizes of the rounds, each at least 1, add up to their number
pub record CanOpen (o : Opening) : Type 0 where
  pub some : 1 ≤ length o.scripts
  pub few : length o.scripts ≤ 16
  pub texts : length o.texts ≡ length o.scripts
  pub each : HaveScripts o.rounds
  pub rounds : sum o.rounds ≡ length o.scripts

-- the state that the machine was opened in, the history from there, and the outlet
pub record BoundTo (O : Type 0) : Type 0 where
  pub opening : State
  pub history : List Entry
  pub outlet : O
