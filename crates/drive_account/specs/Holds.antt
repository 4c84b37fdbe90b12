-- What a script holds, in the words of what a thread knows.
use Rattle.std.specs.Prelude.{List, map}
use Rattle.machine_shown.specs.Holdings.{Holding, Taken, Loading, Reloading}
use Rattle.drive_account.specs.declared.held.Hold.{Hold}
use Rattle.drive_account.specs.declared.held.Hold.TheVariants as hold
use Rattle.drive_account.specs.declared.held.Held.{Held}

-- the three things that a script can hold are those of which a thread knows
abbrev pub holding_of : Hold → Holding
holding_of (hold.Taken n) = Taken n
holding_of (hold.Loading load) = Loading load
holding_of (hold.Reloading mid load) = Reloading mid load

-- several of them, in the same order
abbrev pub holdings : List Hold → List Holding
holdings hs = map holding_of hs

-- all that is held, the innermost first
abbrev pub held_in : Held → List Holding
held_in held = holdings held.holds
