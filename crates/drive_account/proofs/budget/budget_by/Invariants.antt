use Rattle.std.proofs.Common.{◌≡◌, drop}
use Rattle.drive_account.specs.Replay.{pairs_of}
use Rattle.drive_account.specs.Following.{budget_by}
use Rattle.drive_account.proofs.budget.budget_by.Given as goal

-- the pairs so far have no End
abbrev pub invariant-loop-pair : goal.invariant-loop-pair
invariant-loop-pair l = budget_by l.fuel (pairs_of l.own) ≡ budget_by l.fuel (pairs_of (drop l.pair-index l.own))
