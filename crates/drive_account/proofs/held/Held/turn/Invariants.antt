use Rattle.std.proofs.Common.{◌≡◌, ◌-◌, ◌++◌, take, drop, length}
use Rattle.machine_shown.specs.Holdings.{becoming}
use Rattle.drive_account.specs.Holds.{holding_of, holdings}
use Rattle.drive_account.proofs.held.Held.turn.Given as goal

abbrev pub invariant-loop-at : goal.invariant-loop-at
invariant-loop-at l = record {
  same : l.self ≡ l.fn.self;
  rest : becoming (holding_of l.fn.hold) (holding_of l.fn.into) (holdings l.self.holds) ≡ holdings (take l.at l.self.holds) ++ becoming (holding_of l.fn.hold) (holding_of l.fn.into) (holdings (drop l.at l.self.holds));
}

abbrev pub decreases-loop-at : goal.decreases-loop-at
decreases-loop-at l = length l.self.holds - l.at
