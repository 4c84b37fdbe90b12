use Rattle.std.proofs.Common.{◌≡◌, ◌-◌, ◌++◌, take, drop, length}
use Rattle.machine_shown.specs.Holdings.{without}
use Rattle.drive_account.specs.Holds.{holding_of, holdings}
use Rattle.drive_account.proofs.held.Held.give.Given as goal

abbrev pub invariant-loop-at : goal.invariant-loop-at
invariant-loop-at l = record {
  same : l.self ≡ l.fn.self;
  rest : without (holding_of l.fn.hold) (holdings l.self.holds) ≡ holdings (take l.at l.self.holds) ++ without (holding_of l.fn.hold) (holdings (drop l.at l.self.holds));
}

abbrev pub decreases-loop-at : goal.decreases-loop-at
decreases-loop-at l = length l.self.holds - l.at
