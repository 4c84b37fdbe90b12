use Rattle.std.proofs.Common.{arith, rules}
use Rattle.tree_overlay.proofs.forks.absorb_fork.Goals as goal

pub returns-clause-faults : goal.returns-clause-faults
returns-clause-faults g c =
    let took = c.absorb.ensures.faults in
    let fork = c.close.ensures.faults in
    record { least = omega (arith, took, fork); none = λ none. omega (arith, took, fork, none) }
