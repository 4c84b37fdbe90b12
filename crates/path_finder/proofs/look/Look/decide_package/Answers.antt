use Rattle.path_finder.proofs.look.Look.decide_package.Goals as goal

pub returns-clause-goes : goal.returns-clause-goes
returns-clause-goes c = rw c.in_ok-kind.ensures at c.decide.ensures.goes
