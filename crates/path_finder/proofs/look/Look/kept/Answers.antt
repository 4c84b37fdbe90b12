use Rattle.std.proofs.Common.{ap, sym, true}
use Rattle.path_finder.specs.declared.words.LookWant.TheVariants as wanted
use Rattle.path_finder.specs.Looking.{wants}
use Rattle.path_finder.proofs.look.Look.kept.Goals as goal

pub returns-clause-goes : goal.returns-clause-goes
returns-clause-goes c = ap (wants (wanted.Pay true)) (sym c.wait_at.ensures.goes)
