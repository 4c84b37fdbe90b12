use Rattle.path_finder.specs.Looking.{behind}
use Rattle.path_finder.proofs.Reading.{reads_same}
use Rattle.path_finder.proofs.look.Look.probe_names.Goals as goal

pub returns-clause-goes : goal.returns-clause-goes
returns-clause-goes g c =
    c.in_ok-has.ensures.reads c.args.self.now.portions (behind c.args.self.now) _ (reads_same _ _ _ c.in_ok-settle.ensures.goes)
