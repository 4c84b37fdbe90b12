use Rattle.path_finder.proofs.Spelling.{path_read}
use Rattle.path_finder.proofs.files.path_of.Goals as goal

pub returns : goal.returns
returns c = path_read c.read.result c.args.text.now c.read.ensures
