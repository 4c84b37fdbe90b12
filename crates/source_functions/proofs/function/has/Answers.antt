use Rattle.std.proofs.Common.{◌∙◌}
use Rattle.source_functions.proofs.Locals.{any_is_among}
use Rattle.source_functions.proofs.function.has.Goals as goal

pub returns-then-len-gt-FEW : goal.returns-then-len-gt-FEW
returns-then-len-gt-FEW c = c.contains.ensures ∙ any_is_among c.args.name.now c.args.names.now.keys
