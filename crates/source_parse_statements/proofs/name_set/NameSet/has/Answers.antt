use Rattle.source_parse_statements.proofs.AmongNames.{found_is_among}
use Rattle.std.proofs.Common.{◌∙◌}
use Rattle.source_parse_statements.proofs.name_set.NameSet.has.Goals as goal

pub returns : goal.returns
returns c = c.contains.ensures ∙ found_is_among c.args.name.now c.self.inside.names.keys c.args.self.now c.self.view_is
