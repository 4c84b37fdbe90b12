use Rattle.source_parse_statements.proofs.AmongNames.{a_fresh_one_goes_last}
use Rattle.std.proofs.Common.{◌∙◌}
use Rattle.source_parse_statements.proofs.name_set.NameSet.with.Goals as goal

pub returns : goal.returns
returns c = c.in_ok-insert.ensures.keys ∙ a_fresh_one_goes_last c.args.name c.self.inside.names.keys c.args.self c.self.view_is c.requires.fresh
