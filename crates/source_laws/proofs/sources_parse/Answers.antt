use Rattle.std.proofs.Common.{Ok}
use Rattle.source_laws.proofs.Sources.{source_parses, parsed_source}
use Rattle.source_laws.proofs.sources_parse.Goals as goal

pub returns : goal.returns
returns c src s = (source_parses src s, λ h. parsed_source src (Ok s) h)
