use Rattle.std.proofs.Common.{◌∙◌, ap}
use Rattle.spec_core.specs.Identifiers.{is_dotted}
use Rattle.spec_core.proofs.Knowing.{known_dotted}
use Rattle.spec_core.proofs.name.Dotted.known.Goals as goal

pub of-requires : goal.of-requires
of-requires c = ap is_dotted (c.in_ok-from_str.ensures ∙ c.known_text.ensures) ∙ known_dotted c.args.name
