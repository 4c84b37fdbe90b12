use Rattle.std.proofs.Common.{◌≡◌, length}
use Rattle.std.specs.Str.{IsUtf8}
use Rattle.spec_core.specs.Identifiers.{is_dotted}
use Rattle.spec_core.proofs.ident.is_dotted.Given as goal

abbrev pub invariant-parts : goal.invariant-parts
invariant-parts l = record { same : is_dotted l.text ≡ is_dotted l.rest; utf8 : IsUtf8 l.rest }

abbrev pub decreases-parts : goal.decreases-parts
decreases-parts l = length l.rest
