use Rattle.std.proofs.Common.{◌≡◌, map}
use Rattle.source_parse_statements.proofs.name_set.NameSet.texts.Given as goal

abbrev pub invariant-loop-name : goal.invariant-loop-name
invariant-loop-name l = l.texts ≡ map (λ name. name.now) l.yielded
