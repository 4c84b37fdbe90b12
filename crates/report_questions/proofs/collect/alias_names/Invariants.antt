use Rattle.std.proofs.Common.{◌≡◌, take}
use Rattle.report_questions.specs.Statements.{alias_names}
use Rattle.report_questions.proofs.collect.alias_names.Given as goal

abbrev pub invariant-loop-alias : goal.invariant-loop-alias
invariant-loop-alias l = l.names ≡ alias_names (take l.alias-index l.alias-items)
