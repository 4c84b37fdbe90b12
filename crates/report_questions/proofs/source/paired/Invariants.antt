use Rattle.std.proofs.Common.{◌≡◌, drop, length}
use Rattle.report_questions.specs.SourceImports.{paired}
use Rattle.report_questions.proofs.source.paired.Given as goal

abbrev pub invariant-loop-asked : goal.invariant-loop-asked
invariant-loop-asked l = record {
  pairs : l.imports ≡ paired l.yielded l.lines;
  rest : l.rest ≡ drop (length l.yielded) l.lines;
}
