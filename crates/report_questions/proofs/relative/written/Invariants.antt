use Rattle.std.proofs.Common.{◌≡◌, ℕ, replicate}
use Rattle.report_questions.proofs.relative.written.Given as goal

abbrev pub invariant-loop : goal.invariant-loop
invariant-loop l = l.text ≡ replicate {A = ℕ} l.counter 46
