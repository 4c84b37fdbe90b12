use Rattle.step_imports.proofs.Levels.{level_zero}
use Rattle.step_imports.proofs.relative.level_of.Goals as goal

pub returns-then-dots-eq0-clause-same : goal.returns-then-dots-eq0-clause-same
returns-then-dots-eq0-clause-same c = λ p x. rw c.if-dots-eq0.true (level_zero p x)
