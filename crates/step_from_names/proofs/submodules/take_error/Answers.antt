use Rattle.std.proofs.Common.{refl}
use Rattle.step_from_names.proofs.submodules.take_error.Goals as goal

pub returns-then-is_missing : goal.returns-then-is_missing
returns-then-is_missing c = record { does = λ w next. rw (← c.in_ok-text.ensures, ← c.is_missing.ensures, c.if-is_missing.true) refl }

pub returns : goal.returns
returns c = record { does = λ w next. rw (← c.in_ok-text.ensures, ← c.is_missing.ensures, c.if-is_missing.false) refl }
