use Rattle.std.proofs.Common.{refl}
use Rattle.step_imports.proofs.relative.import_meant.Goals as goal

pub returns-in-Ok : goal.returns-in-Ok
returns-in-Ok c = record { does = λ w next. rw c.in-Ok.ensures refl }
