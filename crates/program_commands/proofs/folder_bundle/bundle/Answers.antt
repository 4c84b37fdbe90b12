use Rattle.std.proofs.Common.{refl, Err, ap}
use Rattle.program_commands.proofs.folder_bundle.bundle.Goals as goal

pub returns-in-Ok-clause-answers : goal.returns-in-Ok-clause-answers
returns-in-Ok-clause-answers g c = c.write_made.ensures.answers _ _ c.in-Ok.ensures.makes refl refl refl refl

pub returns-in-Err-clause-answers : goal.returns-in-Err-clause-answers
returns-in-Err-clause-answers g c = c.unmade.ensures.answers _ _ (λ is. c.in-Err.ensures.failed (ap Err is)) refl refl refl
