use Rattle.std.proofs.Common.{◌≡◌, ◌++◌, ◌∷◌, [], List, ℕ, IfOk, refl, subst}
use Rattle.std.specs.Prelude.{codes}
use Rattle.program_run.specs.declared.open.Opened.TheVariants as opened
use Rattle.program_run.proofs.Opening.{opens_by}
use Rattle.program_rounds.proofs.Opening.{wants_file}
use Rattle.program_rounds.proofs.open.bytes_of.Goals as goal

pub returns-in-Ok-Missing-clause-err : goal.returns-in-Ok-Missing-clause-err
returns-in-Ok-Missing-clause-err g c =
    let line = subst (λ (w : List ℕ). IfOk c.joined-line.result (λ it. it.items ≡ codes "pyimport: cannot open rounds '" ++ w ++ codes "'" ++ 10 ∷ [])) c.as_str.ensures c.joined-line.ensures in
    wants_file _ c.args.file.now _ _ opened.Missing _ (opens_by _ _ _ c.in-Ok-Missing.field-0 opened.Missing refl c.in-Ok-Missing.field-0-is c.in-Ok-Missing.ensures.told) refl c.refused.result (c.refused.ensures _ line)

pub returns-in-Ok-TooLong-clause-err : goal.returns-in-Ok-TooLong-clause-err
returns-in-Ok-TooLong-clause-err g c =
    let line = subst (λ (w : List ℕ). IfOk c.joined-line-in-Ok-TooLong.result (λ it. it.items ≡ codes "pyimport: rounds '" ++ w ++ codes "' is too long" ++ 10 ∷ [])) c.as_str-in-Ok-TooLong.ensures c.joined-line-in-Ok-TooLong.ensures in
    wants_file _ c.args.file.now _ _ opened.TooLong _ (opens_by _ _ _ c.in-Ok-TooLong.field-0 opened.TooLong refl c.in-Ok-TooLong.field-0-is c.in-Ok-TooLong.ensures.told) refl c.refused-in-Ok-TooLong.result (c.refused-in-Ok-TooLong.ensures _ line)
