use Rattle.std.proofs.Common.{◌≡◌, ◌++◌, ◌∷◌, [], List, ℕ, IfOk, refl, subst}
use Rattle.std.specs.Prelude.{codes}
use Rattle.tree_walk.specs.declared.open.Read.TheVariants as read
use Rattle.program_commands.proofs.Opening.{names_by, refused_at}
use Rattle.program_commands.proofs.trace_open.open_trace.Goals as goal

pub returns-in-Ok-Missing-clause-err : goal.returns-in-Ok-Missing-clause-err
returns-in-Ok-Missing-clause-err g c =
    let line = subst (λ (w : List ℕ). IfOk c.joined-line.result (λ it. it.items ≡ codes "pyimport: cannot open trace '" ++ w ++ codes "'" ++ 10 ∷ [])) c.as_str.ensures c.joined-line.ensures in
    refused_at _ c.args.word.now _ _ read.Missing _ (names_by _ _ _ c.in-Ok-Missing.field-0 read.Missing refl c.in-Ok-Missing.field-0-is c.in-Ok-Missing.ensures.told c.in-Ok-Missing.ensures.fits) refl c.refused.result (c.refused.ensures _ line)

pub returns-in-Ok-TooLong-clause-err : goal.returns-in-Ok-TooLong-clause-err
returns-in-Ok-TooLong-clause-err g c =
    let line = subst (λ (w : List ℕ). IfOk c.joined-line-in-Ok-TooLong.result (λ it. it.items ≡ codes "pyimport: trace '" ++ w ++ codes "' is too long" ++ 10 ∷ [])) c.as_str-in-Ok-TooLong.ensures c.joined-line-in-Ok-TooLong.ensures in
    refused_at _ c.args.word.now _ _ read.TooLong _ (names_by _ _ _ c.in-Ok-TooLong.field-0 read.TooLong refl c.in-Ok-TooLong.field-0-is c.in-Ok-TooLong.ensures.told c.in-Ok-TooLong.ensures.fits) refl c.refused-in-Ok-TooLong.result (c.refused-in-Ok-TooLong.ensures _ line)
