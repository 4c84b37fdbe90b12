use Rattle.std.proofs.Common.{◌≡◌, List, ℕ, IfOk, subst}
use Rattle.program_rounds.specs.Opened.{line_refused}
use Rattle.program_rounds.proofs.Opening.{unspelled}
use Rattle.program_rounds.proofs.open.rounds_of.Goals as goal

pub returns-in-Err-At-clause-err : goal.returns-in-Err-At-clause-err
returns-in-Err-At-clause-err g c =
    let line = subst (λ (w : List ℕ). IfOk c.refusal.result (λ it. it.items ≡ line_refused w c.in-Err-At.line)) c.as_str.ensures c.refusal.ensures in
    unspelled _ c.args.file.now _ _ c.in-Ok.bytes c.as_slice.result.now c.in-Err-At.field-0 c.in-Err-At.line c.in-Ok.ensures.ok c.as_slice.ensures c.in-Err-At.ensures.says c.in-Err-At.field-0-is c.refused.result (c.refused.ensures _ line)
