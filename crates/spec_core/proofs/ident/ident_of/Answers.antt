use Rattle.std.proofs.Common.{◌≡◌, ℕ, List, IfOk, subst, sym}
use Rattle.std.specs.Str.{IsAscii}
use Rattle.spec_core.proofs.Normal.{normal_ascii}
use Rattle.spec_core.proofs.ident.ident_of.Goals as goal

pub returns-then-is_ascii : goal.returns-then-is_ascii
returns-then-is_ascii c =
    let ascii : IsAscii c.args.text.now = subst IsAscii c.as_str.ensures c.if-is_ascii.ensures.cases in
    subst (λ (t : List ℕ). IfOk c.copy.result (λ it. it ≡ t)) (sym (normal_ascii c.args.text.now ascii)) c.copy.ensures
