use Rattle.std.proofs.Common.{◌≡◌, ◌≤◌, ◌-◌, ℕ, List, [], ◌∷◌, length, take, drop, Option, Some, Result, sym, arith, subst}
use Rattle.std.proofs.lemmas.List.{take_all}
use Rattle.std.specs.Borrow.{Bor}
use Rattle.source_combinators.specs.declared.fault.ReadError.{ReadError}
use Rattle.source_combinators.specs.Outcome.{GivesAt}
use Rattle.py_syntax.specs.declared.lexeme.Lexeme.{Lexeme}
use Rattle.py_syntax.specs.declared.expr.BinaryOp.{BinaryOp}
use Rattle.py_syntax.specs.declared.stmt.Stmt.{Stmt}
use Rattle.source_spec_lines.specs.Lines.{augmented_by}
use Rattle.source_parse_lines.specs.Views.{augmented_at}
use Rattle.source_parse_lines.proofs.assignments.augmented.Goals as goal

-- the operator stands first, whatever it is
behind_first : (room : ℕ) (n : List ℕ) (o : BinaryOp) (ts : List Lexeme) (r : Result (Stmt × Bor (List Lexeme)) ReadError) → 1 ≤ length ts → ((t : Lexeme) → GivesAt (λ x. x) r (augmented_by room (Some n) o t (take (length ts - 1) (drop 1 ts)))) → GivesAt (λ x. x) r (augmented_at room (Some n) o ts)
behind_first room n o [] r h k = absurd (omega arith)
behind_first room n o (t ∷ ts) r h k =
    let whole : take (length (t ∷ ts) - 1) ts ≡ ts = take_all (length (t ∷ ts) - 1) ts (omega arith) in
    subst (λ (us : List Lexeme). GivesAt (λ x. x) r (augmented_by room (Some n) o t us)) whole (k t)

pub returns-in-len1-up-clause-value : goal.returns-in-len1-up-clause-value
returns-in-len1-up-clause-value c =
    subst (λ (name : Option (List ℕ)). GivesAt (λ x. x) c.augmented_name.result (augmented_at c.args.room name c.args.operator c.args.tokens.now)) (sym c.in-Some.is) (behind_first c.args.room c.in-Some.name c.args.operator c.args.tokens.now c.augmented_name.result c.in-len1-up.len_at_least c.augmented_name.ensures.value)
