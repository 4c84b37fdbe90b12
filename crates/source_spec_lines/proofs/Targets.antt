-- Expressions that are spelled as targets.
use Rattle.std.proofs.Common.{◌≡◌, ℕ, Bool, true, false, List, [], ◌∷◌, ◌++◌, Option, Some, None, refl, ap, sym, ◌∙◌, rules}
use Rattle.std.proofs.lemmas.Option.{same_Some}
use Rattle.py_syntax.specs.declared.lexeme.Lexeme.{Lexeme}
use Rattle.py_syntax.specs.declared.lexeme.Lexeme.TheVariants as token
use Rattle.py_syntax.specs.declared.expr.Expr.{Expr, the_lemmas}
use Rattle.py_syntax.specs.declared.expr.Expr.TheVariants as tree
use Rattle.py_syntax.specs.declared.expr.Level.{Level}
use Rattle.py_syntax.specs.declared.expr.Spelled.{Spelled}
use Rattle.py_syntax.specs.Expressions as grammar
use Rattle.py_syntax.specs.Expressions.{IsChain, IsOperand, IsInversion, IsComparison, IsFactor, IsPrimary, IsExpr}
use Rattle.source_spec_lines.specs.Expressions.{name_of}

none_is_not_some : (n : List ℕ) → None ≡ Some n → ⊥
none_is_not_some n e = absurd cc

-- what is spelled as a target is a primary
mutual
  pub chain_target : {level : Level} {room : ℕ} {ts : List Lexeme} {e : Spelled} → IsChain level room ts e → e.is_target ≡ true → IsPrimary room ts e
  chain_target (grammar.alone h) t = operand_target h t
  chain_target (grammar.joined h o k) t = absurd cc

  operand_target : {level : Level} {room : ℕ} {ts : List Lexeme} {e : Spelled} → IsOperand level room ts e → e.is_target ≡ true → IsPrimary room ts e
  operand_target (grammar.of_or h) t = chain_target h t
  operand_target (grammar.of_and h) t = inversion_target h t
  operand_target (grammar.of_sum h) t = chain_target h t
  operand_target (grammar.of_term h) t = factor_target h t

  inversion_target : {room : ℕ} {ts : List Lexeme} {e : Spelled} → IsInversion room ts e → e.is_target ≡ true → IsPrimary room ts e
  inversion_target (grammar.inverted h) t = absurd cc
  inversion_target (grammar.comparison h) t = comparison_target h t

  comparison_target : {room : ℕ} {ts : List Lexeme} {e : Spelled} → IsComparison room ts e → e.is_target ≡ true → IsPrimary room ts e
  comparison_target (grammar.sum h) t = chain_target h t
  comparison_target (grammar.compared h c k) t = absurd cc

  factor_target : {room : ℕ} {ts : List Lexeme} {e : Spelled} → IsFactor room ts e → e.is_target ≡ true → IsPrimary room ts e
  factor_target (grammar.negative h) t = absurd cc
  factor_target (grammar.primary h) t = h

-- a primary stands wherever an expression does
pub expr_of : {room : ℕ} {ts : List Lexeme} {e : Spelled} → IsPrimary room ts e → IsExpr room ts e
expr_of h = grammar.alone (grammar.of_or (grammar.alone (grammar.of_and (grammar.comparison (grammar.sum (grammar.alone (grammar.of_sum (grammar.alone (grammar.of_term (grammar.primary h))))))))))

pub name_of_name : (n : List ℕ) → name_of (tree.Name n) ≡ Some n
name_of_name n = search (rules, the_lemmas)

name_of_attribute : (e : Expr) (n : List ℕ) → name_of (tree.Attribute e n) ≡ None
name_of_attribute e n = search (rules, the_lemmas)

name_of_subscript : (e x : Expr) → name_of (tree.Subscript e x) ≡ None
name_of_subscript e x = search (rules, the_lemmas)

-- a target whose tree is a name is that name
pub bare_name : {room : ℕ} {ts : List Lexeme} {e : Spelled} (n : List ℕ) → IsPrimary room ts e → e.is_target ≡ true → name_of e.tree ≡ Some n → ts ≡ token.Name n ∷ []
bare_name n (grammar.name m) t k = ap (λ (l : List ℕ). token.Name l ∷ []) (same_Some m n (sym (name_of_name m) ∙ k))
bare_name n (grammar.number m) t k = absurd cc
bare_name n (grammar.string s) t k = absurd cc
bare_name n grammar.none t k = absurd cc
bare_name n grammar.yes t k = absurd cc
bare_name n grammar.no t k = absurd cc
bare_name n (grammar.parens h) t k = absurd cc
bare_name n grammar.empty_tuple t k = absurd cc
bare_name n (grammar.tuple h q) t k = absurd cc
bare_name n (grammar.display h) t k = absurd cc
bare_name n (grammar.attribute {e = e} m h) t k = absurd (none_is_not_some n (sym (name_of_attribute e.tree m) ∙ k))
bare_name n (grammar.call h q) t k = absurd cc
bare_name n (grammar.subscript {e = e} {x = x} h q) t k = absurd (none_is_not_some n (sym (name_of_subscript e.tree x.tree) ∙ k))
