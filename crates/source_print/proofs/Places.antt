-- Where an expression may stand, and what may stand there when it is printed.
use Rattle.std.proofs.Common.{◌≡◌, refl, sym, subst, ℕ, suc, ◌<◌, ◌≤◌, Bool, false, List, inl, inr, arith}
use Rattle.std.specs.Prelude.{nat_lt}
use Rattle.std.proofs.lemmas.Bool.{cases_Bool, cond-true, cond-false, ltb-true, ltb-false}
use Rattle.py_syntax.specs.declared.lexeme.Lexeme.{Lexeme}
use Rattle.py_syntax.specs.declared.lexeme.Lexeme.TheVariants as token
use Rattle.py_syntax.specs.declared.expr.Expr.{Expr}
use Rattle.py_syntax.specs.declared.expr.Level.TheVariants.{Disjunction, Conjunction, Sum, Term}
use Rattle.py_syntax.specs.declared.expr.Spelled.{Spelled}
use Rattle.py_syntax.specs.Expressions as grammar
use Rattle.py_syntax.specs.Expressions.{IsChain, IsOperand, IsInversion, IsComparison, IsFactor, IsPrimary}
use Rattle.source_spec_lines.proofs.ExpressionFamilies.{grows_chain, grows_inversion, grows_comparison, grows_factor, grows_primary}
use Rattle.source_print.specs.Expressions.{Printed, enclosed, operand}

-- the places of the grammar, the loosest first
pub data Place : Type 0 where
  disjunction : Place
  conjunction : Place
  inversion : Place
  comparison : Place
  sum : Place
  term : Place
  factor : Place
  primary : Place

-- how strongly a form has to bind there
abbrev pub level : Place → ℕ
level disjunction = 1
level conjunction = 2
level inversion = 3
level comparison = 4
level sum = 5
level term = 6
level factor = 7
level primary = 8

abbrev pub Form : Place → ℕ → List Lexeme → Spelled → Type 0
Form disjunction = IsChain Disjunction
Form conjunction = IsChain Conjunction
Form inversion = IsInversion
Form comparison = IsComparison
Form sum = IsChain Sum
Form term = IsChain Term
Form factor = IsFactor
Form primary = IsPrimary

pub grows : (place : Place) (room : ℕ) (ts : List Lexeme) (e : Spelled) → Form place room ts e → Form place (suc room) ts e
grows disjunction room ts e h = grows_chain h
grows conjunction room ts e h = grows_chain h
grows inversion room ts e h = grows_inversion h
grows comparison room ts e h = grows_comparison h
grows sum room ts e h = grows_chain h
grows term room ts e h = grows_chain h
grows factor room ts e h = grows_factor h
grows primary room ts e h = grows_primary h

-- ---- what binds more strongly may stand in a looser place

factor_of : (from : Place) (room : ℕ) (ts : List Lexeme) (e : Spelled) → 7 ≤ level from → Form from room ts e → IsFactor room ts e
factor_of primary room ts e l h = grammar.primary h
factor_of factor room ts e l h = h
factor_of from room ts e l h = absurd (omega (arith, l))

term_of : (from : Place) (room : ℕ) (ts : List Lexeme) (e : Spelled) → 6 ≤ level from → Form from room ts e → IsChain Term room ts e
term_of term room ts e l h = h
term_of from room ts e l h = grammar.alone (grammar.of_term (factor_of from room ts e (omega (arith, l)) h))

sum_of : (from : Place) (room : ℕ) (ts : List Lexeme) (e : Spelled) → 5 ≤ level from → Form from room ts e → IsChain Sum room ts e
sum_of sum room ts e l h = h
sum_of from room ts e l h = grammar.alone (grammar.of_sum (term_of from room ts e (omega (arith, l)) h))

comparison_of : (from : Place) (room : ℕ) (ts : List Lexeme) (e : Spelled) → 4 ≤ level from → Form from room ts e → IsComparison room ts e
comparison_of comparison room ts e l h = h
comparison_of from room ts e l h = grammar.sum (sum_of from room ts e (omega (arith, l)) h)

inversion_of : (from : Place) (room : ℕ) (ts : List Lexeme) (e : Spelled) → 3 ≤ level from → Form from room ts e → IsInversion room ts e
inversion_of inversion room ts e l h = h
inversion_of from room ts e l h = grammar.comparison (comparison_of from room ts e (omega (arith, l)) h)

conjunction_of : (from : Place) (room : ℕ) (ts : List Lexeme) (e : Spelled) → 2 ≤ level from → Form from room ts e → IsChain Conjunction room ts e
conjunction_of conjunction room ts e l h = h
conjunction_of from room ts e l h = grammar.alone (grammar.of_and (inversion_of from room ts e (omega (arith, l)) h))

disjunction_of : (from : Place) (room : ℕ) (ts : List Lexeme) (e : Spelled) → 1 ≤ level from → Form from room ts e → IsChain Disjunction room ts e
disjunction_of disjunction room ts e l h = h
disjunction_of from room ts e l h = grammar.alone (grammar.of_or (conjunction_of from room ts e (omega (arith, l)) h))

primary_of : (from : Place) (room : ℕ) (ts : List Lexeme) (e : Spelled) → 8 ≤ level from → Form from room ts e → IsPrimary room ts e
primary_of primary room ts e l h = h
primary_of from room ts e l h = absurd (omega (arith, l))

loosened : (to from : Place) (room : ℕ) (ts : List Lexeme) (e : Spelled) → level to ≤ level from → Form from room ts e → Form to room ts e
loosened disjunction = disjunction_of
loosened conjunction = conjunction_of
loosened inversion = inversion_of
loosened comparison = comparison_of
loosened sum = sum_of
loosened term = term_of
loosened factor = factor_of
loosened primary = primary_of

positive : (place : Place) → 1 ≤ level place
positive disjunction = omega arith
positive conjunction = omega arith
positive inversion = omega arith
positive comparison = omega arith
positive sum = omega arith
positive term = omega arith
positive factor = omega arith
positive primary = omega arith

at_most_8 : (place : Place) → level place ≤ 8
at_most_8 disjunction = omega arith
at_most_8 conjunction = omega arith
at_most_8 inversion = omega arith
at_most_8 comparison = omega arith
at_most_8 sum = omega arith
at_most_8 term = omega arith
at_most_8 factor = omega arith
at_most_8 primary = omega arith

-- ---- what is printed

-- spelled there, as a target or not
abbrev pub Stands : Place → ℕ → List Lexeme → Expr → Type 0
Stands place room ts e = (is_target : Bool) × Form place room ts (record { tree = e; is_target = is_target })

-- what is printed is spelled in the place that its strength says
pub record Own (room : ℕ) (p : Printed) (e : Expr) : Type 0 where
  pub place : Place
  pub binds : p.strength ≡ level place
  pub stands : Stands place room p.tokens e

-- What is printed is spelled, and in parentheses too where it needs them in this place.
pub record Fits (place : Place) (room : ℕ) (p : Printed) (e : Expr) : Type 0 where
  pub own : Own room p e
  pub inner : p.strength < level place → (less : ℕ) × (room ≡ suc less) × Own less p e

-- where whole expressions stand, whatever is printed stands without parentheses
pub whole : {room : ℕ} {p : Printed} {e : Expr} → Own room p e → Stands disjunction room p.tokens e
whole {room = room} {p = p} {e = e} own = (own.stands.0, disjunction_of own.place room p.tokens (record { tree = e; is_target = own.stands.0 }) (positive own.place) own.stands.1)

bare : (place : Place) (room : ℕ) (p : Printed) (e : Expr) → Own room p e → level place ≤ p.strength → Stands place room p.tokens e
bare place room p e own l = (own.stands.0, loosened place own.place room p.tokens (record { tree = e; is_target = own.stands.0 }) (subst (λ n. level place ≤ n) own.binds l) own.stands.1)

in_parens : (place : Place) (room : ℕ) (ts : List Lexeme) (e : Expr) → Stands disjunction room ts e → Stands place (suc room) (enclosed token.OpenParen ts token.CloseParen) e
in_parens place room ts e h = (false, loosened place primary (suc room) (enclosed token.OpenParen ts token.CloseParen) (record { tree = e; is_target = false }) (at_most_8 place) (grammar.parens h.1))

-- what fits stands in its place, in parentheses where it binds less
pub placed : {place : Place} {room : ℕ} {p : Printed} {e : Expr} → Fits place room p e → Stands place room (operand (level place) p) e
placed {place = place} {room = room} {p = p} {e = e} fits = elim (cases_Bool (nat_lt p.strength (level place))) [
  | inl less ↦
      let given = fits.inner (ltb-true p.strength (level place) less) in
      let spelled : Stands place (suc given.0) (enclosed token.OpenParen p.tokens token.CloseParen) e = in_parens place given.0 p.tokens e (whole given.2) in
      subst (λ n. Stands place n (operand (level place) p) e) (sym given.1) (subst (λ ts. Stands place (suc given.0) ts e) (sym (cond-true (nat_lt p.strength (level place)) (enclosed token.OpenParen p.tokens token.CloseParen) p.tokens less)) spelled)
  | inr more ↦ subst (λ ts. Stands place room ts e) (sym (cond-false (nat_lt p.strength (level place)) (enclosed token.OpenParen p.tokens token.CloseParen) p.tokens more)) (bare place room p e fits.own (ltb-false p.strength (level place) more))
]

-- ---- how it comes to fit

grown : {room : ℕ} {p : Printed} {e : Expr} → Own room p e → Own (suc room) p e
grown {room = room} {p = p} {e = e} own = record {
  place = own.place;
  binds = own.binds;
  stands = (own.stands.0, grows own.place room p.tokens (record { tree = e; is_target = own.stands.0 }) own.stands.1);
}

-- in parentheses it fits everywhere
pub parenthesised : {place : Place} (to : Place) {room : ℕ} {p : Printed} {e : Expr} → Fits place room p e → Fits to (suc room) p e
parenthesised to {room = room} fits = record { own = grown fits.own; inner = λ l. (room, refl, fits.own) }

pub looser : (to from : Place) {room : ℕ} {p : Printed} {e : Expr} → level to ≤ level from → Fits from room p e → Fits to room p e
looser to from {p = p} l fits = record { own = fits.own; inner = λ k. fits.inner (omega (arith, l, k)) }

-- what is printed as strongly as its place asks
pub exact : (place : Place) (room : ℕ) (p : Printed) (e : Expr) → p.strength ≡ level place → Stands place room p.tokens e → Fits place room p e
exact place room p e is stands = record {
  own = record { place = place; binds = is; stands = stands };
  inner = λ l. absurd (omega (arith, l, is));
}
