-- What holds of every expression as it is spelled: it is spelled with more room too, and how it begins.
use Rattle.std.proofs.Common.{◌≡◌, ℕ, suc, ◌<◌, Bool, true, false, List, [], ◌∷◌, ◌++◌, length, Option, Some, None, refl, ap, ◌∙◌, append_assoc, arith}
use Rattle.source_combinators.specs.Reading.{head_of}
use Rattle.py_syntax.specs.declared.lexeme.Lexeme.{Lexeme}
use Rattle.py_syntax.specs.declared.lexeme.Lexeme.TheVariants as token
use Rattle.py_syntax.specs.declared.expr.Expr.{Expr}
use Rattle.py_syntax.specs.declared.expr.Level.{Level}
use Rattle.py_syntax.specs.declared.expr.Level.TheVariants.{Disjunction, Conjunction, Sum, Term}
use Rattle.py_syntax.specs.declared.expr.Spelled.{Spelled}
use Rattle.py_syntax.specs.Expressions as grammar
use Rattle.py_syntax.specs.Expressions.{IsChain, IsOperand, IsInversion, IsComparison, IsFactor, IsPrimary, IsItems}
use Rattle.source_spec_lines.specs.Expressions.{starts}

-- ---- with more room

mutual
  pub grows_chain : {level : Level} {room : ℕ} {ts : List Lexeme} {e : Spelled} → IsChain level room ts e → IsChain level (suc room) ts e
  grows_chain (grammar.alone h) = grammar.alone (grows_operand h)
  grows_chain (grammar.joined h o k) = grammar.joined (grows_chain h) o (grows_operand k)

  pub grows_operand : {level : Level} {room : ℕ} {ts : List Lexeme} {e : Spelled} → IsOperand level room ts e → IsOperand level (suc room) ts e
  grows_operand (grammar.of_or h) = grammar.of_or (grows_chain h)
  grows_operand (grammar.of_and h) = grammar.of_and (grows_inversion h)
  grows_operand (grammar.of_sum h) = grammar.of_sum (grows_chain h)
  grows_operand (grammar.of_term h) = grammar.of_term (grows_factor h)

  pub grows_inversion : {room : ℕ} {ts : List Lexeme} {e : Spelled} → IsInversion room ts e → IsInversion (suc room) ts e
  grows_inversion (grammar.inverted h) = grammar.inverted (grows_inversion h)
  grows_inversion (grammar.comparison h) = grammar.comparison (grows_comparison h)

  pub grows_comparison : {room : ℕ} {ts : List Lexeme} {e : Spelled} → IsComparison room ts e → IsComparison (suc room) ts e
  grows_comparison (grammar.sum h) = grammar.sum (grows_chain h)
  grows_comparison (grammar.compared h c k) = grammar.compared (grows_chain h) c (grows_chain k)

  pub grows_factor : {room : ℕ} {ts : List Lexeme} {e : Spelled} → IsFactor room ts e → IsFactor (suc room) ts e
  grows_factor (grammar.negative h) = grammar.negative (grows_factor h)
  grows_factor (grammar.primary h) = grammar.primary (grows_primary h)

  pub grows_primary : {room : ℕ} {ts : List Lexeme} {e : Spelled} → IsPrimary room ts e → IsPrimary (suc room) ts e
  grows_primary (grammar.name n) = grammar.name n
  grows_primary (grammar.number n) = grammar.number n
  grows_primary (grammar.string s) = grammar.string s
  grows_primary grammar.none = grammar.none
  grows_primary grammar.yes = grammar.yes
  grows_primary grammar.no = grammar.no
  grows_primary (grammar.parens h) = grammar.parens (grows_chain h)
  grows_primary grammar.empty_tuple = grammar.empty_tuple
  grows_primary (grammar.tuple h k) = grammar.tuple (grows_chain h) (grows_items k)
  grows_primary (grammar.display h) = grammar.display (grows_items h)
  grows_primary (grammar.attribute n h) = grammar.attribute n (grows_primary h)
  grows_primary (grammar.call h k) = grammar.call (grows_primary h) (grows_items k)
  grows_primary (grammar.subscript h k) = grammar.subscript (grows_primary h) (grows_chain k)

  pub grows_items : {room : ℕ} {ts : List Lexeme} {es : List Expr} {is_open : Bool} → IsItems room ts es is_open → IsItems (suc room) ts es is_open
  grows_items grammar.no_items = grammar.no_items
  grows_items (grammar.last_item h) = grammar.last_item (grows_chain h)
  grows_items (grammar.next_item h k) = grammar.next_item (grows_chain h) (grows_items k)

-- ---- how a form begins

-- a name, a literal or an opening bracket
unfoldable pub begins_atom : Option Lexeme → Bool
begins_atom (Some (token.Name n)) = true
begins_atom (Some (token.Number n)) = true
begins_atom (Some (token.Str s)) = true
begins_atom (Some token.None) = true
begins_atom (Some token.True) = true
begins_atom (Some token.False) = true
begins_atom (Some token.OpenParen) = true
begins_atom (Some token.OpenBracket) = true
begins_atom t = false

-- or a minus
unfoldable pub begins_factor : Option Lexeme → Bool
begins_factor (Some token.Minus) = true
begins_factor t = begins_atom t

-- one whole is two parts, and the first one begins alike
begun : (P : Option Lexeme → Bool) (xs ys rest : List Lexeme) → ((more : List Lexeme) → P (head_of (xs ++ more)) ≡ true) → P (head_of ((xs ++ ys) ++ rest)) ≡ true
begun P xs ys rest h = ap (λ (l : List Lexeme). P (head_of l)) (append_assoc xs ys rest) ∙ h (ys ++ rest)

pub primary_begins : {room : ℕ} {ts : List Lexeme} {e : Spelled} → IsPrimary room ts e → (rest : List Lexeme) → begins_atom (head_of (ts ++ rest)) ≡ true
unfolding begins_atom
primary_begins (grammar.name n) rest = refl
primary_begins (grammar.number n) rest = refl
primary_begins (grammar.string s) rest = refl
primary_begins grammar.none rest = refl
primary_begins grammar.yes rest = refl
primary_begins grammar.no rest = refl
primary_begins (grammar.parens h) rest = refl
primary_begins grammar.empty_tuple rest = refl
primary_begins (grammar.tuple h k) rest = refl
primary_begins (grammar.display h) rest = refl
primary_begins (grammar.attribute {ts = ts} n h) rest = begun begins_atom ts (token.Dot ∷ token.Name n ∷ []) rest (λ more. primary_begins h more)
primary_begins (grammar.call {ts = ts} {us = us} h k) rest = begun begins_atom ts (token.OpenParen ∷ (us ++ token.CloseParen ∷ [])) rest (λ more. primary_begins h more)
primary_begins (grammar.subscript {ts = ts} {us = us} h k) rest = begun begins_atom ts (token.OpenBracket ∷ (us ++ token.CloseBracket ∷ [])) rest (λ more. primary_begins h more)

atom_is_factor : (t : Option Lexeme) → begins_atom t ≡ true → begins_factor t ≡ true
unfolding begins_factor
atom_is_factor (Some token.Minus) h = refl
atom_is_factor t h = h

factor_is_start : (t : Option Lexeme) → begins_factor t ≡ true → starts t ≡ true
unfolding begins_factor begins_atom starts
factor_is_start (Some (token.Name n)) h = refl
factor_is_start (Some (token.Number n)) h = refl
factor_is_start (Some (token.Str s)) h = refl
factor_is_start (Some token.None) h = refl
factor_is_start (Some token.True) h = refl
factor_is_start (Some token.False) h = refl
factor_is_start (Some token.OpenParen) h = refl
factor_is_start (Some token.OpenBracket) h = refl
factor_is_start (Some token.Minus) h = refl
factor_is_start (Some token.Not) h = refl
factor_is_start t h = h

pub factor_begins : {room : ℕ} {ts : List Lexeme} {e : Spelled} → IsFactor room ts e → (rest : List Lexeme) → begins_factor (head_of (ts ++ rest)) ≡ true
unfolding begins_factor
factor_begins (grammar.negative h) rest = refl
factor_begins (grammar.primary {ts = ts} h) rest = atom_is_factor (head_of (ts ++ rest)) (primary_begins h rest)

mutual
  pub term_begins : {room : ℕ} {ts : List Lexeme} {e : Spelled} → IsChain Term room ts e → (rest : List Lexeme) → begins_factor (head_of (ts ++ rest)) ≡ true
  term_begins (grammar.alone (grammar.of_term h)) rest = factor_begins h rest
  term_begins (grammar.joined {xs = xs} {ys = ys} {t = t} h o k) rest = begun begins_factor xs (t ∷ ys) rest (λ more. term_begins h more)

pub sum_begins : {room : ℕ} {ts : List Lexeme} {e : Spelled} → IsChain Sum room ts e → (rest : List Lexeme) → begins_factor (head_of (ts ++ rest)) ≡ true
sum_begins (grammar.alone (grammar.of_sum h)) rest = term_begins h rest
sum_begins (grammar.joined {xs = xs} {ys = ys} {t = t} h o k) rest = begun begins_factor xs (t ∷ ys) rest (λ more. sum_begins h more)

pub comparison_begins : {room : ℕ} {ts : List Lexeme} {e : Spelled} → IsComparison room ts e → (rest : List Lexeme) → begins_factor (head_of (ts ++ rest)) ≡ true
comparison_begins (grammar.sum h) rest = sum_begins h rest
comparison_begins (grammar.compared {xs = xs} {os = os} {ys = ys} h c k) rest = begun begins_factor xs (os ++ ys) rest (λ more. sum_begins h more)

pub inversion_starts : {room : ℕ} {ts : List Lexeme} {e : Spelled} → IsInversion room ts e → (rest : List Lexeme) → starts (head_of (ts ++ rest)) ≡ true
unfolding starts
inversion_starts (grammar.inverted h) rest = refl
inversion_starts (grammar.comparison {ts = ts} h) rest = factor_is_start (head_of (ts ++ rest)) (comparison_begins h rest)

mutual
  pub chain_starts : {level : Level} {room : ℕ} {ts : List Lexeme} {e : Spelled} → IsChain level room ts e → (rest : List Lexeme) → starts (head_of (ts ++ rest)) ≡ true
  chain_starts (grammar.alone h) rest = operand_starts h rest
  chain_starts (grammar.joined {xs = xs} {ys = ys} {t = t} h o k) rest = begun starts xs (t ∷ ys) rest (λ more. chain_starts h more)

  pub operand_starts : {level : Level} {room : ℕ} {ts : List Lexeme} {e : Spelled} → IsOperand level room ts e → (rest : List Lexeme) → starts (head_of (ts ++ rest)) ≡ true
  operand_starts (grammar.of_or h) rest = chain_starts h rest
  operand_starts (grammar.of_and h) rest = inversion_starts h rest
  operand_starts (grammar.of_sum h) rest = chain_starts h rest
  operand_starts (grammar.of_term {ts = ts} h) rest = factor_is_start (head_of (ts ++ rest)) (factor_begins h rest)

has_tokens : (ts : List Lexeme) → starts (head_of (ts ++ [])) ≡ true → 0 < length ts
unfolding starts
has_tokens [] h = absurd cc
has_tokens (t ∷ ts) h = omega arith

-- an expression has tokens
pub some_chain : {level : Level} {room : ℕ} {ts : List Lexeme} {e : Spelled} → IsChain level room ts e → 0 < length ts
some_chain {ts = ts} h = has_tokens ts (chain_starts h [])
