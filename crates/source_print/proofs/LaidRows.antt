-- Rows that are put one behind the other.
use Rattle.std.proofs.Common.{◌≡◌, sym, subst, ℕ, true, List, [], ◌∷◌, ◌++◌, append_assoc, flat_map, inl, inr}
use Rattle.std.specs.Prelude.{nat_lt}
use Rattle.std.proofs.lemmas.Bool.{cases_Bool, cond-true, cond-false}
use Rattle.py_syntax.specs.declared.lexeme.Lexeme.{Lexeme}
use Rattle.py_syntax.specs.declared.lexeme.Lexeme.TheVariants as token
use Rattle.source_print.specs.Expressions.{Printed, enclosed, operand, separated}
use Rattle.source_print.specs.Lines as line
use Rattle.source_print.specs.Lines.{Held, IsPlain, is_fixed, Row}

-- what holds of all holds of a part
pub held_front : (P : Lexeme → Type 0) (xs ys : List Lexeme) → Held P (xs ++ ys) → Held P xs
held_front P [] ys h = tt
held_front P (x ∷ xs) ys h = (h.0, held_front P xs ys h.1)

pub held_back : (P : Lexeme → Type 0) (xs ys : List Lexeme) → Held P (xs ++ ys) → Held P ys
held_back P [] ys h = h
held_back P (x ∷ xs) ys h = held_back P xs ys h.1

abbrev pub Rows : (Lexeme → Type 0) → List (List Lexeme) → Type 0
Rows P [] = Unit {0}
Rows P (ts ∷ tss) = Row P ts × Rows P tss

module _ {P : Lexeme → Type 0} where
  pub row_behind : {xs ys : List Lexeme} → Row P xs → Row P ys → Row P (xs ++ ys)
  row_behind line.nothing q = q
  row_behind (line.plain t h) q = line.plain t (row_behind h q)
  row_behind {ys = zs} (line.parens {xs = xs} {ys = ys} h k) q = subst (λ ts. Row P (token.OpenParen ∷ ts)) (sym (append_assoc xs (token.CloseParen ∷ ys) zs)) (line.parens h (row_behind k q))
  row_behind {ys = zs} (line.brackets {xs = xs} {ys = ys} h k) q = subst (λ ts. Row P (token.OpenBracket ∷ ts)) (sym (append_assoc xs (token.CloseBracket ∷ ys) zs)) (line.brackets h (row_behind k q))

  pub sign_row : (t : Lexeme) {ts : List Lexeme} → is_fixed t ≡ true → Row P ts → Row P (t ∷ ts)
  sign_row t f h = line.plain (line.fixed f) h

  pub parens_row : {ts : List Lexeme} → Row P ts → Row P (enclosed token.OpenParen ts token.CloseParen)
  parens_row h = line.parens h line.nothing

  pub brackets_row : {ts : List Lexeme} → Row P ts → Row P (enclosed token.OpenBracket ts token.CloseBracket)
  brackets_row h = line.brackets h line.nothing

  pub operand_row : (least : ℕ) (p : Printed) → Row P p.tokens → Row P (operand least p)
  operand_row least p h = elim (cases_Bool (nat_lt p.strength least)) [
    | inl less ↦ subst (Row P) (sym (cond-true (nat_lt p.strength least) (enclosed token.OpenParen p.tokens token.CloseParen) p.tokens less)) (parens_row h)
    | inr more ↦ subst (Row P) (sym (cond-false (nat_lt p.strength least) (enclosed token.OpenParen p.tokens token.CloseParen) p.tokens more)) h
  ]

  others_row : (sep : Lexeme) → is_fixed sep ≡ true → (tss : List (List Lexeme)) → Rows P tss → Row P (flat_map (λ ts. sep ∷ ts) tss)
  others_row sep f [] h = line.nothing
  others_row sep f (ts ∷ tss) h = sign_row sep f (row_behind h.0 (others_row sep f tss h.1))

  -- rows with a sign between
  pub separated_row : (sep : Lexeme) → is_fixed sep ≡ true → (tss : List (List Lexeme)) → Rows P tss → Row P (separated sep tss)
  separated_row sep f [] h = line.nothing
  separated_row sep f (ts ∷ tss) h = row_behind h.0 (others_row sep f tss h.1)
