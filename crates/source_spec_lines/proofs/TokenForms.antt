-- Readers of single tokens are right.
use Rattle.std.proofs.Common.{◌≡◌, ℕ, suc, ◌==◌, Bool, true, false, List, [], ◌∷◌, length, Option, Some, None, refl}
use Rattle.source_combinators.specs.Reading.{Read, given, refused, head_of}
use Rattle.source_combinators.proofs.Right.{Found, Right}
use Rattle.source_combinators.proofs.Steps.{IsToken, token_there, token_missing, token_cut, none_read, none_at_end, one_read}
use Rattle.py_syntax.specs.declared.lexeme.Lexeme.{Lexeme}
use Rattle.py_syntax.specs.declared.lexeme.Lexeme.TheVariants as token
use Rattle.py_syntax.specs.declared.expr.Level.{Level}
use Rattle.py_syntax.specs.declared.expr.Level.TheVariants.{Disjunction, Conjunction, Sum, Term}
use Rattle.py_syntax.specs.Expressions as grammar
use Rattle.py_syntax.specs.Expressions.{IsOperator}
use Rattle.source_spec_lines.specs.Expressions.{close_paren, close_bracket, comma, strength, strength_of, join}

pub right_close_paren : (room : ℕ) (ts : List Lexeme) → Right close_paren (IsToken token.CloseParen) room ts (close_paren ts)
unfolding close_paren
right_close_paren room [] = token_cut close_paren token.CloseParen room refl
right_close_paren room (token.CloseParen ∷ ts) = token_there close_paren token.CloseParen room ts (λ tail. refl)
right_close_paren room (t ∷ ts) = token_missing close_paren token.CloseParen t room ts (λ tail. refl)

pub right_close_bracket : (room : ℕ) (ts : List Lexeme) → Right close_bracket (IsToken token.CloseBracket) room ts (close_bracket ts)
unfolding close_bracket
right_close_bracket room [] = token_cut close_bracket token.CloseBracket room refl
right_close_bracket room (token.CloseBracket ∷ ts) = token_there close_bracket token.CloseBracket room ts (λ tail. refl)
right_close_bracket room (t ∷ ts) = token_missing close_bracket token.CloseBracket t room ts (λ tail. refl)

-- a comma, or nothing
pub data IsComma : ℕ → List Lexeme → Bool → Type 0 where
  comma_there : {room : ℕ} → IsComma room (token.Comma ∷ []) true
  no_comma : {room : ℕ} → IsComma room [] false

pub right_comma : (room : ℕ) (ts : List Lexeme) → Right comma IsComma room ts (comma ts)
unfolding comma
right_comma room [] = none_at_end comma IsComma room false no_comma refl
right_comma room (token.Comma ∷ ts) = one_read comma IsComma room true token.Comma ts comma_there (λ tail. refl)
right_comma room (t ∷ ts) = none_read comma IsComma room false t ts no_comma (λ tail. refl)

-- a token as strong as a level is one of its operators
pub operator_of : (level : Level) (t : Lexeme) → (strength (Some t) == strength_of level) ≡ true → IsOperator level t (join t)
unfolding strength join
operator_of Disjunction token.Or e = grammar.disjunction
operator_of Conjunction token.And e = grammar.conjunction
operator_of Sum token.Plus e = grammar.add
operator_of Sum token.Minus e = grammar.subtract
operator_of Term token.Star e = grammar.multiply
operator_of Term token.SlashSlash e = grammar.divide
operator_of Term token.Percent e = grammar.modulo
operator_of level t e = absurd cc
