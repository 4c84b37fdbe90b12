-- Lexemes that stand on lines: rows of lexemes with their brackets closed, a line
-- end behind each, and Indent and Dedent where a block begins and behind it.
use Rattle.std.specs.Prelude.{◌≡◌, ℕ, zero, suc, ◌<◌, ℤ, Bool, true, false, List, [], ◌∷◌, ◌++◌, length}
use Rattle.py_syntax.specs.declared.lexeme.Lexeme.{Lexeme}
use Rattle.py_syntax.specs.declared.lexeme.Lexeme.TheVariants as token

-- the lexeme passes
abbrev pub Passes : (Lexeme → Bool) → Lexeme → Type 0
Passes p t = p t ≡ true

-- what is said holds of each lexeme
abbrev pub Held : (Lexeme → Type 0) → List Lexeme → Type 0
Held P [] = Unit {0}
Held P (t ∷ ts) = P t × Held P ts

-- a keyword or a sign that is printed, and no bracket
unfoldable pub is_fixed : Lexeme → Bool
is_fixed token.And = true
is_fixed token.As = true
is_fixed token.Break = true
is_fixed token.Continue = true
is_fixed token.Def = true
is_fixed token.Del = true
is_fixed token.Elif = true
is_fixed token.Else = true
is_fixed token.Except = true
is_fixed token.False = true
is_fixed token.Finally = true
is_fixed token.From = true
is_fixed token.Global = true
is_fixed token.If = true
is_fixed token.Import = true
is_fixed token.In = true
is_fixed token.Is = true
is_fixed token.None = true
is_fixed token.Not = true
is_fixed token.Or = true
is_fixed token.Pass = true
is_fixed token.Raise = true
is_fixed token.Return = true
is_fixed token.True = true
is_fixed token.Try = true
is_fixed token.While = true
is_fixed token.PlusEq = true
is_fixed token.MinusEq = true
is_fixed token.StarEq = true
is_fixed token.SlashSlashEq = true
is_fixed token.PercentEq = true
is_fixed token.EqEq = true
is_fixed token.NotEq = true
is_fixed token.Less = true
is_fixed token.LessEq = true
is_fixed token.Greater = true
is_fixed token.GreaterEq = true
is_fixed token.Plus = true
is_fixed token.Minus = true
is_fixed token.Star = true
is_fixed token.SlashSlash = true
is_fixed token.Percent = true
is_fixed token.Comma = true
is_fixed token.Colon = true
is_fixed token.Dot = true
is_fixed token.Assign = true
is_fixed t = false

-- a name, a number or a string of which P holds, or a keyword or sign
pub data IsPlain (P : Lexeme → Type 0) : Lexeme → Type 0 where
  name : {n : List ℕ} → P (token.Name n) → IsPlain P (token.Name n)
  number : {n : ℤ} → P (token.Number n) → IsPlain P (token.Number n)
  string : {s : List ℕ} → P (token.Str s) → IsPlain P (token.Str s)
  fixed : {t : Lexeme} → is_fixed t ≡ true → IsPlain P t

-- a part of a line with its brackets closed
pub data Row (P : Lexeme → Type 0) : List Lexeme → Type 0 where
  nothing : Row P []
  plain : {t : Lexeme} {ts : List Lexeme} → IsPlain P t → Row P ts → Row P (t ∷ ts)
  parens : {xs ys : List Lexeme} → Row P xs → Row P ys → Row P (token.OpenParen ∷ (xs ++ token.CloseParen ∷ ys))
  brackets : {xs ys : List Lexeme} → Row P xs → Row P ys → Row P (token.OpenBracket ∷ (xs ++ token.CloseBracket ∷ ys))

mutual
  -- the lexemes behind a line, where so many levels are open
  pub data Laid (P : Lexeme → Type 0) : ℕ → List Lexeme → Type 0 where
    finish : Laid P zero (token.End ∷ [])
    here : {depth : ℕ} {ts : List Lexeme} → Lined P depth ts → Laid P depth ts
    back : {depth : ℕ} {ts : List Lexeme} → Laid P depth ts → Laid P (suc depth) (token.Dedent ∷ ts)

  -- a line begins, at the level that is open last
  pub data Lined (P : Lexeme → Type 0) : ℕ → List Lexeme → Type 0 where
    line : {depth : ℕ} {row ts : List Lexeme} → Row P row → 0 < length row → Laid P depth ts → Lined P depth (row ++ token.Newline ∷ ts)
    opens : {depth : ℕ} {row ts : List Lexeme} → Row P row → 0 < length row → Lined P (suc depth) ts → Lined P depth (row ++ token.Newline ∷ token.Indent ∷ ts)
