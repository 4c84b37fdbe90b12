-- Characters, and what each begins outside strings and comments.
use Rattle.std.specs.Prelude.{ℕ, Bool, false, ◌||◌, ◌&&◌, ◌==◌, nat_lt, not, if◌then◌else◌, List, [], ◌∷◌, IsTrue, IsFalse}
use Rattle.std.specs.List.{AllByRecursion}
use Rattle.spec_core.specs.Identifiers.{starts_identifier}
use Rattle.py_lexer.specs.declared.chars.Class.{Class}
use Rattle.py_lexer.specs.declared.chars.Class.TheVariants.{White, Hash, LineEnd, Backslash, Digit, Quote, Letter, Other}

-- blank, tab and form feed
abbrev pub is_white : ℕ → Bool
is_white c = (c == 32 || c == 9) || c == 12

-- LF and CR
abbrev pub is_end : ℕ → Bool
is_end c = c == 10 || c == 13

-- ' and "
abbrev pub is_quote : ℕ → Bool
is_quote c = c == 39 || c == 34

-- `0` to `9`, which are 48 to 57
abbrev pub is_digit : ℕ → Bool
is_digit c = not (nat_lt c 48) && not (nat_lt 57 c)

-- what a character begins: `#` is 35, a backslash 92
unfoldable pub class_of : ℕ → Class
class_of c =
    if is_white c then White
    else if c == 35 then Hash
    else if is_end c then LineEnd
    else if c == 92 then Backslash
    else if is_digit c then Digit
    else if is_quote c then Quote
    else if starts_identifier c then Letter
    else Other

-- the text has a first character, and that passes
abbrev pub head_passes : (ℕ → Bool) → List ℕ → Bool
head_passes p [] = false
head_passes p (c ∷ cs) = p c

-- a run of characters that pass, as long as possible
pub record IsRun (p : ℕ → Bool) (run after : List ℕ) : Type 0 where
  pub all : AllByRecursion (λ c. IsTrue (p c)) run
  pub longest : IsFalse (head_passes p after)

-- a line end as long as possible: LF, CR LF or CR
pub data IsLineEnd : List ℕ → List ℕ → Type 0 where
  lf : {after : List ℕ} → IsLineEnd (10 ∷ []) after
  crlf : {after : List ℕ} → IsLineEnd (13 ∷ 10 ∷ []) after
  cr : {after : List ℕ} → IsFalse (head_passes (λ c. c == 10) after) → IsLineEnd (13 ∷ []) after
