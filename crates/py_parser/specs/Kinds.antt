-- How the refused token is refused.
use Rattle.std.specs.Prelude.{ℕ, Bool, ◌&&◌, ◌||◌, if◌then◌else◌, List, [], ◌∷◌, Option, Some, None, codes}
use Rattle.std.specs.List.{list_any}
use Rattle.std.specs.Str.{bytes_eq}
use Rattle.source_combinators.specs.declared.fault.Refusal.{Refusal}
use Rattle.source_combinators.specs.declared.fault.Refusal.TheVariants as refusal
use Rattle.py_lexer.specs.declared.error.LexError.{LexError}
use Rattle.py_lexer.specs.declared.error.LexError.TheVariants.{NoMemory}
use Rattle.py_lexer.specs.declared.word.Tok.{Tok}
use Rattle.py_lexer.specs.declared.word.Tok.TheVariants as tok
use Rattle.py_lexer.specs.declared.word.Token.{Token}
use Rattle.py_parser.specs.declared.error.ParseError.{ParseError}
use Rattle.py_parser.specs.declared.error.ParseError.TheVariants as error

-- words of the parts of Python that are left out
abbrev pub listed_words : List (List ℕ)
listed_words =
    codes "class" ∷ codes "for" ∷ codes "with" ∷ codes "async" ∷ codes "await" ∷ codes "yield" ∷ codes "lambda" ∷ codes "nonlocal"
    ∷ codes "assert" ∷ codes "global" ∷ codes "def" ∷ []

-- signs of these parts
abbrev pub listed_signs : List (List ℕ)
listed_signs =
    codes "@" ∷ codes "**" ∷ codes "/" ∷ codes ":=" ∷ codes "&" ∷ codes "|" ∷ codes "^" ∷ codes "~" ∷ codes "<<" ∷ codes ">>" ∷ codes "->"
    ∷ codes "{" ∷ codes "}" ∷ codes "..." ∷ codes "=" ∷ codes "," ∷ codes "==" ∷ codes "!=" ∷ codes "<" ∷ codes "<=" ∷ codes ">" ∷ codes ">=" ∷ []

-- augmented operators that are left out
abbrev pub lacking : List (List ℕ)
lacking = codes "**=" ∷ codes ">>=" ∷ codes "<<=" ∷ codes "/=" ∷ codes "@=" ∷ codes "&=" ∷ codes "|=" ∷ codes "^=" ∷ []

-- words that may not leave a `finally` block
abbrev pub jumps : List (List ℕ)
jumps = codes "return" ∷ codes "break" ∷ codes "continue" ∷ []

-- the text is one of these
abbrev pub is_among : List (List ℕ) → List ℕ → Bool
is_among words text = list_any (bytes_eq text) words

-- a keyword belongs to what is left out where it is listed, and
-- `return`, `break` and `continue` inside a `finally` block
abbrev pub is_left_out_word : Bool → List ℕ → Bool
is_left_out_word inside_finally text = is_among listed_words text || (inside_finally && is_among jumps text)

-- a sign belongs to what is left out where it is listed, and where it is an augmented operator that the grammar lacks
abbrev pub is_left_out_sign : List ℕ → Bool
is_left_out_sign text = is_among listed_signs text || is_among lacking text

-- what is left out, where the token belongs to it
abbrev pub what_of : Bool → Tok → Option (List ℕ)
what_of inside_finally (tok.Str text) = Some (codes "string")
what_of inside_finally (tok.Keyword text) = if is_left_out_word inside_finally text then Some text else None
what_of inside_finally (tok.Op text) = if is_left_out_sign text then Some text else None
what_of inside_finally t = None

-- Profile where the token belongs to what is left out, else Syntax, each with its line
abbrev pub by_what : Option (List ℕ) → ℕ → ParseError
by_what (Some what) line = error.Profile line what
by_what None line = error.Syntax line

-- TooDeep, where only the limit on levels refuses the token; else
-- Profile, where it belongs to what is left out; else Syntax
abbrev pub refusal_of : Refusal → Bool → Token → ParseError
refusal_of refusal.TooDeep inside_finally t = error.TooDeep t.line
refusal_of refusal.Syntax inside_finally t = by_what (what_of inside_finally t.kind) t.line

-- of a source without tokens
abbrev pub without_tokens : LexError → ParseError
without_tokens NoMemory = error.NoMemory
without_tokens e = error.Lex e
