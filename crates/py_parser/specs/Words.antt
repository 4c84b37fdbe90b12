-- What each token is to the grammar: the keywords and signs that a production names, and all others by their spelling.
use Rattle.std.specs.Prelude.{ℕ, Bool, nat_eq, if◌then◌else◌, List, map, Option, Some, None, codes}
use Rattle.std.specs.Option.{option_or}
use Rattle.std.specs.Cmp.Lexicographic.{pointwise}
use Rattle.py_lexer.specs.declared.word.Tok.{Tok}
use Rattle.py_lexer.specs.declared.word.Tok.TheVariants as tok
use Rattle.py_lexer.specs.declared.word.Token.{Token}
use Rattle.py_syntax.specs.declared.lexeme.Lexeme.{Lexeme}
use Rattle.py_syntax.specs.declared.lexeme.Lexeme.TheVariants as token

-- the two texts have the same bytes
abbrev pub same_text : List ℕ → List ℕ → Bool
same_text = pointwise nat_eq

-- ---- keywords (Language Reference 2.3.1)

-- constants (Language Reference 6.2.1)
abbrev pub constant : List ℕ → Option Lexeme
constant text =
    if same_text text (codes "False") then Some token.False
    else if same_text text (codes "None") then Some token.None
    else if same_text text (codes "True") then Some token.True
    else None

-- words of expressions
abbrev pub word_of_expression : List ℕ → Option Lexeme
word_of_expression text =
    if same_text text (codes "and") then Some token.And
    else if same_text text (codes "in") then Some token.In
    else if same_text text (codes "is") then Some token.Is
    else if same_text text (codes "not") then Some token.Not
    else if same_text text (codes "or") then Some token.Or
    else None

-- words of simple statements
abbrev pub word_of_jump : List ℕ → Option Lexeme
word_of_jump text =
    if same_text text (codes "break") then Some token.Break
    else if same_text text (codes "continue") then Some token.Continue
    else if same_text text (codes "del") then Some token.Del
    else if same_text text (codes "pass") then Some token.Pass
    else if same_text text (codes "raise") then Some token.Raise
    else if same_text text (codes "return") then Some token.Return
    else None

-- words of imports and of `global`
abbrev pub word_of_import : List ℕ → Option Lexeme
word_of_import text =
    if same_text text (codes "as") then Some token.As
    else if same_text text (codes "from") then Some token.From
    else if same_text text (codes "global") then Some token.Global
    else if same_text text (codes "import") then Some token.Import
    else None

-- words of compound statements
abbrev pub word_of_block : List ℕ → Option Lexeme
word_of_block text =
    if same_text text (codes "def") then Some token.Def
    else if same_text text (codes "elif") then Some token.Elif
    else if same_text text (codes "else") then Some token.Else
    else if same_text text (codes "except") then Some token.Except
    else if same_text text (codes "finally") then Some token.Finally
    else if same_text text (codes "if") then Some token.If
    else if same_text text (codes "try") then Some token.Try
    else if same_text text (codes "while") then Some token.While
    else None

-- the lexeme of a keyword that a production names, and none for any other
unfoldable pub keyword : List ℕ → Option Lexeme
keyword text = option_or (constant text) (option_or (word_of_expression text) (option_or (word_of_jump text) (option_or (word_of_import text) (word_of_block text))))

-- ---- operators and delimiters (2.5, 2.6)

-- assignments
abbrev pub sign_of_assignment : List ℕ → Option Lexeme
sign_of_assignment text =
    if same_text text (codes "=") then Some token.Assign
    else if same_text text (codes "+=") then Some token.PlusEq
    else if same_text text (codes "-=") then Some token.MinusEq
    else if same_text text (codes "*=") then Some token.StarEq
    else if same_text text (codes "//=") then Some token.SlashSlashEq
    else if same_text text (codes "%=") then Some token.PercentEq
    else None

-- comparisons
abbrev pub sign_of_comparison : List ℕ → Option Lexeme
sign_of_comparison text =
    if same_text text (codes "==") then Some token.EqEq
    else if same_text text (codes "!=") then Some token.NotEq
    else if same_text text (codes "<") then Some token.Less
    else if same_text text (codes "<=") then Some token.LessEq
    else if same_text text (codes ">") then Some token.Greater
    else if same_text text (codes ">=") then Some token.GreaterEq
    else None

-- arithmetic
abbrev pub sign_of_number : List ℕ → Option Lexeme
sign_of_number text =
    if same_text text (codes "+") then Some token.Plus
    else if same_text text (codes "-") then Some token.Minus
    else if same_text text (codes "*") then Some token.Star
    else if same_text text (codes "//") then Some token.SlashSlash
    else if same_text text (codes "%") then Some token.Percent
    else None

-- brackets
abbrev pub bracket : List ℕ → Option Lexeme
bracket text =
    if same_text text (codes "(") then Some token.OpenParen
    else if same_text text (codes ")") then Some token.CloseParen
    else if same_text text (codes "[") then Some token.OpenBracket
    else if same_text text (codes "]") then Some token.CloseBracket
    else None

-- marks between
abbrev pub mark : List ℕ → Option Lexeme
mark text =
    if same_text text (codes ",") then Some token.Comma
    else if same_text text (codes ":") then Some token.Colon
    else if same_text text (codes ";") then Some token.Semicolon
    else if same_text text (codes ".") then Some token.Dot
    else if same_text text (codes "...") then Some token.Ellipsis
    else None

-- the lexeme of an operator or a delimiter that a production names, and none for any other
unfoldable pub sign : List ℕ → Option Lexeme
sign text = option_or (sign_of_assignment text) (option_or (sign_of_comparison text) (option_or (sign_of_number text) (option_or (bracket text) (mark text))))

-- ---- tokens

-- one that no production names stands for its spelling
abbrev pub named : List ℕ → Option Lexeme → Lexeme
named text (Some t) = t
named text None = token.Other text

-- a keyword or a sign by its spelling, and any other token as it is: names, numbers and strings with what they say
abbrev pub lexeme_of : Tok → Lexeme
lexeme_of (tok.Name n) = token.Name n
lexeme_of (tok.Keyword text) = named text (keyword text)
lexeme_of (tok.Number n) = token.Number n
lexeme_of (tok.Str s) = token.Str s
lexeme_of (tok.Op text) = named text (sign text)
lexeme_of tok.Newline = token.Newline
lexeme_of tok.Indent = token.Indent
lexeme_of tok.Dedent = token.Dedent
lexeme_of tok.End = token.End

-- the grammar does not see in which line a token stands
abbrev pub lexeme_at : Token → Lexeme
lexeme_at t = lexeme_of t.kind

-- the tokens of a source as the grammar sees them, in their order
abbrev pub lexemes_of : List Token → List Lexeme
lexemes_of ts = map lexeme_at ts
