-- How a lexeme is spelled (Language Reference 2.3 to 2.6).
use Rattle.std.specs.Prelude.{ℕ, List, [], ◌++◌, codes}
use Rattle.std.specs.Fmt.{signed_decimal}
use Rattle.base_spelling.specs.Spelling.{quoted}
use Rattle.py_syntax.specs.declared.lexeme.Lexeme.{Lexeme}
use Rattle.py_syntax.specs.declared.lexeme.Lexeme.TheVariants as token

-- Each of these is empty for the lexemes that it does not name.

-- keywords of expressions (Language Reference 2.3.1)
abbrev pub word_of_expression : Lexeme → List ℕ
word_of_expression token.And = codes "and"
word_of_expression token.False = codes "False"
word_of_expression token.In = codes "in"
word_of_expression token.Is = codes "is"
word_of_expression token.None = codes "None"
word_of_expression token.Not = codes "not"
word_of_expression token.Or = codes "or"
word_of_expression token.True = codes "True"
word_of_expression t = []

-- keywords of simple statements, with `as`, which handlers have too
abbrev pub word_of_line : Lexeme → List ℕ
word_of_line token.As = codes "as"
word_of_line token.Break = codes "break"
word_of_line token.Continue = codes "continue"
word_of_line token.Del = codes "del"
word_of_line token.From = codes "from"
word_of_line token.Global = codes "global"
word_of_line token.Import = codes "import"
word_of_line token.Pass = codes "pass"
word_of_line token.Raise = codes "raise"
word_of_line token.Return = codes "return"
word_of_line t = []

-- keywords of compound statements
abbrev pub word_of_block : Lexeme → List ℕ
word_of_block token.Def = codes "def"
word_of_block token.Elif = codes "elif"
word_of_block token.Else = codes "else"
word_of_block token.Except = codes "except"
word_of_block token.Finally = codes "finally"
word_of_block token.If = codes "if"
word_of_block token.Try = codes "try"
word_of_block token.While = codes "while"
word_of_block t = []

-- comparisons and arithmetic operators (Language Reference 2.5)
abbrev pub sign_of_operator : Lexeme → List ℕ
sign_of_operator token.EqEq = codes "=="
sign_of_operator token.NotEq = codes "!="
sign_of_operator token.Less = codes "<"
sign_of_operator token.LessEq = codes "<="
sign_of_operator token.Greater = codes ">"
sign_of_operator token.GreaterEq = codes ">="
sign_of_operator token.Plus = codes "+"
sign_of_operator token.Minus = codes "-"
sign_of_operator token.Star = codes "*"
sign_of_operator token.SlashSlash = codes "//"
sign_of_operator token.Percent = codes "%"
sign_of_operator t = []

-- assignments, plain and augmented, which are delimiters (Language Reference 2.6)
abbrev pub sign_of_assignment : Lexeme → List ℕ
sign_of_assignment token.Assign = codes "="
sign_of_assignment token.PlusEq = codes "+="
sign_of_assignment token.MinusEq = codes "-="
sign_of_assignment token.StarEq = codes "*="
sign_of_assignment token.SlashSlashEq = codes "//="
sign_of_assignment token.PercentEq = codes "%="
sign_of_assignment t = []

-- brackets, and the marks between (Language Reference 2.6)
abbrev pub mark : Lexeme → List ℕ
mark token.OpenParen = codes "("
mark token.CloseParen = codes ")"
mark token.OpenBracket = codes "["
mark token.CloseBracket = codes "]"
mark token.Comma = codes ","
mark token.Colon = codes ":"
mark token.Semicolon = codes ";"
mark token.Dot = codes "."
mark token.Ellipsis = codes "..."
mark t = []

-- the one spelling of a keyword, an operator or a delimiter, which at most one of the six names
abbrev pub fixed : Lexeme → List ℕ
fixed t = word_of_expression t ++ (word_of_line t ++ (word_of_block t ++ (sign_of_operator t ++ (sign_of_assignment t ++ mark t))))

-- a name stands for itself, a number in decimal, a string in quotes with its escapes
abbrev pub spelled : Lexeme → List ℕ
spelled (token.Name n) = n
spelled (token.Number n) = signed_decimal n
spelled (token.Str s) = quoted s
spelled (token.Other text) = text
spelled t = fixed t
