-- A text that is written lexeme by lexeme.
use Rattle.std.specs.Prelude.{◌+◌, ◌-◌, true, false, ◌++◌, codes}
use Rattle.py_syntax.specs.declared.lexeme.Lexeme.{Lexeme}
use Rattle.py_syntax.specs.declared.lexeme.Lexeme.TheVariants as token
use Rattle.source_print.specs.Spelling.{spelled}
use Rattle.source_print.specs.Text.{lead}
use Rattle.source_print.specs.declared.page.Page.{Page}

-- a lexeme that has a spelling: what stands before it comes first, and the line goes on behind it
abbrev pub with_plain : Page → Lexeme → Page
with_plain page t = record { text = (page.text ++ lead page.depth page.is_first) ++ spelled t; depth = page.depth; is_first = false }

-- one more lexeme: Newline ends the line, Indent and Dedent change how many levels are open, and End gives nothing
abbrev pub written : Page → Lexeme → Page
written page token.Newline = record { text = page.text ++ codes "\n"; depth = page.depth; is_first = true }
written page token.Indent = record { text = page.text; depth = page.depth + 1; is_first = page.is_first }
written page token.Dedent = record { text = page.text; depth = page.depth - 1; is_first = page.is_first }
written page token.End = page
written page t = with_plain page t
