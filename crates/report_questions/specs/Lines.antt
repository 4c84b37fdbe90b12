-- The first tokens of import statements (Language Reference 7.11), and their lines. Such a token is a `from`, or an
-- `import` that begins the text or stands behind a token that ends a statement or opens a block.
use Rattle.std.specs.Prelude.{ℕ, Bool, true, false, ◌&&◌, ◌||◌, if◌then◌else◌, List, [], ◌∷◌, codes}
use Rattle.std.specs.Str.{bytes_eq}
use Rattle.py_lexer.specs.declared.word.Tok.{Tok}
use Rattle.py_lexer.specs.declared.word.Tok.TheVariants as tok
use Rattle.py_lexer.specs.declared.word.Token.{Token}

-- behind Newline, Indent, Dedent, `;` or `:` a statement may begin
abbrev pub ends_statement : Tok → Bool
ends_statement tok.Newline = true
ends_statement tok.Indent = true
ends_statement tok.Dedent = true
ends_statement (tok.Op text) = bytes_eq text (codes ";") || bytes_eq text (codes ":")
ends_statement t = false

-- a `from` always begins an import statement, an `import` where a statement may begin
abbrev pub begins_import : Bool → Tok → Bool
begins_import is_start (tok.Keyword text) = bytes_eq text (codes "from") || (bytes_eq text (codes "import") && is_start)
begins_import is_start t = false

-- the lines of the first tokens among these, of which the first stands where a statement may begin or may not
abbrev pub lines_from : Bool → List Token → List ℕ
lines_from is_start [] = []
lines_from is_start (t ∷ ts) =
    if begins_import is_start t.kind then t.line ∷ lines_from (ends_statement t.kind) ts else lines_from (ends_statement t.kind) ts

-- the same of all tokens of a source
abbrev pub import_lines : List Token → List ℕ
import_lines ts = lines_from true ts
