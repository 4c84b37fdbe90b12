-- The text of an identifier, and whether it is a keyword.
use Rattle.std.specs.Prelude.{ℕ, Bool, if◌then◌else◌, List}
use Rattle.std.specs.Str.{chars}
use Rattle.spec_core.specs.Identifiers.{is_identifier, is_keyword, normal_form}
use Rattle.py_lexer.specs.TokenList.{utf8_of}
use Rattle.py_lexer.specs.declared.word.Tok.{Tok}
use Rattle.py_lexer.specs.declared.word.Tok.TheVariants.{Name, Keyword}

-- the NFKC form of these characters
unfoldable pub ident_text : List ℕ → List ℕ
ident_text run = normal_form (utf8_of run)

-- whether the text, which is UTF-8, is an identifier by its characters (Language Reference 2.3)
abbrev pub is_ident : List ℕ → Bool
is_ident text = is_identifier (chars text)

-- a keyword, where the text is one of the 35 (Language Reference 2.3.1); any other word is a name, soft keywords too
abbrev pub word_of : List ℕ → Tok
word_of text = if is_keyword text then Keyword text else Name text
