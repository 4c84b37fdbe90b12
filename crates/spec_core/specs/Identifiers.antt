-- Identifiers and keywords (Language Reference 2.3), and which texts are dotted names. The character classes and the
-- normal form are those of the Unicode Standard, as the crates unicode_ident and unicode_normalization define them.
use Rattle.std.specs.Prelude.{ℕ, Bool, false, not, ◌&&◌, ◌||◌, ◌==◌, List, [], ◌∷◌, codes}
use Rattle.std.specs.List.{list_all, list_any}
use Rattle.std.specs.Str.{chars, bytes_eq, encode_utf8_all}
use Rattle.unicode_ident.specs.Ident.{is_xid_start, is_xid_continue}
use Rattle.unicode_normalization.specs.Forms.{nfkc, is_in_form}
use Rattle.unicode_normalization.specs.Forms.{Nfkc}
use Rattle.spec_core.specs.Names.{parts}

-- `_` (95) or XID_Start
abbrev pub starts_identifier : ℕ → Bool
starts_identifier c = is_xid_start c || (c == 95)

-- `_` or XID_Continue
abbrev pub continues_identifier : ℕ → Bool
continues_identifier c = is_xid_continue c || (c == 95)

-- the characters are an identifier
abbrev pub is_identifier : List ℕ → Bool
is_identifier [] = false
is_identifier (c ∷ cs) = starts_identifier c && list_all continues_identifier cs

-- Language Reference 2.3.1: the words that are no names
abbrev pub keywords : List (List ℕ)
keywords =
    codes "False" ∷ codes "None" ∷ codes "True" ∷ codes "and" ∷ codes "as" ∷ codes "assert" ∷ codes "async" ∷ codes "await" ∷ codes "break"
    ∷ codes "class" ∷ codes "continue" ∷ codes "def" ∷ codes "del" ∷ codes "elif" ∷ codes "else" ∷ codes "except" ∷ codes "finally" ∷ codes "for"
    ∷ codes "from" ∷ codes "global" ∷ codes "if" ∷ codes "import" ∷ codes "in" ∷ codes "is" ∷ codes "lambda" ∷ codes "nonlocal" ∷ codes "not"
    ∷ codes "or" ∷ codes "pass" ∷ codes "raise" ∷ codes "return" ∷ codes "try" ∷ codes "while" ∷ codes "with" ∷ codes "yield" ∷ []

-- whether the text is one of them, byte for byte
unfoldable pub is_keyword : List ℕ → Bool
is_keyword text = list_any (bytes_eq text) keywords

-- Language Reference 2.3: "All identifiers are converted into the normal form NFKC while parsing"
abbrev pub normal_form : List ℕ → List ℕ
normal_form text = encode_utf8_all (nfkc (chars text))

-- one part of a dotted name: an identifier that is its own normal form, and no keyword
abbrev pub is_name : List ℕ → Bool
is_name text = is_identifier (chars text) && (is_in_form Nfkc (chars text) && not (is_keyword text))

-- a dotted name: such parts joined by single dots
unfoldable pub is_dotted : List ℕ → Bool
is_dotted text = list_all is_name (parts text)
