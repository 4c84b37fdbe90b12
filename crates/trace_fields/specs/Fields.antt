-- What a single field holds.
use Rattle.std.specs.Prelude.{ℕ, ◌^◌, List, [], ◌∷◌, map, Bool, nat_lt, Option, Some, None, if◌then◌else◌}
use Rattle.std.specs.Borrow.{Bor}
use Rattle.std.specs.Str.{chars, is_utf8, bytes_eq}
use Rattle.spec_core.specs.Identifiers.{is_identifier, is_dotted}
use Rattle.base_spelling.specs.Numbers.{number_in}
use Rattle.base_spelling.specs.Read.{text_in}

-- a number below 2 ^ 32
abbrev pub below_u32 : Option ℕ → Option ℕ
below_u32 None = None
below_u32 (Some n) = if nat_lt n (2 ^ 32) then Some n else None

-- a decimal number without leading zeros, below 2 ^ 32
unfoldable pub small_number_in : List ℕ → Option ℕ
small_number_in field = below_u32 (number_in field)

-- a dotted name, bare
abbrev pub bare_name : List ℕ → Option (List ℕ)
bare_name text = if is_dotted text then Some text else None

-- bytes that are UTF-8, and a dotted name
unfoldable pub name_in : List ℕ → Option (List ℕ)
name_in field = if is_utf8 field then bare_name field else None

-- a name, bare where it is a dotted name, and else as a text
abbrev pub quoted_name_in : Option (List ℕ) → Option (List ℕ)
quoted_name_in None = None
quoted_name_in (Some text) = if is_dotted text then None else Some text

-- a bare name stands for itself; else the field must be a text, of a name that could not stand bare
abbrev pub or_quoted_name : List ℕ → Option (List ℕ) → Option (List ℕ)
or_quoted_name field None = quoted_name_in (text_in field)
or_quoted_name field (Some name) = Some name

-- each name has one spelling: bare where it can stand so, and else as a text
unfoldable pub any_name_in : List ℕ → Option (List ℕ)
any_name_in field = or_quoted_name field (name_in field)

-- a variable's name, bare where it is an identifier, and else as a text
abbrev pub bare_variable : List ℕ → Option (List ℕ)
bare_variable text = if is_identifier (chars text) then Some text else None

-- bytes that are UTF-8, and an identifier
unfoldable pub bare_variable_in : List ℕ → Option (List ℕ)
bare_variable_in field = if is_utf8 field then bare_variable field else None

-- a text that is no identifier: what can stand bare may not stand as a text
abbrev pub quoted_variable_in : Option (List ℕ) → Option (List ℕ)
quoted_variable_in None = None
quoted_variable_in (Some text) = if is_identifier (chars text) then None else Some text

-- a bare variable's name stands for itself; else the field must be a text
abbrev pub or_quoted_variable : List ℕ → Option (List ℕ) → Option (List ℕ)
or_quoted_variable field None = quoted_variable_in (text_in field)
or_quoted_variable field (Some name) = Some name

-- each variable's name has one spelling: bare where it can stand so, and else as a text
unfoldable pub variable_in : List ℕ → Option (List ℕ)
variable_in field = or_quoted_variable field (bare_variable_in field)

-- what a word of a table stands for
abbrev pub lookup : {X : Type 0} → List ℕ → List (List ℕ × X) → Option X
lookup field [] = None
lookup field (row ∷ rows) = if bytes_eq field row.0 then Some row.1 else lookup field rows

-- a table of words
abbrev pub rows_of : {X : Type 0} → List (Bor (List ℕ) × X) → List (List ℕ × X)
rows_of rows = map (λ row. (row.0.now, row.1)) rows
