-- `str` and `repr` (Library Reference, "Built-in Functions" and "Text Sequence Type").
use Rattle.std.specs.Prelude.{ℕ, zero, suc, ◌/◌, ◌%◌, List, [], ◌∷◌, ◌++◌, length, codes, Bool, true, false, nat_lt, ◌==◌, ◌&&◌, ◌||◌, not, if◌then◌else◌}
use Rattle.std.specs.List.{flat_map, list_any, join_by}
use Rattle.std.specs.Fmt.{signed_decimal}
use Rattle.base_spelling.specs.Spelling.{hex_digit}
use Rattle.py_value.specs.declared.kind.Native.{Native}
use Rattle.py_value.specs.declared.kind.Native.TheVariants as natives
use Rattle.py_value.specs.declared.value.Place.{Place}
use Rattle.py_value.specs.declared.value.Place.TheVariants as places
use Rattle.py_value.specs.declared.value.Value.{Value, out-Value}
use Rattle.py_value.specs.declared.value.Value.TheVariants as values
use Rattle.py_value.specs.declared.value.Value.TheOpen.{Value-F}
use Rattle.py_value.specs.declared.value.Value.TheFolds.{fold-Value}
use Rattle.py_value.specs.declared.operator.Applied.{Applied}
use Rattle.py_value.specs.declared.operator.Applied.TheVariants as applied
use Rattle.py_value.specs.Names.{kind_name, native_name}
use Rattle.value_texts.specs.declared.draft.Draft.{Draft}
use Rattle.value_texts.specs.declared.draft.Draft.TheVariants as drafts
use Rattle.value_texts.specs.declared.quoting.Quote.{Quote}
use Rattle.value_texts.specs.declared.quoting.Quote.TheVariants as quotes
use Rattle.value_operators.specs.Outcomes.{not_in_profile, profile_error, is_plain, limited}

-- whether the byte stands anywhere in the text
abbrev pub has_byte : ℕ → List ℕ → Bool
has_byte byte text = list_any (λ b. b == byte) text

-- `'` is 39 and `"` is 34
abbrev pub quote_byte : Quote → ℕ
quote_byte quotes.Single = 39
quote_byte quotes.Double = 34

-- `"` where the text holds `'` and no `"`, and else `'`
abbrev pub quote_of : List ℕ → Quote
quote_of text = if has_byte 39 text && not (has_byte 34 text) then quotes.Double else quotes.Single

-- backslash, the quote, and the control characters of ASCII
abbrev pub is_escaped : ℕ → ℕ → Bool
is_escaped quote b = b == 92 || b == quote || nat_lt b 32 || b == 127

-- backslash, the quote, line feed, carriage return and tab behind a backslash, and the other control
-- characters by two hexadecimal digits
abbrev pub escape : ℕ → ℕ → List ℕ
escape quote b =
    if b == 92 || b == quote then 92 ∷ b ∷ []
    else if b == 10 then codes "\\n"
    else if b == 13 then codes "\\r"
    else if b == 9 then codes "\\t"
    else codes "\\x" ++ (hex_digit (b / 16) ∷ hex_digit (b % 16) ∷ [])

-- a byte that needs no escape stands for itself
abbrev pub escaped : ℕ → ℕ → List ℕ
escaped quote b = if is_escaped quote b then escape quote b else b ∷ []

-- the text between two quotes of this kind, which are escaped where they stand in it
abbrev pub quoted_in : ℕ → List ℕ → List ℕ
quoted_in quote text = (quote ∷ flat_map (escaped quote) text) ++ quote ∷ []

-- a text as `repr` writes it: in the quote that suits it
abbrev pub quoted : List ℕ → List ℕ
quoted text = quoted_in (quote_byte (quote_of text)) text

-- items are parted by a comma and a blank
abbrev pub with_commas : List (List ℕ) → List ℕ
with_commas texts = join_by (λ text. text) (codes ", ") texts

-- what stands before the n-th item, from 0
abbrev pub comma_before : ℕ → List ℕ
comma_before zero = []
comma_before (suc n) = codes ", "

-- a tuple of one has a comma behind its item
abbrev pub tuple_end : ℕ → List ℕ
tuple_end len = if len == 1 then codes ",)" else codes ")"

-- `str` is a class in Python
abbrev pub native_opening : Native → List ℕ
native_opening natives.Str = codes "<class '"
native_opening _ = codes "<built-in function "

-- what closes a native's text, as it was opened
abbrev pub native_end : Native → List ℕ
native_end natives.Str = codes "'>"
native_end _ = codes ">"

-- a native as `repr` writes it: a built-in function, or the class `str`
abbrev pub native_text : Native → List ℕ
native_text native = native_opening native ++ native_name native ++ native_end native

-- what follows a module's name (`_module_repr_from_spec` of `importlib._bootstrap`): its file, or what it is else;
-- the portions of a namespace are left out
abbrev pub place_text : Place → List ℕ
place_text (places.File file) = codes " from " ++ quoted file ++ codes ">"
place_text places.BuiltIn = codes " (built-in)>"
place_text places.Namespace = codes " (namespace)>"

-- as the two keywords are written
abbrev pub bool_text : Bool → List ℕ
bool_text true = codes "True"
bool_text false = codes "False"

-- one layer, with the text of each item in its place; what is not plain has no text
abbrev pub repr_at : Value-F (List ℕ) → List ℕ
repr_at Value-F.Nothing = codes "None"
repr_at (Value-F.Bool b) = bool_text b
repr_at (Value-F.Int n) = signed_decimal n
repr_at (Value-F.Text text) = quoted text
repr_at (Value-F.List texts) = codes "[" ++ with_commas texts ++ codes "]"
repr_at (Value-F.Tuple texts) = codes "(" ++ with_commas texts ++ tuple_end (length texts)
repr_at (Value-F.Func load index name) = codes "<function " ++ name ++ codes ">"
repr_at (Value-F.Native native) = native_text native
repr_at (Value-F.Kind kind) = codes "<class '" ++ kind_name kind ++ codes "'>"
repr_at (Value-F.Module held) = codes "<module " ++ quoted held.name ++ place_text held.place
repr_at _ = []

-- the text of a value with all that it holds
abbrev pub repr_text : Value → List ℕ
repr_text = fold-Value (List ℕ) repr_at

-- `repr`: what is not plain has no text, and a text that is too long is past the limits
abbrev pub repr_of : Value → Applied
repr_of value = if is_plain value then limited (values.Text (repr_text value)) else not_in_profile

-- a text is itself, an error gives its text, and all else is as in `repr`
abbrev pub str_at : Value-F Value → Applied → Applied
str_at (Value-F.Text text) otherwise = limited (values.Text text)
str_at (Value-F.Error error) otherwise = limited (values.Text error.text)
str_at value otherwise = otherwise

-- `str`: here alone has an error a text, though it is not plain
abbrev pub str_of : Value → Applied
str_of value = str_at (out-Value value) (repr_of value)

-- a text that is being written, with one more piece: over where it has become too long
abbrev pub put : Draft → List ℕ → Draft
put (drafts.Within text) piece = if nat_lt 65536 (length (text ++ piece)) then drafts.Over else drafts.Within (text ++ piece)
put drafts.Over piece = drafts.Over

-- a text that stayed within the limit is the value; one that ran over is past the limits
abbrev pub finished : Draft → Applied
finished (drafts.Within text) = applied.Value (values.Text text)
finished drafts.Over = profile_error (codes "text too long")
