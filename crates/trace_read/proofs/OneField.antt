-- The kinds of fields: each is read from some field, and has the cause that fits.
use Rattle.std.proofs.Common.{◌≡◌, ◌∙◌, refl, sym, ap, ℕ, zero, suc, ◌<◌, ◌^◌, List, [], ◌∷◌, ◌++◌, Bool, true, false, not, ◌&&◌, ◌||◌, nat_le, Option, Some, None, codes, chars, inl, inr, lit<, arith}
use Rattle.std.specs.List.{list_all}
use Rattle.std.specs.Fmt.{decimal}
use Rattle.std.specs.Str.{IsAscii, IsUtf8, is_utf8, bytes_eq}
use Rattle.std.proofs.lemmas.Bool.{and_parts, and_from, ltb-true, lt-ltb, cond-true, cond-false, false_from_ne_true}
use Rattle.std.proofs.lemmas.Fmt.{decimal_digit}
use Rattle.std.proofs.lemmas.List.Elements.{All-from_recursion}
use Rattle.std.proofs.lemmas.Str.{chars-IsAscii, IsUtf8-nil, IsUtf8-from_ascii, is_utf8-from_IsUtf8}
use Rattle.unicode_ident.proofs.IdentLemmas.{is_xid_start-ascii}
use Rattle.unicode_normalization.specs.Forms.{is_in_form, Nfkc}
use Rattle.unicode_normalization.proofs.FormsLemmas.{normalize-ascii}
use Rattle.base_types.specs.Path.{is_part, joined}
use Rattle.spec_core.specs.Identifiers.{is_identifier, is_keyword, is_name, is_dotted}
use Rattle.spec_core.specs.declared.spec.SpecKind.TheVariants as kinds
use Rattle.py_value.specs.declared.kind.Kind.TheVariants as errors
use Rattle.py_value.specs.declared.value.Place.TheVariants as places
use Rattle.py_value.specs.declared.value.Value.TheVariants as values
use Rattle.py_value.specs.declared.value.Value.TheVariants.{rolls-Nothing}
use Rattle.py_value.specs.declared.value.Value.TheOpen.{Value-F}
use Rattle.py_value.specs.declared.value.Value.TheFolds.{fold-roll-Value}
use Rattle.py_value.specs.Measures.{nesting_at, nesting_of}
use Rattle.py_value.specs.declared.value.ModRef.{ModRef}
use Rattle.py_value.specs.declared.value.Raised.{Raised}
use Rattle.py_value.specs.declared.value.NsState.{NsState}
use Rattle.machine_events.specs.declared.module.Slot.TheVariants as slots
use Rattle.base_spelling.specs.Numbers.{number_in}
use Rattle.base_spelling.specs.Spelling.{quoted, in_hex}
use Rattle.base_spelling.specs.Read.{text_in, source_in}
use Rattle.trace_text.specs.Values.{name_text, module_text, error_text, value_text, state_text}
use Rattle.trace_text.specs.Values as spelled
use Rattle.trace_fields.specs.declared.refusal.Cause.{Cause}
use Rattle.trace_fields.specs.declared.refusal.Cause.TheVariants as cause
use Rattle.trace_fields.specs.Reading.{taken}
use Rattle.trace_fields.specs.Fields.{small_number_in, name_in, any_name_in, variable_in}
use Rattle.trace_fields.proofs.Closed.{is_ordinary}
use Rattle.trace_read.proofs.Naming.{dotted_ordinary, identifier_ordinary}
use Rattle.trace_read.proofs.Held.{name_takes, any_name_again, variable_again}
use Rattle.trace_fields.specs.Values.{place_in_path_in, load_in, module_in, error_in, slot_in, value_in, values_in, texts_in, spec_kind_in, state_in, tree_path_in}
use Rattle.trace_read.specs.FieldsFit.{value_fits_at, parts_fit, value_fits}
use Rattle.trace_read.proofs.Signed.{place_again, load_again}
use Rattle.trace_read.proofs.Modules.{text_read, module_read, error_read, slot_read}
use Rattle.trace_read.proofs.Nested.{value_read}
use Rattle.trace_read.proofs.Lists.{values_read, texts_read, spec_read, state_read}
use Rattle.trace_entries.specs.EventWords.{any_event_word}
use Rattle.trace_entries.specs.ReplyWords.{any_reply_word}
use Rattle.trace_entries.specs.Taking.{small_number_at, number_at, name_at, text_at, source_at, tree_path_at, any_name_at, variable_at, place_at, load_at, module_at, error_at, slot_at, value_at, values_at, texts_at, spec_kind_at, state_at, flag_in, raw_at, good_at, init_at, yes_at}
use Rattle.trace_read.specs.Refusing.{Is}
use Rattle.trace_read.proofs.FieldKinds.{small_told, small_read, number_read, name_read, source_read, tree_path_told, tree_path_read}
use Rattle.trace_read.proofs.Odd.{no_number, no_name, no_escape, no_event, no_reply, Odd, odd}
use Rattle.trace_read.proofs.Causes.{Unfit, Holds, odd_unfit, plain_unfit}
use Rattle.trace_read.proofs.Steady.{Steady, Told, only_kind, steady_field}

-- ---- the dotted name `a`

ascii_a : IsAscii (codes "a")
ascii_a zero = lit< tt
ascii_a (suc i) = lit< tt

chars_a : chars (codes "a") ≡ codes "a"
chars_a = chars-IsAscii (codes "a") ascii_a

identifier_a : is_identifier (codes "a") ≡ true
identifier_a = ap (λ b. (b || false) && true) (is_xid_start-ascii 97 (lit< tt))

normal_a : is_in_form Nfkc (codes "a") ≡ true
normal_a = ap (λ t. bytes_eq t (codes "a")) (normalize-ascii Nfkc (codes "a") (All-from_recursion (λ c. c < 128) (codes "a") (lit< tt, tt)))

name_a : is_name (codes "a") ≡ true
unfolding is_keyword
name_a = and_from _ _ (ap is_identifier chars_a ∙ identifier_a) (and_from _ _ (ap (is_in_form Nfkc) chars_a ∙ normal_a) refl)

utf8_a : is_utf8 (codes "a") ≡ true
utf8_a = is_utf8-from_IsUtf8 (codes "a") (IsUtf8-from_ascii (codes "a") ascii_a)

utf8_nil : is_utf8 [] ≡ true
utf8_nil = is_utf8-from_IsUtf8 [] IsUtf8-nil

dotted_a : is_dotted (codes "a") ≡ true
unfolding is_dotted
dotted_a = and_from _ _ name_a refl

-- ---- only a number, a name, a text or a source could stand there

wide : (n : ℕ) → n < 2 ^ 32 → n < 2 ^ 64
wide n h = omega arith

small_number_told : (old : Bool) → Told old cause.Number small_number_in
small_number_told old field n h =
    let t = small_told field n h in
    (n, ap number_in t.0 ∙ number_read n (lt-ltb n (2 ^ 64) (wide n (ltb-true n (2 ^ 32) t.1))))

zero_text : decimal 0 ≡ codes "0"
zero_text = decimal_digit 0 (lit< tt)

small_zero : small_number_in (codes "0") ≡ Some 0
small_zero = ap small_number_in (sym zero_text) ∙ small_read 0 refl

number_zero : number_in (codes "0") ≡ Some 0
number_zero = ap number_in (sym zero_text) ∙ number_read 0 refl

pub small_number_steady : (old : Bool) → Steady old small_number_at
small_number_steady old = steady_field old cause.Number small_number_in (codes "0") 0 small_zero (only_kind old cause.Number small_number_in (small_number_told old) (0, small_zero))

number_told : (old : Bool) → Told old cause.Number number_in
number_told old field n h = (n, h)

pub number_steady : (old : Bool) → Steady old number_at
number_steady old = steady_field old cause.Number number_in (codes "0") 0 number_zero (only_kind old cause.Number number_in (number_told old) (0, number_zero))

name_told : (old : Bool) → Told old cause.Name name_in
name_told old field name h = (name, h)

read_a : name_in (codes "a") ≡ Some (codes "a")
read_a = name_read (codes "a") (and_from (is_utf8 (codes "a")) (is_dotted (codes "a")) utf8_a dotted_a)

pub name_steady : (old : Bool) → Steady old name_at
name_steady old = steady_field old cause.Name name_in (codes "a") (codes "a") read_a (only_kind old cause.Name name_in (name_told old) (codes "a", read_a))

text_kind : (old : Bool) → Told old cause.Escape text_in
text_kind old field text h = inl (text, h)

empty_text : text_in (codes "\"\"") ≡ Some []
empty_text = text_read [] utf8_nil

pub text_steady : (old : Bool) → Steady old text_at
text_steady old = steady_field old cause.Escape text_in (codes "\"\"") [] empty_text (only_kind old cause.Escape text_in (text_kind old) ([], empty_text))

source_kind : (old : Bool) → Told old cause.Escape source_in
source_kind old field text h = inr (text, h)

empty_source : source_in (codes "\"\"") ≡ Some []
empty_source = ap source_in (sym (cond-true (is_utf8 []) (quoted []) (in_hex []) utf8_nil)) ∙ source_read [] refl

pub source_steady : (old : Bool) → Steady old source_at
source_steady old = steady_field old cause.Escape source_in (codes "\"\"") [] empty_source (only_kind old cause.Escape source_in (source_kind old) ([], empty_source))

path_told : (old : Bool) → Told old cause.Escape tree_path_in
path_told old field path h =
    let t = tree_path_told field path h in
    let both = and_parts (list_all is_part path) (is_utf8 (joined path)) t.1 in
    inl (joined path, ap text_in t.0 ∙ text_read (joined path) both.1)

empty_path : tree_path_in (codes "\"\"") ≡ Some []
empty_path = tree_path_read [] utf8_nil

pub tree_path_steady : (old : Bool) → Steady old tree_path_at
tree_path_steady old = steady_field old cause.Escape tree_path_in (codes "\"\"") [] empty_path (only_kind old cause.Escape tree_path_in (path_told old) ([], empty_path))

-- ---- all other kinds: a field of no kind could stand there

odd_steady : {X : Type 0} (old : Bool) (read : List ℕ → Option X) (field : List ℕ) (x : X) → read field ≡ Some x → Odd field → Steady old (taken cause.Fields read)
odd_steady old read field x is odd = steady_field old cause.Fields read field x is (odd_unfit old read field x is odd)

-- `-`
dash_identifier : is_identifier (codes "-") ≡ false
dash_identifier = ap (λ b. (b || false) && true) (is_xid_start-ascii 45 (lit< tt))

dash_ascii : IsAscii (codes "-")
dash_ascii zero = lit< tt
dash_ascii (suc i) = lit< tt

dash_no_name : Is (name_in (codes "-")) → ⊥
unfolding is_dotted
dash_no_name h =
    let t = name_takes (codes "-") h.0 h.1 in
    let dotted : is_dotted (codes "-") ≡ true = ap is_dotted t.0 ∙ t.2 in
    let name = and_parts (is_name (codes "-")) true dotted in
    let identifier = and_parts (is_identifier (chars (codes "-"))) (is_in_form Nfkc (chars (codes "-")) && not (is_keyword (codes "-"))) name.0 in
    let bad : false ≡ true = sym dash_identifier ∙ ap is_identifier (sym (chars-IsAscii (codes "-") dash_ascii)) ∙ identifier.0 in
    cc

odd_dash : Odd (codes "-")
unfolding any_event_word any_reply_word
odd_dash = record { number = no_number 45 [] refl; name = dash_no_name; escape = no_escape 45 [] refl refl; event = refl; reply = refl }

pub place_steady : (old : Bool) → Steady old place_at
place_steady old = odd_steady old place_in_path_in (codes "-") None (place_again None refl) odd_dash

pub load_steady : (old : Bool) → Steady old load_at
load_steady old = odd_steady old load_in (codes "-") None (load_again None refl) odd_dash

some_module : ModRef
some_module = record { mid = 0; name = []; place = places.BuiltIn }

odd_module : Odd (module_text some_module)
unfolding some_module any_event_word any_reply_word
odd_module = odd 109 (codes "odule(" ++ decimal 0 ++ codes "," ++ name_text [] ++ codes "," ++ codes "builtin" ++ codes ")") refl refl refl refl refl refl

module_is : module_in (module_text some_module) ≡ Some some_module
unfolding some_module
module_is = module_read some_module (and_from _ _ utf8_nil refl)

pub module_steady : (old : Bool) → Steady old module_at
module_steady old = odd_steady old module_in (module_text some_module) some_module module_is odd_module

slot_is : slot_in (module_text some_module) ≡ Some (slots.Module some_module)
unfolding some_module
slot_is = slot_read (slots.Module some_module) (and_from _ _ utf8_nil refl)

pub slot_steady : (old : Bool) → Steady old slot_at
slot_steady old = odd_steady old slot_in (module_text some_module) (slots.Module some_module) slot_is odd_module

some_error : Raised
some_error = record { kind = errors.ImportError; text = []; name = None }

odd_error : Odd (error_text some_error)
unfolding some_error any_event_word any_reply_word
odd_error = odd 101 (codes "rror(" ++ codes "ImportError" ++ codes "," ++ quoted [] ++ codes "," ++ codes "-" ++ codes ")") refl refl refl refl refl refl

error_is : error_in (error_text some_error) ≡ Some some_error
unfolding some_error
error_is = error_read some_error (and_from _ _ utf8_nil refl)

pub error_steady : (old : Bool) → Steady old error_at
error_steady old = odd_steady old error_in (error_text some_error) some_error error_is odd_error

nothing_fits : value_fits values.Nothing ≡ true
nothing_fits =
    let parts : parts_fit values.Nothing ≡ true = ap parts_fit (sym rolls-Nothing) ∙ fold-roll-Value Bool value_fits_at Value-F.Nothing in
    let flat : nesting_of values.Nothing ≡ 0 = ap nesting_of (sym rolls-Nothing) ∙ fold-roll-Value ℕ nesting_at Value-F.Nothing in
    and_from (parts_fit values.Nothing) (nat_le (nesting_of values.Nothing) 64) parts (ap (λ n. nat_le n 64) flat)

nothing_text : value_text values.Nothing ≡ codes "None"
nothing_text = ap value_text (sym rolls-Nothing) ∙ fold-roll-Value (List ℕ) spelled.value_at Value-F.Nothing

nothing_is : value_in 64 (codes "None") ≡ Some values.Nothing
nothing_is = ap (value_in 64) (sym nothing_text) ∙ value_read values.Nothing nothing_fits

-- `None` is a keyword
nothing_no_name : Is (name_in (codes "None")) → ⊥
unfolding is_dotted is_keyword
nothing_no_name h =
    let t = name_takes (codes "None") h.0 h.1 in
    let dotted : is_dotted (codes "None") ≡ true = ap is_dotted t.0 ∙ t.2 in
    let name = and_parts (is_name (codes "None")) true dotted in
    let rest = and_parts (is_identifier (chars (codes "None"))) (is_in_form Nfkc (chars (codes "None")) && not (is_keyword (codes "None"))) name.0 in
    let bad : false ≡ true = (and_parts (is_in_form Nfkc (chars (codes "None"))) (not (is_keyword (codes "None"))) rest.1).1 in
    cc

odd_nothing : Odd (codes "None")
unfolding any_event_word any_reply_word
odd_nothing = record { number = no_number 78 (codes "one") refl; name = nothing_no_name; escape = no_escape 78 (codes "one") refl refl; event = refl; reply = refl }

pub value_steady : (old : Bool) → Steady old value_at
value_steady old = odd_steady old (value_in 64) (codes "None") values.Nothing nothing_is odd_nothing

odd_list : Odd (codes "[]")
unfolding any_event_word any_reply_word
odd_list = odd 91 (93 ∷ []) refl refl refl refl refl refl

pub values_steady : (old : Bool) → Steady old values_at
values_steady old = odd_steady old values_in (codes "[]") [] (values_read [] refl) odd_list

pub texts_steady : (old : Bool) → Steady old texts_at
texts_steady old = odd_steady old texts_in (codes "[]") [] (texts_read [] refl) odd_list

odd_namespace : Odd (codes "namespace([])")
unfolding any_event_word any_reply_word
odd_namespace = odd 110 (codes "amespace([])") refl refl refl refl refl refl

pub spec_kind_steady : (old : Bool) → Steady old spec_kind_at
spec_kind_steady old = odd_steady old spec_kind_in (codes "namespace([])") (kinds.Namespace []) (spec_read (kinds.Namespace []) refl) odd_namespace

some_state : NsState
some_state = record { parent_path = []; epoch = 0; portions = [] }

odd_state : Odd (state_text some_state)
unfolding some_state any_event_word any_reply_word
odd_state = odd 110 (codes "s(" ++ codes "[]" ++ codes "," ++ decimal 0 ++ codes "," ++ codes "[]" ++ codes ")") refl refl refl refl refl refl

state_is : state_in (state_text some_state) ≡ Some some_state
unfolding some_state
state_is = state_read some_state refl

pub state_steady : (old : Bool) → Steady old state_at
state_steady old = odd_steady old state_in (state_text some_state) some_state state_is odd_state

-- ---- names that may be texts: `a`, and a text that is no name

bracket_ascii : IsAscii (codes "[")
bracket_ascii zero = lit< tt
bracket_ascii (suc i) = lit< tt

bracket_text : IsUtf8 (codes "[")
bracket_text = IsUtf8-from_ascii (codes "[") bracket_ascii

bracket_utf8 : is_utf8 (codes "[") ≡ true
bracket_utf8 = is_utf8-from_IsUtf8 (codes "[") bracket_text

bracket_never : list_all is_ordinary (codes "[") ≡ true → ⊥
bracket_never h = let bad : false ≡ true = h in cc

bracket_no_name : is_dotted (codes "[") ≡ false
bracket_no_name = false_from_ne_true (is_dotted (codes "[")) (λ is. bracket_never (dotted_ordinary (codes "[") bracket_text is))

bracket_no_identifier : is_identifier (chars (codes "[")) ≡ false
bracket_no_identifier = false_from_ne_true (is_identifier (chars (codes "["))) (λ is. bracket_never (identifier_ordinary (codes "[") bracket_text is))

named_unfit : {X : Type 0} (old : Bool) (read : List ℕ → Option X) (x y : X) → read (quoted (codes "[")) ≡ Some x → read (codes "a") ≡ Some y → (other : Cause) → Unfit old (Holds read) (Holds read) other
unfolding any_event_word any_reply_word
named_unfit old read x y text bare cause.Fields = inr (λ h. h)
named_unfit old read x y text bare cause.Number = inl (quoted (codes "["), (x, text), no_number 34 (codes "[\"") refl)
named_unfit old read x y text bare cause.Name = inl (quoted (codes "["), (x, text), no_name (quoted (codes "[")) refl)
named_unfit old read x y text bare cause.Escape = inl (codes "a", (y, bare), no_escape 97 [] refl refl)
named_unfit old read x y text bare cause.Event = inl (quoted (codes "["), (x, text), no_event old (quoted (codes "[")) refl)
named_unfit old read x y text bare cause.Reply = inl (quoted (codes "["), (x, text), no_reply old (quoted (codes "[")) refl)
named_unfit old read x y text bare cause.Cut = inr (λ h. h)

any_name_a : any_name_in (codes "a") ≡ Some (codes "a")
any_name_a = ap any_name_in (sym (cond-true (is_dotted (codes "a")) (codes "a") (quoted (codes "a")) dotted_a)) ∙ any_name_again (codes "a") utf8_a

any_name_text : any_name_in (quoted (codes "[")) ≡ Some (codes "[")
any_name_text = ap any_name_in (sym (cond-false (is_dotted (codes "[")) (codes "[") (quoted (codes "[")) bracket_no_name)) ∙ any_name_again (codes "[") bracket_utf8

pub any_name_steady : (old : Bool) → Steady old any_name_at
any_name_steady old = steady_field old cause.Fields any_name_in (codes "a") (codes "a") any_name_a (named_unfit old any_name_in (codes "[") (codes "a") any_name_text any_name_a)

variable_a : variable_in (codes "a") ≡ Some (codes "a")
variable_a = ap variable_in (sym (cond-true (is_identifier (chars (codes "a"))) (codes "a") (quoted (codes "a")) (ap is_identifier chars_a ∙ identifier_a))) ∙ variable_again (codes "a") utf8_a

variable_quoted : variable_in (quoted (codes "[")) ≡ Some (codes "[")
variable_quoted = ap variable_in (sym (cond-false (is_identifier (chars (codes "["))) (codes "[") (quoted (codes "[")) bracket_no_identifier)) ∙ variable_again (codes "[") bracket_utf8

pub variable_steady : (old : Bool) → Steady old variable_at
variable_steady old = steady_field old cause.Fields variable_in (codes "a") (codes "a") variable_a (named_unfit old variable_in (codes "[") (codes "a") variable_quoted variable_a)

-- ---- one of some words: the plainest field of no kind is one

pub refused_plain : {X : Type 0} (read : List ℕ → Option X) (field : List ℕ) → read field ≡ None → Holds read field → ⊥
refused_plain read field none h = let bad : None ≡ Some h.0 = sym none ∙ h.1 in cc

pub word_steady : {X : Type 0} (old : Bool) (read : List ℕ → Option X) (word : List ℕ) (x : X) → read word ≡ Some x → read (codes "0") ≡ None → read (codes "a") ≡ None → read (codes "\"\"") ≡ None → read (codes "wake") ≡ None → read (codes "done") ≡ None → Steady old (taken cause.Fields read)
word_steady old read word x is number name escape event reply =
    steady_field old cause.Fields read word x is (λ other.
    plain_unfit old (Holds read) (Holds read) (refused_plain read (codes "0") number) (refused_plain read (codes "a") name) (refused_plain read (codes "\"\"") escape) (refused_plain read (codes "wake") event) (refused_plain read (codes "done") reply) other)

pub raw_steady : (old : Bool) → Steady old raw_at
raw_steady old = word_steady old (flag_in (codes "raw") (codes "soft")) (codes "raw") true refl refl refl refl refl refl

pub good_steady : (old : Bool) → Steady old good_at
good_steady old = word_steady old (flag_in (codes "good") (codes "bad")) (codes "good") true refl refl refl refl refl refl

pub init_steady : (old : Bool) → Steady old init_at
init_steady old = word_steady old (flag_in (codes "init") (codes "plain")) (codes "init") true refl refl refl refl refl refl

pub yes_steady : (old : Bool) → Steady old yes_at
yes_steady old = word_steady old (flag_in (codes "yes") (codes "no")) (codes "yes") true refl refl refl refl refl refl
