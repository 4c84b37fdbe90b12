-- Values are read back.
use Rattle.std.proofs.Common.{◌≡◌, ◌∙◌, refl, sym, ap, subst, ℕ, zero, suc, ℤ, ◌+◌, ◌^◌, ◌<◌, ◌≤◌, List, [], ◌∷◌, ◌++◌, append_assoc, map, Bool, true, false, eqb, ltb, leb, ◌&&◌, ◌||◌, Option, Some, None, arith, inl, inr, ◌⊎◌, codes, if◌then◌else◌}
use Rattle.std.proofs.lemmas.Bool.{cases_Bool, and_parts, and_from, ltb-true, lt-ltb, leb-true, le-leb, eqb-true, cond-true, cond-false}
use Rattle.std.proofs.lemmas.Option.{option_and_then_some}
use Rattle.std.specs.List.{list_all, flat_map, AllByRecursion}
use Rattle.std.specs.Option.{option_map, option_and_then, option_or}
use Rattle.std.specs.Fmt.{decimal, signed_decimal}
use Rattle.std.specs.Str.{is_utf8}
use Rattle.py_value.specs.declared.kind.Native.{Native}
use Rattle.py_value.specs.declared.kind.Native.TheVariants as natives
use Rattle.py_value.specs.declared.value.Value.{Value, roll-Value, map-Value}
use Rattle.py_value.specs.declared.value.Value.TheVariants as values
use Rattle.py_value.specs.declared.value.Value.TheVariants.{rolls-Nothing, rolls-Bool, rolls-Int, rolls-Text, rolls-List, rolls-Tuple, rolls-Func, rolls-Native, rolls-Kind, rolls-Module, rolls-Error, rolls-SysModules, rolls-SysPath, rolls-NsPath}
use Rattle.py_value.specs.declared.value.ModRef.{ModRef}
use Rattle.py_value.specs.declared.value.Raised.{Raised}
use Rattle.py_value.specs.declared.kind.Kind.{Kind}
use Rattle.py_value.specs.declared.value.Value.TheOpen.{Value-F}
use Rattle.py_value.specs.declared.value.Value.TheFolds.{fold-roll-Value, ind-Value}
use Rattle.py_value.specs.Names.{kind_name, native_name}
use Rattle.py_value.specs.Measures.{most, nesting_at, nesting_of}
use Rattle.base_spelling.specs.Spelling.{quoted}
use Rattle.base_spelling.specs.Read.{text_in}
use Rattle.trace_text.specs.Values.{name_text, module_text, error_text, function_text, bool_text, value_at, value_text}
use Rattle.trace_fields.specs.Splitting.{joined}
use Rattle.trace_fields.specs.Fields.{small_number_in, any_name_in, lookup}
use Rattle.trace_fields.proofs.Closed.{Closed, Inner, is_ordinary, closed_both, inner_both, inner_closed, inner_comma, ordinary_closed, in_parentheses_closed, in_brackets_closed}
use Rattle.trace_fields.specs.Parts.{between, three_in, listed}
use Rattle.trace_fields.specs.Words.{kind_in, native_in, all_natives, all_kinds}
use Rattle.trace_fields.specs.Values.{fits_i128, signed_in, module_in, error_in, function_of, function_in, native_value_in, kind_value_in, module_value_in, error_value_in, text_value_in, number_value_in, called_in, worded_in, begins_number, plain_in, nested, value_in}
use Rattle.trace_fields.proofs.Quoting.{quoted_closed}
use Rattle.trace_read.proofs.Held.{some_is, small_number_again, small_number_takes, any_name_again, any_name_takes, any_name_closed, lookup_takes}
use Rattle.trace_read.specs.FieldsFit.{module_fits, error_fits, value_fits_at, parts_fit, value_fits}
use Rattle.trace_read.proofs.Between.{between_again, between_takes, three_again, three_takes}
use Rattle.trace_read.proofs.Listed.{IsItem, IsSolid, listed_again, listed_takes, mapped_some}
use Rattle.trace_read.proofs.Signed.{signed_again, signed_takes, signed_closed, signed_first, signed_solid}
use Rattle.trace_read.proofs.Modules.{text_read, text_told, number_closed, called_closed, module_read, module_told, module_closed, kind_read, kind_closed, error_read, error_told, error_closed}

induct : (P : Value → Type 0) → ((y : Value-F ((v : Value) × P v)) → P (roll-Value (map-Value ((v : Value) × P v) Value (λ e. e.0) y))) → (a : Value) → P a
induct P each = ind-Value P (λ x y is. subst (λ z. P (roll-Value z)) is (each y))

-- ---- values without items

native_read : (native : Native) → native_in (native_name native) ≡ Some native
native_read natives.Print = refl
native_read natives.Str = refl
native_read natives.Repr = refl
native_read natives.Len = refl
native_read natives.HasAttr = refl
native_read natives.GetAttr = refl
native_read natives.InvalidateCaches = refl
native_read natives.Reload = refl
native_read natives.Lazy = refl

function_read : (load index : ℕ) (name : List ℕ) → load < 2 ^ 32 → index < 2 ^ 32 → is_utf8 name ≡ true → function_in (function_text load index name) ≡ Some (values.Func load index name)
function_read load index name a b u =
    ap (option_and_then function_of) (three_again (codes "func(") (decimal load) (decimal index) (name_text name) (number_closed load (omega arith)) (number_closed index (omega arith)) (any_name_closed name u))
    ∙ ap (option_and_then (λ l. option_and_then (λ i. option_map (λ n. values.Func l i n) (any_name_in (name_text name))) (small_number_in (decimal index)))) (small_number_again load a)
    ∙ ap (option_and_then (λ i. option_map (λ n. values.Func load i n) (any_name_in (name_text name)))) (small_number_again index b)
    ∙ ap (option_map (λ n. values.Func load index n)) (any_name_again name u)

-- no other word begins so
native_not_kind : (name : List ℕ) → native_value_in (codes "kind(" ++ name ++ codes ")") ≡ None
unfolding between
native_not_kind name = refl

native_not_function : (load index : ℕ) (name : List ℕ) → native_value_in (function_text load index name) ≡ None
unfolding between
native_not_function load index name = refl

kind_not_function : (load index : ℕ) (name : List ℕ) → kind_value_in (function_text load index name) ≡ None
unfolding between
kind_not_function load index name = refl

native_not_module : (m : ModRef) → native_value_in (module_text m) ≡ None
unfolding between
native_not_module m = refl

kind_not_module : (m : ModRef) → kind_value_in (module_text m) ≡ None
unfolding between
kind_not_module m = refl

function_not_module : (m : ModRef) → function_in (module_text m) ≡ None
unfolding between
function_not_module m = refl

native_not_error : (error : Raised) → native_value_in (error_text error) ≡ None
unfolding between
native_not_error error = refl

kind_not_error : (error : Raised) → kind_value_in (error_text error) ≡ None
unfolding between
kind_not_error error = refl

function_not_error : (error : Raised) → function_in (error_text error) ≡ None
unfolding between
function_not_error error = refl

module_not_error : (error : Raised) → module_value_in (error_text error) ≡ None
unfolding between module_in
module_not_error error = refl

abbrev after_kind : List ℕ → Option Value
after_kind field = option_or (function_in field) (option_or (module_value_in field) (error_value_in field))

abbrev after_native : List ℕ → Option Value
after_native field = option_or (kind_value_in field) (after_kind field)

plain_bool : (b : Bool) → plain_in (bool_text b) ≡ Some (values.Bool b)
unfolding plain_in
plain_bool true = refl
plain_bool false = refl

plain_nothing : plain_in (codes "None") ≡ Some values.Nothing
unfolding plain_in
plain_nothing = refl

plain_modules : plain_in (codes "sysmodules") ≡ Some values.SysModules
unfolding plain_in
plain_modules = refl

plain_path : plain_in (codes "syspath") ≡ Some values.SysPath
unfolding plain_in
plain_path = refl

plain_namespace : plain_in (codes "nspath") ≡ Some values.NsPath
unfolding plain_in
plain_namespace = refl

plain_text : (text : List ℕ) → is_utf8 text ≡ true → plain_in (quoted text) ≡ Some (values.Text text)
unfolding plain_in
plain_text text h = ap (option_map values.Text) (text_read text h)

plain_number : (z : ℤ) → fits_i128 z ≡ true → plain_in (signed_decimal z) ≡ Some (values.Int z)
unfolding plain_in
plain_number z h =
    let first = signed_first z h in
    ap plain_in first.2 ∙ cond-false _ _ _ first.4 ∙ cond-true _ _ _ first.3
    ∙ ap (option_map values.Int) (ap signed_in (sym first.2) ∙ signed_again z h)

plain_native : (native : Native) → plain_in (codes "native(" ++ native_name native ++ codes ")") ≡ Some (values.Native native)
unfolding plain_in
plain_native native =
    let text = codes "native(" ++ native_name native ++ codes ")" in
    ap (λ o. option_or (option_map values.Native (option_and_then native_in o)) (after_native text)) (between_again (codes "native(") (native_name native) 41)
    ∙ ap (λ o. option_or (option_map values.Native o) (after_native text)) (native_read native)

plain_kind : (kind : Kind) → plain_in (codes "kind(" ++ kind_name kind ++ codes ")") ≡ Some (values.Kind kind)
unfolding plain_in
plain_kind kind =
    let text = codes "kind(" ++ kind_name kind ++ codes ")" in
    ap (λ o. option_or o (after_native text)) (native_not_kind (kind_name kind))
    ∙ ap (λ o. option_or (option_map values.Kind (option_and_then kind_in o)) (after_kind text)) (between_again (codes "kind(") (kind_name kind) 41)
    ∙ ap (λ o. option_or (option_map values.Kind o) (after_kind text)) (kind_read kind)

plain_function : (load index : ℕ) (name : List ℕ) → load < 2 ^ 32 → index < 2 ^ 32 → is_utf8 name ≡ true → plain_in (function_text load index name) ≡ Some (values.Func load index name)
unfolding plain_in
plain_function load index name a b u =
    let text = function_text load index name in
    ap (λ o. option_or o (after_native text)) (native_not_function load index name)
    ∙ ap (λ o. option_or o (after_kind text)) (kind_not_function load index name)
    ∙ ap (λ o. option_or o (option_or (module_value_in text) (error_value_in text))) (function_read load index name a b u)

plain_module : (m : ModRef) → module_fits m ≡ true → plain_in (module_text m) ≡ Some (values.Module m)
unfolding plain_in
plain_module m h =
    let text = module_text m in
    ap (λ o. option_or o (after_native text)) (native_not_module m)
    ∙ ap (λ o. option_or o (after_kind text)) (kind_not_module m)
    ∙ ap (λ o. option_or o (option_or (module_value_in text) (error_value_in text))) (function_not_module m)
    ∙ ap (λ o. option_or (option_map values.Module o) (error_value_in text)) (module_read m h)

plain_error : (error : Raised) → error_fits error ≡ true → plain_in (error_text error) ≡ Some (values.Error error)
unfolding plain_in
plain_error error h =
    let text = error_text error in
    ap (λ o. option_or o (after_native text)) (native_not_error error)
    ∙ ap (λ o. option_or o (after_kind text)) (kind_not_error error)
    ∙ ap (λ o. option_or o (option_or (module_value_in text) (error_value_in text))) (function_not_error error)
    ∙ ap (λ o. option_or o (error_value_in text)) (module_not_error error)
    ∙ ap (option_map values.Error) (error_read error h)

-- ---- what is spelled is read back

-- a value that begins with neither bracket is plain
flat : (n b : ℕ) (bs : List ℕ) → eqb b 91 ≡ false → eqb b 40 ≡ false → value_in n (b ∷ bs) ≡ plain_in (b ∷ bs)
unfolding value_in nested
flat zero b bs f g = refl
flat (suc n) b bs f g = cond-false _ _ _ f ∙ cond-false _ _ _ g

abbrev Reads : Value → Type 0
Reads v = (parts_fit v ≡ true → IsItem (value_text v)) × ((n : ℕ) → parts_fit v ≡ true → nesting_of v ≤ n → value_in n (value_text v) ≡ Some v)

abbrev text_of : Value-F Value → List ℕ
text_of z = value_at (map-Value Value (List ℕ) value_text z)

abbrev fits_of : Value-F Value → Bool
fits_of z = value_fits_at (map-Value Value Bool parts_fit z)

leaf : (z : Value-F Value) (v : Value) → roll-Value z ≡ v → (fits_of z ≡ true → IsItem (text_of z)) → (fits_of z ≡ true → (n : ℕ) → value_in n (text_of z) ≡ Some v) → Reads (roll-Value z)
leaf z v r item read =
    let spelled : value_text (roll-Value z) ≡ text_of z = fold-roll-Value (List ℕ) value_at z in
    let fits : parts_fit (roll-Value z) ≡ fits_of z = fold-roll-Value Bool value_fits_at z in
    (λ h. subst IsItem (sym spelled) (item (sym fits ∙ h)), λ n h k. ap (value_in n) spelled ∙ read (sym fits ∙ h) n ∙ ap Some (sym r))

words_closed : (word : List ℕ) → list_all is_ordinary word ≡ true → Closed word
words_closed word h = ordinary_closed word h

one_regrouped : (word a : List ℕ) → word ++ ((codes "(" ++ a) ++ codes ")") ≡ (word ++ codes "(") ++ a ++ codes ")"
one_regrouped word a = simp append_assoc

native_ordinary : (native : Native) → list_all is_ordinary (native_name native) ≡ true
native_ordinary natives.Print = refl
native_ordinary natives.Str = refl
native_ordinary natives.Repr = refl
native_ordinary natives.Len = refl
native_ordinary natives.HasAttr = refl
native_ordinary natives.GetAttr = refl
native_ordinary natives.InvalidateCaches = refl
native_ordinary natives.Reload = refl
native_ordinary natives.Lazy = refl

pub one_closed : (word a : List ℕ) → Closed word → Closed a → Closed ((word ++ codes "(") ++ a ++ codes ")")
one_closed word a w ca = subst Closed (one_regrouped word a) (closed_both word ((codes "(" ++ a) ++ codes ")") w (in_parentheses_closed a (inner_closed a ca)))

function_closed : (load index : ℕ) (name : List ℕ) → load < 2 ^ 32 → index < 2 ^ 32 → is_utf8 name ≡ true → Closed (function_text load index name)
function_closed load index name a b u =
    called_closed (codes "func") (decimal load) (decimal index) (name_text name) (ordinary_closed (codes "func") refl) (number_closed load (omega arith)) (number_closed index (omega arith)) (any_name_closed name u)

native_closed : (native : Native) → Closed (codes "native(" ++ native_name native ++ codes ")")
native_closed native = one_closed (codes "native") (native_name native) (ordinary_closed (codes "native") refl) (ordinary_closed (native_name native) (native_ordinary native))

function_parts : (load index : ℕ) (name : List ℕ) → ltb load (2 ^ 32) && (ltb index (2 ^ 32) && is_utf8 name) ≡ true → (load < 2 ^ 32) × (index < 2 ^ 32) × (is_utf8 name ≡ true)
function_parts load index name h =
    let a = and_parts (ltb load (2 ^ 32)) (ltb index (2 ^ 32) && is_utf8 name) h in
    let b = and_parts (ltb index (2 ^ 32)) (is_utf8 name) a.1 in
    (ltb-true load (2 ^ 32) a.0, ltb-true index (2 ^ 32) b.0, b.1)

bool_item : (b : Bool) → IsItem (bool_text b)
bool_item true = (ordinary_closed (codes "True") refl, tt)
bool_item false = (ordinary_closed (codes "False") refl, tt)

bool_read : (n : ℕ) (b : Bool) → value_in n (bool_text b) ≡ Some (values.Bool b)
bool_read n true = flat n _ _ refl refl ∙ plain_bool true
bool_read n false = flat n _ _ refl refl ∙ plain_bool false

number_flat : (n : ℕ) (z : ℤ) → fits_i128 z ≡ true → value_in n (signed_decimal z) ≡ plain_in (signed_decimal z)
number_flat n z h =
    let first = signed_first z h in
    ap (value_in n) first.2 ∙ flat n first.0 first.1 first.5 first.6 ∙ ap plain_in (sym first.2)

-- ---- lists and tuples

abbrev Part : Type 0
Part = (v : Value) × Reads v

abbrev parts : List Part → List Value
parts ps = map (λ e. e.0) ps

all_items : (ps : List Part) → list_all (λ fits. fits) (map parts_fit (parts ps)) ≡ true → AllByRecursion IsItem (map value_text (parts ps))
all_items [] h = tt
all_items (p ∷ ps) h = let both = and_parts (parts_fit p.0) _ h in (p.1.0 both.0, all_items ps both.1)

all_read : (n : ℕ) (ps : List Part) → list_all (λ fits. fits) (map parts_fit (parts ps)) ≡ true → most (map nesting_of (parts ps)) ≤ n → AllByRecursion (λ v. value_in n (value_text v) ≡ Some v) (parts ps)
all_read n [] h k = tt
all_read n (p ∷ ps) h k =
    let both = and_parts (parts_fit p.0) _ h in
    (p.1.1 n both.0 (omega arith), all_read n ps both.1 (omega arith))

behind_commas : (texts : List (List ℕ)) → AllByRecursion IsItem texts → Inner (flat_map (λ text. 44 ∷ text) texts)
behind_commas [] h n = refl
behind_commas (x ∷ xs) h n = inner_both (44 ∷ x) (flat_map (λ text. 44 ∷ text) xs) (inner_both (44 ∷ []) x inner_comma (inner_closed x h.0.0)) (behind_commas xs h.1) n

pub joined_inner : (texts : List (List ℕ)) → AllByRecursion IsItem texts → Inner (joined 44 texts)
joined_inner [] h n = refl
joined_inner (x ∷ xs) h n = inner_both x (flat_map (λ text. 44 ∷ text) xs) (inner_closed x h.0.0) (behind_commas xs h.1) n

list_read : (n : ℕ) (ps : List Part) → list_all (λ fits. fits) (map parts_fit (parts ps)) ≡ true → most (map nesting_of (parts ps)) + 1 ≤ n → value_in n ((codes "[" ++ joined 44 (map value_text (parts ps))) ++ codes "]") ≡ Some (values.List (parts ps))
unfolding value_in nested
list_read zero ps h k = absurd (omega arith)
list_read (suc n) ps h k = ap (option_map values.List) (listed_again (codes "[") 93 (value_in n) value_text (parts ps) (all_items ps h) (all_read n ps h (omega arith)))

tuple_read : (n : ℕ) (ps : List Part) → list_all (λ fits. fits) (map parts_fit (parts ps)) ≡ true → most (map nesting_of (parts ps)) + 1 ≤ n → value_in n ((codes "(" ++ joined 44 (map value_text (parts ps))) ++ codes ")") ≡ Some (values.Tuple (parts ps))
unfolding value_in nested
tuple_read zero ps h k = absurd (omega arith)
tuple_read (suc n) ps h k = ap (option_map values.Tuple) (listed_again (codes "(") 41 (value_in n) value_text (parts ps) (all_items ps h) (all_read n ps h (omega arith)))

list_reads : (ps : List Part) → Reads (roll-Value (Value-F.List (parts ps)))
list_reads ps =
    let z : Value-F Value = Value-F.List (parts ps) in
    let spelled : value_text (roll-Value z) ≡ text_of z = fold-roll-Value (List ℕ) value_at z in
    let fits : parts_fit (roll-Value z) ≡ fits_of z = fold-roll-Value Bool value_fits_at z in
    let deep : nesting_of (roll-Value z) ≡ most (map nesting_of (parts ps)) + 1 = fold-roll-Value ℕ nesting_at z in (
      λ h. subst IsItem (sym spelled) (in_brackets_closed (joined 44 (map value_text (parts ps))) (joined_inner (map value_text (parts ps)) (all_items ps (sym fits ∙ h))), tt),
      λ n h k. ap (value_in n) spelled ∙ list_read n ps (sym fits ∙ h) (omega (arith, deep)) ∙ ap Some (sym (rolls-List (parts ps))),
    )

tuple_reads : (ps : List Part) → Reads (roll-Value (Value-F.Tuple (parts ps)))
tuple_reads ps =
    let z : Value-F Value = Value-F.Tuple (parts ps) in
    let spelled : value_text (roll-Value z) ≡ text_of z = fold-roll-Value (List ℕ) value_at z in
    let fits : parts_fit (roll-Value z) ≡ fits_of z = fold-roll-Value Bool value_fits_at z in
    let deep : nesting_of (roll-Value z) ≡ most (map nesting_of (parts ps)) + 1 = fold-roll-Value ℕ nesting_at z in (
      λ h. subst IsItem (sym spelled) (in_parentheses_closed (joined 44 (map value_text (parts ps))) (joined_inner (map value_text (parts ps)) (all_items ps (sym fits ∙ h))), tt),
      λ n h k. ap (value_in n) spelled ∙ tuple_read n ps (sym fits ∙ h) (omega (arith, deep)) ∙ ap Some (sym (rolls-Tuple (parts ps))),
    )

layer : (y : Value-F Part) → Reads (roll-Value (map-Value Part Value (λ e. e.0) y))
layer Value-F.Nothing = leaf Value-F.Nothing values.Nothing rolls-Nothing (λ h. (words_closed (codes "None") refl, tt)) (λ h n. flat n _ _ refl refl ∙ plain_nothing)
layer (Value-F.Bool b) = leaf (Value-F.Bool b) (values.Bool b) (rolls-Bool b) (λ h. bool_item b) (λ h n. bool_read n b)
layer (Value-F.Int z) = leaf (Value-F.Int z) (values.Int z) (rolls-Int z) (λ h. (signed_closed z h, signed_solid z h)) (λ h n. number_flat n z h ∙ plain_number z h)
layer (Value-F.Text text) = leaf (Value-F.Text text) (values.Text text) (rolls-Text text) (λ h. (quoted_closed text, tt)) (λ h n. flat n _ _ refl refl ∙ plain_text text h)
layer (Value-F.List items) = list_reads items
layer (Value-F.Tuple items) = tuple_reads items
layer (Value-F.Func load index name) =
    leaf (Value-F.Func load index name) (values.Func load index name) (rolls-Func load index name)
    (λ h. let p = function_parts load index name h in (function_closed load index name p.0 p.1 p.2, tt))
    (λ h n. let p = function_parts load index name h in flat n _ _ refl refl ∙ plain_function load index name p.0 p.1 p.2)
layer (Value-F.Native native) = leaf (Value-F.Native native) (values.Native native) (rolls-Native native) (λ h. (native_closed native, tt)) (λ h n. flat n _ _ refl refl ∙ plain_native native)
layer (Value-F.Kind kind) = leaf (Value-F.Kind kind) (values.Kind kind) (rolls-Kind kind) (λ h. (one_closed (codes "kind") (kind_name kind) (ordinary_closed (codes "kind") refl) (kind_closed kind), tt)) (λ h n. flat n _ _ refl refl ∙ plain_kind kind)
layer (Value-F.Module m) = leaf (Value-F.Module m) (values.Module m) (rolls-Module m) (λ h. (module_closed m h, tt)) (λ h n. flat n _ _ refl refl ∙ plain_module m h)
layer (Value-F.Error error) = leaf (Value-F.Error error) (values.Error error) (rolls-Error error) (λ h. (error_closed error, tt)) (λ h n. flat n _ _ refl refl ∙ plain_error error h)
layer Value-F.SysModules = leaf Value-F.SysModules values.SysModules rolls-SysModules (λ h. (words_closed (codes "sysmodules") refl, tt)) (λ h n. flat n _ _ refl refl ∙ plain_modules)
layer Value-F.SysPath = leaf Value-F.SysPath values.SysPath rolls-SysPath (λ h. (words_closed (codes "syspath") refl, tt)) (λ h n. flat n _ _ refl refl ∙ plain_path)
layer Value-F.NsPath = leaf Value-F.NsPath values.NsPath rolls-NsPath (λ h. (words_closed (codes "nspath") refl, tt)) (λ h n. flat n _ _ refl refl ∙ plain_namespace)

pub value_reads : (v : Value) → Reads v
value_reads = induct Reads layer

pub value_item : (v : Value) → value_fits v ≡ true → IsItem (value_text v)
value_item v h = (value_reads v).0 (and_parts (parts_fit v) (leb (nesting_of v) 64) h).0

pub value_read : (v : Value) → value_fits v ≡ true → value_in 64 (value_text v) ≡ Some v
value_read v h =
    let both = and_parts (parts_fit v) (leb (nesting_of v) 64) h in
    (value_reads v).1 64 both.0 (leb-true (nesting_of v) 64 both.1)
