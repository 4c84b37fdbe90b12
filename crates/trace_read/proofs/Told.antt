-- A value that was read is spelled so.
use Rattle.std.proofs.Common.{◌≡◌, ◌∙◌, refl, sym, ap, subst, ℕ, zero, suc, ◌+◌, ◌^◌, ◌<◌, ◌≤◌, List, [], ◌∷◌, ◌++◌, map, Bool, true, false, eqb, ltb, leb, ◌&&◌, Option, Some, None, arith, inl, inr, ◌⊎◌, codes, if◌then◌else◌}
use Rattle.std.proofs.lemmas.Bool.{cases_Bool, and_parts, and_from, lt-ltb, leb-true, le-leb, cond-true, cond-false}
use Rattle.std.proofs.lemmas.Option.{option_and_then_some}
use Rattle.std.specs.List.{list_all, AllByRecursion}
use Rattle.std.specs.Option.{option_map, option_and_then, option_or}
use Rattle.std.specs.Fmt.{decimal}
use Rattle.std.proofs.lemmas.Slice.Eq.{bytes_eq-Decides}
use Rattle.std.specs.Str.{is_utf8, bytes_eq}
use Rattle.py_value.specs.declared.value.Value.{Value, roll-Value, map-Value}
use Rattle.py_value.specs.declared.value.Value.TheVariants as values
use Rattle.py_value.specs.declared.value.Value.TheVariants.{rolls-Nothing, rolls-Bool, rolls-Int, rolls-Text, rolls-List, rolls-Tuple, rolls-Func, rolls-Native, rolls-Kind, rolls-Module, rolls-Error, rolls-SysModules, rolls-SysPath, rolls-NsPath}
use Rattle.py_value.specs.declared.value.Value.TheOpen.{Value-F}
use Rattle.py_value.specs.declared.value.Value.TheFolds.{fold-roll-Value}
use Rattle.py_value.specs.Names.{kind_name, native_name}
use Rattle.py_value.specs.Measures.{most, nesting_at, nesting_of}
use Rattle.trace_text.specs.Values.{name_text, value_at, value_text}
use Rattle.trace_fields.specs.Fields.{small_number_in, any_name_in}
use Rattle.trace_fields.specs.Fields.{lookup}
use Rattle.trace_fields.specs.Parts.{between, three_in, listed}
use Rattle.trace_fields.specs.Words.{kind_in, native_in, constant_in, constant_word, constant_value, all_natives, all_kinds, all_constants}
use Rattle.trace_fields.specs.Values.{signed_in, module_in, error_in, function_of, function_in, native_value_in, kind_value_in, module_value_in, error_value_in, text_value_in, number_value_in, called_in, worded_in, begins_number, plain_in, nested, value_in}
use Rattle.base_spelling.specs.Read.{text_in}
use Rattle.trace_read.proofs.Held.{some_is, small_number_takes, any_name_takes, lookup_takes}
use Rattle.trace_read.specs.FieldsFit.{value_fits_at, parts_fit, value_fits}
use Rattle.trace_read.proofs.Between.{between_takes, three_takes}
use Rattle.trace_read.proofs.Listed.{listed_takes, mapped_some}
use Rattle.trace_read.proofs.Signed.{signed_takes}
use Rattle.trace_read.proofs.Modules.{text_told, module_told, error_told}

abbrev Told : ℕ → List ℕ → Value → Type 0
Told n field v = (field ≡ value_text v) × (parts_fit v ≡ true) × (nesting_of v ≤ n)

told_by : (n : ℕ) (field : List ℕ) (z : Value-F Value) (v : Value) → roll-Value z ≡ v → field ≡ value_at (map-Value Value (List ℕ) value_text z) → value_fits_at (map-Value Value Bool parts_fit z) ≡ true →
    nesting_at (map-Value Value ℕ nesting_of z) ≤ n → Told n field v
told_by n field z v r f g h =
    subst (Told n field) r (f ∙ sym (fold-roll-Value (List ℕ) value_at z), fold-roll-Value Bool value_fits_at z ∙ g, subst (λ k. k ≤ n) (sym (fold-roll-Value ℕ nesting_at z)) h)

pub either : {X : Type 0} (o p : Option X) (x : X) → option_or o p ≡ Some x → (o ≡ Some x) ⊎ (p ≡ Some x)
either None p x h = inr h
either (Some y) p x h = inl h

branch : {X : Type 0} (b : Bool) (o p : Option X) (x : X) → (if b then o else p) ≡ Some x → (o ≡ Some x) ⊎ (p ≡ Some x)
branch true o p x h = inl h
branch false o p x h = inr h

-- what a word of a table stands for has what all of them have
lookup_all : {X : Type 0} (word : X → List ℕ) (P : List ℕ → X → Type 0) (field : List ℕ) (xs : List X) (x : X) → AllByRecursion (λ w. P (word w) w) xs → lookup field (map (λ w. (word w, w)) xs) ≡ Some x → P field x
lookup_all word P field [] x all h = cc
lookup_all word P field (y ∷ ys) x all h = elim (cases_Bool (bytes_eq field (word y))) [
  | inl same ↦
      let is : y ≡ x = some_is y x (sym (cond-true (bytes_eq field (word y)) (Some y) (lookup field (map (λ w. (word w, w)) ys)) same) ∙ h) in
      subst (P field) is (subst (λ f. P f y) (sym ((bytes_eq-Decides field (word y)).0 same)) all.0)
  | inr other ↦ lookup_all word P field ys x all.1 (sym (cond-false (bytes_eq field (word y)) (Some y) (lookup field (map (λ w. (word w, w)) ys)) other) ∙ h)
]

constants_told : (n : ℕ) → AllByRecursion (λ c. Told n (constant_word c) (constant_value c)) all_constants
constants_told n = (
  told_by n (codes "None") Value-F.Nothing values.Nothing rolls-Nothing refl refl (omega arith),
  (
    told_by n (codes "True") (Value-F.Bool true) (values.Bool true) (rolls-Bool true) refl refl (omega arith),
    (
      told_by n (codes "False") (Value-F.Bool false) (values.Bool false) (rolls-Bool false) refl refl (omega arith),
      (
        told_by n (codes "sysmodules") Value-F.SysModules values.SysModules rolls-SysModules refl refl (omega arith),
        (
          told_by n (codes "syspath") Value-F.SysPath values.SysPath rolls-SysPath refl refl (omega arith),
          (told_by n (codes "nspath") Value-F.NsPath values.NsPath rolls-NsPath refl refl (omega arith), tt),
        ),
      ),
    ),
  ),
)

native_told : (n : ℕ) (field : List ℕ) (v : Value) → native_value_in field ≡ Some v → Told n field v
native_told n field v h =
    mapped_some values.Native (option_and_then native_in (between (codes "native(") 41 field)) v h (λ native held same.
    option_and_then_some native_in (between (codes "native(") 41 field) native held (λ inside is found.
    let word = lookup_takes native_name inside all_natives native found in
    let whole : field ≡ codes "native(" ++ native_name native ++ codes ")" = between_takes (codes "native(") 41 field inside is ∙ ap (λ t. codes "native(" ++ t ++ codes ")") word in
    subst (Told n field) same (told_by n field (Value-F.Native native) _ (rolls-Native native) whole refl (omega arith))))

kind_told : (n : ℕ) (field : List ℕ) (v : Value) → kind_value_in field ≡ Some v → Told n field v
kind_told n field v h =
    mapped_some values.Kind (option_and_then kind_in (between (codes "kind(") 41 field)) v h (λ kind held same.
    option_and_then_some kind_in (between (codes "kind(") 41 field) kind held (λ inside is found.
    let word = lookup_takes kind_name inside all_kinds kind found in
    let whole : field ≡ codes "kind(" ++ kind_name kind ++ codes ")" = between_takes (codes "kind(") 41 field inside is ∙ ap (λ t. codes "kind(" ++ t ++ codes ")") word in
    subst (Told n field) same (told_by n field (Value-F.Kind kind) _ (rolls-Kind kind) whole refl (omega arith))))

function_told : (n : ℕ) (field : List ℕ) (v : Value) → function_in field ≡ Some v → Told n field v
function_told n field v h =
    option_and_then_some function_of (three_in (codes "func(") field) v h (λ p parts held.
    option_and_then_some (λ load. option_and_then (λ index. option_map (λ name. values.Func load index name) (any_name_in p.2)) (small_number_in p.1)) (small_number_in p.0) v held (λ load is_load more.
    option_and_then_some (λ index. option_map (λ name. values.Func load index name) (any_name_in p.2)) (small_number_in p.1) v more (λ index is_index last.
    mapped_some (λ name. values.Func load index name) (any_name_in p.2) v last (λ name is_name same.
    let t0 = small_number_takes p.0 load is_load in
    let t1 = small_number_takes p.1 index is_index in
    let t2 = any_name_takes p.2 name is_name in
    let whole : field ≡ codes "func(" ++ decimal load ++ codes "," ++ decimal index ++ codes "," ++ name_text name ++ codes ")" =
    three_takes (codes "func(") field p.0 p.1 p.2 parts ∙ (λ k. codes "func(" ++ t0.0 k ++ codes "," ++ t1.0 k ++ codes "," ++ t2.0 k ++ codes ")")
    in
    let fits : ltb load (2 ^ 32) && (ltb index (2 ^ 32) && is_utf8 name) ≡ true = and_from _ _ (lt-ltb load (2 ^ 32) t0.1) (and_from _ _ (lt-ltb index (2 ^ 32) t1.1) t2.1) in
    subst (Told n field) same (told_by n field (Value-F.Func load index name) _ (rolls-Func load index name) whole fits (omega arith))))))

called_told : (n : ℕ) (field : List ℕ) (v : Value) → called_in field ≡ Some v → Told n field v
called_told n field v h = elim (either (native_value_in field) _ v h) [
  | inl w ↦ native_told n field v w
  | inr w ↦ elim (either (kind_value_in field) _ v w) [
    | inl x ↦ kind_told n field v x
    | inr x ↦ elim (either (function_in field) _ v x) [
      | inl y ↦ function_told n field v y
      | inr y ↦ elim (either (module_value_in field) _ v y) [
        | inl z ↦ mapped_some values.Module (module_in field) v z (λ m is same. let t = module_told field m is in subst (Told n field) same (told_by n field (Value-F.Module m) _ (rolls-Module m) t.0 t.1 (omega arith)))
        | inr z ↦ mapped_some values.Error (error_in field) v z (λ error is same. let t = error_told field error is in subst (Told n field) same (told_by n field (Value-F.Error error) _ (rolls-Error error) t.0 t.1 (omega arith)))
      ]
    ]
  ]
]

worded_told : (n : ℕ) (field : List ℕ) (v : Value) → worded_in field ≡ Some v → Told n field v
worded_told n field v h = elim (either (option_map constant_value (constant_in field)) _ v h) [
  | inl w ↦ mapped_some constant_value (constant_in field) v w (λ c is same. subst (λ x. Told n field x) same (lookup_all constant_word (λ f x. Told n f (constant_value x)) field all_constants c (constants_told n) is))
  | inr w ↦ called_told n field v w
]

plain_told : (n : ℕ) (field : List ℕ) (v : Value) → plain_in field ≡ Some v → Told n field v
unfolding plain_in
plain_told n [] v h = cc
plain_told n (b ∷ bs) v h =
    let field = b ∷ bs in
    elim (branch (eqb b 34) (text_value_in field) _ v h) [
      | inl w ↦ mapped_some values.Text (text_in field) v w (λ text is same. let t = text_told field text is in subst (Told n field) same (told_by n field (Value-F.Text text) _ (rolls-Text text) t.0 t.1 (omega arith)))
      | inr w ↦ elim (branch (begins_number b) (number_value_in field) _ v w) [
        | inl x ↦ mapped_some values.Int (signed_in field) v x (λ z is same. let t = signed_takes field z is in subst (Told n field) same (told_by n field (Value-F.Int z) _ (rolls-Int z) t.0 t.1 (omega arith)))
        | inr x ↦ worded_told n field v x
      ]
    ]

-- ---- lists and tuples

abbrev fits_within : ℕ → Value → Bool
fits_within n v = parts_fit v && leb (nesting_of v) n

all_fit : (n : ℕ) (vs : List Value) → list_all (fits_within n) vs ≡ true → list_all (λ fits. fits) (map parts_fit vs) ≡ true
all_fit n [] h = refl
all_fit n (v ∷ vs) h =
    let both = and_parts (fits_within n v) (list_all (fits_within n) vs) h in
    and_from _ _ (and_parts (parts_fit v) (leb (nesting_of v) n) both.0).0 (all_fit n vs both.1)

all_shallow : (n : ℕ) (vs : List Value) → list_all (fits_within n) vs ≡ true → most (map nesting_of vs) ≤ n
all_shallow n [] h = omega arith
all_shallow n (v ∷ vs) h =
    let both = and_parts (fits_within n v) (list_all (fits_within n) vs) h in
    let one : nesting_of v ≤ n = leb-true (nesting_of v) n (and_parts (parts_fit v) (leb (nesting_of v) n) both.0).1 in
    let others = all_shallow n vs both.1 in
    omega arith

abbrev Takes : ℕ → Type 0
Takes n = (field : List ℕ) (v : Value) → value_in n field ≡ Some v → (field ≡ value_text v) × (fits_within n v ≡ true)

list_told : (n : ℕ) (field : List ℕ) (v : Value) → Takes n → option_map values.List (listed (codes "[") 93 (value_in n) field) ≡ Some v → Told (suc n) field v
list_told n field v takes h =
    mapped_some values.List (listed (codes "[") 93 (value_in n) field) v h (λ items is same.
    let t = listed_takes (codes "[") 93 (value_in n) value_text (fits_within n) field items takes is in
    let deep = all_shallow n items t.1 in
    subst (Told (suc n) field) same (told_by (suc n) field (Value-F.List items) _ (rolls-List items) t.0 (all_fit n items t.1) (omega arith)))

tuple_told : (n : ℕ) (field : List ℕ) (v : Value) → Takes n → option_map values.Tuple (listed (codes "(") 41 (value_in n) field) ≡ Some v → Told (suc n) field v
tuple_told n field v takes h =
    mapped_some values.Tuple (listed (codes "(") 41 (value_in n) field) v h (λ items is same.
    let t = listed_takes (codes "(") 41 (value_in n) value_text (fits_within n) field items takes is in
    let deep = all_shallow n items t.1 in
    subst (Told (suc n) field) same (told_by (suc n) field (Value-F.Tuple items) _ (rolls-Tuple items) t.0 (all_fit n items t.1) (omega arith)))

nested_told : (n : ℕ) (field : List ℕ) (v : Value) → Takes n → nested (value_in n) field ≡ Some v → Told (suc n) field v
unfolding nested
nested_told n [] v takes h = cc
nested_told n (b ∷ bs) v takes h =
    let field = b ∷ bs in
    elim (branch (eqb b 91) (option_map values.List (listed (codes "[") 93 (value_in n) field)) _ v h) [
      | inl w ↦ list_told n field v takes w
      | inr w ↦ elim (branch (eqb b 40) (option_map values.Tuple (listed (codes "(") 41 (value_in n) field)) _ v w) [
        | inl x ↦ tuple_told n field v takes x
        | inr x ↦ plain_told (suc n) field v x
      ]
    ]

within : (n : ℕ) (field : List ℕ) (v : Value) → Told n field v → (field ≡ value_text v) × (fits_within n v ≡ true)
within n field v t = (t.0, and_from _ _ t.1 (le-leb (nesting_of v) n t.2))

value_takes : (n : ℕ) → Takes n
unfolding value_in
value_takes zero field v h = within zero field v (plain_told zero field v h)
value_takes (suc n) field v h = within (suc n) field v (nested_told n field v (value_takes n) h)

pub value_told : (field : List ℕ) (v : Value) → value_in 64 field ≡ Some v → (field ≡ value_text v) × (value_fits v ≡ true)
value_told field v h = value_takes 64 field v h
