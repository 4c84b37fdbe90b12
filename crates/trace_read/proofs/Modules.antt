-- Places, modules and errors are read back.
use Rattle.std.proofs.Common.{◌≡◌, ◌∙◌, refl, sym, ap, subst, ℕ, ◌^◌, ◌<◌, List, [], ◌∷◌, ◌++◌, map, Bool, true, false, eqb, ltb, ◌&&◌, Option, Some, None, arith, inl, inr, ◌⊎◌, append_assoc, codes, if◌then◌else◌}
use Rattle.std.proofs.lemmas.Bool.{cases_Bool, and_parts, and_from, ltb-true, lt-ltb, eqb-true, cond-true, cond-false}
use Rattle.std.proofs.lemmas.Option.{option_and_then_some}
use Rattle.std.proofs.lemmas.Slice.Eq.{bytes_eq-Decides}
use Rattle.std.proofs.lemmas.Str.{IsUtf8-from_is_utf8, is_utf8-from_IsUtf8}
use Rattle.std.specs.Option.{option_map, option_and_then}
use Rattle.std.specs.Fmt.{decimal}
use Rattle.std.specs.Str.{is_utf8, bytes_eq}
use Rattle.py_value.specs.declared.kind.Kind.{Kind}
use Rattle.py_value.specs.declared.kind.Kind.TheVariants as kinds
use Rattle.py_value.specs.declared.value.Place.{Place}
use Rattle.py_value.specs.declared.value.Place.TheVariants as places
use Rattle.py_value.specs.declared.value.ModRef.{ModRef}
use Rattle.py_value.specs.declared.value.Raised.{Raised}
use Rattle.py_value.specs.Names.{kind_name}
use Rattle.machine_events.specs.declared.module.Slot.{Slot}
use Rattle.machine_events.specs.declared.module.Slot.TheVariants as slots
use Rattle.base_spelling.specs.Spelling.{quoted}
use Rattle.base_spelling.specs.Candidates.{begins_with_quote}
use Rattle.base_spelling.specs.Read.{text_in}
use Rattle.base_spelling.proofs.Takes.{text_again, text_takes}
use Rattle.trace_text.specs.Values.{name_text, place_text, module_text, text_or_dash, error_text, slot_text}
use Rattle.trace_fields.specs.Fields.{small_number_in, any_name_in, lookup}
use Rattle.trace_fields.proofs.Closed.{Closed, Inner, closed_both, inner_both, inner_closed, inner_comma, ordinary_closed, in_parentheses_closed}
use Rattle.trace_fields.specs.Parts.{three_in}
use Rattle.trace_fields.specs.Words.{kind_in, all_kinds}
use Rattle.trace_fields.specs.Values.{file_in, place_in, module_of, module_in, text_or_dash_in, error_of, error_in, module_slot_in, slot_in}
use Rattle.trace_fields.proofs.Quoting.{quoted_closed}
use Rattle.trace_read.proofs.Decimals.{decimal_ordinary, small_wide}
use Rattle.trace_read.proofs.Held.{some_is, chosen, small_number_again, small_number_takes, any_name_again, any_name_takes, any_name_closed, lookup_takes}
use Rattle.trace_read.specs.FieldsFit.{place_fits, module_fits, option_fits, error_fits, slot_fits}
use Rattle.trace_read.proofs.Between.{three_again, three_takes}
use Rattle.trace_read.proofs.Listed.{mapped_some}

pub text_read : (text : List ℕ) → is_utf8 text ≡ true → text_in (quoted text) ≡ Some text
text_read text u = text_again text (IsUtf8-from_is_utf8 text u)

pub text_told : (field text : List ℕ) → text_in field ≡ Some text → (field ≡ quoted text) × (is_utf8 text ≡ true)
text_told field text h = let t = text_takes field text h in (t.0, is_utf8-from_IsUtf8 text t.1)

pub number_closed : (n : ℕ) → n < 2 ^ 64 → Closed (decimal n)
number_closed n h = ordinary_closed (decimal n) (decimal_ordinary n (small_wide n h))

-- ---- places

pub place_read : (place : Place) → place_fits place ≡ true → place_in (place_text place) ≡ Some place
place_read (places.File file) h = ap (option_map places.File) (text_read file h)
place_read places.BuiltIn h = refl
place_read places.Namespace h = refl

word_place : (a b : Bool) (place : Place) → (if a then Some places.BuiltIn else if b then Some places.Namespace else None) ≡ Some place → ((a ≡ true) × (places.BuiltIn ≡ place)) ⊎ ((b ≡ true) × (places.Namespace ≡ place))
word_place true b place h = inl (refl, some_is places.BuiltIn place h)
word_place false true place h = inr (refl, some_is places.Namespace place h)
word_place false false place h = cc

file_or : (b : Bool) (o p : Option Place) (place : Place) → (if b then o else p) ≡ Some place → (o ≡ Some place) ⊎ (p ≡ Some place)
file_or true o p place h = inl h
file_or false o p place h = inr h

pub place_told : (field : List ℕ) (place : Place) → place_in field ≡ Some place → (field ≡ place_text place) × (place_fits place ≡ true)
place_told field place h = elim (file_or (begins_with_quote field) (file_in field) _ place h) [
  | inl w ↦ mapped_some places.File (text_in field) place w (λ file is same. subst (λ p. (field ≡ place_text p) × (place_fits p ≡ true)) same (text_told field file is))
  | inr w ↦ elim (word_place (bytes_eq field (codes "builtin")) (bytes_eq field (codes "namespace")) place w) [
    | inl v ↦ subst (λ p. (field ≡ place_text p) × (place_fits p ≡ true)) v.1 ((bytes_eq-Decides field (codes "builtin")).0 v.0, refl)
    | inr v ↦ subst (λ p. (field ≡ place_text p) × (place_fits p ≡ true)) v.1 ((bytes_eq-Decides field (codes "namespace")).0 v.0, refl)
  ]
]

pub place_closed : (place : Place) → Closed (place_text place)
place_closed (places.File file) = quoted_closed file
place_closed places.BuiltIn = ordinary_closed (codes "builtin") refl
place_closed places.Namespace = ordinary_closed (codes "namespace") refl

-- ---- a word, and three parts behind it

pub called_closed : (word a b c : List ℕ) → Closed word → Closed a → Closed b → Closed c → Closed ((word ++ codes "(") ++ a ++ codes "," ++ b ++ codes "," ++ c ++ codes ")")
called_closed word a b c w ca cb cd =
    let inside = a ++ codes "," ++ b ++ codes "," ++ c in
    let inner : Inner inside =
    inner_both (a ++ codes "," ++ b ++ codes ",") c (inner_both (a ++ codes "," ++ b) (codes ",") (inner_both (a ++ codes ",") b (inner_both a (codes ",") (inner_closed a ca) inner_comma) (inner_closed b cb)) inner_comma) (inner_closed c cd)
    in
    let regrouped : word ++ ((codes "(" ++ inside) ++ codes ")") ≡ (word ++ codes "(") ++ a ++ codes "," ++ b ++ codes "," ++ c ++ codes ")" = simp append_assoc in
    subst Closed regrouped (closed_both word ((codes "(" ++ inside) ++ codes ")") w (in_parentheses_closed inside inner))

-- ---- modules

pub module_read : (m : ModRef) → module_fits m ≡ true → module_in (module_text m) ≡ Some m
unfolding module_in
module_read m h =
    let a = and_parts (ltb m.mid (2 ^ 32)) _ h in
    let b = and_parts (is_utf8 m.name) (place_fits m.place) a.1 in
    let small = ltb-true m.mid (2 ^ 32) a.0 in
    ap (option_and_then module_of) (three_again (codes "module(") (decimal m.mid) (name_text m.name) (place_text m.place) (number_closed m.mid (omega arith)) (any_name_closed m.name b.0) (place_closed m.place))
    ∙ ap (option_and_then (λ mid. option_and_then (λ name. option_map (λ place. record { mid = mid; name = name; place = place }) (place_in (place_text m.place))) (any_name_in (name_text m.name)))) (small_number_again m.mid small)
    ∙ ap (option_and_then (λ name. option_map (λ place. record { mid = m.mid; name = name; place = place }) (place_in (place_text m.place)))) (any_name_again m.name b.0)
    ∙ ap (option_map (λ place. record { mid = m.mid; name = m.name; place = place })) (place_read m.place b.1)

pub module_told : (field : List ℕ) (m : ModRef) → module_in field ≡ Some m → (field ≡ module_text m) × (module_fits m ≡ true)
unfolding module_in
module_told field m h =
    option_and_then_some module_of (three_in (codes "module(") field) m h (λ p parts held.
    option_and_then_some (λ mid. option_and_then (λ name. option_map (λ place. record { mid = mid; name = name; place = place }) (place_in p.2)) (any_name_in p.1)) (small_number_in p.0) m held (λ mid is_mid more.
    option_and_then_some (λ name. option_map (λ place. record { mid = mid; name = name; place = place }) (place_in p.2)) (any_name_in p.1) m more (λ name is_name last.
    mapped_some (λ place. record { mid = mid; name = name; place = place }) (place_in p.2) m last (λ place is_place same.
    let t0 = small_number_takes p.0 mid is_mid in
    let t1 = any_name_takes p.1 name is_name in
    let t2 = place_told p.2 place is_place in
    let whole : field ≡ codes "module(" ++ decimal mid ++ codes "," ++ name_text name ++ codes "," ++ place_text place ++ codes ")" =
    three_takes (codes "module(") field p.0 p.1 p.2 parts ∙ (λ k. codes "module(" ++ t0.0 k ++ codes "," ++ t1.0 k ++ codes "," ++ t2.0 k ++ codes ")")
    in
    subst (λ r. (field ≡ module_text r) × (module_fits r ≡ true)) same (whole, and_from _ _ (lt-ltb mid (2 ^ 32) t0.1) (and_from _ _ t1.1 t2.1))))))

pub module_closed : (m : ModRef) → module_fits m ≡ true → Closed (module_text m)
module_closed m h =
    let a = and_parts (ltb m.mid (2 ^ 32)) _ h in
    let b = and_parts (is_utf8 m.name) (place_fits m.place) a.1 in
    let small = ltb-true m.mid (2 ^ 32) a.0 in
    called_closed (codes "module") (decimal m.mid) (name_text m.name) (place_text m.place) (ordinary_closed (codes "module") refl) (number_closed m.mid (omega arith)) (any_name_closed m.name b.0) (place_closed m.place)

-- ---- errors

pub kind_read : (kind : Kind) → kind_in (kind_name kind) ≡ Some kind
kind_read kinds.BaseException = refl
kind_read kinds.Exception = refl
kind_read kinds.ArithmeticError = refl
kind_read kinds.ZeroDivisionError = refl
kind_read kinds.AttributeError = refl
kind_read kinds.ImportError = refl
kind_read kinds.ModuleNotFoundError = refl
kind_read kinds.LookupError = refl
kind_read kinds.IndexError = refl
kind_read kinds.KeyError = refl
kind_read kinds.NameError = refl
kind_read kinds.UnboundLocalError = refl
kind_read kinds.RuntimeError = refl
kind_read kinds.RecursionError = refl
kind_read kinds.DeadlockError = refl
kind_read kinds.SyntaxError = refl
kind_read kinds.TypeError = refl
kind_read kinds.ValueError = refl
kind_read kinds.ProfileError = refl

pub kind_closed : (kind : Kind) → Closed (kind_name kind)
kind_closed kinds.BaseException = ordinary_closed (codes "BaseException") refl
kind_closed kinds.Exception = ordinary_closed (codes "Exception") refl
kind_closed kinds.ArithmeticError = ordinary_closed (codes "ArithmeticError") refl
kind_closed kinds.ZeroDivisionError = ordinary_closed (codes "ZeroDivisionError") refl
kind_closed kinds.AttributeError = ordinary_closed (codes "AttributeError") refl
kind_closed kinds.ImportError = ordinary_closed (codes "ImportError") refl
kind_closed kinds.ModuleNotFoundError = ordinary_closed (codes "ModuleNotFoundError") refl
kind_closed kinds.LookupError = ordinary_closed (codes "LookupError") refl
kind_closed kinds.IndexError = ordinary_closed (codes "IndexError") refl
kind_closed kinds.KeyError = ordinary_closed (codes "KeyError") refl
kind_closed kinds.NameError = ordinary_closed (codes "NameError") refl
kind_closed kinds.UnboundLocalError = ordinary_closed (codes "UnboundLocalError") refl
kind_closed kinds.RuntimeError = ordinary_closed (codes "RuntimeError") refl
kind_closed kinds.RecursionError = ordinary_closed (codes "RecursionError") refl
kind_closed kinds.DeadlockError = ordinary_closed (codes "_DeadlockError") refl
kind_closed kinds.SyntaxError = ordinary_closed (codes "SyntaxError") refl
kind_closed kinds.TypeError = ordinary_closed (codes "TypeError") refl
kind_closed kinds.ValueError = ordinary_closed (codes "ValueError") refl
kind_closed kinds.ProfileError = ordinary_closed (codes "ProfileError") refl

dash_read : (name : Option (List ℕ)) → option_fits name ≡ true → text_or_dash_in (text_or_dash name) ≡ Some name
dash_read None h = refl
dash_read (Some text) h = ap (option_map Some) (text_read text h)

dash_cases : (b : Bool) (o : Option (List ℕ)) (y : Option (List ℕ)) → (if b then Some None else option_map Some o) ≡ Some y → ((b ≡ true) × (None ≡ y)) ⊎ ((x : List ℕ) × (o ≡ Some x) × (Some x ≡ y))
dash_cases true o y h = inl (refl, some_is None y h)
dash_cases false None y h = cc
dash_cases false (Some x) y h = inr (x, refl, some_is (Some x) y h)

dash_told : (field : List ℕ) (name : Option (List ℕ)) → text_or_dash_in field ≡ Some name → (field ≡ text_or_dash name) × (option_fits name ≡ true)
dash_told field name h = elim (dash_cases (bytes_eq field (codes "-")) (text_in field) name h) [
  | inl w ↦ subst (λ n. (field ≡ text_or_dash n) × (option_fits n ≡ true)) w.1 ((bytes_eq-Decides field (codes "-")).0 w.0, refl)
  | inr w ↦ subst (λ n. (field ≡ text_or_dash n) × (option_fits n ≡ true)) w.2 (text_told field w.0 w.1)
]

dash_closed : (name : Option (List ℕ)) → Closed (text_or_dash name)
dash_closed None = ordinary_closed (codes "-") refl
dash_closed (Some text) = quoted_closed text

pub error_read : (error : Raised) → error_fits error ≡ true → error_in (error_text error) ≡ Some error
unfolding error_in
error_read error h =
    let a = and_parts (is_utf8 error.text) (option_fits error.name) h in
    ap (option_and_then error_of) (three_again (codes "error(") (kind_name error.kind) (quoted error.text) (text_or_dash error.name) (kind_closed error.kind) (quoted_closed error.text) (dash_closed error.name))
    ∙ ap (option_and_then (λ kind. option_and_then (λ text. option_map (λ name. record { kind = kind; text = text; name = name }) (text_or_dash_in (text_or_dash error.name))) (text_in (quoted error.text)))) (kind_read error.kind)
    ∙ ap (option_and_then (λ text. option_map (λ name. record { kind = error.kind; text = text; name = name }) (text_or_dash_in (text_or_dash error.name)))) (text_read error.text a.0)
    ∙ ap (option_map (λ name. record { kind = error.kind; text = error.text; name = name })) (dash_read error.name a.1)

pub error_told : (field : List ℕ) (error : Raised) → error_in field ≡ Some error → (field ≡ error_text error) × (error_fits error ≡ true)
unfolding error_in
error_told field error h =
    option_and_then_some error_of (three_in (codes "error(") field) error h (λ p parts held.
    option_and_then_some (λ kind. option_and_then (λ text. option_map (λ name. record { kind = kind; text = text; name = name }) (text_or_dash_in p.2)) (text_in p.1)) (kind_in p.0) error held (λ kind is_kind more.
    option_and_then_some (λ text. option_map (λ name. record { kind = kind; text = text; name = name }) (text_or_dash_in p.2)) (text_in p.1) error more (λ text is_text last.
    mapped_some (λ name. record { kind = kind; text = text; name = name }) (text_or_dash_in p.2) error last (λ name is_name same.
    let t0 = lookup_takes kind_name p.0 all_kinds kind is_kind in
    let t1 = text_told p.1 text is_text in
    let t2 = dash_told p.2 name is_name in
    let whole : field ≡ codes "error(" ++ kind_name kind ++ codes "," ++ quoted text ++ codes "," ++ text_or_dash name ++ codes ")" =
    three_takes (codes "error(") field p.0 p.1 p.2 parts ∙ (λ k. codes "error(" ++ t0 k ++ codes "," ++ t1.0 k ++ codes "," ++ t2.0 k ++ codes ")")
    in
    subst (λ r. (field ≡ error_text r) × (error_fits r ≡ true)) same (whole, and_from _ _ t1.1 t2.1)))))

pub error_closed : (error : Raised) → Closed (error_text error)
error_closed error = called_closed (codes "error") (kind_name error.kind) (quoted error.text) (text_or_dash error.name) (ordinary_closed (codes "error") refl) (kind_closed error.kind) (quoted_closed error.text) (dash_closed error.name)

-- ---- slots

pub slot_read : (slot : Slot) → slot_fits slot ≡ true → slot_in (slot_text slot) ≡ Some slot
unfolding slot_in
slot_read slots.Absent h = refl
slot_read slots.Halted h = refl
slot_read (slots.Module m) h = ap (option_map slots.Module) (module_read m h)

slot_cases : (a b : Bool) (o : Option Slot) (slot : Slot) → (if a then Some slots.Absent else if b then Some slots.Halted else o) ≡ Some slot → ((a ≡ true) × (slots.Absent ≡ slot)) ⊎ ((b ≡ true) × (slots.Halted ≡ slot)) ⊎ (o ≡ Some slot)
slot_cases true b o slot h = inl (refl, some_is slots.Absent slot h)
slot_cases false true o slot h = inr (inl (refl, some_is slots.Halted slot h))
slot_cases false false o slot h = inr (inr h)

pub slot_told : (field : List ℕ) (slot : Slot) → slot_in field ≡ Some slot → (field ≡ slot_text slot) × (slot_fits slot ≡ true)
unfolding slot_in
slot_told field slot h = elim (slot_cases (bytes_eq field (codes "absent")) (bytes_eq field (codes "halted")) (module_slot_in field) slot h) [
  | inl w ↦ subst (λ s. (field ≡ slot_text s) × (slot_fits s ≡ true)) w.1 ((bytes_eq-Decides field (codes "absent")).0 w.0, refl)
  | inr v ↦ elim v [
    | inl w ↦ subst (λ s. (field ≡ slot_text s) × (slot_fits s ≡ true)) w.1 ((bytes_eq-Decides field (codes "halted")).0 w.0, refl)
    | inr w ↦ mapped_some slots.Module (module_in field) slot w (λ m is same. subst (λ s. (field ≡ slot_text s) × (slot_fits s ≡ true)) same (module_told field m is))
  ]
]

pub slot_closed : (slot : Slot) → slot_fits slot ≡ true → Closed (slot_text slot)
slot_closed slots.Absent h = ordinary_closed (codes "absent") refl
slot_closed slots.Halted h = ordinary_closed (codes "halted") refl
slot_closed (slots.Module m) h = module_closed m h
