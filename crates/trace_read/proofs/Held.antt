-- What a field holds is spelled so, and what is spelled so is held.
use Rattle.std.proofs.Common.{◌≡◌, ◌∙◌, refl, sym, ap, subst, ℕ, ◌^◌, ◌<◌, List, [], ◌∷◌, ◌++◌, map, Bool, true, false, ltb, ◌&&◌, Option, Some, None, arith, inl, inr, cond, chars, if◌then◌else◌}
use Rattle.std.proofs.lemmas.Bool.{cases_Bool, and_parts, cond-true, cond-false, ltb-true, lt-ltb}
use Rattle.std.proofs.lemmas.Slice.Eq.{bytes_eq-Decides}
use Rattle.std.proofs.lemmas.Str.{IsUtf8-from_is_utf8, is_utf8-from_IsUtf8}
use Rattle.std.specs.List.{list_all, flat_map}
use Rattle.std.specs.Fmt.{decimal}
use Rattle.std.specs.Str.{IsUtf8, is_utf8, bytes_eq}
use Rattle.spec_core.specs.Identifiers.{is_identifier, is_dotted}
use Rattle.base_spelling.specs.Numbers.{number_in}
use Rattle.base_spelling.proofs.Spelled.{number_takes, number_again}
use Rattle.base_spelling.specs.Spelling.{escaped, quoted}
use Rattle.base_spelling.specs.Read.{text_in}
use Rattle.base_spelling.proofs.Takes.{text_again, text_takes}
use Rattle.trace_text.specs.Values.{name_text, variable_text}
use Rattle.trace_fields.specs.Fields.{below_u32, small_number_in, bare_name, name_in, quoted_name_in, or_quoted_name, any_name_in, bare_variable, bare_variable_in, quoted_variable_in, or_quoted_variable, variable_in, lookup}
use Rattle.trace_fields.proofs.Closed.{Closed, is_ordinary, ordinary_closed}
use Rattle.trace_read.proofs.Naming.{dotted_ordinary, identifier_ordinary}
use Rattle.trace_fields.proofs.Quoting.{quoted_closed}

-- ---- choices

pub some_is : {X : Type 0} (x y : X) → Some x ≡ Some y → x ≡ y
some_is x y h = cc

pub chosen : {X : Type 0} (b : Bool) (x y : X) → (if b then Some x else None) ≡ Some y → (b ≡ true) × (x ≡ y)
chosen true x y h = (refl, cc)
chosen false x y h = cc

pub chosen_option : {X : Type 0} (b : Bool) (o : Option X) (y : X) → (if b then o else None) ≡ Some y → (b ≡ true) × (o ≡ Some y)
chosen_option true o y h = (refl, h)
chosen_option false o y h = cc

pub other_option : {X : Type 0} (b : Bool) (o : Option X) (y : X) → (if b then None else o) ≡ Some y → (b ≡ false) × (o ≡ Some y)
other_option true o y h = cc
other_option false o y h = (refl, h)

-- ---- numbers

below_again : (n : ℕ) → n < 2 ^ 32 → below_u32 (Some n) ≡ Some n
below_again n h = cond-true _ _ _ (lt-ltb n (2 ^ 32) h)

pub small_number_again : (n : ℕ) → n < 2 ^ 32 → small_number_in (decimal n) ≡ Some n
unfolding small_number_in
small_number_again n h = ap below_u32 (number_again n (omega arith)) ∙ below_again n h

below_takes : (o : Option ℕ) (n : ℕ) → below_u32 o ≡ Some n → (o ≡ Some n) × (n < 2 ^ 32)
below_takes None n h = cc
below_takes (Some m) n h =
    let c = chosen (ltb m (2 ^ 32)) m n h in
    (ap Some c.1, subst (λ k. k < 2 ^ 32) c.1 (ltb-true m (2 ^ 32) c.0))

pub small_number_takes : (field : List ℕ) (n : ℕ) → small_number_in field ≡ Some n → (field ≡ decimal n) × (n < 2 ^ 32)
unfolding small_number_in
small_number_takes field n h =
    let b = below_takes (number_in field) n h in
    ((number_takes field n b.0).0, b.1)

-- ---- dotted names

pub name_again : (name : List ℕ) → is_utf8 name ≡ true → is_dotted name ≡ true → name_in name ≡ Some name
unfolding name_in
name_again name u d = cond-true _ _ _ u ∙ cond-true _ _ _ d

pub name_takes : (field name : List ℕ) → name_in field ≡ Some name → (field ≡ name) × (is_utf8 name ≡ true) × (is_dotted name ≡ true)
unfolding name_in
name_takes field name h =
    let a = chosen_option (is_utf8 field) (bare_name field) name h in
    let b = chosen (is_dotted field) field name a.1 in
    (b.1, ap is_utf8 (sym b.1) ∙ a.0, ap is_dotted (sym b.1) ∙ b.0)

-- no quote begins a bare name
quoted_is_none : (text : List ℕ) → IsUtf8 (quoted text) → list_all is_ordinary (quoted text) ≡ true → ⊥
quoted_is_none text u h = let first : false ≡ true = (and_parts (is_ordinary 34) (list_all is_ordinary (flat_map escaped text ++ 34 ∷ [])) h).0 in cc

no_quoted_name : (text : List ℕ) → name_in (quoted text) ≡ None
unfolding name_in
no_quoted_name text = elim (cases_Bool (is_utf8 (quoted text))) [
  | inl u ↦ elim (cases_Bool (is_dotted (quoted text))) [
    | inl d ↦ let utf8 = IsUtf8-from_is_utf8 (quoted text) u in absurd (quoted_is_none text utf8 (dotted_ordinary (quoted text) utf8 d))
    | inr n ↦ cond-true _ _ _ u ∙ cond-false _ _ _ n
  ]
  | inr n ↦ cond-false _ _ _ n
]

pub any_name_again : (name : List ℕ) → is_utf8 name ≡ true → any_name_in (name_text name) ≡ Some name
unfolding any_name_in
any_name_again name u = elim (cases_Bool (is_dotted name)) [
  | inl d ↦
      ap (λ t. or_quoted_name t (name_in t)) (cond-true _ name (quoted name) d)
      ∙ ap (or_quoted_name name) (name_again name u d)
  | inr n ↦
      ap (λ t. or_quoted_name t (name_in t)) (cond-false _ name (quoted name) n)
      ∙ ap (or_quoted_name (quoted name)) (no_quoted_name name)
      ∙ ap quoted_name_in (text_again name (IsUtf8-from_is_utf8 name u))
      ∙ cond-false _ _ _ n
]

quoted_name_takes : (field name : List ℕ) (o : Option (List ℕ)) → text_in field ≡ o → quoted_name_in o ≡ Some name → (field ≡ name_text name) × (is_utf8 name ≡ true)
quoted_name_takes field name None is h = cc
quoted_name_takes field name (Some text) is h =
    let c = other_option (is_dotted text) (Some text) name h in
    let same : text ≡ name = some_is text name c.1 in
    let t = text_takes field text is in
    let none : is_dotted name ≡ false = ap is_dotted (sym same) ∙ c.0 in
    (t.0 ∙ ap quoted same ∙ sym (cond-false _ name (quoted name) none), ap is_utf8 (sym same) ∙ is_utf8-from_IsUtf8 text t.1)

any_name_from : (field name : List ℕ) (o : Option (List ℕ)) → name_in field ≡ o → or_quoted_name field o ≡ Some name → (field ≡ name_text name) × (is_utf8 name ≡ true)
any_name_from field name None is h = quoted_name_takes field name (text_in field) refl h
any_name_from field name (Some bare) is h =
    let same : bare ≡ name = some_is bare name h in
    let t = name_takes field bare is in
    let dotted : is_dotted name ≡ true = ap is_dotted (sym same) ∙ t.2 in
    (t.0 ∙ same ∙ sym (cond-true _ name (quoted name) dotted), ap is_utf8 (sym same) ∙ t.1)

pub any_name_takes : (field name : List ℕ) → any_name_in field ≡ Some name → (field ≡ name_text name) × (is_utf8 name ≡ true)
unfolding any_name_in
any_name_takes field name h = any_name_from field name (name_in field) refl h

pub any_name_closed : (name : List ℕ) → is_utf8 name ≡ true → Closed (name_text name)
any_name_closed name u = elim (cases_Bool (is_dotted name)) [
  | inl d ↦ subst Closed (sym (cond-true _ name (quoted name) d)) (ordinary_closed name (dotted_ordinary name (IsUtf8-from_is_utf8 name u) d))
  | inr n ↦ subst Closed (sym (cond-false _ name (quoted name) n)) (quoted_closed name)
]

-- ---- names of variables

bare_variable_again : (name : List ℕ) → is_utf8 name ≡ true → is_identifier (chars name) ≡ true → bare_variable_in name ≡ Some name
unfolding bare_variable_in
bare_variable_again name u d = cond-true _ _ _ u ∙ cond-true _ _ _ d

bare_variable_takes : (field name : List ℕ) → bare_variable_in field ≡ Some name → (field ≡ name) × (is_utf8 name ≡ true) × (is_identifier (chars name) ≡ true)
unfolding bare_variable_in
bare_variable_takes field name h =
    let a = chosen_option (is_utf8 field) (bare_variable field) name h in
    let b = chosen (is_identifier (chars field)) field name a.1 in
    (b.1, ap is_utf8 (sym b.1) ∙ a.0, ap (λ t. is_identifier (chars t)) (sym b.1) ∙ b.0)

no_quoted_variable : (text : List ℕ) → bare_variable_in (quoted text) ≡ None
unfolding bare_variable_in
no_quoted_variable text = elim (cases_Bool (is_utf8 (quoted text))) [
  | inl u ↦ elim (cases_Bool (is_identifier (chars (quoted text)))) [
    | inl d ↦ let utf8 = IsUtf8-from_is_utf8 (quoted text) u in absurd (quoted_is_none text utf8 (identifier_ordinary (quoted text) utf8 d))
    | inr n ↦ cond-true _ _ _ u ∙ cond-false _ _ _ n
  ]
  | inr n ↦ cond-false _ _ _ n
]

pub variable_again : (name : List ℕ) → is_utf8 name ≡ true → variable_in (variable_text name) ≡ Some name
unfolding variable_in
variable_again name u = elim (cases_Bool (is_identifier (chars name))) [
  | inl d ↦
      ap (λ t. or_quoted_variable t (bare_variable_in t)) (cond-true _ name (quoted name) d)
      ∙ ap (or_quoted_variable name) (bare_variable_again name u d)
  | inr n ↦
      ap (λ t. or_quoted_variable t (bare_variable_in t)) (cond-false _ name (quoted name) n)
      ∙ ap (or_quoted_variable (quoted name)) (no_quoted_variable name)
      ∙ ap quoted_variable_in (text_again name (IsUtf8-from_is_utf8 name u))
      ∙ cond-false _ _ _ n
]

quoted_variable_takes : (field name : List ℕ) (o : Option (List ℕ)) → text_in field ≡ o → quoted_variable_in o ≡ Some name → (field ≡ variable_text name) × (is_utf8 name ≡ true)
quoted_variable_takes field name None is h = cc
quoted_variable_takes field name (Some text) is h =
    let c = other_option (is_identifier (chars text)) (Some text) name h in
    let same : text ≡ name = some_is text name c.1 in
    let t = text_takes field text is in
    let none : is_identifier (chars name) ≡ false = ap (λ x. is_identifier (chars x)) (sym same) ∙ c.0 in
    (t.0 ∙ ap quoted same ∙ sym (cond-false _ name (quoted name) none), ap is_utf8 (sym same) ∙ is_utf8-from_IsUtf8 text t.1)

variable_from : (field name : List ℕ) (o : Option (List ℕ)) → bare_variable_in field ≡ o → or_quoted_variable field o ≡ Some name → (field ≡ variable_text name) × (is_utf8 name ≡ true)
variable_from field name None is h = quoted_variable_takes field name (text_in field) refl h
variable_from field name (Some bare) is h =
    let same : bare ≡ name = some_is bare name h in
    let t = bare_variable_takes field bare is in
    let identifier : is_identifier (chars name) ≡ true = ap (λ x. is_identifier (chars x)) (sym same) ∙ t.2 in
    (t.0 ∙ same ∙ sym (cond-true _ name (quoted name) identifier), ap is_utf8 (sym same) ∙ t.1)

pub variable_takes : (field name : List ℕ) → variable_in field ≡ Some name → (field ≡ variable_text name) × (is_utf8 name ≡ true)
unfolding variable_in
variable_takes field name h = variable_from field name (bare_variable_in field) refl h

pub variable_closed : (name : List ℕ) → is_utf8 name ≡ true → Closed (variable_text name)
variable_closed name u = elim (cases_Bool (is_identifier (chars name))) [
  | inl d ↦ subst Closed (sym (cond-true _ name (quoted name) d)) (ordinary_closed name (identifier_ordinary name (IsUtf8-from_is_utf8 name u) d))
  | inr n ↦ subst Closed (sym (cond-false _ name (quoted name) n)) (quoted_closed name)
]

-- ---- words of a table

-- what is found is found by its word
pub lookup_takes : {X : Type 0} (word : X → List ℕ) (field : List ℕ) (xs : List X) (x : X) → lookup field (map (λ w. (word w, w)) xs) ≡ Some x → field ≡ word x
lookup_takes word field [] x h = cc
lookup_takes word field (y ∷ ys) x h = elim (cases_Bool (bytes_eq field (word y))) [
  | inl same ↦
      let is : y ≡ x = some_is y x (sym (cond-true (bytes_eq field (word y)) (Some y) (lookup field (map (λ w. (word w, w)) ys)) same) ∙ h) in
      (bytes_eq-Decides field (word y)).0 same ∙ ap word is
  | inr other ↦ lookup_takes word field ys x (sym (cond-false (bytes_eq field (word y)) (Some y) (lookup field (map (λ w. (word w, w)) ys)) other) ∙ h)
]
