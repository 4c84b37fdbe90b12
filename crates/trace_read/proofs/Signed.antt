-- Signed numbers are read back.
use Rattle.std.proofs.Common.{◌≡◌, ◌∙◌, refl, sym, ap, subst, ℕ, suc, ℤ, pos, negsuc, ◌^◌, ◌<◌, ◌≤◌, List, [], ◌∷◌, Bool, true, false, eqb, ltb, leb, Option, Some, None, get_or, drop, arith, inl, inr, ◌⊎◌, codes, if◌then◌else◌}
use Rattle.std.proofs.lemmas.Bool.{and_parts, and_from, ltb-true, lt-ltb, leb-true, ne_eqb, cond-true, cond-false, false_from_ne_true}
use Rattle.std.proofs.lemmas.Slice.Eq.{bytes_eq-Decides}
use Rattle.std.specs.List.{list_all}
use Rattle.std.specs.Char.{is_ascii_digit}
use Rattle.std.specs.Fmt.{decimal, signed_decimal}
use Rattle.std.specs.Option.{option_map}
use Rattle.std.specs.Str.{bytes_eq}
use Rattle.std.specs.Str.Parse.{signed_digits_value}
use Rattle.trace_text.specs.Values.{place_in_path, load_text}
use Rattle.trace_fields.specs.Fields.{small_number_in}
use Rattle.trace_fields.proofs.Closed.{Closed, is_ordinary, ordinary_closed}
use Rattle.trace_fields.specs.Values.{fits_i128, written_so, signed_in, begins_number, place_in_path_in, load_in}
use Rattle.trace_fields.proofs.Signs.{wide, half_wide, value_again}
use Rattle.trace_read.proofs.Decimals.{decimal_first, decimal_ordinary, small_wide}
use Rattle.trace_read.proofs.Held.{chosen, chosen_option, some_is, small_number_again, small_number_takes}
use Rattle.trace_read.specs.FieldsFit.{place_at_fits, load_fits}
use Rattle.trace_read.proofs.Listed.{IsSolid}

pub signed_again : (z : ℤ) → fits_i128 z ≡ true → signed_in (signed_decimal z) ≡ Some z
unfolding signed_in
signed_again z h =
    let same : bytes_eq (signed_decimal z) (signed_decimal z) ≡ true = (bytes_eq-Decides (signed_decimal z) (signed_decimal z)).1 refl in
    ap (λ y. if fits_i128 y then written_so y (signed_decimal z) else None) (value_again z h) ∙ cond-true _ _ _ h ∙ cond-true _ _ _ same

pub signed_takes : (field : List ℕ) (z : ℤ) → signed_in field ≡ Some z → (field ≡ signed_decimal z) × (fits_i128 z ≡ true)
unfolding signed_in
signed_takes field z h =
    let y = signed_digits_value 10 field in
    let a = chosen_option (fits_i128 y) (written_so y field) z h in
    let b = chosen (bytes_eq (signed_decimal y) field) y z a.1 in
    (sym ((bytes_eq-Decides (signed_decimal y) field).0 b.0) ∙ ap signed_decimal b.1, ap fits_i128 (sym b.1) ∙ a.0)

pub signed_ordinary : (z : ℤ) → fits_i128 z ≡ true → list_all is_ordinary (signed_decimal z) ≡ true
signed_ordinary (pos n) h = decimal_ordinary n (wide n (ltb-true n (2 ^ 127) h))
signed_ordinary (negsuc n) h = and_from true (list_all is_ordinary (decimal (suc n))) refl (decimal_ordinary (suc n) (half_wide n (ltb-true n (2 ^ 127) h)))

pub signed_closed : (z : ℤ) → fits_i128 z ≡ true → Closed (signed_decimal z)
signed_closed z h = ordinary_closed (signed_decimal z) (signed_ordinary z h)

-- how a signed number begins
pub signed_first : (z : ℤ) → fits_i128 z ≡ true → (b : ℕ) × (bs : List ℕ) × (signed_decimal z ≡ b ∷ bs) × (begins_number b ≡ true) × (eqb b 34 ≡ false) × (eqb b 91 ≡ false) × (eqb b 40 ≡ false)
signed_first (pos n) h =
    let first = decimal_first n (wide n (ltb-true n (2 ^ 127) h)) in
    let b = first.0 in
    let both = and_parts (leb 48 b) (leb b 57) first.3 in
    let low : 48 ≤ b = leb-true 48 b both.0 in
    let high : b ≤ 57 = leb-true b 57 both.1 in
    let minus : eqb b 45 ≡ false = ne_eqb b 45 (λ e. omega arith) in
    (b, first.1, first.2, rw minus first.3, ne_eqb b 34 (λ e. omega arith), ne_eqb b 91 (λ e. omega arith), ne_eqb b 40 (λ e. omega arith))
signed_first (negsuc n) h = (45, decimal (suc n), refl, refl, refl, refl, refl)

pub signed_solid : (z : ℤ) → fits_i128 z ≡ true → IsSolid (signed_decimal z)
signed_solid z h = let first = signed_first z h in subst IsSolid (sym first.2) tt

-- a dash is no number
pub not_dash : (z : ℤ) → fits_i128 z ≡ true → bytes_eq (signed_decimal z) (codes "-") ≡ false
not_dash (pos n) h =
    let first = decimal_first n (wide n (ltb-true n (2 ^ 127) h)) in
    let both = and_parts (leb 48 first.0) (leb first.0 57) first.3 in
    let low : 48 ≤ first.0 = leb-true 48 first.0 both.0 in
    false_from_ne_true _ (λ same.
    let e : first.0 ∷ first.1 ≡ codes "-" = sym first.2 ∙ (bytes_eq-Decides (decimal n) (codes "-")).0 same in
    let head : first.0 ≡ 45 = ap (λ t. get_or t 0 0) e in
    omega arith)
not_dash (negsuc n) h =
    let first = decimal_first (suc n) (half_wide n (ltb-true n (2 ^ 127) h)) in
    false_from_ne_true _ (λ same.
    let e : 45 ∷ decimal (suc n) ≡ codes "-" = (bytes_eq-Decides (45 ∷ decimal (suc n)) (codes "-")).0 same in
    let none : decimal (suc n) ≡ [] = ap (drop 1) e in
    let some : ◌≡◌ {A = List ℕ} (first.0 ∷ first.1) [] = sym first.2 ∙ none in
    cc)

pub place_again : (at : Option ℤ) → place_at_fits at ≡ true → place_in_path_in (place_in_path at) ≡ Some at
place_again None h = refl
place_again (Some z) h = cond-false _ _ _ (not_dash z h) ∙ ap (option_map Some) (signed_again z h)

dash_or : {X : Type 0} (b : Bool) (o : Option X) (y : Option X) → (if b then Some None else option_map Some o) ≡ Some y → ((b ≡ true) × (None ≡ y)) ⊎ ((x : X) × (o ≡ Some x) × (Some x ≡ y))
dash_or true o y h = inl (refl, some_is None y h)
dash_or false None y h = cc
dash_or false (Some x) y h = inr (x, refl, some_is (Some x) y h)

pub place_takes : (field : List ℕ) (at : Option ℤ) → place_in_path_in field ≡ Some at → (field ≡ place_in_path at) × (place_at_fits at ≡ true)
place_takes field at h = elim (dash_or (bytes_eq field (codes "-")) (signed_in field) at h) [
  | inl w ↦ subst (λ y. (field ≡ place_in_path y) × (place_at_fits y ≡ true)) w.1 ((bytes_eq-Decides field (codes "-")).0 w.0, refl)
  | inr w ↦ subst (λ y. (field ≡ place_in_path y) × (place_at_fits y ≡ true)) w.2 (signed_takes field w.0 w.1)
]

number_not_dash : (n : ℕ) → n < 2 ^ 32 → bytes_eq (decimal n) (codes "-") ≡ false
number_not_dash n h = let small : n < 2 ^ 127 = omega arith in not_dash (pos n) (lt-ltb n (2 ^ 127) small)

pub load_again : (load : Option ℕ) → load_fits load ≡ true → load_in (load_text load) ≡ Some load
load_again None h = refl
load_again (Some n) h =
    let small = ltb-true n (2 ^ 32) h in
    cond-false _ _ _ (number_not_dash n small) ∙ ap (option_map Some) (small_number_again n small)

pub load_takes : (field : List ℕ) (load : Option ℕ) → load_in field ≡ Some load → (field ≡ load_text load) × (load_fits load ≡ true)
load_takes field load h = elim (dash_or (bytes_eq field (codes "-")) (small_number_in field) load h) [
  | inl w ↦ subst (λ y. (field ≡ load_text y) × (load_fits y ≡ true)) w.1 ((bytes_eq-Decides field (codes "-")).0 w.0, refl)
  | inr w ↦
      let t = small_number_takes field w.0 w.1 in
      subst (λ y. (field ≡ load_text y) × (load_fits y ≡ true)) w.2 (t.0, lt-ltb w.0 (2 ^ 32) t.1)
]

pub place_in_path_closed : (at : Option ℤ) → place_at_fits at ≡ true → Closed (place_in_path at)
place_in_path_closed None h = ordinary_closed (codes "-") refl
place_in_path_closed (Some z) h = signed_closed z h

pub load_closed : (load : Option ℕ) → load_fits load ≡ true → Closed (load_text load)
load_closed None h = ordinary_closed (codes "-") refl
load_closed (Some n) h = let small = ltb-true n (2 ^ 32) h in ordinary_closed (decimal n) (decimal_ordinary n (small_wide n (omega arith)))
