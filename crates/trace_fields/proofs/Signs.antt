-- What is no signed number.
use Rattle.std.proofs.Common.{◌≡◌, ◌∙◌, refl, sym, ap, subst, ℕ, zero, suc, ℤ, pos, negsuc, neg_ℤ, ◌+◌, ◌^◌, ◌<◌, ◌≤◌, List, [], ◌∷◌, ◌++◌, Bool, true, false, eqb, leb, ltb, length, FitsSigned, Option, Some, None, Result, Ok, Err, arith, lit<, inl, inr, if◌then◌else◌}
use Rattle.std.proofs.lemmas.Bool.{cases_Bool, and_parts, ltb-true, leb-true, ne_eqb, cond-true, cond-false, false_from_ne_true}
use Rattle.std.proofs.lemmas.Fmt.{decimal_is_IsNumeral_wide, IsAscii-decimal_wide}
use Rattle.std.proofs.lemmas.Slice.Eq.{bytes_eq-Decides}
use Rattle.std.proofs.lemmas.Str.{IsUtf8-from_ascii}
use Rattle.std.specs.Int.{w128}
use Rattle.std.specs.List.{list_all}
use Rattle.std.specs.Char.{is_ascii_digit}
use Rattle.std.specs.Fmt.{decimal, signed_decimal}
use Rattle.std.specs.Str.{IsUtf8, IsAscii, bytes_eq}
use Rattle.std.specs.Str.Parse.{IsNumeral, ParsesSigned, digits_value, signed_digits_value, without_leading_sign}
use Rattle.base_spelling.proofs.Spelled.{own}
use Rattle.trace_fields.specs.Values.{fits_i128, written_so, signed_in}

pub wide : (n : ℕ) → n < 2 ^ 127 → n < 10 ^ 64
wide n h = omega arith

pub half_wide : (n : ℕ) → n < 2 ^ 127 → suc n < 10 ^ 64
half_wide n h = omega arith

-- what begins with a digit has no sign
record Unsigned (ds : List ℕ) : Type 0 where
  pub value : signed_digits_value 10 ds ≡ pos (digits_value 10 ds)
  pub bare : without_leading_sign ds ≡ ds

unsigned : (ds : List ℕ) → list_all is_ascii_digit ds ≡ true → 0 < length ds → Unsigned ds
unsigned [] h some = absurd (omega arith)
unsigned (b ∷ bs) h some =
    let digit = (and_parts (is_ascii_digit b) (list_all is_ascii_digit bs) h).0 in
    let low : 48 ≤ b = leb-true 48 b (and_parts (leb 48 b) (leb b 57) digit).0 in
    let minus : eqb b 45 ≡ false = ne_eqb b 45 (λ e. omega arith) in
    let plus : eqb b 43 ≡ false = ne_eqb b 43 (λ e. omega arith) in
    record { value = rw (minus, plus) refl; bare = rw (minus, plus) refl }

plain : (n : ℕ) → n < 10 ^ 64 → Unsigned (decimal n)
plain n h = let is = decimal_is_IsNumeral_wide n h in unsigned (decimal n) (own.from (decimal n) is.0.1) is.0.0

pub value_again : (z : ℤ) → fits_i128 z ≡ true → signed_digits_value 10 (signed_decimal z) ≡ z
value_again (pos n) h =
    let small = wide n (ltb-true n (2 ^ 127) h) in
    (plain n small).value ∙ ap pos (decimal_is_IsNumeral_wide n small).1
value_again (negsuc n) h =
    let small = half_wide n (ltb-true n (2 ^ 127) h) in
    ap (λ k. neg_ℤ (pos k)) (decimal_is_IsNumeral_wide (suc n) small).1

numeral : (z : ℤ) → fits_i128 z ≡ true → IsNumeral 10 (without_leading_sign (signed_decimal z))
numeral (pos n) h =
    let small = wide n (ltb-true n (2 ^ 127) h) in
    subst (IsNumeral 10) (sym (plain n small).bare) (decimal_is_IsNumeral_wide n small).0
numeral (negsuc n) h = (decimal_is_IsNumeral_wide (suc n) (half_wide n (ltb-true n (2 ^ 127) h))).0

in_range : (z : ℤ) → fits_i128 z ≡ true → FitsSigned w128 z
in_range (pos n) h = record { sfits = ltb-true n (2 ^ 127) h }
in_range (negsuc n) h = record { sfits = ltb-true n (2 ^ 127) h }

minus_ascii : (ds : List ℕ) → IsAscii ds → IsAscii (45 ∷ ds)
minus_ascii ds h zero = lit< tt
minus_ascii ds h (suc i) = h i

as_text : (z : ℤ) → fits_i128 z ≡ true → IsUtf8 (signed_decimal z)
as_text (pos n) h = IsUtf8-from_ascii (decimal n) (IsAscii-decimal_wide n (wide n (ltb-true n (2 ^ 127) h)))
as_text (negsuc n) h = IsUtf8-from_ascii (45 ∷ decimal (suc n)) (minus_ascii (decimal (suc n)) (IsAscii-decimal_wide (suc n) (half_wide n (ltb-true n (2 ^ 127) h))))

none_written : (z : ℤ) (field : List ℕ) → (field ≡ signed_decimal z → ⊥) → None ≡ written_so z field
none_written z field h = sym (cond-false _ _ _ (false_from_ne_true (bytes_eq (signed_decimal z) field) (λ same. h (sym ((bytes_eq-Decides (signed_decimal z) field).0 same)))))

pub no_number : (field : List ℕ) → ((z : ℤ) → fits_i128 z ≡ true → field ≡ signed_decimal z → ⊥) → None ≡ signed_in field
unfolding signed_in
no_number field h =
    let z = signed_digits_value 10 field in
    elim (cases_Bool (fits_i128 z)) [
      | inl fits ↦ none_written z field (h z fits) ∙ sym (cond-true _ _ _ fits)
      | inr not ↦ sym (cond-false _ _ _ not)
    ]

pub no_text : (field : List ℕ) → ¬ (IsUtf8 field) → None ≡ signed_in field
no_text field h = no_number field (λ z fits is. h (subst IsUtf8 (sym is) (as_text z fits)))

pub not_parsed : {E : Type 0} (digits field : List ℕ) (e : E) → digits ≡ field → ParsesSigned w128 10 digits (Err e) → None ≡ signed_in field
not_parsed digits field e same h =
    no_number field (λ z fits is.
    let text : digits ≡ signed_decimal z = same ∙ is in
    let value : signed_digits_value 10 digits ≡ z = ap (signed_digits_value 10) text ∙ value_again z fits in
    h (subst (λ t. IsNumeral 10 (without_leading_sign t)) (sym text) (numeral z fits), subst (FitsSigned w128) (sym value) (in_range z fits)))
