-- Numbers and their spelling.
use Rattle.std.proofs.Common.{◌≡◌, ◌∙◌, sym, ap, refl, ℕ, ◌<◌, ◌≤◌, ◌^◌, List, [], ◌∷◌, length, get_or, true, false, Bool, not, leb, ltb, ◌&&◌, ◌||◌, Some, None, Option, Ok, Err, arith, rules, inl, inr, subst, if◌then◌else◌}
use Rattle.std.proofs.lemmas.Bool.{and_from, and_parts, and_left, and_right, or_cases, or_left, or_right, cond-true, cond-false, ltb-true, leb-true, lt-ltb, le-leb, not-true, ne_eqb, cases_order, false_from_ne_true, eq-eqb}
use Rattle.std.proofs.lemmas.Fmt.{digits_decimal, digits_value-decimal, decimal_nonempty, decimal_digit, first_decimal, decimal-digits_value, IsAscii-from_digits}
use Rattle.std.proofs.lemmas.Str.{IsUtf8-from_ascii}
use Rattle.std.proofs.lemmas.Str.Parse.{IsNumeralModel, numerals_by_value, parse_digits}
use Rattle.std.specs.List.{list_all}
use Rattle.std.specs.Char.{is_ascii_digit}
use Rattle.std.specs.Fmt.{decimal}
use Rattle.std.specs.Option.{IfSome}
use Rattle.std.specs.Str.{IsUtf8}
use Rattle.std.specs.Str.Parse.{ParsesUnsigned, digits_value}
use Rattle.base_spelling.specs.Numbers.{begins_with_zero, is_number, number_in}

pub own : IsNumeralModel (λ ds. list_all is_ascii_digit ds ≡ true) (digits_value 10)
own = numerals_by_value _ (search rules)

zero_first : (text : List ℕ) → get_or text 0 0 ≡ 48 → 1 ≤ length text → begins_with_zero text ≡ true
zero_first [] h some = absurd (omega arith)
zero_first (d ∷ ds) h some = eq-eqb d 48 h

not_zero_first : (text : List ℕ) → 48 < get_or text 0 0 → begins_with_zero text ≡ false
not_zero_first [] h = refl
not_zero_first (d ∷ ds) h = ne_eqb d 48 (λ e. omega arith)

pub record Parts (text : List ℕ) : Type 0 where
  pub digits : list_all is_ascii_digit text ≡ true
  pub some : 1 ≤ length text
  pub one : get_or text 0 0 ≡ 48 → length text ≡ 1

pub parts : (text : List ℕ) → is_number text ≡ true → Parts text
parts text h =
    let a = and_parts (list_all is_ascii_digit text) (leb 1 (length text) && (leb (length text) 1 || not (begins_with_zero text))) h in
    let b = and_parts (leb 1 (length text)) (leb (length text) 1 || not (begins_with_zero text)) a.1 in
    let some : 1 ≤ length text = leb-true 1 (length text) b.0 in
    record {
      digits = a.0;
      some = some;
      one = λ e. elim (or_cases (leb (length text) 1) (not (begins_with_zero text)) b.1) [
        | inl short ↦ let small : length text ≤ 1 = leb-true (length text) 1 short in omega arith
        | inr other ↦ let bad : true ≡ false = sym (zero_first text e some) ∙ not-true (begins_with_zero text) other in cc
      ];
    }

chosen : (b : Bool) (x y : ℕ) → (if b then Some x else None) ≡ Some y → (b ≡ true) × (x ≡ y)
chosen true x y h = (refl, cc)
chosen false x y h = cc

pub number_takes : (text : List ℕ) (n : ℕ) → number_in text ≡ Some n → (text ≡ decimal n) × (n < 2 ^ 64)
unfolding number_in
number_takes text n h =
    let c = chosen (is_number text && ltb (digits_value 10 text) (2 ^ 64)) (digits_value 10 text) n h in
    let both = and_parts (is_number text) (ltb (digits_value 10 text) (2 ^ 64)) c.0 in
    let p = parts text both.0 in
    let small : digits_value 10 text < 2 ^ 64 = ltb-true _ _ both.1 in
    (sym (decimal-digits_value own text p.digits p.some p.one small) ∙ ap decimal c.1, subst (λ m. m < 2 ^ 64) c.1 small)

alone : (n : ℕ) → n < 2 ^ 64 → (leb (length (decimal n)) 1 || not (begins_with_zero (decimal n))) ≡ true
alone n h = elim (cases_order n 0) [
  | inl e ↦ or_left _ _ (subst (λ m. leb (length (decimal m)) 1 ≡ true) (sym e) (ap (λ t. leb (length t) 1) (decimal_digit 0 (omega arith))))
  | inr o ↦ elim o [
    | inl less ↦ absurd (omega arith)
    | inr more ↦ or_right _ _ (ap not (not_zero_first (decimal n) (first_decimal n more h)))
  ]
]

pub number_again : (n : ℕ) → n < 2 ^ 64 → number_in (decimal n) ≡ Some n
unfolding number_in
number_again n h =
    let value : digits_value 10 (decimal n) ≡ n = digits_value-decimal own n h in
    let some : leb 1 (length (decimal n)) ≡ true = le-leb _ _ (decimal_nonempty n h) in
    let number : is_number (decimal n) ≡ true = and_from _ _ (digits_decimal own n h) (and_from _ _ some (alone n h)) in
    let small : ltb (digits_value 10 (decimal n)) (2 ^ 64) ≡ true = lt-ltb _ _ (subst (λ m. m < 2 ^ 64) (sym value) h) in
    cond-true _ _ _ (and_from _ _ number small) ∙ ap Some value

pub no_number : (text : List ℕ) → is_number text ≡ false → None ≡ number_in text
unfolding number_in
no_number text h = sym (cond-false _ _ _ (and_left _ (ltb (digits_value 10 text) (2 ^ 64)) h))

pub parsed : (text : List ℕ) (n : ℕ) → ParsesUnsigned {E = ℕ} 64 10 text (Ok n) → is_number text ≡ true → Some n ≡ number_in text
unfolding number_in
parsed text n h number =
    let is = parse_digits own {E = ℕ} 64 text (Ok n) h (parts text number).digits in
    let small : ltb (digits_value 10 text) (2 ^ 64) ≡ true = lt-ltb _ _ is.0.1 in
    ap Some is.1 ∙ sym (cond-true _ _ _ (and_from _ _ number small))

pub not_parsed : {E : Type 0} (text : List ℕ) (e : E) → ParsesUnsigned 64 10 text (Err e) → is_number text ≡ true → None ≡ number_in text
unfolding number_in
not_parsed text e h number =
    let p = parts text number in
    let not_is = parse_digits own 64 text (Err e) h p.digits in
    let big : ltb (digits_value 10 text) (2 ^ 64) ≡ false = false_from_ne_true _ (λ low. not_is (p.some, ltb-true _ _ low)) in
    sym (cond-false _ _ _ (and_right (is_number text) _ big))

pub digits_are_utf8 : (text : List ℕ) → is_number text ≡ true → IsUtf8 text
digits_are_utf8 text h = IsUtf8-from_ascii text (IsAscii-from_digits text (own.to text (parts text h).digits))

pub number_given : (text : List ℕ) (o : Option ℕ) → o ≡ number_in text → IfSome o (λ n. text ≡ decimal n)
number_given text None h = tt
number_given text (Some n) h = (number_takes text n (sym h)).0
