-- Numbers: digits are read up to a bound.
use Rattle.std.proofs.Common.{◌≡◌, ℕ, ◌+◌, ◌-◌, ◌*◌, ◌^◌, ◌≤◌, ◌==◌, ◌&&◌, not, min, Bool, true, false, Option, Some, None, List, [], ◌∷◌, refl, sym, ap, subst, ◌∙◌, arith}
use Rattle.std.specs.Prelude.{if◌then◌else◌, IsTrue}
use Rattle.std.proofs.lemmas.Bool.Decides.{nat_tests}
use Rattle.py_lexer.specs.Chars.{is_digit}
use Rattle.py_lexer.specs.Numbers as tokens
use Rattle.py_lexer.specs.Numbers.{Digits, Joint, IsNumber}
use Rattle.py_lexer.specs.Reading.{digits, more_digits, number_value}
use Rattle.py_lexer.proofs.Cases.{choice}
use Rattle.py_lexer.proofs.Runs.{eqb_eq}

abbrev pub cap : ℕ → ℕ
cap n = min n (2 ^ 128 - 1)

cap_more : (n c : ℕ) → more_digits (cap n) c ≡ cap (10 * n + (c - 48))
cap_more n c = grind arith

mutual
  unfolding digits

  digits_complete : {n m : ℕ} {cs : List ℕ} → Digits n cs m → digits false (cap n) cs ≡ Some (cap m)
  digits_complete tokens.done = refl
  digits_complete (tokens.digit {n = n} {m = m} {c = c} {cs = cs} d r) = rw (d, cap_more n c) (digits_complete r)
  digits_complete (tokens.joint {n = n} {m = m} {u = u} {cs = cs} e r) = rw e (joint_complete r)

  joint_complete : {n m : ℕ} {cs : List ℕ} → Joint n cs m → digits true (cap n) cs ≡ Some (cap m)
  joint_complete (tokens.behind {n = n} {m = m} {c = c} {cs = cs} d r) = rw (d, cap_more n c) (digits_complete r)

-- what was read are digits
abbrev Digits_right : Bool → ℕ → List ℕ → Option ℕ → Type 0
Digits_right false n cs (Some w) = (m : ℕ) × Digits n cs m × (w ≡ cap m)
Digits_right true n cs (Some w) = (m : ℕ) × Joint n cs m × (w ≡ cap m)
Digits_right joint n cs None = Unit {0}

digit_right : (joint : Bool) (n c : ℕ) (cs : List ℕ) (o : Option ℕ) → IsTrue (is_digit c) → Digits_right false (10 * n + (c - 48)) cs o → Digits_right joint n (c ∷ cs) o
digit_right false n c cs (Some w) d h = (h.0, tokens.digit d h.1, h.2)
digit_right true n c cs (Some w) d h = (h.0, tokens.behind d h.1, h.2)
digit_right false n c cs None d h = tt
digit_right true n c cs None d h = tt

mark_right : (n c : ℕ) (cs : List ℕ) (o : Option ℕ) → c ≡ 95 → Digits_right true n cs o → Digits_right false n (c ∷ cs) o
mark_right n c cs (Some w) e h = (h.0, tokens.joint e h.1, h.2)
mark_right n c cs None e h = tt

mark_case : (joint : Bool) (n c : ℕ) (cs : List ℕ) (b : Bool) → (c == 95) ≡ b → Digits_right true n cs (digits true (cap n) cs) → Digits_right joint n (c ∷ cs) (if b && not joint then digits true (cap n) cs else None)
mark_case false n c cs true e h = mark_right n c cs (digits true (cap n) cs) (eqb_eq c 95 e) h
mark_case true n c cs true e h = tt
mark_case false n c cs false e h = tt
mark_case true n c cs false e h = tt

digits_right : (joint : Bool) (n : ℕ) (cs : List ℕ) → Digits_right joint n cs (digits joint (cap n) cs)
unfolding digits
digits_right false n [] = (n, tokens.done, refl)
digits_right true n [] = tt
digits_right joint n (c ∷ cs) =
    choice (Digits_right joint n (c ∷ cs)) (digits false (more_digits (cap n) c) cs) (if c == 95 && not joint then digits true (cap n) cs else None) (is_digit c)
    (λ d. rw (cap_more n c) (digit_right joint n c cs (digits false (cap (10 * n + (c - 48))) cs) d (digits_right false (10 * n + (c - 48)) cs)))
    (λ e. mark_case joint n c cs (c == 95) refl (digits_right true n cs))

-- a number's text, whose first character is a digit
small : (n : ℕ) → n ≤ 9 → cap n ≡ n
small n h = omega arith

no_zero : (c m : ℕ) → (c ≡ 48 → m ≡ 0) → (c == 48 && not (cap m == 0)) ≡ false
no_zero c m h = grind (arith, nat_tests)

pub number_complete : {cs : List ℕ} {m : ℕ} → IsNumber cs m → (c : ℕ) (rest : List ℕ) → cs ≡ c ∷ rest → c - 48 ≤ 9 → number_value cs ≡ Some (cap m)
unfolding number_value
number_complete (tokens.number {c = d} {m = m} {cs = cs} r z) c rest e h =
    let first : d ≡ c = cc in
    let low : d - 48 ≤ 9 = rw first h in
    let value = digits_complete r in
    let there : digits false (d - 48) cs ≡ Some (cap m) = ap (λ (v : ℕ). digits false v cs) (sym (small (d - 48) low)) ∙ value in
    rw (there, number_value) (rw (no_zero d m z) refl)

abbrev pub Number_right : List ℕ → Option ℕ → Type 0
Number_right cs (Some w) = (m : ℕ) × IsNumber cs m × (w ≡ cap m)
Number_right cs None = Unit {0}

zero_or : (c m : ℕ) → (c == 48 && not (cap m == 0)) ≡ false → c ≡ 48 → m ≡ 0
zero_or c m e h = grind (arith, nat_tests)

number_by : (c : ℕ) (cs : List ℕ) (o : Option ℕ) → Digits_right false (c - 48) cs o → Number_right (c ∷ cs) (elim o [ None ↦ None | Some m ↦ if c == 48 && not (m == 0) then None else Some m ])
number_by c cs None h = tt
number_by c cs (Some w) (m, d, e) = choice (Number_right (c ∷ cs)) None (Some w) (c == 48 && not (w == 0)) (λ t. tt) (λ f. (m, tokens.number d (zero_or c m (rw e at f)), e))

pub number_right : (c : ℕ) (cs : List ℕ) → c - 48 ≤ 9 → Number_right (c ∷ cs) (number_value (c ∷ cs))
unfolding number_value
number_right c cs h =
    let read = subst (λ (v : ℕ). Digits_right false (c - 48) cs (digits false v cs)) (small (c - 48) h) (digits_right false (c - 48) cs) in
    number_by c cs (digits false (c - 48) cs) read
