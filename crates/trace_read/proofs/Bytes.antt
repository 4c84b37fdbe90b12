-- Bytes that no field is cut at.
use Rattle.std.proofs.Common.{◌≡◌, ◌∙◌, refl, sym, ap, ℕ, ◌≤◌, ◌<◌, List, [], ◌∷◌, ◌++◌, Bool, true, false, leb, eqb, ◌&&◌, arith}
use Rattle.std.proofs.lemmas.Bool.{and_parts, and_from, ne_eqb, leb-true}
use Rattle.std.proofs.lemmas.List.Folds.{list_all-append}
use Rattle.std.specs.List.{list_all}
use Rattle.std.specs.Char.{is_ascii_digit}
use Rattle.trace_fields.proofs.Closed.{is_ordinary}

pub ordinary_from : (b : ℕ) → (b ≡ 10 → ⊥) → (b ≡ 32 → ⊥) → (b ≡ 44 → ⊥) → (b ≡ 34 → ⊥) → (b ≡ 91 → ⊥) → (b ≡ 40 → ⊥) → (b ≡ 93 → ⊥) → (b ≡ 41 → ⊥) → is_ordinary b ≡ true
ordinary_from b a f g h i j k l =
    let e0 : eqb b 10 ≡ false = ne_eqb b 10 a in
    let e1 : eqb b 32 ≡ false = ne_eqb b 32 f in
    let e2 : eqb b 44 ≡ false = ne_eqb b 44 g in
    let e3 : eqb b 34 ≡ false = ne_eqb b 34 h in
    let e4 : eqb b 91 ≡ false = ne_eqb b 91 i in
    let e5 : eqb b 40 ≡ false = ne_eqb b 40 j in
    let e6 : eqb b 93 ≡ false = ne_eqb b 93 k in
    let e7 : eqb b 41 ≡ false = ne_eqb b 41 l in
    rw (e0, e1, e2, e3, e4, e5, e6, e7) refl

pub digit_ordinary : (b : ℕ) → is_ascii_digit b ≡ true → is_ordinary b ≡ true
digit_ordinary b h =
    let both = and_parts (leb 48 b) (leb b 57) h in
    let low : 48 ≤ b = leb-true 48 b both.0 in
    let high : b ≤ 57 = leb-true b 57 both.1 in
    ordinary_from b (λ e. omega arith) (λ e. omega arith) (λ e. omega arith) (λ e. omega arith) (λ e. omega arith) (λ e. omega arith) (λ e. omega arith) (λ e. omega arith)

pub each_also : (p q : ℕ → Bool) → ((b : ℕ) → p b ≡ true → q b ≡ true) → (text : List ℕ) → list_all p text ≡ true → list_all q text ≡ true
each_also p q also [] h = refl
each_also p q also (b ∷ bs) h =
    let both = and_parts (p b) (list_all p bs) h in
    and_from (q b) (list_all q bs) (also b both.0) (each_also p q also bs both.1)

pub ordinary_both : (a b : List ℕ) → list_all is_ordinary a ≡ true → list_all is_ordinary b ≡ true → list_all is_ordinary (a ++ b) ≡ true
ordinary_both a b f g = list_all-append is_ordinary a b ∙ and_from _ _ f g
