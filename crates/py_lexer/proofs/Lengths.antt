-- The lengths of operators.
use Rattle.std.proofs.Common.{◌≡◌, ℕ, ◌≤◌, ◌==◌, ◌&&◌, Bool, true, false, List, [], ◌∷◌, length, take, refl, arith, length-take}
use Rattle.std.proofs.lemmas.Bool.Decides.{nat_tests}
use Rattle.py_lexer.specs.Operators.{same_text, is_among, of_three, of_two, of_one, is_operator_of_three, is_operator_of_two, is_operator_of_one, op_len}
use Rattle.std.specs.Prelude.{if◌then◌else◌}

abbrev all_long : ℕ → List (List ℕ) → Bool
all_long n [] = true
all_long n (t ∷ ts) = length t == n && all_long n ts

same_length : (xs ys : List ℕ) → same_text xs ys ≡ true → length xs ≡ length ys
same_length [] [] e = refl
same_length [] (y ∷ ys) e = absurd cc
same_length (x ∷ xs) [] e = absurd cc
same_length (x ∷ xs) (y ∷ ys) e = let h = same_length xs ys in grind (arith, nat_tests, h)

among_length : (n : ℕ) (ts : List (List ℕ)) (text : List ℕ) → all_long n ts ≡ true → is_among ts text ≡ true → length text ≡ n
among_length n [] text a e = absurd cc
among_length n (t ∷ ts) text a e = let h = among_length n ts text in let s = same_length text t in grind (arith, nat_tests, h, s)

pub three_long : (cs : List ℕ) → is_operator_of_three (take 3 cs) ≡ true → 3 ≤ length cs
unfolding is_operator_of_three
three_long cs e = omega (arith, among_length 3 of_three (take 3 cs) refl e, length-take 3 cs)

pub two_long : (cs : List ℕ) → is_operator_of_two (take 2 cs) ≡ true → 2 ≤ length cs
unfolding is_operator_of_two
two_long cs e = omega (arith, among_length 2 of_two (take 2 cs) refl e, length-take 2 cs)

pub one_long : (cs : List ℕ) → is_operator_of_one (take 1 cs) ≡ true → 1 ≤ length cs
unfolding is_operator_of_one
one_long cs e = omega (arith, among_length 1 of_one (take 1 cs) refl e, length-take 1 cs)

within_by : (cs : List ℕ) (a b c : Bool) → (a ≡ true → 3 ≤ length cs) → (b ≡ true → 2 ≤ length cs) → (c ≡ true → 1 ≤ length cs) → (if a then 3 else if b then 2 else if c then 1 else 0) ≤ length cs
within_by cs true b c f g h = f refl
within_by cs false true c f g h = g refl
within_by cs false false true f g h = h refl
within_by cs false false false f g h = omega arith

pub op_within : (cs : List ℕ) → op_len cs ≤ length cs
unfolding op_len
op_within cs = within_by cs _ _ _ (three_long cs) (two_long cs) (one_long cs)
