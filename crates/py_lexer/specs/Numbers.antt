-- Numbers (Language Reference 2.4.5, decimal integers alone): zeros,
-- or a digit 1 to 9 and digits, with single `_` (95) between digits.
use Rattle.std.specs.Prelude.{◌≡◌, ℕ, ◌+◌, ◌-◌, ◌*◌, List, [], ◌∷◌, IsTrue}
use Rattle.py_lexer.specs.Chars.{is_digit}

mutual
  -- digits after those of the value n; m is the value of all
  pub data Digits : ℕ → List ℕ → ℕ → Type 0 where
    done : {n : ℕ} → Digits n [] n
    digit : {n m c : ℕ} {cs : List ℕ} → IsTrue (is_digit c) → Digits (10 * n + (c - 48)) cs m → Digits n (c ∷ cs) m
    joint : {n m u : ℕ} {cs : List ℕ} → u ≡ 95 → Joint n cs m → Digits n (u ∷ cs) m

  -- behind a `_` a digit comes
  pub data Joint : ℕ → List ℕ → ℕ → Type 0 where
    behind : {n m c : ℕ} {cs : List ℕ} → IsTrue (is_digit c) → Digits (10 * n + (c - 48)) cs m → Joint n (c ∷ cs) m

-- the characters, the first of them a digit, are a number of the value m: after a zero (48) only zeros come
pub data IsNumber : List ℕ → ℕ → Type 0 where
  number : {c m : ℕ} {cs : List ℕ} → Digits (c - 48) cs m → (c ≡ 48 → m ≡ 0) → IsNumber (c ∷ cs) m
