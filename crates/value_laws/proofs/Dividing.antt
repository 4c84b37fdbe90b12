-- A quotient rounded down, times the divisor, and its remainder give the number again.
use Rattle.std.proofs.Common.{◌≡◌, ℕ, zero, suc, ◌+◌, ◌-◌, ◌*◌, ◌/◌, ◌%◌, ◌<◌, refl, arith, pos, negsuc, neg_ℤ, ◌+ℤ◌, ◌*ℤ◌, ◌<ℤ◌, ◌≤ℤ◌}
use Rattle.std.proofs.lemmas.Int.{ints}
use Rattle.std.proofs.lemmas.Nat.{div-add-mod'}
use Rattle.value_laws.specs.Laws.{RoundsDown}

above : (q n r a : ℕ) → q * suc n + r ≡ a → pos q *ℤ pos (suc n) +ℤ pos r ≡ pos a
above q n r a e = omega (arith, ints)

below : (q n r a : ℕ) → q * suc n + r ≡ a → r < suc n → negsuc q *ℤ pos (suc n) +ℤ pos (suc n - 1 - r) ≡ negsuc a
below q n r a e h = omega (arith, ints)

turned_above : (q n r m : ℕ) → q * suc n + r ≡ m → pos q *ℤ negsuc n +ℤ neg_ℤ (pos r) ≡ neg_ℤ (pos m)
turned_above zero n zero m e = omega (arith, ints)
turned_above zero n (suc r) m e = omega (arith, ints)
turned_above (suc q) n zero m e = omega (arith, ints)
turned_above (suc q) n (suc r) m e = omega (arith, ints)

turned_below : (q n r a : ℕ) → q * suc n + r ≡ a → r < suc n → negsuc q *ℤ negsuc n +ℤ neg_ℤ (pos (suc n - 1 - r)) ≡ pos (suc a)
turned_below q n r a e h = omega (arith, ints)

turned_low : (n r : ℕ) → r < suc n → negsuc n <ℤ neg_ℤ (pos r)
turned_low n zero h = omega (arith, ints)
turned_low n (suc r) h = omega (arith, ints)

turned_high : (r : ℕ) → neg_ℤ (pos r) ≤ℤ pos 0
turned_high zero = omega (arith, ints)
turned_high (suc r) = omega (arith, ints)

pub rounds : RoundsDown
rounds a (pos zero) h = absurd (h refl)
rounds (pos a) (pos (suc n)) h =
    let short : a % suc n < suc n = omega arith in
    record { whole = above (a / suc n) n (a % suc n) a (div-add-mod' a (suc n)); sign = (omega (arith, ints), omega (arith, ints)) }
rounds (negsuc a) (pos (suc n)) h =
    let short : a % suc n < suc n = omega arith in
    record { whole = below (a / suc n) n (a % suc n) a (div-add-mod' a (suc n)) short; sign = (omega (arith, ints), omega (arith, ints)) }
rounds (pos zero) (negsuc n) h =
    let short : 0 % suc n < suc n = omega arith in
    record { whole = turned_above (0 / suc n) n (0 % suc n) 0 (div-add-mod' 0 (suc n)); sign = (turned_low n (0 % suc n) short, turned_high (0 % suc n)) }
rounds (pos (suc a)) (negsuc n) h =
    let short : a % suc n < suc n = omega arith in
    let less : suc n - 1 - a % suc n < suc n = omega arith in
    record { whole = turned_below (a / suc n) n (a % suc n) a (div-add-mod' a (suc n)) short; sign = (turned_low n (suc n - 1 - a % suc n) less, turned_high (suc n - 1 - a % suc n)) }
rounds (negsuc a) (negsuc n) h =
    let short : suc a % suc n < suc n = omega arith in
    record { whole = turned_above (suc a / suc n) n (suc a % suc n) (suc a) (div-add-mod' (suc a) (suc n)); sign = (turned_low n (suc a % suc n) short, turned_high (suc a % suc n)) }
