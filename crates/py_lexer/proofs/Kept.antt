-- The levels that are left, one by one.
use Rattle.std.proofs.Common.{◌≡◌, ℕ, zero, suc, ◌-◌, ◌<◌, ◌≤◌, List, slice_index_or, refl, arith}
use Rattle.std.proofs.lemmas.Bool.Decides.{nat_tests}
use Rattle.py_lexer.specs.declared.columns.Columns.{Columns}
use Rattle.py_lexer.specs.Columns.{margin}
use Rattle.py_lexer.specs.Stack.{kept}

pub kept_none : (stack : List Columns) (at : Columns) (n : ℕ) → n ≤ 0 → kept stack at n ≡ 0
unfolding kept
kept_none stack at zero h = refl
kept_none stack at (suc n) h = absurd (omega arith)

pub kept_deeper : (stack : List Columns) (at : Columns) (n : ℕ) → 0 < n → at.first < (slice_index_or stack (n - 1) margin).first → kept stack at n ≡ kept stack at (n - 1)
unfolding kept
kept_deeper stack at zero h k = absurd (omega arith)
kept_deeper stack at (suc n) h k = grind (arith, nat_tests)

pub kept_here : (stack : List Columns) (at : Columns) (n : ℕ) → 0 < n → (slice_index_or stack (n - 1) margin).first ≤ at.first → kept stack at n ≡ n
unfolding kept
kept_here stack at zero h k = absurd (omega arith)
kept_here stack at (suc n) h k = grind (arith, nat_tests)
