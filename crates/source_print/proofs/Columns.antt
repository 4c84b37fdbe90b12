-- The columns of printed lines: four for each open level.
use Rattle.std.proofs.Common.{◌≡◌, ◌∙◌, refl, ap, ℕ, zero, suc, ◌+◌, ◌-◌, ◌*◌, ◌<◌, ◌≤◌, true, false, List, [], ◌∷◌, length, Ok, arith}
use Rattle.std.specs.Prelude.{nat_lt}
use Rattle.std.proofs.lemmas.Bool.{cond-true, cond-false, lt-ltb, eq-eqb, ltb-true, false_from_ne_true}
use Rattle.py_lexer.specs.declared.columns.Columns.{Columns}
use Rattle.py_lexer.specs.declared.indent.Change.TheVariants.{Indent, Dedents}
use Rattle.py_lexer.specs.Columns.{margin, columns_after}
use Rattle.py_lexer.specs.Indent.{left_open, closed_to, settled}
use Rattle.source_print.specs.Text.{indentation}

-- so many columns in both
abbrev pub wide : ℕ → Columns
wide n = record { first = n; second = n }

-- the columns where so many levels are open
abbrev pub columns : ℕ → Columns
columns depth = wide (4 * depth)

abbrev pub stack_of : ℕ → List Columns
stack_of zero = columns zero ∷ []
stack_of (suc depth) = columns (suc depth) ∷ stack_of depth

pub stack_length : (depth : ℕ) → length (stack_of depth) ≡ depth + 1
stack_length zero = refl
stack_length (suc depth) = let h = stack_length depth in omega (arith, h)

-- so many levels more
abbrev pub up : ℕ → ℕ → ℕ
up zero depth = depth
up (suc n) depth = suc (up n depth)

pub up_suc : (n depth : ℕ) → up n (suc depth) ≡ up (suc n) depth
up_suc zero depth = refl
up_suc (suc n) depth = ap suc (up_suc n depth)

pub up_zero : (n : ℕ) → up n zero ≡ n
up_zero zero = refl
up_zero (suc n) = ap suc (up_zero n)

up_is : (n depth : ℕ) → up n depth ≡ n + depth
up_is zero depth = omega arith
up_is (suc n) depth = let h = up_is n depth in omega (arith, h)

-- ---- the columns of a line

indented_from : (n depth : ℕ) → columns_after (wide n) (indentation depth) ≡ wide (n + 4 * depth)
indented_from n zero = let e : n ≡ n + 4 * zero = omega arith in ap wide e
indented_from n (suc depth) =
    let e : ((((n + 1) + 1) + 1) + 1) + 4 * depth ≡ n + 4 * suc depth = omega arith in
    indented_from ((((n + 1) + 1) + 1) + 1) depth ∙ ap wide e

pub indented : (depth : ℕ) → columns_after margin (indentation depth) ≡ columns depth
indented depth = let e : 0 + 4 * depth ≡ 4 * depth = omega arith in indented_from 0 depth ∙ ap wide e

-- ---- what they do to the open columns

not_less : (n m : ℕ) → m ≤ n → nat_lt n m ≡ false
not_less n m h = false_from_ne_true (nat_lt n m) (λ e. let l = ltb-true n m e in absurd (omega (arith, l, h)))

less : (n m : ℕ) → n < m → nat_lt n m ≡ true
less n m h = lt-ltb n m h

pushed : (at top : Columns) (below : List Columns) → nat_lt top.first at.first ≡ true → nat_lt top.second at.second ≡ true → settled (top ∷ below) at ≡ Ok (Indent, at ∷ top ∷ below)
unfolding settled
pushed at top below h k = cond-true _ _ _ h ∙ cond-true _ _ _ k

pub deeper : (depth : ℕ) → settled (stack_of depth) (columns (suc depth)) ≡ Ok (Indent, stack_of (suc depth))
deeper zero = pushed (columns 1) (columns 0) [] refl refl
deeper (suc depth) =
    let l : nat_lt (4 * suc depth) (4 * suc (suc depth)) ≡ true = less (4 * suc depth) (4 * suc (suc depth)) (omega arith) in
    pushed (columns (suc (suc depth))) (columns (suc depth)) (stack_of depth) l l

stays : (at top : Columns) (below : List Columns) → nat_lt at.first top.first ≡ false → left_open at (top ∷ below) ≡ top ∷ below
unfolding left_open
stays at top below h = cond-false _ _ _ h

taken : (at top : Columns) (below : List Columns) → nat_lt at.first top.first ≡ true → left_open at (top ∷ below) ≡ left_open at below
unfolding left_open
taken at top below h = cond-true _ _ _ h

open_again : (depth : ℕ) → left_open (columns depth) (stack_of depth) ≡ stack_of depth
open_again zero = stays (columns 0) (columns 0) [] refl
open_again (suc depth) = stays (columns (suc depth)) (columns (suc depth)) (stack_of depth) (not_less (4 * suc depth) (4 * suc depth) (omega arith))

left : (n depth : ℕ) → left_open (columns depth) (stack_of (up n depth)) ≡ stack_of depth
left zero depth = open_again depth
left (suc n) depth =
    let h = up_is n depth in
    taken (columns depth) (columns (suc (up n depth))) (stack_of (up n depth)) (less (4 * depth) (4 * suc (up n depth)) (omega (arith, h))) ∙ left n depth

closes : (at : Columns) (count : ℕ) (below : List Columns) → closed_to at count (at ∷ below) ≡ Ok (Dedents (count - length (at ∷ below)), at ∷ below)
closes at count below = cond-true _ _ _ (eq-eqb at.first at.first refl) ∙ cond-true _ _ _ (eq-eqb at.second at.second refl)

closes_stack : (depth count : ℕ) → closed_to (columns depth) count (stack_of depth) ≡ Ok (Dedents (count - length (stack_of depth)), stack_of depth)
closes_stack zero count = closes (columns 0) count []
closes_stack (suc depth) count = closes (columns (suc depth)) count (stack_of depth)

looser : (at top : Columns) (below : List Columns) → nat_lt top.first at.first ≡ false → settled (top ∷ below) at ≡ closed_to at (length (top ∷ below)) (left_open at (top ∷ below))
unfolding settled
looser at top below h = cond-false _ _ _ h

settled_above : (n depth : ℕ) → settled (stack_of (up n depth)) (columns depth) ≡ closed_to (columns depth) (length (stack_of (up n depth))) (left_open (columns depth) (stack_of (up n depth)))
settled_above zero zero = looser (columns 0) (columns 0) [] refl
settled_above zero (suc depth) = looser (columns (suc depth)) (columns (suc depth)) (stack_of depth) (not_less (4 * suc depth) (4 * suc depth) (omega arith))
settled_above (suc n) depth =
    let h = up_is n depth in
    looser (columns depth) (columns (suc (up n depth))) (stack_of (up n depth)) (not_less (4 * suc (up n depth)) (4 * depth) (omega (arith, h)))

pub back : (n depth : ℕ) → settled (stack_of (up n depth)) (columns depth) ≡ Ok (Dedents n, stack_of depth)
back n depth =
    let high = stack_length (up n depth) in
    let low = stack_length depth in
    let is = up_is n depth in
    let count : length (stack_of (up n depth)) - length (stack_of depth) ≡ n = omega (arith, high, low, is) in
    settled_above n depth
    ∙ ap (closed_to (columns depth) (length (stack_of (up n depth)))) (left n depth)
    ∙ closes_stack depth (length (stack_of (up n depth)))
    ∙ ap (λ k. Ok (Dedents k, stack_of depth)) count
