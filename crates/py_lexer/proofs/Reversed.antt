-- The open columns with the innermost first, and with it last.
use Rattle.std.proofs.Common.{◌≡◌, ℕ, zero, suc, ◌-◌, ◌<◌, ◌≤◌, ◌==◌, not, nat_lt, Bool, true, false, Result, Ok, Err, List, [], ◌∷◌, ◌++◌, length, take, slice_index_or, refl, sym, ap, ◌∙◌, arith}
use Rattle.std.specs.Prelude.{if◌then◌else◌, reverse}
use Rattle.std.proofs.lemmas.Bool.Decides.{nat_tests}
use Rattle.std.proofs.lemmas.List.{reverse-append, length-reverse, length-take-le}
use Rattle.std.proofs.Math.Seq.{take-suc, take-length}
use Rattle.py_lexer.specs.declared.columns.Columns.{Columns}
use Rattle.py_lexer.specs.declared.error.Kind.{Kind}
use Rattle.py_lexer.specs.declared.error.Kind.TheVariants.{BadDedent, MixedTabs}
use Rattle.py_lexer.specs.declared.error.WordError.{WordError}
use Rattle.py_lexer.specs.declared.error.WordError.TheVariants.{Memory, Bad}
use Rattle.py_lexer.specs.declared.indent.Change.{Change}
use Rattle.py_lexer.specs.declared.indent.Change.TheVariants.{Indent, Dedents}
use Rattle.py_lexer.specs.Columns.{margin}
use Rattle.py_lexer.specs.Indent.{left_open, closed_to, settled}
use Rattle.py_lexer.specs.Stack.{level, kept, closed_last, settled_last, Changes}

abbrev Settled : Type 0
Settled = Result (Change × List Columns) Kind

abbrev flip : Settled → Settled
flip (Ok x) = Ok (x.0, reverse x.1)
flip (Err kind) = Err kind

one_more : (stack : List Columns) (n : ℕ) → n < length stack → reverse (take (suc n) stack) ≡ slice_index_or stack n margin ∷ reverse (take n stack)
one_more stack n h = rw (take-suc stack n margin, reverse-append) refl

left_by : (stack : List Columns) (at : Columns) (n : ℕ) (b : Bool) → n < length stack → left_open at (reverse (take n stack)) ≡ reverse (take (kept stack at n) stack) → (if b then left_open at (reverse (take n stack)) else slice_index_or stack n margin ∷ reverse (take n stack)) ≡ reverse (take (if b then kept stack at n else suc n) stack)
left_by stack at n true h e = e
left_by stack at n false h e = sym (one_more stack n h)

left_kept : (stack : List Columns) (at : Columns) (n : ℕ) → n ≤ length stack → left_open at (reverse (take n stack)) ≡ reverse (take (kept stack at n) stack)
unfolding left_open kept
left_kept stack at zero h = refl
left_kept stack at (suc n) h = ap (left_open at) (one_more stack n (omega arith)) ∙ left_by stack at n (nat_lt at.first (slice_index_or stack n margin).first) (omega arith) (left_kept stack at n (omega arith))

kept_within : (stack : List Columns) (at : Columns) (n : ℕ) → kept stack at n ≤ n
unfolding kept
kept_within stack at zero = omega arith
kept_within stack at (suc n) = let h = kept_within stack at n in grind (arith, nat_tests, h)

ends_by : (stack : List Columns) (k : ℕ) (first second : Bool) → suc k ≤ length stack → (if first then (if second then Ok (Dedents (length stack - suc k), reverse (take (suc k) stack)) else Err MixedTabs) else Err BadDedent) ≡ flip (if not first then Err BadDedent else if second then Ok (Dedents (length stack - suc k), take (suc k) stack) else Err MixedTabs)
ends_by stack k true true h = refl
ends_by stack k true false h = refl
ends_by stack k false second h = refl

suc_zero : (k : ℕ) → (suc k == 0) ≡ false
suc_zero k = grind (arith, nat_tests)

size : (stack : List Columns) (k : ℕ) → suc k ≤ length stack → length (reverse (take (suc k) stack)) ≡ suc k
size stack k h = length-reverse (take (suc k) stack) ∙ length-take-le (suc k) stack h

closed_same : (stack : List Columns) (at : Columns) (m : ℕ) → m ≤ length stack → closed_to at (length stack) (reverse (take m stack)) ≡ flip (closed_last stack at m)
closed_same stack at zero h = refl
closed_same stack at (suc k) h =
    let top = slice_index_or stack k margin in
    let less : suc k - 1 ≡ k = omega arith in
    let long : length (top ∷ reverse (take k stack)) ≡ suc k = ap length (sym (one_more stack k (omega arith))) ∙ size stack k h in
    ap (closed_to at (length stack)) (one_more stack k (omega arith))
    ∙ rw (long, suc_zero k, less, ← one_more stack k (omega arith)) (ends_by stack k (top.first == at.first) (top.second == at.second) h)

opens_by : (stack : List Columns) (at : Columns) (b : Bool) → (if b then Ok (Indent, at ∷ reverse stack) else Err MixedTabs) ≡ flip (if b then Ok (Indent, stack ++ at ∷ []) else Err MixedTabs)
opens_by stack at true = ap (λ (l : List Columns). Ok (Indent, l)) (sym (reverse-append stack (at ∷ [])))
opens_by stack at false = refl

settled_by : (deeper : Bool) (a b c d : Settled) → a ≡ flip c → b ≡ flip d → (if deeper then a else b) ≡ flip (if deeper then c else d)
settled_by true a b c d e f = e
settled_by false a b c d e f = f

whole : (stack : List Columns) (n : ℕ) → length stack ≡ suc n → reverse stack ≡ slice_index_or stack n margin ∷ reverse (take n stack)
whole stack n h = ap reverse (sym (take-length stack) ∙ ap (λ (k : ℕ). take k stack) h) ∙ one_more stack n (omega arith)

settled_at : (stack : List Columns) (at : Columns) (n : ℕ) → length stack ≡ suc n → settled (reverse stack) at ≡ flip (settled_last stack at)
unfolding settled settled_last
settled_at stack at n h =
    let top = slice_index_or stack n margin in
    let rest = reverse (take n stack) in
    let w = whole stack n h in
    let last : level stack (length stack) ≡ top = ap (λ (k : ℕ). slice_index_or stack k margin) (omega arith) in
    let long : length (top ∷ rest) ≡ length stack = ap length (sym w) ∙ length-reverse stack in
    let left : left_open at (top ∷ rest) ≡ reverse (take (kept stack at (length stack)) stack) = ap (left_open at) (sym w) ∙ ap (λ (l : List Columns). left_open at (reverse l)) (sym (take-length stack)) ∙ left_kept stack at (length stack) (omega arith) in
    ap (λ (l : List Columns). settled l at) w
    ∙ settled_by (nat_lt top.first at.first) _ _ _ _
    (ap (λ (l : List Columns). if nat_lt top.second at.second then Ok (Indent, at ∷ l) else Err MixedTabs) (sym w) ∙ opens_by stack at (nat_lt top.second at.second))
    (ap (λ (k : ℕ). closed_to at k (left_open at (top ∷ rest))) long ∙ ap (closed_to at (length stack)) left ∙ closed_same stack at (kept stack at (length stack)) (kept_within stack at (length stack)))
    ∙ ap (λ (t : Columns). flip (if nat_lt t.first at.first then (if nat_lt t.second at.second then Ok (Indent, stack ++ at ∷ []) else Err MixedTabs) else closed_last stack at (kept stack at (length stack)))) (sym last)

changes_flip : (old new : List Columns) (r : Result Change WordError) (expected : Settled) → Changes old new r expected → Changes (reverse old) (reverse new) r (flip expected)
changes_flip old new (Ok c) expected e = ap flip e
changes_flip old new (Err Memory) expected e = tt
changes_flip old new (Err (Bad kind)) expected e = ap flip e

to_settled : (old new : List Columns) (r : Result Change WordError) (a b : Settled) → a ≡ b → Changes old new r a → Changes old new r b
to_settled old new (Ok c) a b e h = sym e ∙ h
to_settled old new (Err Memory) a b e h = tt
to_settled old new (Err (Bad kind)) a b e h = sym e ∙ h

-- what the code did, seen with the innermost first
pub changes_reversed : (old new : List Columns) (at : Columns) (r : Result Change WordError) → 0 < length old → Changes old new r (settled_last old at) → Changes (reverse old) (reverse new) r (settled (reverse old) at)
changes_reversed old new at r h c =
    let size : length old ≡ suc (length old - 1) = omega arith in
    to_settled (reverse old) (reverse new) r (flip (settled_last old at)) (settled (reverse old) at) (sym (settled_at old at (length old - 1) size)) (changes_flip old new r (settled_last old at) c)
