-- The parts of blocks, branches and loops.
use Rattle.std.proofs.Common.{◌≡◌, ◌∙◌, refl, sym, ap, ℕ, zero, suc, ◌+◌, ◌-◌, ◌<◌, ◌≤◌, List, [], ◌∷◌, length, map, drop, slice_get, Option, Some, None, arith}
use Rattle.py_syntax.specs.declared.stmt.Branch.{Branch}
use Rattle.meaning_state.specs.declared.thread.State.{State}
use Rattle.meaning_script.specs.Pieces.{Piece, Onward, on_value, passes, in_order, decides}
use Rattle.meaning_script.specs.Operators.{Around, eval}
use Rattle.meaning_script.specs.Statements.{BranchPiece, tests, run_all}
use Rattle.py_frames.specs.Does.{branches, decides_some}
use Rattle.py_frames.proofs.Places.{drop_none, drop_past}
use Rattle.step_compound.proofs.Forms.{branch_is}

-- the pieces from a place on, where there is none
pub ends : {T : Type 0} (p : T → Piece) (xs : List T) (at : ℕ) (s : State) (k : Onward) → length xs ≤ at → passes s k ≡ in_order (map p (drop at xs)) s k
ends p [] zero s k h = refl
ends p [] (suc n) s k h = refl
ends p (x ∷ xs) zero s k h = absurd (omega (arith, h))
ends p (x ∷ xs) (suc n) s k h = ends p xs n s k (omega (arith, h))

-- the first one, and then the others
pub goes : {T : Type 0} (p : T → Piece) (some : Option T → Piece) → ((x : T) → some (Some x) ≡ p x)
    → (xs : List T) (at : ℕ) (s : State) (k : Onward) → at < length xs
    → some (slice_get xs at) s (on_value k (λ _ s. in_order (map p (drop (at + 1) xs)) s k)) ≡ in_order (map p (drop at xs)) s k
goes p some same [] at s k h = absurd (omega (arith, h))
goes p some same (x ∷ xs) zero s k h = ap (λ (q : Piece). q s (on_value k (λ _ s. in_order (map p xs) s k))) (same x)
goes p some same (x ∷ xs) (suc n) s k h =
    let next : suc n + 1 ≡ suc (n + 1) = omega arith in
    ap (λ (m : ℕ). some (slice_get xs n) s (on_value k (λ _ s. in_order (map p (drop m (x ∷ xs))) s k))) next
    ∙ goes p some same xs n s k (omega (arith, h))

-- the test of a branch, and then its block or the other branches
pub tests_first : (a : Around) (bs : List Branch) (at : ℕ) (b : Branch) (otherwise : Piece) (s : State) (k : Onward) → slice_get bs at ≡ Some b
    → eval a b.test s (on_value k (λ v s. decides_some a (slice_get bs at) v (tests (branches a (drop (suc at) bs)) otherwise) s k))
    ≡ tests (branches a (drop at bs)) otherwise s k
tests_first a bs at b otherwise s k h =
    let next : suc at ≡ at + 1 = omega arith in
    ap (λ (o : Option Branch). eval a b.test s (on_value k (λ v s. decides_some a o v (tests (branches a (drop (suc at) bs)) otherwise) s k))) h
    ∙ ap (λ (n : ℕ). eval a b.test s (on_value k (λ v s. decides v (run_all a b.body) (tests (branches a (drop n bs)) otherwise) s k))) next
    ∙ ap (λ (p : BranchPiece). p.test s (on_value k (λ v s. decides v p.body (tests (branches a (drop (at + 1) bs)) otherwise) s k))) (sym (branch_is a b))
    ∙ ap (λ (ys : List Branch). tests (branches a ys) otherwise s k) (sym (drop_past bs at b h))

pub tests_last : (a : Around) (bs : List Branch) (at : ℕ) (otherwise : Piece) → slice_get bs at ≡ None → otherwise ≡ tests (branches a (drop at bs)) otherwise
tests_last a bs at otherwise h = ap (λ (ys : List Branch). tests (branches a ys) otherwise) (sym (drop_none bs at h))

pub tests_next : (a : Around) (bs : List Branch) (at : ℕ) (otherwise : Piece) → tests (branches a (drop (at + 1) bs)) otherwise ≡ tests (branches a (drop (suc at) bs)) otherwise
tests_next a bs at otherwise =
    let next : at + 1 ≡ suc at = omega arith in
    ap (λ (n : ℕ). tests (branches a (drop n bs)) otherwise) next
