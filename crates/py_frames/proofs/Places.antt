-- Lists, and pieces in order, from a place on.
use Rattle.std.proofs.Common.{◌≡◌, refl, ℕ, zero, suc, ◌+◌, List, [], ◌∷◌, map, drop, slice_get, add-one, Some, None}
use Rattle.meaning_state.specs.declared.thread.State.{State}
use Rattle.meaning_script.specs.Pieces.{Piece, Onward, on_value, passes, in_order}

pub drop_none : {T : Type 0} (xs : List T) (at : ℕ) → slice_get xs at ≡ None → drop at xs ≡ []
drop_none [] zero h = refl
drop_none [] (suc at) h = refl
drop_none (x ∷ xs) zero h = absurd cc
drop_none (x ∷ xs) (suc at) h = drop_none xs at h

pub drop_some : {T : Type 0} (xs : List T) (at : ℕ) (x : T) → slice_get xs at ≡ Some x → drop at xs ≡ x ∷ drop (suc at) xs
drop_some [] zero x h = cc
drop_some [] (suc at) x h = cc
drop_some (y ∷ xs) zero x h = cc
drop_some (y ∷ xs) (suc at) x h = drop_some xs at x h

-- the same with the next place as a sum
pub drop_past : {T : Type 0} (xs : List T) (at : ℕ) (x : T) → slice_get xs at ≡ Some x → drop at xs ≡ x ∷ drop (at + 1) xs
drop_past xs at x h = rw add-one (drop_some xs at x h)

-- ---- pieces in order

pub order_ends : {T : Type 0} (p : T → Piece) (xs : List T) (at : ℕ) (s : State) (k : Onward) → slice_get xs at ≡ None
    → passes s k ≡ in_order (map p (drop at xs)) s k
order_ends p xs at s k h = rw (drop_none xs at h) refl

pub order_goes : {T : Type 0} (p : T → Piece) (xs : List T) (at : ℕ) (x : T) (s : State) (k : Onward) → slice_get xs at ≡ Some x
    → p x s (on_value k (λ _ s. in_order (map p (drop (at + 1) xs)) s k)) ≡ in_order (map p (drop at xs)) s k
order_goes p xs at x s k h = rw (drop_past xs at x h) refl
