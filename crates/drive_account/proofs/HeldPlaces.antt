-- Looking for the innermost that is this one, from the front on.
use Rattle.std.proofs.Common.{◌≡◌, ℕ, zero, suc, true, false, List, [], ◌∷◌, ◌++◌, take, drop, slice_get, slice_set, Some, refl, ap}
use Rattle.machine_shown.specs.Holdings.{Holding, is_holding, without, becoming}
use Rattle.drive_account.specs.Holds.{holding_of, holdings}
use Rattle.drive_account.specs.declared.held.Hold.{Hold}

pub past : (x : Holding) (hs : List Hold) (at : ℕ) (h : Hold) → slice_get hs at ≡ Some h → is_holding x (holding_of h) ≡ false
    → holdings (take at hs) ++ without x (holdings (drop at hs)) ≡ holdings (take (suc at) hs) ++ without x (holdings (drop (suc at) hs))
past x [] zero h is not_it = cc
past x [] (suc n) h is not_it = cc
past x (y ∷ hs) zero h is not_it =
    let same : y ≡ h = cc in
    rw (ap (λ (y : Hold). is_holding x (holding_of y)) same, not_it) refl
past x (y ∷ hs) (suc n) h is not_it = ap (λ (t : List Holding). holding_of y ∷ t) (past x hs n h is not_it)

pub here : (x : Holding) (hs : List Hold) (at : ℕ) (h : Hold) → slice_get hs at ≡ Some h → is_holding x (holding_of h) ≡ true
    → holdings (take at hs ++ drop (suc at) hs) ≡ holdings (take at hs) ++ without x (holdings (drop at hs))
here x [] zero h is it_is = cc
here x [] (suc n) h is it_is = cc
here x (y ∷ hs) zero h is it_is =
    let same : y ≡ h = cc in
    rw (ap (λ (y : Hold). is_holding x (holding_of y)) same, it_is) refl
here x (y ∷ hs) (suc n) h is it_is = ap (λ (t : List Holding). holding_of y ∷ t) (here x hs n h is it_is)

pub past_other : (x new : Holding) (hs : List Hold) (at : ℕ) (h : Hold) → slice_get hs at ≡ Some h → is_holding x (holding_of h) ≡ false
    → holdings (take at hs) ++ becoming x new (holdings (drop at hs)) ≡ holdings (take (suc at) hs) ++ becoming x new (holdings (drop (suc at) hs))
past_other x new [] zero h is not_it = cc
past_other x new [] (suc n) h is not_it = cc
past_other x new (y ∷ hs) zero h is not_it =
    let same : y ≡ h = cc in
    rw (ap (λ (y : Hold). is_holding x (holding_of y)) same, not_it) refl
past_other x new (y ∷ hs) (suc n) h is not_it = ap (λ (t : List Holding). holding_of y ∷ t) (past_other x new hs n h is not_it)

pub becomes : (x : Holding) (new : Hold) (hs : List Hold) (at : ℕ) (h : Hold) → slice_get hs at ≡ Some h → is_holding x (holding_of h) ≡ true
    → holdings (slice_set hs at new) ≡ holdings (take at hs) ++ becoming x (holding_of new) (holdings (drop at hs))
becomes x new [] zero h is it_is = cc
becomes x new [] (suc n) h is it_is = cc
becomes x new (y ∷ hs) zero h is it_is =
    let same : y ≡ h = cc in
    rw (ap (λ (y : Hold). is_holding x (holding_of y)) same, it_is) refl
becomes x new (y ∷ hs) (suc n) h is it_is = ap (λ (t : List Holding). holding_of y ∷ t) (becomes x new hs n h is it_is)
