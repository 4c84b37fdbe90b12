-- A text holds another exactly where the other's bytes stand somewhere in it.
use Rattle.std.proofs.Common.{◌≡◌, ap, refl, ℕ, List, [], ◌∷◌, ◌++◌, Bool, true, false, ◌||◌, ◌⊎◌, inl, inr, length, drop, nat_eq}
use Rattle.std.specs.Bool.{Decides}
use Rattle.std.specs.List.{starts_with}
use Rattle.std.specs.Str.Iter.{HasSubslice}
use Rattle.std.proofs.lemmas.Bool.Decides.{Decides-eqb}
use Rattle.std.proofs.lemmas.Slice.Eq.{starts_is}
use Rattle.value_operators.specs.Items.{holds_text}

starts : (text needle : List ℕ) → starts_with nat_eq text needle ≡ true → text ≡ needle ++ drop (length needle) text
starts text needle = (starts_is Decides-eqb text needle (starts_with nat_eq text needle) refl).0

begins : (text needle rest : List ℕ) → text ≡ needle ++ rest → starts_with nat_eq text needle ≡ true
begins text needle rest = (starts_is Decides-eqb text needle (starts_with nat_eq text needle) refl).1 rest

either : (a b : Bool) → a || b ≡ true → (a ≡ true) ⊎ (b ≡ true)
either true b e = inl refl
either false b e = inr e

left : (a b : Bool) → a ≡ true → a || b ≡ true
left true b e = refl
left false b e = cc

right : (a b : Bool) → b ≡ true → a || b ≡ true
right true b e = refl
right false b e = e

stands : (text needle : List ℕ) → holds_text text needle ≡ true → HasSubslice text needle
stands [] needle e = ([], drop (length needle) [], starts [] needle e)
stands (b ∷ text) needle e = elim (either (starts_with nat_eq (b ∷ text) needle) (holds_text text needle) e) [
  | inl h ↦ ([], drop (length needle) (b ∷ text), starts (b ∷ text) needle h)
  | inr h ↦ let inside = stands text needle h in (b ∷ inside.0, inside.1, ap (λ t. b ∷ t) inside.2)
]

found : (text needle front rest : List ℕ) → text ≡ front ++ (needle ++ rest) → holds_text text needle ≡ true
found [] needle [] rest e = begins [] needle rest e
found [] needle (c ∷ front) rest e = cc
found (b ∷ text) needle [] rest e = left (starts_with nat_eq (b ∷ text) needle) (holds_text text needle) (begins (b ∷ text) needle rest e)
found (b ∷ text) needle (c ∷ front) rest e =
    let below : text ≡ front ++ (needle ++ rest) = cc in
    right (starts_with nat_eq (b ∷ text) needle) (holds_text text needle) (found text needle front rest below)

pub holds_text-Decides : (text needle : List ℕ) → Decides (holds_text text needle) (HasSubslice text needle)
holds_text-Decides text needle = (stands text needle, λ inside. found text needle inside.0 inside.1 inside.2)
