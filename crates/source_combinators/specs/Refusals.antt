-- What reading promises, in terms of what is spelled.
use Rattle.std.specs.Prelude.{◌≡◌, ◌↔◌, ℕ, suc, ◌+◌, List, [], ◌∷◌, ◌++◌, length}
use Rattle.source_combinators.specs.declared.fault.Refusal.TheVariants.{TooDeep}
use Rattle.source_combinators.specs.declared.fault.Fault.{Fault}

-- the tokens begin with a list that spells the value, and the others are left
pub record IsFront {T A : Type 0} (Spells : ℕ → List T → A → Type 0) (room : ℕ) (ts : List T) (value : A) (rest : List T) : Type 0 where
  pub front : List T
  pub parts : ts ≡ front ++ rest
  pub spelled : Spells room front value

-- the tokens begin a list that spells some value
pub record IsViable {T A : Type 0} (Spells : ℕ → List T → A → Type 0) (room : ℕ) (ts : List T) : Type 0 where
  pub rest : List T
  pub value : A
  pub spelled : Spells room (ts ++ rest) value

-- The tokens before the refused one begin a list that spells a value,
-- and with it they don't. It is too deep where with more levels they do.
pub record IsFirstRefused {T A : Type 0} (Spells : ℕ → List T → A → Type 0) (room : ℕ) (ts : List T) (fault : Fault) : Type 0 where
  pub front : List T
  pub rest : List T
  pub parts : ts ≡ front ++ rest
  pub left : fault.left ≡ length rest
  pub before : IsViable Spells room front
  pub after : (t : T) (tail : List T) → rest ≡ t ∷ tail → ¬ IsViable Spells room (front ++ t ∷ [])
  pub too_deep : (t : T) (tail : List T) → rest ≡ t ∷ tail → (fault.kind ≡ TooDeep) ↔ ((more : ℕ) × IsViable Spells (room + more) (front ++ t ∷ []))
