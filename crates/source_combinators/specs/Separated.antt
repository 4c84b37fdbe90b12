-- Items with separators between: `x { sep x }` of a grammar.
use Rattle.std.specs.Prelude.{ℕ, Bool, true, false, ◌&&◌, List, [], ◌∷◌, ◌++◌, Option}
use Rattle.source_combinators.specs.Reading.{Read, ◌>>=◌, given, refused, head_of}
use Rattle.source_combinators.specs.Many.{rounds}

-- a separator, whatever it is, and one more item
unfoldable pub next_item : {T A : Type 0} → (List T → Read T A) → List A → List T → Read T (List A)
next_item x found [] = refused []
next_item x found (t ∷ ts) = x ts >>= λ a. given (found ++ a.0 ∷ []) a.1

-- an item, and others as long as a separator is ahead
unfoldable pub separated : {T A : Type 0} → (Option T → Bool) → (List T → Read T A) → List T → Read T (List A)
separated ahead x ts = x ts >>= λ a. rounds (λ found. ahead) (next_item x) (a.0 ∷ []) a.1

-- what they spell
pub data IsSeparated {T A : Type 0} (sep : T) (Is : ℕ → List T → A → Type 0) : ℕ → List T → List A → Type 0 where
  one : {room : ℕ} {ts : List T} {a : A} → Is room ts a → IsSeparated sep Is room ts (a ∷ [])
  more : {room : ℕ} {xs ys : List T} {a : A} {found : List A} → Is room xs a → IsSeparated sep Is room ys found → IsSeparated sep Is room (xs ++ sep ∷ ys) (a ∷ found)

-- ---- with a separator behind the last one too: `x { sep x } [ sep ]`

-- an item and the separator behind it, if there is one
unfoldable pub listed_item : {T A : Type 0} → (List T → Read T A) → (List T → Read T Bool) → List A × Bool → List T → Read T (List A × Bool)
listed_item x separator s ts = x ts >>= λ a. separator a.1 >>= λ c. given (s.0 ++ a.0 ∷ [], c.0) c.1

-- another one follows: a separator came last, and an item begins
abbrev pub begins_listed : {T A : Type 0} → (Option T → Bool) → List A × Bool → Option T → Bool
begins_listed starts s t = s.1 && starts t

-- the items, with whether a separator came last
unfoldable pub listed : {T A : Type 0} → (Option T → Bool) → (List T → Read T A) → (List T → Read T Bool) → List T → Read T (List A × Bool)
listed starts x separator ts = listed_item x separator ([], true) ts >>= λ s. rounds (begins_listed starts) (listed_item x separator) s.0 s.1

-- what they spell, with whether a separator came last
pub data IsListed {T A : Type 0} (sep : T) (Is : ℕ → List T → A → Type 0) : ℕ → List T → List A × Bool → Type 0 where
  single : {room : ℕ} {ts : List T} {a : A} → Is room ts a → IsListed sep Is room ts (a ∷ [], false)
  sep_last : {room : ℕ} {ts : List T} {a : A} → Is room ts a → IsListed sep Is room (ts ++ sep ∷ []) (a ∷ [], true)
  several : {room : ℕ} {xs ys : List T} {a : A} {found : List A} {b : Bool} → Is room xs a → IsListed sep Is room ys (found, b) → IsListed sep Is room (xs ++ sep ∷ ys) (a ∷ found, b)
