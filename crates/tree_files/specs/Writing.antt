-- What a sink has got.
use Rattle.std.specs.Prelude.{◌≡◌, ℕ, ◌≤◌, List, [], ◌++◌, length, take, Option, Some, None, option_map, min, ◌-◌, refl}
use Rattle.std.proofs.Common.{append_assoc, ap}

-- with more bytes at the end, where the sink tells them
abbrev pub appended : Option (List ℕ) → List ℕ → Option (List ℕ)
appended written more = option_map (λ w. w ++ more) written

-- some first bytes of `bytes` came after `old`
abbrev pub HasPrefixOf : List ℕ → Option (List ℕ) → Option (List ℕ) → Type 0
HasPrefixOf bytes old new = (n : ℕ) × (n ≤ length bytes) × (new ≡ appended old (take n bytes))

-- how much is taken of so many bytes, where there is room for a number of bytes or no limit
abbrev pub room_for : Option ℕ → ℕ → ℕ
room_for None n = n
room_for (Some room) n = min n room

-- the room that is left
abbrev pub room_after : Option ℕ → ℕ → Option ℕ
room_after None n = None
room_after (Some room) n = Some (room - n)

-- one piece after another is both together
pub appended-appended : (written : Option (List ℕ)) (a b : List ℕ) → appended (appended written a) b ≡ appended written (a ++ b)
appended-appended None a b = refl
appended-appended (Some w) a b = ap Some (append_assoc w a b)
