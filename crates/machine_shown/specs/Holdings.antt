-- What a thread holds of the machine: locks that it took, bodies that it runs, and reloads.
use Rattle.std.specs.Prelude.{ℕ, nat_eq, ◌&&◌, Bool, true, false, List, [], ◌∷◌, Option, Some, None, if◌then◌else◌}
use Rattle.std.specs.Cmp.Lexicographic.{pointwise}
use Rattle.machine_events.specs.Loads.{is_same_load}

-- one thing that is held: a lock, taken once for which no body runs yet; a module's body that was not ended;
-- a reload, with its body where that has begun. Each body counts once more for the lock of its module's name
pub data Holding : Type 0 where
  Taken : (name : List ℕ) → Holding
  Loading : (load : ℕ) → Holding
  Reloading : (mid : ℕ) (load : Option ℕ) → Holding

-- a lock, by its name
abbrev pub is_taken : List ℕ → Holding → Bool
is_taken n (Taken m) = pointwise nat_eq n m
is_taken n (Loading load) = false
is_taken n (Reloading mid load) = false

-- a body, by the number of its load
abbrev pub is_loading : ℕ → Holding → Bool
is_loading i (Taken m) = false
is_loading i (Loading load) = nat_eq i load
is_loading i (Reloading mid load) = false

-- a reload, by its module and its load: one that has begun its body is another than the one that has not
abbrev pub is_reloading : ℕ → Option ℕ → Holding → Bool
is_reloading i l (Taken m) = false
is_reloading i l (Loading load) = false
is_reloading i l (Reloading mid load) = nat_eq mid i && is_same_load load l

-- the two are the same
abbrev pub is_holding : Holding → Holding → Bool
is_holding (Taken n) h = is_taken n h
is_holding (Loading load) h = is_loading load h
is_holding (Reloading mid load) h = is_reloading mid load h

-- the innermost that is this one is given up
abbrev pub without : Holding → List Holding → List Holding
without x [] = []
without x (h ∷ held) = if is_holding x h then held else h ∷ without x held

-- the innermost that is this one becomes another
abbrev pub becoming : Holding → Holding → List Holding → List Holding
becoming x new [] = []
becoming x new (h ∷ held) = if is_holding x h then new ∷ held else h ∷ becoming x new held
