-- Lists of exactly so many items, and what stands for the cache.
use Rattle.std.specs.Prelude.{List, [], ◌∷◌, Option, Some, None, Bool, true, false}
use Rattle.py_value.specs.declared.value.Value.{Value, out-Value}
use Rattle.py_value.specs.declared.value.Value.TheOpen.{Value-F}

-- the item of a list of one, and None where it has another number of items
abbrev pub only : {X : Type 0} → List X → Option X
only (a ∷ []) = Some a
only xs = None

-- both items of a list of two, in order, and None where it has another number of items
abbrev pub pair : {X : Type 0} → List X → Option (X × X)
pair (a ∷ b ∷ []) = Some (a, b)
pair xs = None

-- the items of a list of three, in order, and None where it has another number of items
abbrev pub triple : {X : Type 0} → List X → Option (X × X × X)
triple (a ∷ b ∷ c ∷ []) = Some (a, b, c)
triple xs = None

-- the layer of a value that stands for the cache
abbrev pub is_cache_at : Value-F Value → Bool
is_cache_at Value-F.SysModules = true
is_cache_at v = false

-- whether a value stands for the cache, `sys.modules`
abbrev pub is_cache : Value → Bool
is_cache v = is_cache_at (out-Value v)
