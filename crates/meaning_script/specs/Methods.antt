-- The methods of `sys.path` and `sys.modules`, which stand for
-- the search path and the cache. They are read as callees alone.
use Rattle.std.specs.Prelude.{ℕ, List, [], ◌∷◌, codes, Option, Some, None, Bool, false, ◌||◌, if◌then◌else◌, ℤ, nat_le}
use Rattle.std.specs.Str.{bytes_eq}
use Rattle.py_value.specs.declared.value.Value.{Value, out-Value}
use Rattle.py_value.specs.declared.value.Value.TheVariants as values
use Rattle.py_value.specs.declared.value.Value.TheOpen.{Value-F}
use Rattle.py_value.specs.Measures.{nesting_of}
use Rattle.value_operators.specs.Outcomes.{is_special, number_of}
use Rattle.machine_events.specs.declared.event.Event.TheVariants as e
use Rattle.machine_events.specs.declared.event.Reply.{Reply}
use Rattle.machine_events.specs.declared.event.Reply.TheVariants as r
use Rattle.meaning_state.specs.declared.fault.Fault.TheVariants as fault
use Rattle.meaning_script.specs.Pieces.{Piece, calls, fails, passes}
use Rattle.meaning_script.specs.Entries.{reads_entry, pops_entry}

-- whether an object has a method of this name
abbrev pub has_method_at : Value-F Value → List ℕ → Bool
has_method_at Value-F.SysPath x = bytes_eq x (codes "append") || bytes_eq x (codes "insert")
has_method_at Value-F.SysModules x = bytes_eq x (codes "get") || bytes_eq x (codes "pop")
has_method_at v x = false

-- the same of a value: the search path has `append` and `insert`, the cache `get` and `pop`, and nothing else has any
abbrev pub has_method : Value → List ℕ → Bool
has_method object x = has_method_at (out-Value object) x

-- ---- the search path

-- the entry is there; a path that has 4,096 entries takes no more
abbrev pub path_added : Reply → Piece
path_added r.Done = passes
path_added r.Full = fails fault.PathFull
path_added reply = fails fault.NotInProfile

-- the search path is a list: around a value that is nested 64 deep it would be nested deeper than a list may be
abbrev pub nests_too_deep : Value → Bool
nests_too_deep v = nat_le 64 (nesting_of v)

-- what stands for something in the machine is no entry of the path, and neither is what is nested too deep
abbrev pub adds_entry : Option ℤ → Value → Piece
adds_entry at v =
    if is_special v then fails fault.NotInProfile
    else if nests_too_deep v then fails fault.PathTooDeep
    else (λ s k. calls (e.PathAdd at v) (λ reply. path_added reply s k))

-- `append` takes one argument, which becomes the last entry
abbrev pub appends : List ℕ → List Value → Piece
appends x (v ∷ []) = adds_entry None v
appends x vs = fails (fault.MethodCount x)

-- the index is tested before the value
abbrev pub inserts_at : Option ℤ → Value → Piece
inserts_at None v = fails fault.NotIndices
inserts_at (Some n) v = adds_entry (Some n) v

-- `insert` takes two arguments, an index and the entry that is put in there
abbrev pub inserts : List ℕ → List Value → Piece
inserts x (i ∷ v ∷ []) = inserts_at (number_of i) v
inserts x vs = fails (fault.MethodCount x)

-- of the two methods that the path has, what is not `append` is `insert`
abbrev pub calls_on_path : List ℕ → List Value → Piece
calls_on_path x vs = if bytes_eq x (codes "append") then appends x vs else inserts x vs

-- ---- the cache

-- `get` takes a key, and may take a default: it comes in place of a missing entry, and without one `None` does
abbrev pub gets : List ℕ → List Value → Piece
gets x (key ∷ []) = reads_entry key (Some values.Nothing)
gets x (key ∷ d ∷ []) = reads_entry key (Some d)
gets x vs = fails (fault.MethodCount x)

-- `pop` takes a key, and may take a default in place of a missing entry, which is KeyError without one
abbrev pub pops : List ℕ → List Value → Piece
pops x (key ∷ []) = pops_entry key None
pops x (key ∷ d ∷ []) = pops_entry key (Some d)
pops x vs = fails (fault.MethodCount x)

-- of the two methods that the cache has, what is not `get` is `pop`
abbrev pub calls_on_cache : List ℕ → List Value → Piece
calls_on_cache x vs = if bytes_eq x (codes "get") then gets x vs else pops x vs

-- ---- the call of a method

-- by the object, as it looks from outside: the search path and the cache have methods, and nothing else does
abbrev pub calls_method_at : Value-F Value → List ℕ → List Value → Piece
calls_method_at Value-F.SysPath x vs = calls_on_path x vs
calls_method_at Value-F.SysModules x vs = calls_on_cache x vs
calls_method_at object x vs = fails fault.NotInProfile

-- the same of a value
abbrev pub calls_method : Value → List ℕ → List Value → Piece
calls_method object x vs = calls_method_at (out-Value object) x vs
