-- The arguments of methods, by how many they are.
use Rattle.std.specs.Prelude.{ℕ, List, [], ◌∷◌, Option, Some, None}
use Rattle.py_value.specs.declared.value.Value.{Value}
use Rattle.py_value.specs.declared.value.Value.TheVariants as values
use Rattle.meaning_state.specs.declared.fault.Fault.TheVariants as fault
use Rattle.value_operators.specs.Outcomes.{number_of}
use Rattle.meaning_script.specs.Pieces.{Piece, fails}
use Rattle.meaning_script.specs.Entries.{reads_entry, pops_entry}
use Rattle.meaning_script.specs.Methods.{adds_entry, inserts_at}

-- the argument, where there is exactly one
abbrev pub one_of : List Value → Option Value
one_of (a ∷ []) = Some a
one_of vs = None

-- both arguments, in order, where there are exactly two
abbrev pub two_of : List Value → Option (Value × Value)
two_of (a ∷ b ∷ []) = Some (a, b)
two_of vs = None

-- a key, and what comes in place of its entry
abbrev pub key_of : List Value → Option (Value × Option Value)
key_of (a ∷ []) = Some (a, None)
key_of (a ∷ b ∷ []) = Some (a, Some b)
key_of vs = None

-- goes on with the arguments, where they are as many as the method takes
abbrev pub counted : {A : Type 0} → List ℕ → Option A → (A → Piece) → Piece
counted x None go = fails (fault.MethodCount x)
counted x (Some a) go = go a

-- `.get` answers `None` where no other default is given
abbrev pub or_nothing : Option Value → Value
or_nothing None = values.Nothing
or_nothing (Some d) = d

-- the methods by their arguments

-- `sys.path.append(v)`: the value comes to the end of the search path
abbrev pub appends_one : List ℕ → List Value → Piece
appends_one x vs = counted x (one_of vs) (adds_entry None)

-- `sys.path.insert(i, v)`: the value comes before that place; an index that is no number raises TypeError
abbrev pub inserts_two : List ℕ → List Value → Piece
inserts_two x vs = counted x (two_of vs) (λ both. inserts_at (number_of both.0) both.1)

-- `sys.modules.get(k)` and `.get(k, d)`: the entry of the key, else the default; a missing entry is no error
abbrev pub gets_key : List ℕ → List Value → Piece
gets_key x vs = counted x (key_of vs) (λ both. reads_entry both.0 (Some (or_nothing both.1)))

-- `sys.modules.pop(k)` and `.pop(k, d)`: the entry is taken out; without one comes the default, or else KeyError
abbrev pub pops_key : List ℕ → List Value → Piece
pops_key x vs = counted x (key_of vs) (λ both. pops_entry both.0 both.1)
