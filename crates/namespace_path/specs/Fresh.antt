-- When the portions that are kept of a namespace may be used: they were computed
-- from this parent path, in this epoch (PEP 420, "Dynamic path computation").
use Rattle.std.specs.Prelude.{◌≡◌, ◌↔◌, IsTrue, ℕ, Bool, true, false, ◌&&◌, nat_eq, List, [], ◌∷◌, Option, Some, None}
use Rattle.std.specs.Ordering.{int_eq}
use Rattle.std.specs.Str.{bytes_eq}
use Rattle.py_value.specs.Names.{kind_name, native_name}
use Rattle.py_value.specs.declared.value.ModRef.{ModRef}
use Rattle.py_value.specs.declared.value.NsState.{NsState}
use Rattle.py_value.specs.declared.value.Place.{Place}
use Rattle.py_value.specs.declared.value.Place.TheVariants as places
use Rattle.py_value.specs.declared.value.Raised.{Raised}
use Rattle.py_value.specs.declared.value.Value.{Value, out-Value}
use Rattle.py_value.specs.declared.value.Value.TheOpen.{Value-F}
use Rattle.py_value.specs.declared.value.Value.TheFolds.{fold-Value}

-- both are true, or both are false
abbrev pub is_same_bool : Bool → Bool → Bool
is_same_bool true b = b
is_same_bool false true = false
is_same_bool false false = true

-- the same file, or both built in, or both a namespace
abbrev pub is_same_place : Place → Place → Bool
is_same_place (places.File f) (places.File g) = bytes_eq f g
is_same_place places.BuiltIn places.BuiltIn = true
is_same_place places.Namespace places.Namespace = true
is_same_place p q = false

-- the same number, name and place
abbrev pub is_same_module : ModRef → ModRef → Bool
is_same_module m n = nat_eq m.mid n.mid && bytes_eq m.name n.name && is_same_place m.place n.place

-- neither has a name, or both have the same one
abbrev pub is_same_name : Option (List ℕ) → Option (List ℕ) → Bool
is_same_name None None = true
is_same_name (Some x) (Some y) = bytes_eq x y
is_same_name x y = false

-- the same kind, text and name
abbrev pub is_same_error : Raised → Raised → Bool
is_same_error e f = bytes_eq (kind_name e.kind) (kind_name f.kind) && bytes_eq e.text f.text && is_same_name e.name f.name

-- one test behind the other, and as many values as tests
abbrev pub all_same : List (Value → Bool) → List Value → Bool
all_same [] [] = true
all_same (t ∷ ts) (v ∷ vs) = t v && all_same ts vs
all_same ts vs = false

-- the same shape with the same in it, where each item of the left value is a test that the right one's item must pass;
-- no number counts as a Bool here, and no list as a tuple
abbrev pub is_same_layer : Value-F (Value → Bool) → Value-F Value → Bool
is_same_layer Value-F.Nothing Value-F.Nothing = true
is_same_layer (Value-F.Bool a) (Value-F.Bool b) = is_same_bool a b
is_same_layer (Value-F.Int a) (Value-F.Int b) = int_eq a b
is_same_layer (Value-F.Text a) (Value-F.Text b) = bytes_eq a b
is_same_layer (Value-F.List ts) (Value-F.List vs) = all_same ts vs
is_same_layer (Value-F.Tuple ts) (Value-F.Tuple vs) = all_same ts vs
is_same_layer (Value-F.Func load index name) (Value-F.Func load' index' name') = nat_eq load load' && nat_eq index index' && bytes_eq name name'
is_same_layer (Value-F.Native a) (Value-F.Native b) = bytes_eq (native_name a) (native_name b)
is_same_layer (Value-F.Kind a) (Value-F.Kind b) = bytes_eq (kind_name a) (kind_name b)
is_same_layer (Value-F.Module a) (Value-F.Module b) = is_same_module a b
is_same_layer (Value-F.Error a) (Value-F.Error b) = is_same_error a b
is_same_layer Value-F.SysModules Value-F.SysModules = true
is_same_layer Value-F.SysPath Value-F.SysPath = true
is_same_layer Value-F.NsPath Value-F.NsPath = true
is_same_layer a b = false

-- one layer of tests is the test of a whole value, of which it sees the outer layer
abbrev pub is_same_at : Value-F (Value → Bool) → Value → Bool
is_same_at layer v = is_same_layer layer (out-Value v)

-- whether two values are one and the same
unfoldable pub is_same_value : Value → Value → Bool
is_same_value = fold-Value (Value → Bool) is_same_at

-- as many values on both sides, each the same as the one in its place
abbrev pub are_same : List Value → List Value → Bool
are_same [] [] = true
are_same (v ∷ vs) (w ∷ ws) = is_same_value v w && are_same vs ws
are_same vs ws = false

-- the kept portions were computed from this parent path, and no listings were dropped since
-- (`_NamespacePath._recalculate` of `importlib._bootstrap_external`)
abbrev pub is_fresh : NsState → List Value → ℕ → Bool
is_fresh state above epoch = are_same state.parent_path above && nat_eq state.epoch epoch

-- two values are the same exactly where the test says so
abbrev pub SameIsExact : Type 0
SameIsExact = (v w : Value) → IsTrue (is_same_value v w) ↔ (v ≡ w)
