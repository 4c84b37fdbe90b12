-- The test of sameness holds of a value and itself, and of no other two.
use Rattle.std.proofs.Common.{◌≡◌, ◌∙◌, refl, sym, ap, subst, ℕ, List, [], ◌∷◌, Bool, true, false, ◌&&◌, Option, Some, None, ℤ, map, nat_eq, if◌then◌else◌, rules}
use Rattle.std.specs.Bool.{Decides}
use Rattle.std.specs.Ordering.{int_eq}
use Rattle.std.specs.Str.{bytes_eq}
use Rattle.std.proofs.lemmas.Bool.Decides.{Decides-eqb, Decides-int_eq, Decides-like, Decides-and, Decides-at, same_from_decides}
use Rattle.std.proofs.lemmas.Slice.Eq.{bytes_eq-Decides}
use Rattle.py_value.specs.Names.{kind_name, native_name}
use Rattle.py_value.specs.declared.kind.Kind.{Kind}
use Rattle.py_value.specs.declared.kind.Kind.TheVariants as kinds
use Rattle.py_value.specs.declared.kind.Native.{Native}
use Rattle.py_value.specs.declared.kind.Native.TheVariants as natives
use Rattle.py_value.specs.declared.value.ModRef.{ModRef}
use Rattle.py_value.specs.declared.value.Place.{Place}
use Rattle.py_value.specs.declared.value.Place.TheVariants as places
use Rattle.py_value.specs.declared.value.Raised.{Raised}
use Rattle.py_value.specs.declared.value.Value.{Value, out-Value, roll-Value, map-Value, roll-out-Value, the_lemmas}
use Rattle.py_value.specs.declared.value.Value.TheOpen.{Value-F}
use Rattle.py_value.specs.declared.value.Value.TheFolds.{fold-roll-Value, ind-Value}
use Rattle.namespace_path.specs.Fresh.{is_same_bool, is_same_place, is_same_module, is_same_name, is_same_error, all_same, is_same_layer, is_same_at, is_same_value, are_same, SameIsExact}

bools : (a b : Bool) → Decides (is_same_bool a b) (a ≡ b)
bools true true = (λ h. refl, λ e. refl)
bools true false = (λ h. cc, λ e. cc)
bools false true = (λ h. cc, λ e. cc)
bools false false = (λ h. refl, λ e. refl)

same_places : (p q : Place) → Decides (is_same_place p q) (p ≡ q)
same_places (places.File f) (places.File g) = Decides-like (bytes_eq f g) (λ e i. places.File (e i)) (λ e. cc) (bytes_eq-Decides f g)
same_places (places.File f) _ = (λ h. cc, λ e. cc)
same_places places.BuiltIn places.BuiltIn = (λ h. refl, λ e. refl)
same_places places.BuiltIn _ = (λ h. cc, λ e. cc)
same_places places.Namespace places.Namespace = (λ h. refl, λ e. refl)
same_places places.Namespace _ = (λ h. cc, λ e. cc)

modules : (m n : ModRef) → Decides (is_same_module m n) (m ≡ n)
modules m n =
    Decides-like (is_same_module m n) (λ e i. record { «mid» = e.0.0 i; name = e.0.1 i; place = e.1 i })
    (λ e. ((ap (λ (x : ModRef). x.mid) e, ap (λ (x : ModRef). x.name) e), ap (λ (x : ModRef). x.place) e))
    (Decides-and (nat_eq m.mid n.mid && bytes_eq m.name n.name) (is_same_place m.place n.place)
    (Decides-and (nat_eq m.mid n.mid) (bytes_eq m.name n.name) (Decides-eqb m.mid n.mid) (bytes_eq-Decides m.name n.name)) (same_places m.place n.place))

same_names : (x y : Option (List ℕ)) → Decides (is_same_name x y) (x ≡ y)
same_names None None = (λ h. refl, λ e. refl)
same_names None (Some y) = (λ h. cc, λ e. cc)
same_names (Some x) None = (λ h. cc, λ e. cc)
same_names (Some x) (Some y) = Decides-like (bytes_eq x y) (λ e i. Some (e i)) (λ e. cc) (bytes_eq-Decides x y)

-- no two kinds have one name: the first of them with a name is the kind that has it
kind_named : List Kind → List ℕ → Option Kind
kind_named [] text = None
kind_named (kind ∷ more) text = if bytes_eq (kind_name kind) text then Some kind else kind_named more text

abbrev all_kinds : List Kind
all_kinds =
    kinds.BaseException ∷ kinds.Exception ∷ kinds.ArithmeticError ∷ kinds.ZeroDivisionError ∷ kinds.AttributeError ∷ kinds.ImportError
    ∷ kinds.ModuleNotFoundError ∷ kinds.LookupError ∷ kinds.IndexError ∷ kinds.KeyError ∷ kinds.NameError ∷ kinds.UnboundLocalError
    ∷ kinds.RuntimeError ∷ kinds.RecursionError ∷ kinds.DeadlockError ∷ kinds.SyntaxError ∷ kinds.TypeError ∷ kinds.ValueError ∷ kinds.ProfileError ∷ []

its_kind : (kind : Kind) → kind_named all_kinds (kind_name kind) ≡ Some kind
unfolding kind_named
its_kind kinds.BaseException = refl
its_kind kinds.Exception = refl
its_kind kinds.ArithmeticError = refl
its_kind kinds.ZeroDivisionError = refl
its_kind kinds.AttributeError = refl
its_kind kinds.ImportError = refl
its_kind kinds.ModuleNotFoundError = refl
its_kind kinds.LookupError = refl
its_kind kinds.IndexError = refl
its_kind kinds.KeyError = refl
its_kind kinds.NameError = refl
its_kind kinds.UnboundLocalError = refl
its_kind kinds.RuntimeError = refl
its_kind kinds.RecursionError = refl
its_kind kinds.DeadlockError = refl
its_kind kinds.SyntaxError = refl
its_kind kinds.TypeError = refl
its_kind kinds.ValueError = refl
its_kind kinds.ProfileError = refl

one_kind : (a b : Kind) → kind_name a ≡ kind_name b → a ≡ b
one_kind a b e =
    let same : Some a ≡ Some b = sym (its_kind a) ∙ ap (kind_named all_kinds) e ∙ its_kind b in
    cc

same_kinds : (a b : Kind) → Decides (bytes_eq (kind_name a) (kind_name b)) (a ≡ b)
same_kinds a b = Decides-like (bytes_eq (kind_name a) (kind_name b)) (one_kind a b) (ap kind_name) (bytes_eq-Decides (kind_name a) (kind_name b))

-- and no two natives
native_named : List Native → List ℕ → Option Native
native_named [] text = None
native_named (native ∷ more) text = if bytes_eq (native_name native) text then Some native else native_named more text

abbrev all_natives : List Native
all_natives =
    natives.Print ∷ natives.Str ∷ natives.Repr ∷ natives.Len ∷ natives.HasAttr ∷ natives.GetAttr ∷ natives.InvalidateCaches ∷ natives.Reload ∷ natives.Lazy ∷ []

its_native : (native : Native) → native_named all_natives (native_name native) ≡ Some native
unfolding native_named
its_native natives.Print = refl
its_native natives.Str = refl
its_native natives.Repr = refl
its_native natives.Len = refl
its_native natives.HasAttr = refl
its_native natives.GetAttr = refl
its_native natives.InvalidateCaches = refl
its_native natives.Reload = refl
its_native natives.Lazy = refl

one_native : (a b : Native) → native_name a ≡ native_name b → a ≡ b
one_native a b e =
    let same : Some a ≡ Some b = sym (its_native a) ∙ ap (native_named all_natives) e ∙ its_native b in
    cc

same_natives : (a b : Native) → Decides (bytes_eq (native_name a) (native_name b)) (a ≡ b)
same_natives a b = Decides-like (bytes_eq (native_name a) (native_name b)) (one_native a b) (ap native_name) (bytes_eq-Decides (native_name a) (native_name b))

errors : (a b : Raised) → Decides (is_same_error a b) (a ≡ b)
errors a b =
    Decides-like (is_same_error a b) (λ e i. record { kind = e.0.0 i; text = e.0.1 i; name = e.1 i })
    (λ e. ((ap (λ (x : Raised). x.kind) e, ap (λ (x : Raised). x.text) e), ap (λ (x : Raised). x.name) e))
    (Decides-and (bytes_eq (kind_name a.kind) (kind_name b.kind) && bytes_eq a.text b.text) (is_same_name a.name b.name)
    (Decides-and (bytes_eq (kind_name a.kind) (kind_name b.kind)) (bytes_eq a.text b.text) (same_kinds a.kind b.kind) (bytes_eq-Decides a.text b.text)) (same_names a.name b.name))

-- a value in front of others
in_front : (v w : Value) (vs ws : List Value) (r t : Bool) → Decides r (v ≡ w) → Decides t (vs ≡ ws) → Decides (r && t) (v ∷ vs ≡ w ∷ ws)
in_front v w vs ws r t front rest = Decides-like (r && t) (λ e i. e.0 i ∷ e.1 i) (λ e. (cc, cc)) (Decides-and r t front rest)

abbrev Exact : Value → Type 0
Exact v = (w : Value) → Decides (is_same_value v w) (v ≡ w)

abbrev Known : Type 0
Known = (v : Value) × Exact v

abbrev value_of : Known → Value
value_of known = known.0

items : (vs : List Known) (ws : List Value) → Decides (all_same (map is_same_value (map value_of vs)) ws) (map value_of vs ≡ ws)
items [] [] = (λ h. refl, λ e. refl)
items [] (w ∷ ws) = (λ h. cc, λ e. cc)
items (v ∷ vs) [] = (λ h. cc, λ e. cc)
items (v ∷ vs) (w ∷ ws) = in_front v.0 w (map value_of vs) ws (is_same_value v.0 w) (all_same (map is_same_value (map value_of vs)) ws) (v.1 w) (items vs ws)

abbrev Row : Value-F (Value → Bool) → Value-F Value → Value-F Value → Type 0
Row tests x y = Decides (is_same_layer tests y) (x ≡ y)

nothing_row : (y : Value-F Value) → Row Value-F.Nothing Value-F.Nothing y
nothing_row Value-F.Nothing = (λ h. refl, λ e. refl)
nothing_row _ = (λ h. cc, λ e. cc)

bool_row : (a : Bool) (y : Value-F Value) → Row (Value-F.Bool a) (Value-F.Bool a) y
bool_row a (Value-F.Bool b) = Decides-like (is_same_bool a b) (λ e i. Value-F.Bool (e i)) (λ e. cc) (bools a b)
bool_row a _ = (λ h. cc, λ e. cc)

int_row : (a : ℤ) (y : Value-F Value) → Row (Value-F.Int a) (Value-F.Int a) y
int_row a (Value-F.Int b) = Decides-like (int_eq a b) (λ e i. Value-F.Int (e i)) (λ e. cc) (Decides-int_eq a b)
int_row a _ = (λ h. cc, λ e. cc)

text_row : (a : List ℕ) (y : Value-F Value) → Row (Value-F.Text a) (Value-F.Text a) y
text_row a (Value-F.Text b) = Decides-like (bytes_eq a b) (λ e i. Value-F.Text (e i)) (λ e. cc) (bytes_eq-Decides a b)
text_row a _ = (λ h. cc, λ e. cc)

list_row : (tests : List (Value → Bool)) (vs : List Value) → ((ws : List Value) → Decides (all_same tests ws) (vs ≡ ws)) → (y : Value-F Value) → Row (Value-F.List tests) (Value-F.List vs) y
list_row tests vs all (Value-F.List ws) = Decides-like (all_same tests ws) (λ e i. Value-F.List (e i)) (λ e. cc) (all ws)
list_row tests vs all _ = (λ h. cc, λ e. cc)

tuple_row : (tests : List (Value → Bool)) (vs : List Value) → ((ws : List Value) → Decides (all_same tests ws) (vs ≡ ws)) → (y : Value-F Value) → Row (Value-F.Tuple tests) (Value-F.Tuple vs) y
tuple_row tests vs all (Value-F.Tuple ws) = Decides-like (all_same tests ws) (λ e i. Value-F.Tuple (e i)) (λ e. cc) (all ws)
tuple_row tests vs all _ = (λ h. cc, λ e. cc)

func_row : (load index : ℕ) (name : List ℕ) (y : Value-F Value) → Row (Value-F.Func load index name) (Value-F.Func load index name) y
func_row load index name (Value-F.Func l i n) =
    Decides-like (nat_eq load l && nat_eq index i && bytes_eq name n) (λ e j. Value-F.Func (e.0.0 j) (e.0.1 j) (e.1 j)) (λ e. ((cc, cc), cc))
    (Decides-and (nat_eq load l && nat_eq index i) (bytes_eq name n) (Decides-and (nat_eq load l) (nat_eq index i) (Decides-eqb load l) (Decides-eqb index i)) (bytes_eq-Decides name n))
func_row load index name _ = (λ h. cc, λ e. cc)

native_row : (a : Native) (y : Value-F Value) → Row (Value-F.Native a) (Value-F.Native a) y
native_row a (Value-F.Native b) = Decides-like (bytes_eq (native_name a) (native_name b)) (λ e i. Value-F.Native (e i)) (λ e. cc) (same_natives a b)
native_row a _ = (λ h. cc, λ e. cc)

kind_row : (a : Kind) (y : Value-F Value) → Row (Value-F.Kind a) (Value-F.Kind a) y
kind_row a (Value-F.Kind b) = Decides-like (bytes_eq (kind_name a) (kind_name b)) (λ e i. Value-F.Kind (e i)) (λ e. cc) (same_kinds a b)
kind_row a _ = (λ h. cc, λ e. cc)

module_row : (a : ModRef) (y : Value-F Value) → Row (Value-F.Module a) (Value-F.Module a) y
module_row a (Value-F.Module b) = Decides-like (is_same_module a b) (λ e i. Value-F.Module (e i)) (λ e. cc) (modules a b)
module_row a _ = (λ h. cc, λ e. cc)

error_row : (a : Raised) (y : Value-F Value) → Row (Value-F.Error a) (Value-F.Error a) y
error_row a (Value-F.Error b) = Decides-like (is_same_error a b) (λ e i. Value-F.Error (e i)) (λ e. cc) (errors a b)
error_row a _ = (λ h. cc, λ e. cc)

modules_row : (y : Value-F Value) → Row Value-F.SysModules Value-F.SysModules y
modules_row Value-F.SysModules = (λ h. refl, λ e. refl)
modules_row _ = (λ h. cc, λ e. cc)

path_row : (y : Value-F Value) → Row Value-F.SysPath Value-F.SysPath y
path_row Value-F.SysPath = (λ h. refl, λ e. refl)
path_row _ = (λ h. cc, λ e. cc)

namespace_row : (y : Value-F Value) → Row Value-F.NsPath Value-F.NsPath y
namespace_row Value-F.NsPath = (λ h. refl, λ e. refl)
namespace_row _ = (λ h. cc, λ e. cc)

-- one layer, where the test is exact of what is in it
abbrev bare : Value-F Known → Value-F Value
bare x = map-Value Known Value value_of x

abbrev tested : Value-F Known → Value-F (Value → Bool)
tested x = map-Value Value (Value → Bool) is_same_value (bare x)

row : (x : Value-F Known) (y : Value-F Value) → Row (tested x) (bare x) y
row Value-F.Nothing y = nothing_row y
row (Value-F.Bool a) y = bool_row a y
row (Value-F.Int a) y = int_row a y
row (Value-F.Text a) y = text_row a y
row (Value-F.List vs) y = list_row (map is_same_value (map value_of vs)) (map value_of vs) (items vs) y
row (Value-F.Tuple vs) y = tuple_row (map is_same_value (map value_of vs)) (map value_of vs) (items vs) y
row (Value-F.Func load index name) y = func_row load index name y
row (Value-F.Native a) y = native_row a y
row (Value-F.Kind a) y = kind_row a y
row (Value-F.Module a) y = module_row a y
row (Value-F.Error a) y = error_row a y
row Value-F.SysModules y = modules_row y
row Value-F.SysPath y = path_row y
row Value-F.NsPath y = namespace_row y

-- a value and its layer
opened : (x : Value-F Value) → out-Value (roll-Value x) ≡ x
opened x = search (rules, the_lemmas)

by_layer : (x : Value-F Value) (w : Value) → is_same_value (roll-Value x) w ≡ is_same_layer (map-Value Value (Value → Bool) is_same_value x) (out-Value w)
unfolding is_same_value
by_layer x w = ap (λ (f : Value → Bool). f w) (fold-roll-Value (Value → Bool) is_same_at x)

layer : (x : Value-F Known) → Exact (roll-Value (bare x))
layer x w =
    Decides-at (is_same_value (roll-Value (bare x)) w) (is_same_layer (tested x) (out-Value w)) (by_layer (bare x) w)
    (Decides-like (is_same_layer (tested x) (out-Value w)) (λ e. ap roll-Value e ∙ roll-out-Value w) (λ e. sym (opened (bare x)) ∙ ap out-Value e) (row x (out-Value w)))

pub exact : (v : Value) → Exact v
exact = ind-Value Exact (λ x y is. subst (λ z. Exact (roll-Value z)) is (layer y))

pub same_is_exact : SameIsExact
same_is_exact v w = exact v w

are_exact : (vs ws : List Value) → Decides (are_same vs ws) (vs ≡ ws)
are_exact [] [] = (λ h. refl, λ e. refl)
are_exact [] (w ∷ ws) = (λ h. cc, λ e. cc)
are_exact (v ∷ vs) [] = (λ h. cc, λ e. cc)
are_exact (v ∷ vs) (w ∷ ws) = in_front v w vs ws (is_same_value v w) (are_same vs ws) (exact v w) (are_exact vs ws)

-- what decides whether lists of values are the same answers as the test does
pub are_same_decided : (vs ws : List Value) (r : Bool) → Decides r (vs ≡ ws) → r ≡ are_same vs ws
are_same_decided vs ws r decides = same_from_decides r (are_same vs ws) decides (are_exact vs ws)
