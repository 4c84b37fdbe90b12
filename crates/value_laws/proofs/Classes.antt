-- Values by the class in which they compare.
use Rattle.std.proofs.Common.{◌≡◌, ◌∙◌, refl, sym, ap, ℕ, List, Bool, true, false, ◌&&◌, ◌==◌, Option, Some, None, ℤ, map, rules}
use Rattle.std.specs.Ordering.{int_cmp, nat_cmp}
use Rattle.std.specs.Cmp.Lexicographic.{slice_cmp}
use Rattle.std.specs.declared.cmp.Ordering.{Ordering}
use Rattle.std.specs.declared.cmp.Ordering.TheVariants.{Equal}
use Rattle.py_value.specs.contracts.kind.KindPartialEq.TheImpl as kind_equality
use Rattle.py_value.specs.contracts.kind.NativePartialEq.TheImpl as native_equality
use Rattle.py_value.specs.declared.kind.Kind.{Kind}
use Rattle.py_value.specs.declared.kind.Native.{Native}
use Rattle.py_value.specs.declared.names.TypeName.{TypeName}
use Rattle.py_value.specs.declared.names.TypeName.TheVariants as types
use Rattle.py_value.specs.declared.value.Value.{Value, roll-Value, out-Value, the_lemmas, roll-out-Value, map-Value}
use Rattle.py_value.specs.declared.value.Value.TheFolds.{fold-roll-Value}
use Rattle.py_value.specs.declared.value.Value.TheOpen.{Value-F}
use Rattle.value_operators.specs.declared.comparison.Compared.{Compared}
use Rattle.value_operators.specs.Outcomes.{bool_number, number_at}
use Rattle.value_operators.specs.Comparison.{order_of, compared_at, compared_items, same_where, beside_number, beside_text, beside_list, beside_tuple, is_nothing, is_func, is_native, is_kind, is_module}
use Rattle.value_laws.proofs.Ranks.{rank, same, rank_numbers, rank_ordering}

pub data Class : Type 0 where
  number : ℤ → Class
  text : List ℕ → Class
  list : List Value → Class
  tuple : List Value → Class
  nothing : Class
  func : ℕ → ℕ → Class
  native : Native → Class
  kind : Kind → Class
  held : ℕ → Class
  other : Class

abbrev pub class_of : Value-F Value → Class
class_of Value-F.Nothing = nothing
class_of (Value-F.Bool b) = number (bool_number b)
class_of (Value-F.Int n) = number n
class_of (Value-F.Text t) = text t
class_of (Value-F.List items) = list items
class_of (Value-F.Tuple items) = tuple items
class_of (Value-F.Func load index name) = func load index
class_of (Value-F.Native n) = native n
class_of (Value-F.Kind k) = kind k
class_of (Value-F.Module m) = held m.mid
class_of _ = other

abbrev pub between : Class → Class → Option Ordering
between (number a) (number b) = Some (int_cmp a b)
between (text a) (text b) = Some (slice_cmp nat_cmp a b)
between (list xs) (list ys) = rank (compared_items (map order_of xs) ys)
between (tuple xs) (tuple ys) = rank (compared_items (map order_of xs) ys)
between nothing nothing = Some Equal
between (func l i) (func m j) = same (l == m && i == j)
between (native a) (native b) = same (native_equality.ghosts.eq a b)
between (kind a) (kind b) = same (kind_equality.ghosts.eq a b)
between (held a) (held b) = same (a == b)
between _ _ = None

-- a value and its layer
opened : (x : Value-F Value) → out-Value (roll-Value x) ≡ x
opened x = search (rules, the_lemmas)

number_row : (left : TypeName) (a : ℤ) (b : Value) (y : Value-F Value) → rank (beside_number left a b (number_at y)) ≡ between (number a) (class_of y)
number_row left a b (Value-F.Bool c) = rank_numbers a (bool_number c)
number_row left a b (Value-F.Int c) = rank_numbers a c
number_row left a b _ = refl

text_row : (a : List ℕ) (b : Value) (y : Value-F Value) → rank (beside_text a b y) ≡ between (text a) (class_of y)
text_row a b (Value-F.Text c) = rank_ordering (slice_cmp nat_cmp a c)
text_row a b _ = refl

list_row : (xs : List Value) (b : Value) (y : Value-F Value) → rank (beside_list (map order_of xs) b y) ≡ between (list xs) (class_of y)
list_row xs b (Value-F.List ys) = refl
list_row xs b _ = refl

tuple_row : (xs : List Value) (b : Value) (y : Value-F Value) → rank (beside_tuple (map order_of xs) b y) ≡ between (tuple xs) (class_of y)
tuple_row xs b (Value-F.Tuple ys) = refl
tuple_row xs b _ = refl

rank_same : (t : Bool) (left : TypeName) (b : Value) → rank (same_where t left b) ≡ same t
rank_same true left b = refl
rank_same false left b = refl

nothing_row : (y : Value-F Value) → same (is_nothing y) ≡ between nothing (class_of y)
nothing_row Value-F.Nothing = refl
nothing_row _ = refl

func_row : (load index : ℕ) (y : Value-F Value) → same (is_func load index y) ≡ between (func load index) (class_of y)
func_row load index (Value-F.Func l i name) = refl
func_row load index _ = refl

native_row : (n : Native) (y : Value-F Value) → same (is_native n y) ≡ between (native n) (class_of y)
native_row n (Value-F.Native m) = refl
native_row n _ = refl

kind_row : (k : Kind) (y : Value-F Value) → same (is_kind k y) ≡ between (kind k) (class_of y)
kind_row k (Value-F.Kind l) = refl
kind_row k _ = refl

held_row : (mid : ℕ) (y : Value-F Value) → same (is_module mid y) ≡ between (held mid) (class_of y)
held_row mid (Value-F.Module m) = refl
held_row mid _ = refl

-- a layer, with how each of its items compares
abbrev layer : Value-F Value → Value-F (Value → Compared)
layer x = map-Value Value (Value → Compared) order_of x

row : (x : Value-F Value) (b : Value) → rank (compared_at (layer x) b) ≡ between (class_of x) (class_of (out-Value b))
row Value-F.Nothing b = rank_same (is_nothing (out-Value b)) types.NoneType b ∙ nothing_row (out-Value b)
row (Value-F.Bool c) b = number_row types.Bool (bool_number c) b (out-Value b)
row (Value-F.Int n) b = number_row types.Int n b (out-Value b)
row (Value-F.Text t) b = text_row t b (out-Value b)
row (Value-F.List items) b = list_row items b (out-Value b)
row (Value-F.Tuple items) b = tuple_row items b (out-Value b)
row (Value-F.Func l i name) b = rank_same (is_func l i (out-Value b)) types.Function b ∙ func_row l i (out-Value b)
row (Value-F.Native n) b = rank_same (is_native n (out-Value b)) _ b ∙ native_row n (out-Value b)
row (Value-F.Kind k) b = rank_same (is_kind k (out-Value b)) types.Type b ∙ kind_row k (out-Value b)
row (Value-F.Module m) b = rank_same (is_module m.mid (out-Value b)) types.Module b ∙ held_row m.mid (out-Value b)
row (Value-F.Error e) b = refl
row Value-F.SysModules b = refl
row Value-F.SysPath b = refl
row Value-F.NsPath b = refl

abbrev pub class : Value → Class
class a = class_of (out-Value a)

pub ranked : (a b : Value) → rank (order_of a b) ≡ between (class a) (class b)
ranked a b =
    ap (λ v. rank (order_of v b)) (sym (roll-out-Value a)) ∙ ap (λ f. rank (f b)) (fold-roll-Value (Value → Compared) compared_at (out-Value a)) ∙ row (out-Value a) b

pub class_roll : (x : Value-F Value) → class (roll-Value x) ≡ class_of x
class_roll x = ap class_of (opened x)
