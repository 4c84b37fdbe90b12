-- Comparisons of values: two that follow one another, one the other way round, and of a value with
-- itself.
use Rattle.std.proofs.Common.{◌≡◌, ◌∙◌, refl, sym, ap, subst, ℕ, List, [], ◌∷◌, Bool, true, false, ◌&&◌, ◌==◌, Some, None, ℤ, map}
use Rattle.std.specs.Ordering.{int_cmp, nat_cmp}
use Rattle.std.specs.List.{list_all}
use Rattle.std.specs.Cmp.{IsEquivalence, nat_eq_equiv}
use Rattle.std.specs.Cmp.Lexicographic.{slice_cmp, nat_list_cmp_total}
use Rattle.std.specs.declared.cmp.Ordering.TheVariants.{Less, Equal, Greater}
use Rattle.std.proofs.lemmas.Cmp.{int_cmp_total}
use Rattle.py_value.specs.contracts.kind.KindPartialEq.TheImpl as kind_equality
use Rattle.py_value.specs.contracts.kind.NativePartialEq.TheImpl as native_equality
use Rattle.py_value.specs.contracts.kind.KindEq.TheImpl.Laws as kind_laws
use Rattle.py_value.specs.contracts.kind.NativeEq.TheImpl.Laws as native_laws
use Rattle.py_value.specs.declared.kind.Kind.{Kind}
use Rattle.py_value.specs.declared.kind.Native.{Native}
use Rattle.py_value.specs.declared.value.Value.{Value, roll-Value, map-Value}
use Rattle.py_value.specs.declared.value.Value.TheFolds.{fold-roll-Value, ind-Value}
use Rattle.py_value.specs.declared.value.Value.TheOpen.{Value-F}
use Rattle.value_operators.specs.Outcomes.{bool_number, is_plain, is_plain_at}
use Rattle.value_operators.specs.Comparison.{order_of, compared_items}
use Rattle.value_laws.proofs.Ranks.{rank, same, turned, chain, Follows, from_none, to_none, from_greater, to_greater, equal_first, less_first, total_follows, total_turns, total_itself, same_follows, same_turns, same_itself, item_follows, item_turns, item_itself}
use Rattle.value_laws.proofs.Classes.{Class, number, text, list, tuple, nothing, func, native, kind, held, other, class_of, class, between, ranked, class_roll}

-- functions by load and place
both : (a b : Bool) → a ≡ true → b ≡ true → a && b ≡ true
both true b p q = q
both false b p q = p

first : (a b : Bool) → a && b ≡ true → a ≡ true
first true b e = refl
first false b e = e

second : (a b : Bool) → a && b ≡ true → b ≡ true
second true b e = e
second false b e = cc

abbrev same_pair : (ℕ × ℕ) → (ℕ × ℕ) → Bool
same_pair p q = (p.0 == q.0) && (p.1 == q.1)

pairs : IsEquivalence same_pair
pairs = record {
  refl = λ p. both (p.0 == p.0) (p.1 == p.1) (nat_eq_equiv.refl p.0) (nat_eq_equiv.refl p.1);
  symm = λ p q. (λ k. nat_eq_equiv.symm p.0 q.0 k && nat_eq_equiv.symm p.1 q.1 k);
  congr = λ p q r e. (λ k. nat_eq_equiv.congr p.0 q.0 r.0 (first (p.0 == q.0) (p.1 == q.1) e) k && nat_eq_equiv.congr p.1 q.1 r.1 (second (p.0 == q.0) (p.1 == q.1) e) k);
}

-- an induction over the layers of values
induct : (P : Value → Type 0) → ((y : Value-F ((v : Value) × P v)) → P (roll-Value (map-Value ((v : Value) × P v) Value (λ e. e.0) y))) → (a : Value) → P a
induct P each = ind-Value P (λ x y is. subst (λ z. P (roll-Value z)) is (each y))

abbrev FollowsFrom : Value → Type 0
FollowsFrom a = (b c : Value) → Follows (rank (order_of a b)) (rank (order_of b c)) (rank (order_of a c))

items_follow : (xs : List ((v : Value) × FollowsFrom v)) (ys zs : List Value) →
    Follows (rank (compared_items (map order_of (map (λ e. e.0) xs)) ys)) (rank (compared_items (map order_of ys) zs)) (rank (compared_items (map order_of (map (λ e. e.0) xs)) zs))
items_follow [] [] zs = equal_first (rank (compared_items [] zs))
items_follow [] (y ∷ ys) [] = from_greater (Some Less) (Some Equal)
items_follow [] (y ∷ ys) (z ∷ zs) = less_first (rank (compared_items (map order_of (y ∷ ys)) (z ∷ zs)))
items_follow (x ∷ xs) [] zs = to_greater (rank (compared_items [] zs)) (rank (compared_items (map order_of (map (λ e. e.0) (x ∷ xs))) zs))
items_follow (x ∷ xs) (y ∷ ys) [] = from_greater (rank (compared_items (map order_of (map (λ e. e.0) (x ∷ xs))) (y ∷ ys))) (Some Greater)
items_follow (x ∷ xs) (y ∷ ys) (z ∷ zs) =
    item_follows (order_of x.0 y) (order_of y z) (order_of x.0 z) (compared_items (map order_of (map (λ e. e.0) xs)) ys) (compared_items (map order_of ys) zs) (compared_items (map order_of (map (λ e. e.0) xs)) zs)
    (x.1 y z) (items_follow xs ys zs)

abbrev ClassFollows : Class → Class → Class → Type 0
ClassFollows p q s = Follows (between p q) (between q s) (between p s)

number_follows : (a : ℤ) (q s : Class) → ClassFollows (number a) q s
number_follows a (number b) (number c) = total_follows int_cmp_total a b c
number_follows a (number b) s = from_none (Some (int_cmp a b)) (between (number a) s)
number_follows a q s = to_none (between q s) (between (number a) s)

text_follows : (a : List ℕ) (q s : Class) → ClassFollows (text a) q s
text_follows a (text b) (text c) = total_follows nat_list_cmp_total a b c
text_follows a (text b) s = from_none (Some (slice_cmp nat_cmp a b)) (between (text a) s)
text_follows a q s = to_none (between q s) (between (text a) s)

list_follows : (xs : List ((v : Value) × FollowsFrom v)) (q s : Class) → ClassFollows (list (map (λ e. e.0) xs)) q s
list_follows xs (list ys) (list zs) = items_follow xs ys zs
list_follows xs (list ys) s = from_none (rank (compared_items (map order_of (map (λ e. e.0) xs)) ys)) (between (list (map (λ e. e.0) xs)) s)
list_follows xs q s = to_none (between q s) (between (list (map (λ e. e.0) xs)) s)

tuple_follows : (xs : List ((v : Value) × FollowsFrom v)) (q s : Class) → ClassFollows (tuple (map (λ e. e.0) xs)) q s
tuple_follows xs (tuple ys) (tuple zs) = items_follow xs ys zs
tuple_follows xs (tuple ys) s = from_none (rank (compared_items (map order_of (map (λ e. e.0) xs)) ys)) (between (tuple (map (λ e. e.0) xs)) s)
tuple_follows xs q s = to_none (between q s) (between (tuple (map (λ e. e.0) xs)) s)

nothing_follows : (q s : Class) → ClassFollows nothing q s
nothing_follows nothing s = equal_first (between nothing s)
nothing_follows q s = to_none (between q s) (between nothing s)

func_follows : (l i : ℕ) (q s : Class) → ClassFollows (func l i) q s
func_follows l i (func m j) (func n k) = same_follows pairs (l, i) (m, j) (n, k)
func_follows l i (func m j) s = from_none (same ((l == m) && (i == j))) (between (func l i) s)
func_follows l i q s = to_none (between q s) (between (func l i) s)

native_follows : (a : Native) (q s : Class) → ClassFollows (native a) q s
native_follows a (native b) (native c) = same_follows native_laws.laws-law a b c
native_follows a (native b) s = from_none (same (native_equality.ghosts.eq a b)) (between (native a) s)
native_follows a q s = to_none (between q s) (between (native a) s)

kind_follows : (a : Kind) (q s : Class) → ClassFollows (kind a) q s
kind_follows a (kind b) (kind c) = same_follows kind_laws.laws-law a b c
kind_follows a (kind b) s = from_none (same (kind_equality.ghosts.eq a b)) (between (kind a) s)
kind_follows a q s = to_none (between q s) (between (kind a) s)

held_follows : (a : ℕ) (q s : Class) → ClassFollows (held a) q s
held_follows a (held b) (held c) = same_follows nat_eq_equiv a b c
held_follows a (held b) s = from_none (same (a == b)) (between (held a) s)
held_follows a q s = to_none (between q s) (between (held a) s)

layer_follows : (y : Value-F ((v : Value) × FollowsFrom v)) (q s : Class) → ClassFollows (class_of (map-Value ((v : Value) × FollowsFrom v) Value (λ e. e.0) y)) q s
layer_follows Value-F.Nothing q s = nothing_follows q s
layer_follows (Value-F.Bool b) q s = number_follows _ q s
layer_follows (Value-F.Int n) q s = number_follows n q s
layer_follows (Value-F.Text t) q s = text_follows t q s
layer_follows (Value-F.List items) q s = list_follows items q s
layer_follows (Value-F.Tuple items) q s = tuple_follows items q s
layer_follows (Value-F.Func l i name) q s = func_follows l i q s
layer_follows (Value-F.Native n) q s = native_follows n q s
layer_follows (Value-F.Kind k) q s = kind_follows k q s
layer_follows (Value-F.Module m) q s = held_follows m.mid q s
layer_follows _ q s = to_none (between q s) None

as_values : (a b c : Value) → ClassFollows (class a) (class b) (class c) → Follows (rank (order_of a b)) (rank (order_of b c)) (rank (order_of a c))
as_values a b c told o h = ranked a c ∙ told o (sym (λ k. chain (ranked a b k) (ranked b c k)) ∙ h)

pub follows : (a : Value) → FollowsFrom a
follows = induct FollowsFrom (λ y b c. as_values (roll-Value (map-Value ((v : Value) × FollowsFrom v) Value (λ e. e.0) y)) b c (subst (λ p. ClassFollows p (class b) (class c)) (sym (class_roll (map-Value ((v : Value) × FollowsFrom v) Value (λ e. e.0) y))) (layer_follows y (class b) (class c))))

abbrev TurnsFrom : Value → Type 0
TurnsFrom a = (b : Value) → rank (order_of b a) ≡ turned (rank (order_of a b))

items_turn : (xs : List ((v : Value) × TurnsFrom v)) (ys : List Value) →
    rank (compared_items (map order_of ys) (map (λ e. e.0) xs)) ≡ turned (rank (compared_items (map order_of (map (λ e. e.0) xs)) ys))
items_turn [] [] = refl
items_turn [] (y ∷ ys) = refl
items_turn (x ∷ xs) [] = refl
items_turn (x ∷ xs) (y ∷ ys) =
    item_turns (order_of x.0 y) (order_of y x.0) (compared_items (map order_of (map (λ e. e.0) xs)) ys) (compared_items (map order_of ys) (map (λ e. e.0) xs)) (x.1 y) (items_turn xs ys)

abbrev ClassTurns : Class → Class → Type 0
ClassTurns p q = between q p ≡ turned (between p q)

number_turns : (a : ℤ) (q : Class) → ClassTurns (number a) q
number_turns a (number b) = total_turns int_cmp_total a b
number_turns a q = refl

text_turns : (a : List ℕ) (q : Class) → ClassTurns (text a) q
text_turns a (text b) = total_turns nat_list_cmp_total a b
text_turns a q = refl

list_turns : (xs : List ((v : Value) × TurnsFrom v)) (q : Class) → ClassTurns (list (map (λ e. e.0) xs)) q
list_turns xs (list ys) = items_turn xs ys
list_turns xs q = refl

tuple_turns : (xs : List ((v : Value) × TurnsFrom v)) (q : Class) → ClassTurns (tuple (map (λ e. e.0) xs)) q
tuple_turns xs (tuple ys) = items_turn xs ys
tuple_turns xs q = refl

nothing_turns : (q : Class) → ClassTurns nothing q
nothing_turns nothing = refl
nothing_turns q = refl

func_turns : (l i : ℕ) (q : Class) → ClassTurns (func l i) q
func_turns l i (func m j) = same_turns pairs (l, i) (m, j)
func_turns l i q = refl

native_turns : (a : Native) (q : Class) → ClassTurns (native a) q
native_turns a (native b) = same_turns native_laws.laws-law a b
native_turns a q = refl

kind_turns : (a : Kind) (q : Class) → ClassTurns (kind a) q
kind_turns a (kind b) = same_turns kind_laws.laws-law a b
kind_turns a q = refl

held_turns : (a : ℕ) (q : Class) → ClassTurns (held a) q
held_turns a (held b) = same_turns nat_eq_equiv a b
held_turns a q = refl

other_turns : (q : Class) → ClassTurns other q
other_turns (number b) = refl
other_turns q = refl

layer_turns : (y : Value-F ((v : Value) × TurnsFrom v)) (q : Class) → ClassTurns (class_of (map-Value ((v : Value) × TurnsFrom v) Value (λ e. e.0) y)) q
layer_turns Value-F.Nothing q = nothing_turns q
layer_turns (Value-F.Bool b) q = number_turns _ q
layer_turns (Value-F.Int n) q = number_turns n q
layer_turns (Value-F.Text t) q = text_turns t q
layer_turns (Value-F.List items) q = list_turns items q
layer_turns (Value-F.Tuple items) q = tuple_turns items q
layer_turns (Value-F.Func l i name) q = func_turns l i q
layer_turns (Value-F.Native n) q = native_turns n q
layer_turns (Value-F.Kind k) q = kind_turns k q
layer_turns (Value-F.Module m) q = held_turns m.mid q
layer_turns _ q = other_turns q

turned_values : (a b : Value) → ClassTurns (class a) (class b) → rank (order_of b a) ≡ turned (rank (order_of a b))
turned_values a b told = ranked b a ∙ told ∙ ap turned (sym (ranked a b))

pub turns : (a : Value) → TurnsFrom a
turns = induct TurnsFrom (λ y b. turned_values (roll-Value (map-Value ((v : Value) × TurnsFrom v) Value (λ e. e.0) y)) b (subst (λ p. ClassTurns p (class b)) (sym (class_roll (map-Value ((v : Value) × TurnsFrom v) Value (λ e. e.0) y))) (layer_turns y (class b))))

abbrev IsItself : Value → Type 0
IsItself a = is_plain a ≡ true → rank (order_of a a) ≡ Some Equal

items_itself : (xs : List ((v : Value) × IsItself v)) → list_all (λ b. b) (map is_plain (map (λ e. e.0) xs)) ≡ true →
    rank (compared_items (map order_of (map (λ e. e.0) xs)) (map (λ e. e.0) xs)) ≡ Some Equal
items_itself [] plain = refl
items_itself (x ∷ xs) plain =
    let head = x.1 (first (is_plain x.0) (list_all (λ b. b) (map is_plain (map (λ e. e.0) xs))) plain) in
    let rest = items_itself xs (second (is_plain x.0) (list_all (λ b. b) (map is_plain (map (λ e. e.0) xs))) plain) in
    item_itself (order_of x.0 x.0) (compared_items (map order_of (map (λ e. e.0) xs)) (map (λ e. e.0) xs)) head rest

-- one layer, with whether each item is plain
abbrev plain_layer : Value-F Value → Value-F Bool
plain_layer x = map-Value Value Bool is_plain x

layer_itself : (y : Value-F ((v : Value) × IsItself v)) →
    is_plain_at (plain_layer (map-Value ((v : Value) × IsItself v) Value (λ e. e.0) y)) ≡ true →
    between (class_of (map-Value ((v : Value) × IsItself v) Value (λ e. e.0) y)) (class_of (map-Value ((v : Value) × IsItself v) Value (λ e. e.0) y)) ≡ Some Equal
layer_itself Value-F.Nothing plain = refl
layer_itself (Value-F.Bool b) plain = total_itself int_cmp_total (bool_number b)
layer_itself (Value-F.Int n) plain = total_itself int_cmp_total n
layer_itself (Value-F.Text t) plain = total_itself nat_list_cmp_total t
layer_itself (Value-F.List items) plain = items_itself items plain
layer_itself (Value-F.Tuple items) plain = items_itself items plain
layer_itself (Value-F.Func l i name) plain = same_itself pairs (l, i)
layer_itself (Value-F.Native n) plain = same_itself native_laws.laws-law n
layer_itself (Value-F.Kind k) plain = same_itself kind_laws.laws-law k
layer_itself (Value-F.Module m) plain = same_itself nat_eq_equiv m.mid
layer_itself _ plain = cc

rolled_itself : (x : Value-F Value) → (is_plain_at (plain_layer x) ≡ true → between (class_of x) (class_of x) ≡ Some Equal) → IsItself (roll-Value x)
rolled_itself x told plain =
    ranked (roll-Value x) (roll-Value x) ∙ (λ k. between (class_roll x k) (class_roll x k)) ∙ told (sym (fold-roll-Value Bool is_plain_at x) ∙ plain)

pub itself : (a : Value) → IsItself a
itself = induct IsItself (λ y. rolled_itself (map-Value ((v : Value) × IsItself v) Value (λ e. e.0) y) (layer_itself y))
