-- `==` is an equivalence, and `<` is transitive.
use Rattle.std.proofs.Common.{◌≡◌, ◌∙◌, refl, sym, ap, Bool, true, false, ◌&&◌, Some, if◌then◌else◌, rules}
use Rattle.std.specs.declared.cmp.Ordering.TheVariants.{Less, Equal}
use Rattle.py_value.specs.declared.names.TypeName.{TypeName}
use Rattle.py_value.specs.declared.value.Value.{Value, out-Value, the_lemmas}
use Rattle.py_value.specs.declared.value.Value.TheVariants as values
use Rattle.py_value.specs.declared.value.Value.TheOpen.{Value-F}
use Rattle.py_value.specs.declared.operator.Applied.{Applied}
use Rattle.py_value.specs.declared.operator.Applied.TheVariants as applied
use Rattle.py_value.specs.declared.operator.CmpOp.TheVariants as ops
use Rattle.py_value.specs.Names.{type_of}
use Rattle.value_operators.specs.declared.comparison.Compared.{Compared}
use Rattle.value_operators.specs.declared.comparison.Compared.TheVariants as compares
use Rattle.value_operators.specs.Outcomes.{is_plain, truth_value, not_in_profile}
use Rattle.value_operators.specs.Comparison.{order_of, is_same, by_order, has_order, no_order}
use Rattle.value_laws.specs.Laws.{Holds, EqualIsEquivalence, LessIsTransitive}
use Rattle.value_laws.proofs.Ranks.{rank, turned, chain}
use Rattle.value_laws.proofs.Chains.{follows, turns, itself}

-- the answer as a test
abbrev told_at : Value-F Value → Bool
told_at (Value-F.Bool b) = b
told_at _ = false

abbrev told : Applied → Bool
told (applied.Value value) = told_at (out-Value value)
told (applied.Raised error) = false

opened : (b : Bool) → out-Value (values.Bool b) ≡ Value-F.Bool b
opened b = search (rules, the_lemmas)

-- an answer of True was a test that holds
holds : (b : Bool) → truth_value b ≡ truth_value true → b ≡ true
holds b h = sym (ap told_at (opened b)) ∙ ap told h ∙ ap told_at (opened true)

pub record Plain (s t : Bool) (x : Applied) : Type 0 where
  pub left : s ≡ true
  pub right : t ≡ true
  pub answer : x ≡ truth_value true

plain_both : (s t : Bool) (x : Applied) → (if s && t then x else not_in_profile) ≡ truth_value true → Plain s t x
plain_both true true x h = record { left = refl; right = refl; answer = h }
plain_both true false x h = cc
plain_both false t x h = cc

from_plain : (s t : Bool) (x : Applied) → s ≡ true → t ≡ true → x ≡ truth_value true → (if s && t then x else not_in_profile) ≡ truth_value true
from_plain true true x p q h = h
from_plain true false x p q h = cc
from_plain false t x p q h = cc

same_rank : (u : Compared) → is_same u ≡ true → rank u ≡ Some Equal
same_rank compares.Same h = refl
same_rank compares.Less h = cc
same_rank compares.Greater h = cc
same_rank (compares.Apart left right) h = cc

rank_same : (u : Compared) → rank u ≡ Some Equal → is_same u ≡ true
rank_same compares.Same h = refl
rank_same compares.Less h = cc
rank_same compares.Greater h = cc
rank_same (compares.Apart left right) h = cc

-- `a == b` holds where both are plain and compare as the same
equal : (a b : Value) → is_plain a ≡ true → is_plain b ≡ true → rank (order_of a b) ≡ Some Equal → Holds ops.Eq a b
equal a b p q same = from_plain (is_plain a) (is_plain b) (truth_value (is_same (order_of a b))) p q (ap truth_value (rank_same (order_of a b) same))

are_plain : (a b : Value) → Holds ops.Eq a b → Plain (is_plain a) (is_plain b) (truth_value (is_same (order_of a b)))
are_plain a b h = plain_both (is_plain a) (is_plain b) (truth_value (is_same (order_of a b))) h

are_same : (a b : Value) → Holds ops.Eq a b → rank (order_of a b) ≡ Some Equal
are_same a b h = same_rank (order_of a b) (holds (is_same (order_of a b)) (are_plain a b h).answer)

equal_turned : (a b : Value) → Holds ops.Eq a b → Holds ops.Eq b a
equal_turned a b h = equal b a (are_plain a b h).right (are_plain a b h).left (turns a b ∙ ap turned (are_same a b h))

equal_chained : (a b c : Value) → Holds ops.Eq a b → Holds ops.Eq b c → Holds ops.Eq a c
equal_chained a b c h k =
    equal a c (are_plain a b h).left (are_plain b c k).right (follows a b c Equal (λ i. chain (are_same a b h i) (are_same b c k i)))

pub equivalence : EqualIsEquivalence
equivalence = record {
  itself = λ a plain. equal a a plain plain (itself a plain);
  turned = equal_turned;
  chained = equal_chained;
}

-- `a < b` holds where both are plain, a has an order, and they compare so
pub record Lesser (t : Bool) (u : Compared) : Type 0 where
  pub ordered : t ≡ true
  pub less : rank u ≡ Some Less

less_order : (u : Compared) → by_order ops.Lt u ≡ truth_value true → rank u ≡ Some Less
less_order compares.Same h = let no = holds false h in cc
less_order compares.Less h = refl
less_order compares.Greater h = let no = holds false h in cc
less_order (compares.Apart left right) h = cc

order_less : (u : Compared) → rank u ≡ Some Less → by_order ops.Lt u ≡ truth_value true
order_less compares.Same h = cc
order_less compares.Less h = refl
order_less compares.Greater h = cc
order_less (compares.Apart left right) h = cc

lesser : (t : Bool) (u : Compared) (left right : TypeName) → (if t then by_order ops.Lt u else no_order ops.Lt left right) ≡ truth_value true → Lesser t u
lesser true u left right h = record { ordered = refl; less = less_order u h }
lesser false u left right h = cc

from_lesser : (t : Bool) (u : Compared) (left right : TypeName) → t ≡ true → rank u ≡ Some Less → (if t then by_order ops.Lt u else no_order ops.Lt left right) ≡ truth_value true
from_lesser true u left right p h = order_less u h
from_lesser false u left right p h = cc

abbrev less_answer : Value → Value → Applied
less_answer a b = if has_order (out-Value a) then by_order ops.Lt (order_of a b) else no_order ops.Lt (type_of a) (type_of b)

are_plain_less : (a b : Value) → Holds ops.Lt a b → Plain (is_plain a) (is_plain b) (less_answer a b)
are_plain_less a b h = plain_both (is_plain a) (is_plain b) (less_answer a b) h

are_less : (a b : Value) → Holds ops.Lt a b → Lesser (has_order (out-Value a)) (order_of a b)
are_less a b h = lesser (has_order (out-Value a)) (order_of a b) (type_of a) (type_of b) (are_plain_less a b h).answer

pub transitive : LessIsTransitive
transitive a b c h k =
    let first = are_less a b h in
    let second = are_less b c k in
    let found : rank (order_of a c) ≡ Some Less = follows a b c Less (λ i. chain (first.less i) (second.less i)) in
    from_plain (is_plain a) (is_plain c) (less_answer a c) (are_plain_less a b h).left (are_plain_less b c k).right
    (from_lesser (has_order (out-Value a)) (order_of a c) (type_of a) (type_of c) first.ordered found)
