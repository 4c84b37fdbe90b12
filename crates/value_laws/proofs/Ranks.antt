-- How comparisons go together: of two that follow one another, and of one the other way round.
use Rattle.std.proofs.Common.{◌≡◌, ◌∙◌, refl, sym, ap, Bool, true, false, cond, Option, Some, None, ℤ}
use Rattle.std.specs.Prelude.{int_lt}
use Rattle.std.specs.Option.{option_map}
use Rattle.std.specs.Ordering.{int_cmp, ordering_reverse}
use Rattle.std.specs.Cmp.{IsTotalOrder, IsEquivalence}
use Rattle.std.specs.declared.cmp.Ordering.{Ordering}
use Rattle.std.specs.declared.cmp.Ordering.TheVariants.{Less, Equal, Greater}
use Rattle.value_operators.specs.declared.comparison.Compared.{Compared}
use Rattle.value_operators.specs.declared.comparison.Compared.TheVariants as compares
use Rattle.value_operators.specs.Comparison.{compared_numbers, from_ordering, unless_same}

-- the order, if there is one
abbrev pub rank : Compared → Option Ordering
rank compares.Same = Some Equal
rank compares.Less = Some Less
rank compares.Greater = Some Greater
rank (compares.Apart left right) = None

-- what follows from two comparisons, where they go up
abbrev pub after : Ordering → Option Ordering → Option Ordering
after Equal (Some Equal) = Some Equal
after Equal (Some Less) = Some Less
after Less (Some Equal) = Some Less
after Less (Some Less) = Some Less
after _ _ = None

abbrev pub chain : Option Ordering → Option Ordering → Option Ordering
chain (Some first) second = after first second
chain None second = None

abbrev pub Follows : Option Ordering → Option Ordering → Option Ordering → Type 0
Follows p q r = (o : Ordering) → chain p q ≡ Some o → r ≡ Some o

abbrev pub turned : Option Ordering → Option Ordering
turned r = option_map ordering_reverse r

abbrev pub same : Bool → Option Ordering
same true = Some Equal
same false = None

after_none : (o : Ordering) → after o None ≡ None
after_none Less = refl
after_none Equal = refl
after_none Greater = refl

pub chain_none : (p : Option Ordering) → chain p None ≡ None
chain_none (Some o) = after_none o
chain_none None = refl

after_greater : (o : Ordering) → after o (Some Greater) ≡ None
after_greater Less = refl
after_greater Equal = refl
after_greater Greater = refl

pub chain_greater : (p : Option Ordering) → chain p (Some Greater) ≡ None
chain_greater (Some o) = after_greater o
chain_greater None = refl

-- nothing follows from what is not ordered
pub from_none : (p r : Option Ordering) → Follows p None r
from_none p r o h = let no : None ≡ Some o = sym (chain_none p) ∙ h in cc

pub from_greater : (p r : Option Ordering) → Follows p (Some Greater) r
from_greater p r o h = let no : None ≡ Some o = sym (chain_greater p) ∙ h in cc

greater_first : (q : Option Ordering) → after Greater q ≡ None
greater_first (Some Less) = refl
greater_first (Some Equal) = refl
greater_first (Some Greater) = refl
greater_first None = refl

pub to_greater : (q r : Option Ordering) → Follows (Some Greater) q r
to_greater q r o h = let no : None ≡ Some o = sym (greater_first q) ∙ h in cc

pub to_none : (q r : Option Ordering) → Follows None q r
to_none q r o h = cc

-- the same as the first
pub equal_first : (r : Option Ordering) → Follows (Some Equal) r r
equal_first (Some Less) o h = h
equal_first (Some Equal) o h = h
equal_first (Some Greater) o h = cc
equal_first None o h = cc

pub less_first : (q : Option Ordering) → Follows (Some Less) q (Some Less)
less_first (Some Less) o h = h
less_first (Some Equal) o h = h
less_first (Some Greater) o h = cc
less_first None o h = cc

pub less_last : (p : Option Ordering) → Follows p (Some Less) (Some Less)
less_last (Some Less) o h = h
less_last (Some Equal) o h = h
less_last (Some Greater) o h = cc
less_last None o h = cc

-- by a total order
module _ {K : Type 0} {R : K → K → Ordering} (laws : IsTotalOrder R) where
  back : (x y : K) → R x y ≡ Equal → R y x ≡ Equal
  back x y e = laws.antisymm y x ∙ ap ordering_reverse e

  right : (x y z : K) → R y z ≡ Equal → R x z ≡ R x y
  right x y z e = laws.antisymm x z ∙ ap ordering_reverse (laws.congr z y x (back y z e)) ∙ sym (laws.antisymm x y)

  by_parts : (x y z : K) (p q : Ordering) → R x y ≡ p → R y z ≡ q → Follows (Some p) (Some q) (Some (R x z))
  by_parts x y z Equal q e f o h =
      let up : Some q ≡ Some o = equal_first (Some q) o h in
      let found : R x z ≡ q = laws.congr x y z e ∙ f in
      cc
  by_parts x y z Less Equal e f o h = let found : R x z ≡ Less = right x y z f ∙ e in cc
  by_parts x y z Less Less e f o h = let found : R x z ≡ Less = laws.trans x y z e f in cc
  by_parts x y z Less Greater e f o h = cc
  by_parts x y z Greater q e f o h = to_greater (Some q) (Some (R x z)) o h

  pub total_follows : (x y z : K) → Follows (Some (R x y)) (Some (R y z)) (Some (R x z))
  total_follows x y z = by_parts x y z (R x y) (R y z) refl refl

  pub total_turns : (x y : K) → Some (R y x) ≡ turned (Some (R x y))
  total_turns x y = ap Some (laws.antisymm y x)

  own_turn : (r : Ordering) → r ≡ ordering_reverse r → r ≡ Equal
  own_turn Less h = cc
  own_turn Equal h = refl
  own_turn Greater h = cc

  pub total_itself : (x : K) → Some (R x x) ≡ Some Equal
  total_itself x = ap Some (own_turn (R x x) (laws.antisymm x x))

module _ {K : Type 0} {E : K → K → Bool} (laws : IsEquivalence E) where
  by_tests : (x y z : K) (s t : Bool) → E x y ≡ s → E y z ≡ t → Follows (same s) (same t) (same (E x z))
  by_tests x y z true t e f o h = ap same (laws.congr x y z e ∙ f) ∙ equal_first (same t) o h
  by_tests x y z false t e f o h = cc

  pub same_follows : (x y z : K) → Follows (same (E x y)) (same (E y z)) (same (E x z))
  same_follows x y z = by_tests x y z (E x y) (E y z) refl refl

  turn : (b : Bool) → same b ≡ turned (same b)
  turn true = refl
  turn false = refl

  pub same_turns : (x y : K) → same (E y x) ≡ turned (same (E x y))
  same_turns x y = ap same (laws.symm y x) ∙ turn (E x y)

  pub same_itself : (x : K) → same (E x x) ≡ Some Equal
  same_itself x = ap same (laws.refl x)

-- numbers and texts
by_signs : (s t : Bool) → rank (cond s compares.Less (cond t compares.Greater compares.Same)) ≡ Some (cond s Less (cond t Greater Equal))
by_signs true t = refl
by_signs false true = refl
by_signs false false = refl

pub rank_numbers : (a b : ℤ) → rank (compared_numbers a b) ≡ Some (int_cmp a b)
rank_numbers a b = by_signs (int_lt a b) (int_lt b a)

pub rank_ordering : (o : Ordering) → rank (from_ordering o) ≡ Some o
rank_ordering Less = refl
rank_ordering Equal = refl
rank_ordering Greater = refl

-- one item before the others
is_same_rank : (w : Compared) → rank w ≡ Some Equal → w ≡ compares.Same
is_same_rank compares.Same h = refl
is_same_rank compares.Less h = cc
is_same_rank compares.Greater h = cc
is_same_rank (compares.Apart left right) h = cc

is_less_rank : (w : Compared) → rank w ≡ Some Less → w ≡ compares.Less
is_less_rank compares.Same h = cc
is_less_rank compares.Less h = refl
is_less_rank compares.Greater h = cc
is_less_rank (compares.Apart left right) h = cc

pub item_follows : (u v w a b c : Compared) → Follows (rank u) (rank v) (rank w) → Follows (rank a) (rank b) (rank c) →
    Follows (rank (unless_same u a)) (rank (unless_same v b)) (rank (unless_same w c))
item_follows compares.Same compares.Same w a b c head rest o h =
    ap (λ x. rank (unless_same x c)) (is_same_rank w (head Equal refl)) ∙ rest o h
item_follows compares.Same compares.Less w a b c head rest o h =
    ap (λ x. rank (unless_same x c)) (is_less_rank w (head Less refl)) ∙ less_last (rank a) o h
item_follows compares.Less compares.Same w a b c head rest o h =
    ap (λ x. rank (unless_same x c)) (is_less_rank w (head Less refl)) ∙ less_first (rank b) o h
item_follows compares.Less compares.Less w a b c head rest o h =
    ap (λ x. rank (unless_same x c)) (is_less_rank w (head Less refl)) ∙ h
item_follows compares.Same compares.Greater w a b c head rest o h = from_greater (rank a) (rank (unless_same w c)) o h
item_follows compares.Same (compares.Apart left right) w a b c head rest o h = from_none (rank a) (rank (unless_same w c)) o h
item_follows compares.Less compares.Greater w a b c head rest o h = cc
item_follows compares.Less (compares.Apart left right) w a b c head rest o h = cc
item_follows compares.Greater v w a b c head rest o h = to_greater (rank (unless_same v b)) (rank (unless_same w c)) o h
item_follows (compares.Apart left right) v w a b c head rest o h = cc

pub item_turns : (u v a b : Compared) → rank v ≡ turned (rank u) → rank b ≡ turned (rank a) → rank (unless_same v b) ≡ turned (rank (unless_same u a))
item_turns compares.Same v a b head rest = ap (λ x. rank (unless_same x b)) (is_same_rank v head) ∙ rest
item_turns compares.Less compares.Same a b head rest = cc
item_turns compares.Less compares.Less a b head rest = cc
item_turns compares.Less compares.Greater a b head rest = refl
item_turns compares.Less (compares.Apart left right) a b head rest = cc
item_turns compares.Greater compares.Same a b head rest = cc
item_turns compares.Greater compares.Less a b head rest = refl
item_turns compares.Greater compares.Greater a b head rest = cc
item_turns compares.Greater (compares.Apart left right) a b head rest = cc
item_turns (compares.Apart left right) compares.Same a b head rest = cc
item_turns (compares.Apart left right) compares.Less a b head rest = cc
item_turns (compares.Apart left right) compares.Greater a b head rest = cc
item_turns (compares.Apart left right) (compares.Apart from to) a b head rest = refl

pub item_itself : (u a : Compared) → rank u ≡ Some Equal → rank a ≡ Some Equal → rank (unless_same u a) ≡ Some Equal
item_itself u a head rest = ap (λ x. rank (unless_same x a)) (is_same_rank u head) ∙ rest
