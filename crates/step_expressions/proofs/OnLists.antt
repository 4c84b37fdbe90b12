-- Operators on operands that stand for themselves, and those in which a list comes in place of an operand.
use Rattle.std.proofs.Common.{◌≡◌, ◌∙◌, refl, sym, ap, ℕ, zero, suc, List, [], ◌∷◌, slice_get, slice_set, Option, Some, None, Bool, true, false, if◌then◌else◌}
use Rattle.py_value.specs.declared.value.Value.{Value, out-Value, out-roll-Value}
use Rattle.py_value.specs.declared.value.Value.TheVariants as values
use Rattle.py_value.specs.declared.value.Value.TheVariants.{rolls-List}
use Rattle.py_value.specs.declared.value.Value.TheOpen.{Value-F}
use Rattle.value_operators.specs.Items.{subscript}
use Rattle.value_operators.specs.Arithmetic.{binary, negated}
use Rattle.py_syntax.specs.declared.expr.Comparison.{Comparison}
use Rattle.py_syntax.specs.declared.expr.Comparison.TheVariants as comparing
use Rattle.py_syntax.specs.declared.expr.Expr.{Expr}
use Rattle.py_syntax.specs.declared.expr.Expr.TheOpen.{Expr-F}
use Rattle.meaning_script.specs.Pieces.{Piece, gives, listed, all_listed, with_one, with_two}
use Rattle.meaning_script.specs.Entries.{reads_entry, has_entry}
use Rattle.meaning_script.specs.Operators.{Around, operator_of, compared, gives_item, subscripts_at, subscripts, compares_values, compares_in, compares, applies_at}
use Rattle.py_frames.specs.Few.{is_cache_at, is_cache}
use Rattle.py_frames.specs.Listing.{first_listed}
use Rattle.py_frames.proofs.Operands.{list_is_itself, listed_same, all_unlisted, all_first, first_is_listed}
use Rattle.step_expressions.specs.OperatorForms.{one_of, two_of, by_one, by_two, item_of, told, inverse_of, given_at, place_of_one, place_in_item, place_of_two, place_in_cache, place_compared, place_at}
use Rattle.py_frames.proofs.Options.{some_same}
use Rattle.step_expressions.proofs.OperatorLayers.{one_is, two_is}

-- ---- operands that stand for themselves

item_plain : (x : Value-F Value) (v i : Value) → (if is_cache_at x then None else first_listed (v ∷ i ∷ [])) ≡ None
    → (if is_cache_at x then reads_entry i None else gives_item (subscript v i)) ≡ subscripts_at x v i
item_plain Value-F.SysModules v i h = refl
item_plain x v i h = sym (all_unlisted (v ∷ i ∷ []) (λ vs. with_two vs (λ v i. gives_item (subscript v i))) h)

items_plain : (vs : List Value) → place_in_item vs ≡ None → by_two (two_of vs) item_of ≡ with_two vs subscripts
items_plain [] h = refl
items_plain (a ∷ []) h = refl
items_plain (v ∷ i ∷ []) h = item_plain (out-Value v) v i h
items_plain (a ∷ b ∷ c ∷ vs) h = refl

one_plain : (vs : List Value) (go : Value → Piece) → place_of_one vs ≡ None → by_one (one_of vs) go ≡ with_one vs (λ v. listed v go)
one_plain [] go h = refl
one_plain (v ∷ []) go h = sym (all_unlisted (v ∷ []) (λ vs. with_one vs go) h)
one_plain (a ∷ b ∷ vs) go h = refl

member_plain : (c : Comparison) (is_negated : Bool) (x : Value-F Value) (a b : Value) → (if is_cache_at x then None else first_listed (a ∷ b ∷ [])) ≡ None
    → (if is_cache_at x then has_entry is_negated a else gives (compared c a b)) ≡ compares_in c is_negated x a b
member_plain c is_negated Value-F.SysModules a b h = refl
member_plain c is_negated x a b h = sym (all_unlisted (a ∷ b ∷ []) (λ vs. with_two vs (λ a b. gives (compared c a b))) h)

pair_plain : (c : Comparison) (vs : List Value) → place_of_two vs ≡ None → by_two (two_of vs) (λ a b. gives (compared c a b)) ≡ with_two vs (compares_values c)
pair_plain c [] h = refl
pair_plain c (a ∷ []) h = refl
pair_plain c (a ∷ b ∷ []) h = sym (all_unlisted (a ∷ b ∷ []) (λ vs. with_two vs (λ a b. gives (compared c a b))) h)
pair_plain c (a ∷ b ∷ d ∷ vs) h = refl

in_plain : (vs : List Value) → place_in_cache vs ≡ None → by_two (two_of vs) (told comparing.In) ≡ with_two vs (compares comparing.In)
in_plain [] h = refl
in_plain (a ∷ []) h = refl
in_plain (a ∷ b ∷ []) h = member_plain comparing.In false (out-Value b) a b h
in_plain (a ∷ b ∷ d ∷ vs) h = refl

not_in_plain : (vs : List Value) → place_in_cache vs ≡ None → by_two (two_of vs) (told comparing.NotIn) ≡ with_two vs (compares comparing.NotIn)
not_in_plain [] h = refl
not_in_plain (a ∷ []) h = refl
not_in_plain (a ∷ b ∷ []) h = member_plain comparing.NotIn true (out-Value b) a b h
not_in_plain (a ∷ b ∷ d ∷ vs) h = refl

compares_plain : (c : Comparison) (vs : List Value) → place_compared c vs ≡ None → by_two (two_of vs) (told c) ≡ with_two vs (compares c)
compares_plain comparing.In vs h = in_plain vs h
compares_plain comparing.NotIn vs h = not_in_plain vs h
compares_plain c vs h = pair_plain c vs h

pub given_is : (around : Around) (d : Expr-F Expr) (vs : List Value) → place_at d vs ≡ None → given_at around d vs ≡ applies_at around d vs
given_is around (Expr-F.Attribute a x) vs h = sym (one_is vs _)
given_is around (Expr-F.Subscript a b) vs h = items_plain vs h
given_is around (Expr-F.Negative a) vs h = one_plain vs (λ v. gives (negated v)) h
given_is around (Expr-F.Binary o a b) vs h =
    sym (two_is vs _) ∙ sym (all_unlisted vs (λ vs. with_two vs (λ x y. gives (binary (operator_of o) x y))) h)
given_is around (Expr-F.Compare c a b) vs h = compares_plain c vs h
given_is around (Expr-F.Not a) vs h = one_plain vs inverse_of h
given_is around form vs h = refl

-- ---- operands in whose place a list comes

unless : (b : Bool) (place : Option ℕ) (at : ℕ) → (if b then None else place) ≡ Some at → (b ≡ false) × (place ≡ Some at)
unless true place at h = cc
unless false place at h = (refl, h)

one_first : (vs : List Value) (at : ℕ) → place_of_one vs ≡ Some at → first_listed vs ≡ Some at
one_first [] at h = cc
one_first (v ∷ []) at h = h
one_first (a ∷ b ∷ vs) at h = cc

item_first : (vs : List Value) (at : ℕ) → place_in_item vs ≡ Some at → first_listed vs ≡ Some at
item_first [] at h = cc
item_first (a ∷ []) at h = cc
item_first (v ∷ i ∷ []) at h = (unless (is_cache v) (first_listed (v ∷ i ∷ [])) at h).1
item_first (a ∷ b ∷ c ∷ vs) at h = cc

two_first : (vs : List Value) (at : ℕ) → place_of_two vs ≡ Some at → first_listed vs ≡ Some at
two_first [] at h = cc
two_first (a ∷ []) at h = cc
two_first (a ∷ b ∷ []) at h = h
two_first (a ∷ b ∷ c ∷ vs) at h = cc

cache_first : (vs : List Value) (at : ℕ) → place_in_cache vs ≡ Some at → first_listed vs ≡ Some at
cache_first [] at h = cc
cache_first (a ∷ []) at h = cc
cache_first (a ∷ b ∷ []) at h = (unless (is_cache b) (first_listed (a ∷ b ∷ [])) at h).1
cache_first (a ∷ b ∷ c ∷ vs) at h = cc

compared_first : (c : Comparison) (vs : List Value) (at : ℕ) → place_compared c vs ≡ Some at → first_listed vs ≡ Some at
compared_first comparing.In vs at h = cache_first vs at h
compared_first comparing.NotIn vs at h = cache_first vs at h
compared_first c vs at h = two_first vs at h

-- it is the first place of all
pub place_first : (d : Expr-F Expr) (vs : List Value) (at : ℕ) → place_at d vs ≡ Some at → first_listed vs ≡ Some at
place_first (Expr-F.Subscript a b) vs at h = item_first vs at h
place_first (Expr-F.Negative a) vs at h = one_first vs at h
place_first (Expr-F.Binary o a b) vs at h = h
place_first (Expr-F.Compare c a b) vs at h = compared_first c vs at h
place_first (Expr-F.Not a) vs at h = one_first vs at h
place_first form vs at h = cc

one_listed : (vs : List Value) (at : ℕ) (w : Value) (go : Value → Piece) → place_of_one vs ≡ Some at → slice_get vs at ≡ Some w
    → listed w (λ u. with_one (slice_set vs at u) (λ v. listed v go)) ≡ with_one vs (λ v. listed v go)
one_listed [] at w go h is = cc
one_listed (v ∷ []) zero w go h is = listed_same w (λ u. listed u go) go (first_is_listed (v ∷ []) zero w h is) (λ items. list_is_itself items go) ∙ ap (λ y. listed y go) (sym (some_same is))
one_listed (v ∷ []) (suc n) w go h is = cc
one_listed (a ∷ b ∷ vs) at w go h is = cc

-- two operands, of which none is asked of the machine where it is a list
pair_listed : (f : Value → Value → Piece) (go : List Value → Piece) (v i : Value) (at : ℕ) (w : Value)
    → ((items : List Value) → f (values.List items) i ≡ all_listed (values.List items ∷ i ∷ []) go)
    → ((items : List Value) → f v (values.List items) ≡ all_listed (v ∷ values.List items ∷ []) go)
    → f v i ≡ all_listed (v ∷ i ∷ []) go → first_listed (v ∷ i ∷ []) ≡ Some at → slice_get (v ∷ i ∷ []) at ≡ Some w
    → listed w (λ u. with_two (slice_set (v ∷ i ∷ []) at u) f) ≡ f v i
pair_listed f go v i zero w first second both h is =
    listed_same w (λ u. f u i) (λ u. all_listed (u ∷ i ∷ []) go) (first_is_listed (v ∷ i ∷ []) zero w h is) first
    ∙ all_first (v ∷ i ∷ []) zero w go h is
    ∙ sym both
pair_listed f go v i (suc zero) w first second both h is =
    listed_same w (λ u. f v u) (λ u. all_listed (v ∷ u ∷ []) go) (first_is_listed (v ∷ i ∷ []) (suc zero) w h is) second
    ∙ all_first (v ∷ i ∷ []) (suc zero) w go h is
    ∙ sym both
pair_listed f go v i (suc (suc n)) w first second both h is = cc

items_all : (x : Value-F Value) (v i : Value) → is_cache_at x ≡ false → subscripts_at x v i ≡ all_listed (v ∷ i ∷ []) (λ vs. with_two vs (λ v i. gives_item (subscript v i)))
items_all Value-F.SysModules v i h = cc
items_all x v i h = refl

list_out : (items : List Value) → out-Value (values.List items) ≡ Value-F.List items
list_out items = ap out-Value (sym (rolls-List items)) ∙ out-roll-Value (Value-F.List items)

no_cache : (items : List Value) → is_cache (values.List items) ≡ false
no_cache items = ap is_cache_at (list_out items)

item_listed : (vs : List Value) (at : ℕ) (w : Value) → place_in_item vs ≡ Some at → slice_get vs at ≡ Some w
    → listed w (λ u. with_two (slice_set vs at u) subscripts) ≡ with_two vs subscripts
item_listed [] at w h is = cc
item_listed (a ∷ []) at w h is = cc
item_listed (v ∷ i ∷ []) at w h is =
    let both = unless (is_cache v) (first_listed (v ∷ i ∷ [])) at h in
    pair_listed subscripts (λ vs. with_two vs (λ v i. gives_item (subscript v i))) v i at w
    (λ items. items_all (out-Value (values.List items)) (values.List items) i (no_cache items))
    (λ items. items_all (out-Value v) v (values.List items) both.0)
    (items_all (out-Value v) v i both.0) both.1 is
item_listed (a ∷ b ∷ c ∷ vs) at w h is = cc

in_all : (c : Comparison) (is_negated : Bool) (x : Value-F Value) (a b : Value) → is_cache_at x ≡ false → compares_in c is_negated x a b ≡ compares_values c a b
in_all c is_negated Value-F.SysModules a b h = cc
in_all c is_negated x a b h = refl

cache_listed : (c : Comparison) (is_negated : Bool) (vs : List Value) (at : ℕ) (w : Value) → place_in_cache vs ≡ Some at → slice_get vs at ≡ Some w
    → listed w (λ u. with_two (slice_set vs at u) (λ a b. compares_in c is_negated (out-Value b) a b)) ≡ with_two vs (λ a b. compares_in c is_negated (out-Value b) a b)
cache_listed c is_negated [] at w h is = cc
cache_listed c is_negated (a ∷ []) at w h is = cc
cache_listed c is_negated (a ∷ b ∷ []) at w h is =
    let both = unless (is_cache b) (first_listed (a ∷ b ∷ [])) at h in
    pair_listed (λ a b. compares_in c is_negated (out-Value b) a b) (λ vs. with_two vs (λ a b. gives (compared c a b))) a b at w
    (λ items. in_all c is_negated (out-Value b) (values.List items) b both.0)
    (λ items. in_all c is_negated (out-Value (values.List items)) a (values.List items) (no_cache items))
    (in_all c is_negated (out-Value b) a b both.0) both.1 is
cache_listed c is_negated (a ∷ b ∷ d ∷ vs) at w h is = cc

values_listed : (c : Comparison) (vs : List Value) (at : ℕ) (w : Value) → place_of_two vs ≡ Some at → slice_get vs at ≡ Some w
    → listed w (λ u. with_two (slice_set vs at u) (compares_values c)) ≡ with_two vs (compares_values c)
values_listed c [] at w h is = cc
values_listed c (a ∷ []) at w h is = cc
values_listed c (a ∷ b ∷ []) at w h is =
    pair_listed (compares_values c) (λ vs. with_two vs (λ a b. gives (compared c a b))) a b at w (λ items. refl) (λ items. refl) refl h is
values_listed c (a ∷ b ∷ d ∷ vs) at w h is = cc

compared_listed : (c : Comparison) (vs : List Value) (at : ℕ) (w : Value) → place_compared c vs ≡ Some at → slice_get vs at ≡ Some w
    → listed w (λ u. with_two (slice_set vs at u) (compares c)) ≡ with_two vs (compares c)
compared_listed comparing.In vs at w h is = cache_listed comparing.In false vs at w h is
compared_listed comparing.NotIn vs at w h is = cache_listed comparing.NotIn true vs at w h is
compared_listed c vs at w h is = values_listed c vs at w h is

-- the list comes in place of the operand at this place, and then the operator is applied
pub place_is : (around : Around) (d : Expr-F Expr) (vs : List Value) (at : ℕ) (w : Value) → place_at d vs ≡ Some at → slice_get vs at ≡ Some w
    → listed w (λ u. applies_at around d (slice_set vs at u)) ≡ applies_at around d vs
place_is around (Expr-F.Subscript a b) vs at w h is = item_listed vs at w h is
place_is around (Expr-F.Negative a) vs at w h is = one_listed vs at w (λ v. gives (negated v)) h is
place_is around (Expr-F.Binary o a b) vs at w h is = all_first vs at w (λ vs. with_two vs (λ x y. gives (binary (operator_of o) x y))) h is
place_is around (Expr-F.Compare c a b) vs at w h is = compared_listed c vs at w h is
place_is around (Expr-F.Not a) vs at w h is = one_listed vs at w inverse_of h is
place_is around form vs at w h is = cc
