-- Names that differ, and whether a name is one of them.
use Rattle.std.proofs.Common.{◌≡◌, ℕ, Bool, false, ◌||◌, if◌then◌else◌, nat_eq, List, [], ◌∷◌, ◌++◌, refl, ap, ◌∙◌}
use Rattle.std.specs.List.{list_any}
use Rattle.std.specs.Cmp.Lexicographic.{pointwise}
use Rattle.indexmap.specs.IndexSet.{insert_key}
use Rattle.py_syntax.specs.Statements.{is_among}

any_is_among : (n : List ℕ) (ms : List (List ℕ)) → list_any (pointwise nat_eq n) ms ≡ is_among n ms
any_is_among n [] = refl
any_is_among n (m ∷ ms) = ap (λ (b : Bool). pointwise nat_eq n m || b) (any_is_among n ms)

pub found_is_among : (n : List ℕ) (found all : List (List ℕ)) → found ≡ all → list_any (pointwise nat_eq n) found ≡ is_among n all
found_is_among n found all e = any_is_among n found ∙ ap (λ (ms : List (List ℕ)). is_among n ms) e

fresh_goes_last : (n : List ℕ) (ms : List (List ℕ)) → is_among n ms ≡ false → insert_key (pointwise nat_eq) ms n ≡ ms ++ n ∷ []
fresh_goes_last n ms h = ap (λ (b : Bool). if b then ms else ms ++ n ∷ []) (any_is_among n ms ∙ h)

pub a_fresh_one_goes_last : (n : List ℕ) (found all : List (List ℕ)) → found ≡ all → is_among n all ≡ false → insert_key (pointwise nat_eq) found n ≡ all ++ n ∷ []
a_fresh_one_goes_last n found all e h = ap (λ (ms : List (List ℕ)). insert_key (pointwise nat_eq) ms n) e ∙ fresh_goes_last n all h
