-- A name is found by halves where the names rise.
use Rattle.std.proofs.Common.{◌≡◌, refl, ℕ, ◌+◌, slice_index_or, ◌<◌, ◌≤◌, Bool, true, false, List, length, sym, ap, ◌∙◌, true≢false, arith, ⊎_elim}
use Rattle.std.proofs.lemmas.Bool.{cases_lt}
use Rattle.std.specs.Prelude.{nat_eq, Result, Ok, Err, is_ok, Some}
use Rattle.std.specs.List.{IsAllAdjacentAnswer}
use Rattle.std.specs.List.Sorted.{IsBinarySearchResult, IsSearchInRange}
use Rattle.std.specs.declared.cmp.Ordering.{Ordering}
use Rattle.std.specs.Ordering.{nat_cmp, is_lt, is_le, is_eq, ordering_reverse, is_some_and}
use Rattle.std.specs.declared.cmp.Ordering.TheVariants.{Less, Equal, Greater}
use Rattle.std.specs.Cmp.Lexicographic.{pointwise, slice_cmp, nat_list_cmp_total, texts_ties}
use Rattle.std.proofs.lemmas.List.Sorted.{searchable_from_sorted}
use Rattle.std.proofs.lemmas.List.Folds.{list_any_at, list_any_none}
use Rattle.module_table.specs.Names.{has_part, Rise}

turned : (r : Ordering) → is_le r ≡ true → is_lt (ordering_reverse r) ≡ false
turned Less h = refl
turned Equal h = refl
turned Greater h = absurd (true≢false (sym h))

-- what the test of each name and the next one tells
pub rises : (names : List (List ℕ)) (r : Bool) → IsAllAdjacentAnswer (λ x y b. is_some_and is_le (Some (slice_cmp nat_cmp x y)) ≡ b) names r → r ≡ true → Rise names
rises names true each is = λ k d low below. ap is_lt (nat_list_cmp_total.antisymm (slice_index_or names (k + 1) d) (slice_index_or names k d)) ∙ turned _ (each k d below)
rises names false each is = absurd (true≢false (sym is))

differs : (name part : List ℕ) (r : Ordering) → slice_cmp nat_cmp name part ≡ r → is_eq r ≡ false → pointwise nat_eq name part ≡ false
differs name part r h n = texts_ties name part ∙ ap is_eq h ∙ n

-- what a search by halves answers
pub found : (names : List (List ℕ)) (part : List ℕ) (r : Result ℕ ℕ) → Rise names → IsSearchInRange r (length names)
    → IsBinarySearchResult (λ y. slice_cmp nat_cmp y part) names r → is_ok r ≡ has_part names part
found names part (Ok i) up bound at =
    sym (list_any_at (λ name. pointwise nat_eq name part) names i part bound (texts_ties _ part ∙ ap is_eq (at part)))
found names part (Err i) up bound at =
    let parted = at (searchable_from_sorted nat_list_cmp_total (λ x. x) names part up) in
    sym (list_any_none (λ name. pointwise nat_eq name part) names (λ k d l.
    ⊎_elim (λ b. differs _ part Less (parted.0 k d (omega arith) b) refl) (λ a. differs _ part Greater (parted.1 k d a l) refl) (cases_lt k i)))
