-- Paths that ascend.
use Rattle.std.proofs.Common.{◌≡◌, ◌∙◌, refl, sym, ap, subst, ℕ, ◌-◌, ◌≤◌, List, [], ◌∷◌, length, drop, true, false, Bool, not, ◌&&◌, nat_eq, arith}
use Rattle.std.proofs.lemmas.Bool.{and_from, and_parts, not-true}
use Rattle.std.proofs.lemmas.Cmp.{nat_list_cmp_total, lists_total}
use Rattle.std.proofs.lemmas.List.{length-drop}
use Rattle.std.specs.Cmp.Lexicographic.{pointwise, slice_cmp, texts_ties, bytes_decides}
use Rattle.std.specs.List.{AllByRecursion, starts_with}
use Rattle.std.specs.Ordering.{is_lt, is_eq, nat_cmp, ordering_then, ordering_reverse}
use Rattle.std.specs.declared.cmp.Ordering.{Ordering}
use Rattle.std.specs.declared.cmp.Ordering.TheVariants.{Less, Equal, Greater}
use Rattle.base_types.specs.Path.{Path, path_cmp}
use Rattle.tree_files.specs.Edits.{is_within}
use Rattle.bundle_hook.specs.declared.entry.Entry.{Entry}
use Rattle.bundle_hook.specs.Spelling.{Before, Ascend}
use Rattle.bundle_hook.specs.Reading.{is_before, ascending}

abbrev text_cmp : List ℕ → List ℕ → Ordering
text_cmp = slice_cmp nat_cmp

same_text : (x y : List ℕ) → pointwise nat_eq x y ≡ true → x ≡ y
same_text x y h = (bytes_decides x y).0 h

-- one part of a path between a path and one that it is a prefix of
between_part : (x z y : List ℕ) (more later : Ordering) (w : Bool) → x ≡ y → (later ≡ Less → more ≡ Less → w ≡ true)
    → ordering_then (text_cmp x z) more ≡ Less → ordering_then (text_cmp z y) later ≡ Less → pointwise nat_eq x z && w ≡ true
between_part x z y more later w same rest low high = by (text_cmp x z) refl low (subst (λ t. ordering_then (text_cmp z t) later ≡ Less) (sym same) high)
  where
    back : text_cmp z x ≡ ordering_reverse (text_cmp x z)
    back = nat_list_cmp_total.antisymm z x

    by : (o : Ordering) → text_cmp x z ≡ o → ordering_then o more ≡ Less → ordering_then (text_cmp z x) later ≡ Less → pointwise nat_eq x z && w ≡ true
    by Less is low high =
        let greater : text_cmp z x ≡ Greater = back ∙ ap ordering_reverse is in
        let bad : ordering_then Greater later ≡ Less = subst (λ o. ordering_then o later ≡ Less) greater high in
        cc
    by Equal is low high =
        let equal : text_cmp z x ≡ Equal = back ∙ ap ordering_reverse is in
        let behind : later ≡ Less = subst (λ o. ordering_then o later ≡ Less) equal high in
        and_from _ _ (texts_ties x z ∙ ap is_eq is) (rest behind low)
    by Greater is low high = cc

between : (p q r : Path) → path_cmp p q ≡ Less → path_cmp q r ≡ Less → is_within p r ≡ true → is_within p q ≡ true
between [] q r low high h = refl
between (x ∷ p) q [] low high h = cc
between (x ∷ p) [] (y ∷ r) low high h = cc
between (x ∷ p) (z ∷ q) (y ∷ r) low high h =
    let both = and_parts (pointwise nat_eq x y) (is_within p r) h in
    between_part x z y (path_cmp p q) (path_cmp q r) (is_within p q) (same_text x y both.0) (λ later more. between p q r more later both.1) low high

further : (p q r : Path) → Before p q → Before q r → Before p r
further p q r first second = ((lists_total nat_list_cmp_total).trans p q r first.0 second.0, by (is_within p r) refl)
  where
    by : (b : Bool) → is_within p r ≡ b → b ≡ false
    by true is = let bad : is_within p q ≡ true = between p q r first.0 second.0 is in let not_so : is_within p q ≡ false = first.1 in cc
    by false is = refl

all_further : (p q : Path) (es : List Entry) → Before p q → AllByRecursion (λ f. Before q f.path) es → AllByRecursion (λ f. Before p f.path) es
all_further p q [] first all = tt
all_further p q (e ∷ es) first all = (further p q e.path first all.0, all_further p q es first all.1)

lt_less : (o : Ordering) → is_lt o ≡ true → o ≡ Less
lt_less Less h = refl
lt_less Equal h = cc
lt_less Greater h = cc

before_taken : (p q : Path) → is_before p q ≡ true → Before p q
before_taken p q h =
    let both = and_parts (is_lt (path_cmp p q)) (not (is_within p q)) h in
    (lt_less (path_cmp p q) both.0, not-true (is_within p q) both.1)

before_found : (p q : Path) → Before p q → is_before p q ≡ true
before_found p q h = and_from (is_lt (path_cmp p q)) (not (is_within p q)) (ap is_lt h.0) (ap not h.1)

pub ascend_taken : (es : List Entry) → ascending es ≡ true → Ascend es
ascend_taken [] h = tt
ascend_taken (e ∷ []) h = (tt, tt)
ascend_taken (e ∷ f ∷ es) h =
    let both = and_parts (is_before e.path f.path) (ascending (f ∷ es)) h in
    let first = before_taken e.path f.path both.0 in
    let others : Ascend (f ∷ es) = ascend_taken (f ∷ es) both.1 in
    ((first, all_further e.path f.path es first others.0), others)

pub ascend_found : (es : List Entry) → Ascend es → ascending es ≡ true
ascend_found [] h = refl
ascend_found (e ∷ []) h = refl
ascend_found (e ∷ f ∷ es) h = and_from (is_before e.path f.path) (ascending (f ∷ es)) (before_found e.path f.path h.0.0) (ascend_found (f ∷ es) h.1)

short : (es : List Entry) → length es ≤ 1 → ascending es ≡ true
short [] h = refl
short (e ∷ []) h = refl
short (e ∷ f ∷ es) h = absurd (omega arith)

pub ascending_to_end : (es : List Entry) (i : ℕ) → length es ≤ i → ascending (drop (i - 1) es) ≡ true
ascending_to_end es i h = short (drop (i - 1) es) (let l = length-drop (i - 1) es in omega arith)

-- a prefix as the code tests it
pub within_taken : (above path : Path) → starts_with (pointwise nat_eq) path above ≡ is_within above path
within_taken [] path = refl
within_taken (x ∷ above) [] = refl
within_taken (x ∷ above) (y ∷ path) = ap (λ b. pointwise nat_eq x y && b) (within_taken above path)
