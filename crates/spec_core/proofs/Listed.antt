-- The entries of the map that ordered entries make.
use Rattle.std.proofs.Common.{◌≡◌, List, [], ◌∷◌, length, Ordering, Less, refl, sym, ap, ◌∙◌, arith}
use Rattle.std.specs.Cmp.{IsTotalOrder}
use Rattle.std.specs.Map.{keys_of}
use Rattle.std.specs.List.{AllByRecursion}
use Rattle.std.specs.List.Sorted.{IsStrictlySortedBy}
use Rattle.std.specs.FinMap.{from_entries, entries, entries-insert, empty, len-entries, len-empty, put}

no_entries : {X : Type 0} (xs : List X) → length xs ≡ 0 → xs ≡ []
no_entries [] h = refl
no_entries (x ∷ xs) h = absurd (omega arith)

module _ {K X : Type 0} {R : K → K → Ordering} (total : IsTotalOrder R) where
  first : (k : K) (v : X) (es : List (K × X)) → AllByRecursion (λ y. R k y ≡ Less) (keys_of es) → put R k v es ≡ (k, v) ∷ es
  first k v [] h = refl
  first k v (e ∷ es) h = rw h.0 refl

  pub listed : (es : List (K × X)) → IsStrictlySortedBy R (keys_of es) → entries (from_entries {R = R} es) ≡ es
  unfolding IsStrictlySortedBy
  listed [] h = no_entries _ (sym (len-entries (empty {X = X} {R = R})) ∙ len-empty R X)
  listed (e ∷ es) h =
      entries-insert total (from_entries es) e.0 e.1 ∙ ap (put R e.0 e.1) (listed es h.1) ∙ first e.0 e.1 es h.0
