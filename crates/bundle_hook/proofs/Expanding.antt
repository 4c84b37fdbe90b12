-- What stands at a path of the expanded tree.
use Rattle.std.proofs.Common.{◌≡◌, ◌∙◌, refl, sym, ap, subst, ℕ, List, [], ◌∷◌, ◌++◌, Bool, true, false, cond, ◌&&◌, nat_eq, Option, Some, None, IsTrue, is_some, inl, inr, append_assoc}
use Rattle.std.specs.Prelude.{◌⊎◌}
use Rattle.std.specs.List.{AllByRecursion, flat_map}
use Rattle.std.specs.Ordering.{eq_by_cmp}
use Rattle.std.specs.Cmp.Lexicographic.{pointwise, bytes_decides}
use Rattle.std.specs.FinMap.{find, entries, entries_sorted, get-entries, get-from_entries}
use Rattle.base_types.specs.Path.{Path, path_cmp}
use Rattle.tree_files.specs.Edits.{is_within}
use Rattle.tree_files.specs.Files.{Files, IsTree, IsDirAt, node_at, is_dir}
use Rattle.tree_files.proofs.MemFilesLemmas.{path_total}
use Rattle.tree_files.specs.declared.tree.Node.{Node}
use Rattle.tree_files.specs.declared.tree.Node.TheVariants.{File, Dir}
use Rattle.tree_overlay.specs.Fates.{is_same}
use Rattle.tree_overlay.proofs.FateLemmas.{same_by, same_is, same_refl}
use Rattle.bundle_hook.specs.declared.bundle.Packed.{Packed}
use Rattle.bundle_hook.specs.Expand.{bundle_in, bundle_at, replaced, expanded, expand}
use Rattle.bundle_hook.specs.Inside.{node_inside}
use Rattle.bundle_hook.proofs.Lookups.{or_else, Found, all_found, find-both, find-one, find-holding, no_holding, no_thing, same_front}

abbrev Things : Type 0
Things = List (Path × Node)

abbrev at : Path → Things → Option Node
at p es = find path_cmp p es

not_some : {A : Type 0} (x : A) → ◌≡◌ {A = Option A} None (Some x) → ⊥
not_some x e = cc

-- ---- one of the things decides

abbrev Either : Path → Option Node → Path × Node → Type 0
Either p answer e = (at p (expanded e) ≡ None) ⊎ (at p (expanded e) ≡ answer)

one_or_none : (p : Path) (answer : Option Node) (es : Things) → AllByRecursion (Either p answer) es → (at p (flat_map expanded es) ≡ None) ⊎ (at p (flat_map expanded es) ≡ answer)
one_or_none p answer [] h = inl refl
one_or_none p answer (e ∷ es) h = by answer (at p (expanded e)) refl h.0 (one_or_none p answer es h.1)
  where
    split : (o : Option Node) → at p (expanded e) ≡ o → at p (flat_map expanded (e ∷ es)) ≡ or_else o (at p (flat_map expanded es))
    split o is = find-both p (expanded e) (flat_map expanded es) ∙ ap (λ x. or_else x (at p (flat_map expanded es))) is

    by : (a o : Option Node) → at p (expanded e) ≡ o → (at p (expanded e) ≡ None) ⊎ (at p (expanded e) ≡ a) → (at p (flat_map expanded es) ≡ None) ⊎ (at p (flat_map expanded es) ≡ a)
        → (at p (flat_map expanded (e ∷ es)) ≡ None) ⊎ (at p (flat_map expanded (e ∷ es)) ≡ a)
    by a None is first rest = elim rest [
      | inl r ↦ inl (split None is ∙ r)
      | inr r ↦ inr (split None is ∙ r)
    ]
    by a (Some x) is first rest = elim first [
      | inl r ↦ absurd (not_some x (sym r ∙ is))
      | inr r ↦ inr (split (Some x) is ∙ sym is ∙ r)
    ]

there : (p q : Path) (n : Node) (es : Things) → at q es ≡ Some n → is_some (at p (expanded (q, n))) ≡ true → is_some (at p (flat_map expanded es)) ≡ true
there p q n [] found some = absurd (not_some n found)
there p q n (e ∷ es) found some = by (is_same e.0 q) (same_by q e.0) found (λ later. there p q n es later some)
  where
    or_some : (a b : Option Node) → is_some a ≡ true → is_some (or_else a b) ≡ true
    or_some None b h = cc
    or_some (Some x) b h = refl

    or_later : (a b : Option Node) → is_some b ≡ true → is_some (or_else a b) ≡ true
    or_later None b h = h
    or_later (Some x) b h = refl

    by : (s : Bool) → eq_by_cmp path_cmp q e.0 ≡ s → cond (eq_by_cmp path_cmp q e.0) (Some e.1) (at q es) ≡ Some n → (at q es ≡ Some n → is_some (at p (flat_map expanded es)) ≡ true)
        → is_some (at p (expanded e ++ flat_map expanded es)) ≡ true
    by true same is more =
        let value : e.1 ≡ n = let h : Some e.1 ≡ Some n = sym (ap (λ b. cond b (Some e.1) (at q es)) same) ∙ is in cc in
        let key : q ≡ e.0 = same_is q e.0 (sym (same_by q e.0) ∙ same) in
        let head : is_some (at p (expanded e)) ≡ true = subst (λ (x : Path × Node). is_some (at p (expanded x)) ≡ true) (ap (λ k. (k, n)) key ∙ ap (λ v. (e.0, v)) (sym value)) some in
        ap is_some (find-both p (expanded e) (flat_map expanded es)) ∙ or_some _ _ head
    by false same is more =
        let later : at q es ≡ Some n = sym (ap (λ b. cond b (Some e.1) (at q es)) same) ∙ is in
        ap is_some (find-both p (expanded e) (flat_map expanded es)) ∙ or_later (at p (expanded e)) _ (more later)

-- the answer of all is that of the one that decides
decided : (p q : Path) (n : Node) (answer : Option Node) (es : Things) → AllByRecursion (Either p answer) es → at q es ≡ Some n → at p (expanded (q, n)) ≡ answer → at p (flat_map expanded es) ≡ answer
decided p q n None es all found is = elim (one_or_none p None es all) [ inl r ↦ r | inr r ↦ r ]
decided p q n (Some x) es all found is =
    elim (one_or_none p (Some x) es all) [
      | inl r ↦ let some = there p q n es found (ap is_some is) in let bad : ◌≡◌ {A = Bool} false true = sym (ap is_some r) ∙ some in cc
      | inr r ↦ r
    ]

pub expand-find : (f : Files) (p : Path) → node_at (expand f) p ≡ at p (flat_map expanded (entries f))
unfolding expand
expand-find f p = get-from_entries path_total (flat_map expanded (entries f)) p

-- ---- paths in front of one another

abbrev Below : Path → Path → Type 0
Below above path = (x : List ℕ) × (rest : Path) × (path ≡ above ++ x ∷ rest)

same_text : (x y : List ℕ) → pointwise nat_eq x y ≡ true → x ≡ y
same_text x y h = (bytes_decides x y).0 h

both_true : (a b : Bool) → a && b ≡ true → (a ≡ true) × (b ≡ true)
both_true true b e = (refl, e)
both_true false b e = cc

-- what is within two paths: one of these stands in front of the other
in_front : (a q r : Path) → is_within a (q ++ r) ≡ true → Below a q ⊎ ((rest : Path) × (a ≡ q ++ rest))
in_front [] [] r e = inr ([], refl)
in_front [] (x ∷ q) r e = inl (x, q, refl)
in_front (y ∷ a) [] r e = inr (y ∷ a, refl)
in_front (y ∷ a) (x ∷ q) r e =
    let two = both_true (pointwise nat_eq y x) (is_within a (q ++ r)) e in
    let same : y ≡ x = same_text y x two.0 in
    elim (in_front a q r two.1) [
      | inl b ↦ inl (b.0, b.1, ap (λ t. t ∷ q) (sym same) ∙ ap (λ t. y ∷ t) b.2)
      | inr b ↦ inr (b.0, ap (λ t. t ∷ a) same ∙ ap (λ t. x ∷ t) b.1)
    ]

-- whatever something stands below is a directory
pub above_is_dir : (f : Files) → IsTree f → (q : Path) (x : List ℕ) (rest : Path) → is_some (node_at f (q ++ x ∷ rest)) ≡ true → IsDirAt f q
above_is_dir f t q x [] some = t.inside q x some
above_is_dir f t q x (y ∷ rest) some =
    let lower : IsDirAt f (q ++ x ∷ []) = above_is_dir f t (q ++ x ∷ []) y rest (subst (λ p. is_some (node_at f p) ≡ true) (sym (append_assoc q (x ∷ []) (y ∷ rest))) some) in
    t.inside q x (dir_there (node_at f (q ++ x ∷ [])) lower)
  where
    dir_there : (n : Option Node) → IsTrue (is_dir n) → IsTrue (is_some n)
    dir_there None h = cc
    dir_there (Some x) h = refl

bundle_file : (q : Path) (n : Option Node) (files : List Packed) → bundle_in q n ≡ Some files → (bytes : List ℕ) × (n ≡ Some (File bytes))
bundle_file q None files e = absurd (not_some files e)
bundle_file q (Some (Dir time)) files e = absurd (not_some files e)
bundle_file q (Some (File bytes)) files e = (bytes, refl)

-- ---- in a bundle

-- a thing that is no bundle is found nowhere else
nowhere_else : (e : Path × Node) (p : Path) → bundle_in e.0 (Some e.1) ≡ None → is_same e.0 p ≡ false → at p (expanded e) ≡ None
nowhere_else e p none apart = ap (λ o. at p (replaced e o)) none ∙ find-one p e.0 e.1 ∙ ap (λ b. cond b (Some e.1) None) apart

apart_thing : (e : Path × Node) (p : Path) (o : Option (List Packed)) → is_within e.0 p ≡ false → at p (replaced e o) ≡ None
apart_thing e p None w = no_thing e.0 p e.1 w
apart_thing e p (Some files) w = no_holding e.0 p files w

dir_no_bundle : (q : Path) (n : Node) → IsTrue (is_dir (Some n)) → bundle_in q (Some n) ≡ None
dir_no_bundle q (Dir time) h = refl
dir_no_bundle q (File bytes) h = cc

module _ (f : Files) (t : IsTree f) (q r : Path) (files : List Packed) (is : bundle_at f q ≡ Some files) where
  found_inside : (n : Node) → node_at f q ≡ Some n → at (q ++ r) (expanded (q, n)) ≡ node_inside files r
  found_inside n e =
      let bundle : bundle_in q (Some n) ≡ Some files = ap (bundle_in q) (sym e) ∙ is in
      ap (λ o. at (q ++ r) (replaced (q, n) o)) bundle ∙ find-holding q r files

  each : (e : Path × Node) → node_at f e.0 ≡ Some e.1 → Either (q ++ r) (node_inside files r) e
  each e found = by (is_within e.0 (q ++ r)) refl
    where
      bundle : (bytes : List ℕ) × (node_at f q ≡ Some (File bytes))
      bundle = bundle_file q (node_at f q) files is

      above : Below e.0 q → Either (q ++ r) (node_inside files r) e
      above b =
          let there : is_some (node_at f (e.0 ++ b.0 ∷ b.1)) ≡ true = subst (λ p. is_some (node_at f p) ≡ true) b.2 (ap is_some bundle.1) in
          let dir : IsTrue (is_dir (Some e.1)) = subst (λ n. IsTrue (is_dir n)) found (above_is_dir f t e.0 b.0 b.1 there) in
          let deeper : is_same e.0 (q ++ r) ≡ false = ap (λ p. is_same e.0 (p ++ r)) b.2 ∙ ap (is_same e.0) (append_assoc e.0 (b.0 ∷ b.1) r) ∙ same_front e.0 (b.0 ∷ (b.1 ++ r)) in
          inl (nowhere_else e (q ++ r) (dir_no_bundle e.0 e.1 dir) deeper)

      below : (rest : Path) → e.0 ≡ q ++ rest → Either (q ++ r) (node_inside files r) e
      below [] same =
          let key : e.0 ≡ q = same ∙ append-nil' q in
          inr (ap (λ k. at (q ++ r) (expanded (k, e.1))) key ∙ found_inside e.1 (ap (node_at f) (sym key) ∙ found))
        where
          append-nil' : (p : Path) → p ++ [] ≡ p
          append-nil' [] = refl
          append-nil' (x ∷ p) = ap (λ l. x ∷ l) (append-nil' p)
      below (x ∷ rest) same =
          let there : is_some (node_at f (q ++ x ∷ rest)) ≡ true = ap (λ p. is_some (node_at f p)) (sym same) ∙ ap is_some found in
          let dir : is_dir (node_at f q) ≡ true = above_is_dir f t q x rest there in
          let bad : ◌≡◌ {A = Bool} false true = sym (ap is_dir bundle.1) ∙ dir in
          cc

      by : (w : Bool) → is_within e.0 (q ++ r) ≡ w → Either (q ++ r) (node_inside files r) e
      by false w = inl (apart_thing e (q ++ r) (bundle_in e.0 (Some e.1)) w)
      by true w = elim (in_front e.0 q r w) [ inl b ↦ above b | inr b ↦ below b.0 b.1 ]

  all_each : (es : Things) → Found (entries f) es → AllByRecursion (Either (q ++ r) (node_inside files r)) es
  all_each [] h = tt
  all_each (e ∷ es) h = (each e (get-entries f e.0 ∙ h.0), all_each es h.1)

  -- a path in a bundle has what stands there in the bundle
  pub node_at-inside : node_at (expand f) (q ++ r) ≡ node_inside files r
  node_at-inside =
      let bundle = bundle_file q (node_at f q) files is in
      expand-find f (q ++ r)
      ∙ decided (q ++ r) q (File bundle.0) (node_inside files r) (entries f) (all_each (entries f) (all_found (entries f) (entries_sorted f))) (sym (get-entries f q) ∙ bundle.1) (found_inside (File bundle.0) bundle.1)

-- ---- in no bundle

module _ (f : Files) (p : Path) (none : (q r : Path) → p ≡ q ++ r → bundle_at f q ≡ None) where
  itself : (e : Path × Node) → node_at f e.0 ≡ Some e.1 → is_within e.0 p ≡ true → bundle_in e.0 (Some e.1) ≡ None
  itself e found w =
      let parts = front_of e.0 p w in
      ap (bundle_in e.0) (sym found) ∙ none e.0 parts.0 parts.1
    where
      front_of : (a path : Path) → is_within a path ≡ true → (rest : Path) × (path ≡ a ++ rest)
      front_of [] path h = (path, refl)
      front_of (x ∷ a) [] h = cc
      front_of (x ∷ a) (y ∷ path) h =
          let two = both_true (pointwise nat_eq x y) (is_within a path) h in
          let deeper = front_of a path two.1 in
          (deeper.0, ap (λ t. t ∷ path) (sym (same_text x y two.0)) ∙ ap (λ t. x ∷ t) deeper.1)

  stays : (e : Path × Node) → node_at f e.0 ≡ Some e.1 → Either p (node_at f p) e
  stays e found = by (is_within e.0 p) refl
    where
      same : (s : Bool) → is_same e.0 p ≡ s → bundle_in e.0 (Some e.1) ≡ None → Either p (node_at f p) e
      same true s gone =
          inr (ap (λ o. at p (replaced e o)) gone ∙ find-one p e.0 e.1 ∙ ap (λ b. cond b (Some e.1) None) s ∙ sym found ∙ ap (node_at f) (sym (same_is p e.0 s)))
      same false s gone = inl (nowhere_else e p gone s)

      by : (w : Bool) → is_within e.0 p ≡ w → Either p (node_at f p) e
      by false w = inl (apart_thing e p (bundle_in e.0 (Some e.1)) w)
      by true w = same (is_same e.0 p) refl (itself e found w)

  all_stay : (es : Things) → Found (entries f) es → AllByRecursion (Either p (node_at f p)) es
  all_stay [] h = tt
  all_stay (e ∷ es) h = (stays e (get-entries f e.0 ∙ h.0), all_stay es h.1)

  by_node : (n : Option Node) → node_at f p ≡ n → at p (flat_map expanded (entries f)) ≡ n
  by_node None is =
      elim (one_or_none p (node_at f p) (entries f) (all_stay (entries f) (all_found (entries f) (entries_sorted f)))) [
        | inl r ↦ r
        | inr r ↦ r ∙ is
      ]
  by_node (Some x) is =
      let plain : bundle_in p (Some x) ≡ None = ap (bundle_in p) (sym is) ∙ none p [] (sym (nil p)) in
      decided p p x (Some x) (entries f) (subst (λ n. AllByRecursion (Either p n) (entries f)) is (all_stay (entries f) (all_found (entries f) (entries_sorted f)))) (sym (get-entries f p) ∙ is)
      (ap (λ o. at p (replaced (p, x) o)) plain ∙ find-one p p x ∙ ap (λ b. cond b (Some x) None) (same_refl p))
    where
      nil : (a : Path) → a ++ [] ≡ a
      nil [] = refl
      nil (y ∷ a) = ap (λ l. y ∷ l) (nil a)

  -- a path in no bundle has what stands there
  pub node_at-outside : node_at (expand f) p ≡ node_at f p
  node_at-outside = expand-find f p ∙ by_node (node_at f p) refl
