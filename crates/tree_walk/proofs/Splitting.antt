-- What stands below a folder, name by name.
use Rattle.std.proofs.Common.{◌≡◌, ◌∙◌, refl, sym, ap, subst, ℕ, List, [], ◌∷◌, ◌++◌, Bool, true, false, cond, ◌&&◌, ◌||◌, nat_eq, map, Option, Some, None, IsTrue, is_some, inl, inr, append_assoc, append-nil, if◌then◌else◌, length, ◌≤◌, arith}
use Rattle.std.specs.Prelude.{T, ◌⊎◌}
use Rattle.std.specs.List.{AllByRecursion, flat_map, list_all, list_any}
use Rattle.std.specs.List.Sorted.{IsStrictlySortedBy}
use Rattle.std.specs.Ordering.{nat_cmp, is_lt, is_eq, eq_by_cmp, ordering_then, ordering_reverse}
use Rattle.std.specs.declared.cmp.Ordering.{Ordering}
use Rattle.std.specs.declared.cmp.Ordering.TheVariants.{Less, Equal, Greater}
use Rattle.std.specs.Cmp.{tied_itself}
use Rattle.std.specs.Cmp.Lexicographic.{pointwise, slice_cmp, bytes_decides, nat_list_eq_equiv, nat_list_cmp_total, texts_ties}
use Rattle.std.specs.FinMap.{find, entries, entries_sorted, get-entries, is_sorted, IsAntisymmetric, slice_cmp-IsAntisymmetric, nat_cmp-IsAntisymmetric}
use Rattle.std.specs.FinMap.Entries.{below_all}
use Rattle.std.proofs.lemmas.Bool.{and_parts}
use Rattle.base_types.specs.Path.{Path, path_cmp, is_part}
use Rattle.tree_files.specs.Edits.{is_within}
use Rattle.tree_files.specs.Files.{Files, IsTree, IsDirAt, node_at, is_dir, has_name, names_in}
use Rattle.tree_files.specs.declared.tree.Node.{Node}
use Rattle.tree_files.specs.declared.tree.Node.TheVariants.{File, Dir}
use Rattle.tree_files.proofs.MemFilesLemmas.{path_total}
use Rattle.tree_files.proofs.Listings.{names_in-listing}
use Rattle.tree_walk.specs.Below.{named, within, all_within}

abbrev Things : Type 0
Things = List (Path × Node)

abbrev text_cmp : List ℕ → List ℕ → Ordering
text_cmp = slice_cmp nat_cmp

abbrev same : List ℕ → List ℕ → Bool
same = pointwise nat_eq

-- ---- where a path stands, seen from another

abbrev Under : Path → Path → Type 0
Under q p = (a : List ℕ) × (rest : Path) × (p ≡ q ++ a ∷ rest)

-- a path is another one, or it is below that, or it is not
where_is : (q p : Path) → (p ≡ q) ⊎ (Under q p ⊎ (is_within q p ≡ false))
where_is [] [] = inl refl
where_is [] (a ∷ p) = inr (inl (a, p, refl))
where_is (x ∷ q) [] = inr (inr refl)
where_is (x ∷ q) (y ∷ p) = by (same x y) refl (where_is q p)
  where
    by : (b : Bool) → same x y ≡ b → (p ≡ q) ⊎ (Under q p ⊎ (is_within q p ≡ false)) → (y ∷ p ≡ x ∷ q) ⊎ (Under (x ∷ q) (y ∷ p) ⊎ (same x y && is_within q p ≡ false))
    by false is below = inr (inr (ap (λ c. c && is_within q p) is))
    by true is below =
        let equal : x ≡ y = (bytes_decides x y).0 is in
        elim below [
          | inl e ↦ inl (ap (λ t. t ∷ p) (sym equal) ∙ ap (λ t. x ∷ t) e)
          | inr r ↦ elim r [
            | inl u ↦ inr (inl (u.0, u.1, ap (λ t. t ∷ p) (sym equal) ∙ ap (λ t. x ∷ t) u.2))
            | inr w ↦ inr (inr (ap (λ c. c && is_within q p) is ∙ w))
          ]
        ]

within_front : (q r s : Path) → is_within (q ++ r) (q ++ s) ≡ is_within r s
within_front [] r s = refl
within_front (x ∷ q) r s = ap (λ b. b && is_within (q ++ r) (q ++ s)) (nat_list_eq_equiv.refl x) ∙ within_front q r s

within_nothing : (q s : Path) → is_within q (q ++ s) ≡ true
within_nothing [] s = refl
within_nothing (x ∷ q) s = ap (λ b. b && is_within q (q ++ s)) (nat_list_eq_equiv.refl x) ∙ within_nothing q s

and_true : (b : Bool) → b && true ≡ b
and_true true = refl
and_true false = refl

and_false : (b : Bool) → b && false ≡ false
and_false true = refl
and_false false = refl

-- a name in front of a path that is below
within_under : (q : Path) (a b : List ℕ) (r : Path) → is_within (q ++ a ∷ []) (q ++ b ∷ r) ≡ same a b
within_under q a b r = within_front q (a ∷ []) (b ∷ r) ∙ and_true (same a b)

within_itself : (q : Path) (a : List ℕ) → is_within (q ++ a ∷ []) q ≡ false
within_itself [] a = refl
within_itself (x ∷ q) a = ap (λ b. b && is_within (q ++ a ∷ []) q) (nat_list_eq_equiv.refl x) ∙ within_itself q a

within_outside : (q : Path) (a : List ℕ) (p : Path) → is_within q p ≡ false → is_within (q ++ a ∷ []) p ≡ false
within_outside [] a p h = cc
within_outside (x ∷ q) a [] h = refl
within_outside (x ∷ q) a (y ∷ p) h = by (same x y) refl (λ g. within_outside q a p g)
  where
    by : (b : Bool) → same x y ≡ b → (is_within q p ≡ false → is_within (q ++ a ∷ []) p ≡ false) → same x y && is_within (q ++ a ∷ []) p ≡ false
    by false is below = ap (λ c. c && is_within (q ++ a ∷ []) p) is
    by true is below = ap (λ c. c && is_within (q ++ a ∷ []) p) is ∙ below (sym (ap (λ c. c && is_within q p) is) ∙ h)

cmp_front : (q r s : Path) → path_cmp (q ++ r) (q ++ s) ≡ path_cmp r s
cmp_front [] r s = refl
cmp_front (x ∷ q) r s = ap (λ o. ordering_then o (path_cmp (q ++ r) (q ++ s))) (tied_itself nat_list_cmp_total x) ∙ cmp_front q r s

not_less : Greater ≡ Less → ⊥
not_less e = cc

under_greater : (q : Path) (a : List ℕ) (r : Path) → path_cmp (q ++ a ∷ r) q ≡ Less → ⊥
under_greater [] a r h = cc
under_greater (x ∷ q) a r h = under_greater q a r (sym (ap (λ o. ordering_then o (path_cmp (q ++ a ∷ r) q)) (tied_itself nat_list_cmp_total x)) ∙ h)

key_is : (q p : Path) → eq_by_cmp path_cmp q p ≡ true → q ≡ p
key_is q p h = path_exact q p (tie (path_cmp q p) h)
  where
    path_exact : IsAntisymmetric path_cmp
    path_exact = slice_cmp-IsAntisymmetric (slice_cmp-IsAntisymmetric nat_cmp-IsAntisymmetric)

    tie : (o : Ordering) → is_eq o ≡ true → o ≡ Equal
    tie Less e = cc
    tie Equal e = refl
    tie Greater e = cc

less_itself : (q : Path) → path_cmp q q ≡ Less → ⊥
less_itself q h = let bad : Equal ≡ Less = sym (tied_itself path_total q) ∙ h in cc

-- names rise with the paths that they are in front of
names_rise : (q : Path) (a b : List ℕ) (r s : Path) → path_cmp (q ++ a ∷ r) (q ++ b ∷ s) ≡ Less → text_cmp b a ≡ Less → ⊥
names_rise q a b r s h low =
    let greater : text_cmp a b ≡ Greater = nat_list_cmp_total.antisymm a b ∙ ap ordering_reverse low in
    not_less (sym (ap (λ o. ordering_then o (path_cmp r s)) greater) ∙ sym (cmp_front q (a ∷ r) (b ∷ s)) ∙ h)

-- ---- lists of what is told

module _ {X Y : Type 0} where
  alike : (g h : X → List Y) (xs : List X) → ((x : X) → g x ≡ h x) → flat_map g xs ≡ flat_map h xs
  alike g h [] e = refl
  alike g h (x ∷ xs) e = ap (λ l. l ++ flat_map g xs) (e x) ∙ ap (λ l. h x ++ l) (alike g h xs e)

  pub nothing : (g : X → List Y) (xs : List X) → ((x : X) → g x ≡ []) → flat_map g xs ≡ []
  nothing g [] e = refl
  nothing g (x ∷ xs) e = ap (λ l. l ++ flat_map g xs) (e x) ∙ nothing g xs e

-- at one of names that rise something is told first, where names before it tell nothing
module _ {X : Type 0} (x : List X) (a : List ℕ) (g : List ℕ → List X) where
  with_it : List ℕ → List X
  with_it n = (if same n a then x else []) ++ g n

  behind_it : (names : List (List ℕ)) → AllByRecursion (λ n. text_cmp a n ≡ Less) names → flat_map (λ n. (if same n a then x else []) ++ g n) names ≡ flat_map g names
  behind_it [] h = refl
  behind_it (n ∷ names) h =
      let apart : same n a ≡ false = apart_of (same n a) refl in
      ap (λ b. ((if b then x else []) ++ g n) ++ flat_map (λ m. (if same m a then x else []) ++ g m) names) apart ∙ ap (λ l. g n ++ l) (behind_it names h.1)
    where
      apart_of : (b : Bool) → same n a ≡ b → b ≡ false
      apart_of false is = refl
      apart_of true is =
          let equal : n ≡ a = (bytes_decides n a).0 is in
          let low : text_cmp a a ≡ Less = subst (λ m. text_cmp a m ≡ Less) equal h.0 in
          let bad : Equal ≡ Less = sym (tied_itself nat_list_cmp_total a) ∙ low in
          cc

  -- a name among names that are behind another one is behind it
  member : (n : List ℕ) (ms : List (List ℕ)) → has_name ms a ≡ true → AllByRecursion (λ m. text_cmp n m ≡ Less) ms → text_cmp n a ≡ Less
  member n [] there all = cc
  member n (m ∷ ms) there all = one (same m a) refl (λ h. member n ms h all.1)
    where
      one : (b : Bool) → same m a ≡ b → (has_name ms a ≡ true → text_cmp n a ≡ Less) → text_cmp n a ≡ Less
      one true is later = subst (λ k. text_cmp n k ≡ Less) ((bytes_decides m a).0 is) all.0
      one false is later = later (sym (ap (λ c. c || has_name ms a) is) ∙ there)

  told_step : (n : List ℕ) (names : List (List ℕ)) → AllByRecursion (λ m. text_cmp n m ≡ Less) names → has_name (n ∷ names) a ≡ true → ((m : List ℕ) → text_cmp m a ≡ Less → g m ≡ [])
      → (has_name names a ≡ true → flat_map (λ m. (if same m a then x else []) ++ g m) names ≡ x ++ flat_map g names)
      → ((if same n a then x else []) ++ g n) ++ flat_map (λ m. (if same m a then x else []) ++ g m) names ≡ x ++ (g n ++ flat_map g names)
  told_step n names low h none more = by (same n a) refl
    where
      by : (b : Bool) → same n a ≡ b → ((if same n a then x else []) ++ g n) ++ flat_map (λ m. (if same m a then x else []) ++ g m) names ≡ x ++ (g n ++ flat_map g names)
      by true is =
          let equal : n ≡ a = (bytes_decides n a).0 is in
          let later = behind_it names (subst (λ k. AllByRecursion (λ m. text_cmp k m ≡ Less) names) equal low) in
          ap (λ c. ((if c then x else []) ++ g n) ++ flat_map (λ m. (if same m a then x else []) ++ g m) names) is ∙ append_assoc x (g n) (flat_map (λ m. (if same m a then x else []) ++ g m) names) ∙ ap (λ l. x ++ (g n ++ l)) later
      by false is =
          let there : has_name names a ≡ true = sym (ap (λ c. c || has_name names a) is) ∙ h in
          let empty : g n ≡ [] = none n (member n names there low) in
          ap (λ c. ((if c then x else []) ++ g n) ++ flat_map (λ m. (if same m a then x else []) ++ g m) names) is ∙ ap (λ l. l ++ flat_map (λ m. (if same m a then x else []) ++ g m) names) empty ∙ more there ∙ ap (λ l. x ++ (l ++ flat_map g names)) (sym empty)

  told_first : (names : List (List ℕ)) → IsStrictlySortedBy (slice_cmp nat_cmp) names → has_name names a ≡ true → ((n : List ℕ) → text_cmp n a ≡ Less → g n ≡ [])
      → flat_map (λ n. (if same n a then x else []) ++ g n) names ≡ x ++ flat_map g names
  unfolding IsStrictlySortedBy
  told_first [] s h none = cc
  told_first (n ∷ names) s h none = told_step n names s.0 h none (λ there. told_first names s.1 there none)

-- ---- things in the order of their paths

less : (o : Ordering) → T (is_lt o) → o ≡ Less
less Less h = refl
less Equal h = absurd h
less Greater h = absurd h

both : (a b : Bool) → T (a && b) → T a × T b
both true b h = (tt, h)
both false b h = absurd h

abbrev Behind : Path → Things → Type 0
Behind p es = AllByRecursion (λ (e : Path × Node). path_cmp p e.0 ≡ Less) es

behind_of : (p : Path) (es : Things) → T (below_all path_cmp p es) → Behind p es
behind_of p [] h = tt
behind_of p (e ∷ es) h = let two = both _ _ h in (less _ two.0, behind_of p es two.1)

module _ {X : Type 0} (tell : Path × Node → List X) (q : Path) where
  abbrev told : Path × Node → List X
  told e = if is_within q e.0 then tell e else []

  abbrev told_at : List ℕ → Path × Node → List X
  told_at a e = if is_within (q ++ a ∷ []) e.0 then tell e else []

  abbrev by_names : List (List ℕ) → Things → List X
  by_names names es = flat_map (λ a. flat_map (told_at a) es) names

  -- each name in front of a thing that is below is among the names
  abbrev Named : List (List ℕ) → Path × Node → Type 0
  Named names e = (a : List ℕ) (r : Path) → e.0 ≡ q ++ a ∷ r → has_name names a ≡ true

  -- behind a thing below a name, nothing is told at an earlier name
  none_before : (a b : List ℕ) (r : Path) (es : Things) → text_cmp b a ≡ Less → Behind (q ++ a ∷ r) es → flat_map (told_at b) es ≡ []
  none_before a b r [] low h = refl
  none_before a b r (e ∷ es) low h = ap (λ c. (if c then tell e else []) ++ flat_map (told_at b) es) (apart (where_is (q ++ b ∷ []) e.0)) ∙ none_before a b r es low h.1
    where
      never : (s : Path) → e.0 ≡ (q ++ b ∷ []) ++ s → ⊥
      never s is = names_rise q a b r s (subst (λ p. path_cmp (q ++ a ∷ r) p ≡ Less) (is ∙ append_assoc q (b ∷ []) s) h.0) low

      apart : (e.0 ≡ q ++ b ∷ []) ⊎ (Under (q ++ b ∷ []) e.0 ⊎ (is_within (q ++ b ∷ []) e.0 ≡ false)) → is_within (q ++ b ∷ []) e.0 ≡ false
      apart w = elim w [
        | inl is ↦ absurd (never [] (is ∙ sym (append-nil (q ++ b ∷ []))))
        | inr rest ↦ elim rest [
          | inl u ↦ absurd (never (u.0 ∷ u.1) u.2)
          | inr off ↦ off
        ]
      ]

  -- things behind a path, name by name
  split_behind : (names : List (List ℕ)) → IsStrictlySortedBy (slice_cmp nat_cmp) names → (es : Things) → T (is_sorted path_cmp es) → Behind q es → AllByRecursion (Named names) es
      → flat_map told es ≡ by_names names es
  split_behind names rising [] s h all = sym (nothing (λ a. []) names (λ a. refl))
  split_behind names rising (e ∷ es) s h all = by (where_is q e.0) (split_behind names rising es two.1 h.1 all.1)
    where
      two : T (below_all path_cmp e.0 es) × T (is_sorted path_cmp es)
      two = both _ _ s

      outside : is_within q e.0 ≡ false → flat_map told es ≡ by_names names es → told e ++ flat_map told es ≡ by_names names (e ∷ es)
      outside off later =
          ap (λ c. (if c then tell e else []) ++ flat_map told es) off ∙ later
          ∙ sym (alike (λ a. told_at a e ++ flat_map (told_at a) es) (λ a. flat_map (told_at a) es) names (λ a. ap (λ c. (if c then tell e else []) ++ flat_map (told_at a) es) (within_outside q a e.0 off)))

      under : (a : List ℕ) (r : Path) → e.0 ≡ q ++ a ∷ r → flat_map told es ≡ by_names names es → told e ++ flat_map told es ≡ by_names names (e ∷ es)
      under a r is later =
          let inside : is_within q e.0 ≡ true = ap (is_within q) is ∙ within_nothing q (a ∷ r) in
          let first : flat_map (λ n. (if same n a then tell e else []) ++ flat_map (told_at n) es) names ≡ tell e ++ by_names names es =
          told_first (tell e) a (λ n. flat_map (told_at n) es) names rising (all.0 a r is) (λ n low. none_before a n r es low (subst (λ p. Behind p es) is (behind_of e.0 es two.0))) in
          ap (λ c. (if c then tell e else []) ++ flat_map told es) inside ∙ ap (λ l. tell e ++ l) later ∙ sym first
          ∙ sym (alike (λ n. told_at n e ++ flat_map (told_at n) es) (λ n. (if same n a then tell e else []) ++ flat_map (told_at n) es) names
          (λ n. ap (λ c. (if c then tell e else []) ++ flat_map (told_at n) es) (ap (is_within (q ++ n ∷ [])) is ∙ within_under q n a r)))

      by : (e.0 ≡ q) ⊎ (Under q e.0 ⊎ (is_within q e.0 ≡ false)) → flat_map told es ≡ by_names names es → told e ++ flat_map told es ≡ by_names names (e ∷ es)
      by w later = elim w [
        | inl is ↦ absurd (less_itself q (subst (λ p. path_cmp q p ≡ Less) is h.0))
        | inr rest ↦ elim rest [
          | inl u ↦ under u.0 u.1 u.2 later
          | inr off ↦ outside off later
        ]
      ]

  -- a thing that is found stands behind what all things are behind
  found_behind : (p : Path) (n : Node) (ts : Things) → Behind p ts → find path_cmp q ts ≡ Some n → path_cmp p q ≡ Less
  found_behind p n [] h f = cc
  found_behind p n (t ∷ ts) h f = one (eq_by_cmp path_cmp q t.0) refl (λ g. found_behind p n ts h.1 g)
    where
      one : (b : Bool) → eq_by_cmp path_cmp q t.0 ≡ b → (find path_cmp q ts ≡ Some n → path_cmp p q ≡ Less) → path_cmp p q ≡ Less
      one true is later = subst (λ k. path_cmp p k ≡ Less) (sym (key_is q t.0 is)) h.0
      one false is later = later (sym (ap (λ c. cond c (Some t.1) (find path_cmp q ts)) is) ∙ f)

  -- what is told of a thing, and then name by name of all below it
  split : (names : List (List ℕ)) → IsStrictlySortedBy (slice_cmp nat_cmp) names → (es : Things) → T (is_sorted path_cmp es) → AllByRecursion (Named names) es → (n : Node) → find path_cmp q es ≡ Some n
      → flat_map told es ≡ tell (q, n) ++ by_names names es
  split names rising [] s all n found = cc
  split names rising (e ∷ es) s all n found = by (eq_by_cmp path_cmp q e.0) refl (λ f. split names rising es two.1 all.1 n f)
    where
      two : T (below_all path_cmp e.0 es) × T (is_sorted path_cmp es)
      two = both _ _ s

      -- what is told by name where the first thing tells nothing
      skip : ((a : List ℕ) → is_within (q ++ a ∷ []) e.0 ≡ false) → by_names names (e ∷ es) ≡ by_names names es
      skip off = alike (λ a. told_at a e ++ flat_map (told_at a) es) (λ a. flat_map (told_at a) es) names (λ a. ap (λ c. (if c then tell e else []) ++ flat_map (told_at a) es) (off a))

      it : (p : Path) (v : Node) → e ≡ (p, v) → q ≡ p → Some v ≡ Some n → told e ++ flat_map told es ≡ tell (q, n) ++ by_names names (e ∷ es)
      it p v thing key value =
          let node : v ≡ n = cc in
          let is : e.0 ≡ q = ap (λ (t : Path × Node). t.0) thing ∙ sym key in
          let whole : e ≡ (q, n) = thing ∙ ap (λ k. (k, v)) (sym key) ∙ ap (λ w. (q, w)) node in
          let inside : is_within q e.0 ≡ true = ap (is_within q) (is ∙ sym (append-nil q)) ∙ within_nothing q [] in
          let rest : flat_map told es ≡ by_names names es = split_behind names rising es two.1 (subst (λ p. Behind p es) is (behind_of e.0 es two.0)) all.1 in
          ap (λ c. (if c then tell e else []) ++ flat_map told es) inside ∙ ap (λ t. tell t ++ flat_map told es) whole ∙ ap (λ l. tell (q, n) ++ l) rest
          ∙ ap (λ l. tell (q, n) ++ l) (sym (skip (λ a. ap (is_within (q ++ a ∷ [])) is ∙ within_itself q a)))

      later : find path_cmp q es ≡ Some n → path_cmp e.0 q ≡ Less
      later f = found_behind e.0 n es (behind_of e.0 es two.0) f

      pass : is_within q e.0 ≡ false → flat_map told es ≡ tell (q, n) ++ by_names names es → told e ++ flat_map told es ≡ tell (q, n) ++ by_names names (e ∷ es)
      pass off rest =
          ap (λ c. (if c then tell e else []) ++ flat_map told es) off ∙ rest
          ∙ ap (λ l. tell (q, n) ++ l) (sym (skip (λ a. within_outside q a e.0 off)))

      by : (b : Bool) → eq_by_cmp path_cmp q e.0 ≡ b → (find path_cmp q es ≡ Some n → flat_map told es ≡ tell (q, n) ++ by_names names es) → told e ++ flat_map told es ≡ tell (q, n) ++ by_names names (e ∷ es)
      by true is more = it e.0 e.1 refl (key_is q e.0 is) (sym (ap (λ c. cond c (Some e.1) (find path_cmp q es)) is) ∙ found)
      by false is more =
          let f : find path_cmp q es ≡ Some n = sym (ap (λ c. cond c (Some e.1) (find path_cmp q es)) is) ∙ found in
          elim (where_is q e.0) [
            | inl at ↦ absurd (less_itself q (subst (λ k. path_cmp k q ≡ Less) at (later f)))
            | inr rest ↦ elim rest [
              | inl u ↦ absurd (under_greater q u.0 u.1 (subst (λ k. path_cmp k q ≡ Less) u.2 (later f)))
              | inr off ↦ pass off (more f)
            ]
          ]

  -- where nothing stands at a path or below it, nothing is told
  nothing_there : (es : Things) → AllByRecursion (λ (e : Path × Node). is_within q e.0 ≡ false) es → flat_map told es ≡ []
  nothing_there [] h = refl
  nothing_there (e ∷ es) h = ap (λ c. (if c then tell e else []) ++ flat_map told es) h.0 ∙ nothing_there es h.1

-- ---- things of a tree

abbrev Stands : Things → Path × Node → Type 0
Stands es e = find path_cmp e.0 es ≡ Some e.1

-- each thing is found at its path
each_stands : (es : Things) → T (is_sorted path_cmp es) → AllByRecursion (Stands es) es
each_stands [] s = tt
each_stands (e ∷ es) s =
    let two = both _ _ s in
    (ap (λ o. cond (is_eq o) (Some e.1) (find path_cmp e.0 es)) (tied_itself path_total e.0), further es (behind_of e.0 es two.0) (each_stands es two.1))
  where
    further : (ts : Things) → Behind e.0 ts → AllByRecursion (Stands es) ts → AllByRecursion (Stands (e ∷ es)) ts
    further [] h all = tt
    further (t ∷ ts) h all =
        let back : path_cmp t.0 e.0 ≡ Greater = path_total.antisymm t.0 e.0 ∙ ap ordering_reverse h.0 in
        (ap (λ o. cond (is_eq o) (Some e.1) (find path_cmp t.0 es)) back ∙ all.0, further ts h.1 all.1)

stand_in : (f : Files) → AllByRecursion (λ (e : Path × Node). node_at f e.0 ≡ Some e.1) (entries f)
stand_in f = each (entries f) (each_stands (entries f) (entries_sorted f))
  where
    each : (es : Things) → AllByRecursion (Stands (entries f)) es → AllByRecursion (λ (e : Path × Node). node_at f e.0 ≡ Some e.1) es
    each [] h = tt
    each (e ∷ es) h = (get-entries f e.0 ∙ h.0, each es h.1)

dir_there : (n : Option Node) → IsTrue (is_dir n) → IsTrue (is_some n)
dir_there None h = cc
dir_there (Some x) h = refl

-- what is in front of a thing of a tree stands there
front_stands : (f : Files) → IsTree f → (q : Path) (a : List ℕ) (r : Path) → is_some (node_at f (q ++ a ∷ r)) ≡ true → is_some (node_at f (q ++ a ∷ [])) ≡ true
front_stands f t q a [] some = some
front_stands f t q a (b ∷ r) some =
    let again : is_some (node_at f ((q ++ a ∷ []) ++ b ∷ r)) ≡ true = subst (λ p. is_some (node_at f p) ≡ true) (sym (append_assoc q (a ∷ []) (b ∷ r))) some in
    dir_there (node_at f (q ++ a ∷ [])) (t.inside (q ++ a ∷ []) b (front_stands f t (q ++ a ∷ []) b r again))

module _ (f : Files) (t : IsTree f) (q : Path) where
  all_named : (es : Things) → AllByRecursion (λ (e : Path × Node). node_at f e.0 ≡ Some e.1) es → AllByRecursion (λ (e : Path × Node). (a : List ℕ) (r : Path) → e.0 ≡ q ++ a ∷ r → has_name (names_in f q) a ≡ true) es
  all_named [] h = tt
  all_named (e ∷ es) h =
      (λ a r is. (names_in-listing f q).exact a ∙ front_stands f t q a r (ap (λ p. is_some (node_at f p)) (sym is) ∙ ap is_some h.0), all_named es h.1)

  -- of a thing of a tree, and then of what its names stand for
  pub all_within-split : {X : Type 0} (tell : Path × Node → List X) (n : Node) → node_at f q ≡ Some n
      → all_within tell f q ≡ named tell (q, n) ++ flat_map (λ a. all_within tell f (q ++ a ∷ [])) (names_in f q)
  unfolding all_within
  all_within-split tell n at =
      split (named tell) q (names_in f q) (names_in-listing f q).ordered (entries f) (entries_sorted f) (all_named (entries f) (stand_in f)) n (sym (get-entries f q) ∙ at)

  outside : node_at f q ≡ None → (es : Things) → AllByRecursion (λ (e : Path × Node). node_at f e.0 ≡ Some e.1) es → AllByRecursion (λ (e : Path × Node). is_within q e.0 ≡ false) es
  outside gone [] h = tt
  outside gone (e ∷ es) h = (by (where_is q e.0), outside gone es h.1)
    where
      not_there : IsTrue (is_some (node_at f q)) → ⊥
      not_there some = let bad : ◌≡◌ {A = Bool} false true = sym (ap is_some gone) ∙ some in cc

      by : (e.0 ≡ q) ⊎ (Under q e.0 ⊎ (is_within q e.0 ≡ false)) → is_within q e.0 ≡ false
      by w = elim w [
        | inl is ↦ absurd (not_there (ap (λ p. is_some (node_at f p)) (sym is) ∙ ap is_some h.0))
        | inr rest ↦ elim rest [
          | inl u ↦ absurd (not_there (dir_there (node_at f q) (t.inside q u.0 (front_stands f t q u.0 u.1 (ap (λ p. is_some (node_at f p)) (sym u.2) ∙ ap is_some h.0)))))
          | inr off ↦ off
        ]
      ]

  -- where nothing stands in a tree, nothing is told
  pub all_within-absent : {X : Type 0} (tell : Path × Node → List X) → node_at f q ≡ None → all_within tell f q ≡ []
  unfolding all_within
  all_within-absent tell gone = nothing_there (named tell) q (entries f) (outside gone (entries f) (stand_in f))

-- a file has no names in it
no_names : (names : List (List ℕ)) → ((a : List ℕ) → has_name names a ≡ false) → names ≡ []
no_names [] h = refl
no_names (a ∷ names) h =
    let bad : ◌≡◌ {A = Bool} true false = sym (ap (λ b. b || has_name names a) (nat_list_eq_equiv.refl a)) ∙ h a in
    cc

-- what is no part of a tree path is in front of no tree path
not_part : (q : Path) (a : List ℕ) (p : Path) → is_part a ≡ false → is_within (q ++ a ∷ []) p ≡ true → list_all is_part p ≡ false
not_part q a [] off w = absurd (root_not q w)
  where
    root_not : (q : Path) → is_within (q ++ a ∷ []) [] ≡ true → ⊥
    root_not [] h = cc
    root_not (x ∷ q) h = cc
not_part [] a (y ∷ p) off w =
    let equal : a ≡ y = (bytes_decides a y).0 (and_parts (same a y) true w).0 in
    ap (λ b. b && list_all is_part p) (ap is_part (sym equal) ∙ off)
not_part (x ∷ q) a (y ∷ p) off w =
    ap (λ b. is_part y && b) (not_part q a p off (and_parts (same x y) (is_within (q ++ a ∷ []) p) w).1) ∙ and_false (is_part y)

-- at a name that is no part of a tree path nothing is told
pub all_within-no_part : {X : Type 0} (tell : Path × Node → List X) (f : Files) (q : Path) (a : List ℕ) → is_part a ≡ false → all_within tell f (q ++ a ∷ []) ≡ []
unfolding all_within
all_within-no_part tell f q a off = nothing (within (q ++ a ∷ []) tell) (entries f) (λ e. by e (is_within (q ++ a ∷ []) e.0) refl)
  where
    by : (e : Path × Node) (b : Bool) → is_within (q ++ a ∷ []) e.0 ≡ b → within (q ++ a ∷ []) tell e ≡ []
    by e false is = ap (λ c. if c then named tell e else []) is
    by e true is = ap (λ c. if c then named tell e else []) is ∙ ap (λ c. if c then tell e else []) (not_part q a e.0 off is)

-- nothing stands below a file of a tree
pub all_within-file : {X : Type 0} (tell : Path × Node → List X) (f : Files) → IsTree f → (q : Path) (bytes : List ℕ) → node_at f q ≡ Some (File bytes) → all_within tell f q ≡ named tell (q, File bytes)
all_within-file {X} tell f t q bytes at =
    let empty : names_in f q ≡ [] = no_names (names_in f q) (λ a. (names_in-listing f q).exact a ∙ none a (is_some (node_at f (q ++ a ∷ []))) refl) in
    all_within-split f t q tell (File bytes) at ∙ ap (λ (names : List (List ℕ)). named tell (q, File bytes) ++ flat_map (λ a. all_within tell f (q ++ a ∷ [])) names) empty ∙ append-nil (named tell (q, File bytes))
  where
    none : (a : List ℕ) (b : Bool) → is_some (node_at f (q ++ a ∷ [])) ≡ b → b ≡ false
    none a false is = refl
    none a true is = let bad : ◌≡◌ {A = Bool} false true = sym (ap is_dir at) ∙ t.inside q a is in cc

-- ---- where nothing is told

-- a path is no longer than what stands below it
pub within_longer : (q p : Path) → is_within q p ≡ true → length q ≤ length p
within_longer [] p w = omega arith
within_longer (x ∷ q) [] w = cc
within_longer (x ∷ q) (y ∷ p) w = let rest = within_longer q p (and_parts (same x y) (is_within q p) w).1 in omega (arith, rest)

-- nothing is told of what stands at a path or below it, where nothing is told of each of these things
pub all_within-silent : {X : Type 0} (tell : Path × Node → List X) (f : Files) (q : Path) → ((e : Path × Node) → is_within q e.0 ≡ true → tell e ≡ []) → all_within tell f q ≡ []
unfolding all_within
all_within-silent tell f q silent = nothing (within q tell) (entries f) (λ e. by e (is_within q e.0) refl)
  where
    of_named : (e : Path × Node) (b : Bool) → tell e ≡ [] → (if b then tell e else []) ≡ []
    of_named e true none = none
    of_named e false none = refl

    by : (e : Path × Node) (b : Bool) → is_within q e.0 ≡ b → within q tell e ≡ []
    by e false is = ap (λ c. if c then named tell e else []) is
    by e true is = ap (λ c. if c then named tell e else []) is ∙ of_named e (list_all is_part e.0) (silent e is)

-- ---- paths that are told

-- nothing is told of a thing, or its path
abbrev pub IsItsPath : (Path × Node → List Path) → Path × Node → Type 0
IsItsPath tell e = (tell e ≡ []) ⊎ (tell e ≡ e.0 ∷ [])

abbrev After : Path → List Path → Type 0
After p = AllByRecursion (λ (q : Path). path_cmp p q ≡ Less)

module _ (tell : Path × Node → List Path) (each : (e : Path × Node) → IsItsPath tell e) where
  after_told : (p : Path) (es : Things) → Behind p es → After p (flat_map tell es)
  after_told p [] h = tt
  after_told p (e ∷ es) h = elim (each e) [
    | inl none ↦ subst (λ (l : List Path). After p (l ++ flat_map tell es)) (sym none) (after_told p es h.1)
    | inr it ↦ subst (λ (l : List Path). After p (l ++ flat_map tell es)) (sym it) (h.0, after_told p es h.1)
  ]

  told_rise : (es : Things) → T (is_sorted path_cmp es) → IsStrictlySortedBy path_cmp (flat_map tell es)
  unfolding IsStrictlySortedBy
  told_rise [] s = tt
  told_rise (e ∷ es) s =
      let two = both _ _ s in
      let rest : IsStrictlySortedBy path_cmp (flat_map tell es) = told_rise es two.1 in
      elim (each e) [
        | inl none ↦ subst (λ (l : List Path). IsStrictlySortedBy path_cmp (l ++ flat_map tell es)) (sym none) rest
        | inr it ↦ subst (λ (l : List Path). IsStrictlySortedBy path_cmp (l ++ flat_map tell es)) (sym it) (after_told e.0 es (behind_of e.0 es two.0), rest)
      ]

-- paths that are told rise
pub all_within-rises : (tell : Path × Node → List Path) (f : Files) (q : Path) → ((e : Path × Node) → IsItsPath tell e) → IsStrictlySortedBy path_cmp (all_within tell f q)
unfolding all_within
all_within-rises tell f q each = told_rise (within q tell) within_each (entries f) (entries_sorted f)
  where
    of_named : (e : Path × Node) (b : Bool) → IsItsPath tell e → ((if b then tell e else []) ≡ []) ⊎ ((if b then tell e else []) ≡ e.0 ∷ [])
    of_named e true it = it
    of_named e false it = inl refl

    of_within : (e : Path × Node) (b : Bool) → (named tell e ≡ []) ⊎ (named tell e ≡ e.0 ∷ []) → ((if b then named tell e else []) ≡ []) ⊎ ((if b then named tell e else []) ≡ e.0 ∷ [])
    of_within e true it = it
    of_within e false it = inl refl

    within_each : (e : Path × Node) → IsItsPath (within q tell) e
    within_each e = of_within e (is_within q e.0) (of_named e (list_all is_part e.0) (each e))
