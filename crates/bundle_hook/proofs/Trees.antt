-- The expanded files are a tree.
use Rattle.std.proofs.Common.{◌≡◌, ◌∙◌, refl, sym, ap, ℕ, List, [], ◌∷◌, ◌++◌, Bool, true, false, ◌&&◌, nat_eq, Option, Some, None, IfSome, is_some, inl, inr, if◌then◌else◌, append-nil, append_assoc}
use Rattle.std.specs.Prelude.{◌⊎◌}
use Rattle.std.specs.List.{AllByRecursion}
use Rattle.std.specs.Cmp.Lexicographic.{pointwise, nat_list_eq_equiv}
use Rattle.base_types.specs.Path.{Path}
use Rattle.tree_files.specs.Edits.{is_within}
use Rattle.tree_files.specs.Files.{Files, IsTree, IsDirAt, node_at, is_dir}
use Rattle.tree_files.specs.declared.tree.Node.{Node}
use Rattle.tree_files.specs.declared.tree.Node.TheVariants.{File, Dir}
use Rattle.tree_overlay.specs.Fates.{is_same}
use Rattle.tree_overlay.proofs.FateLemmas.{same_is}
use Rattle.bundle_hook.specs.declared.bundle.Packed.{Packed}
use Rattle.bundle_hook.specs.Spelling.{Before, Ascend}
use Rattle.bundle_hook.specs.Bundle.{IsBundle, entries_of}
use Rattle.bundle_hook.specs.Files.{files_in}
use Rattle.bundle_hook.proofs.Filled.{filled_back}
use Rattle.bundle_hook.specs.Expand.{bundle_in, bundle_at, expand, expand_told, names_bundle}
use Rattle.bundle_hook.specs.Inside.{node_among, node_inside}
use Rattle.bundle_hook.proofs.Expanding.{above_is_dir, node_at-inside, node_at-outside}
use Rattle.bundle_hook.proofs.Leading.{no_name_no_bundle}

-- ---- what is known of a bundle

pub record Stored (q : Path) (n : Option Node) (files : List Packed) : Type 0 where
  pub bytes : List ℕ
  pub is : n ≡ Some (File bytes)
  pub bundle : IsBundle files bytes

pub stored : (q : Path) (n : Option Node) (files : List Packed) → bundle_in q n ≡ Some files → Stored q n files
stored q None files e = cc
stored q (Some (Dir time)) files e = cc
stored q (Some (File bytes)) files e = record { bytes = bytes; is = refl; bundle = filled_back files bytes (chosen (names_bundle q) (files_in bytes) e) } where
  chosen : (b : Bool) (o : Option (List Packed)) → (if b then o else None) ≡ Some files → o ≡ Some files
  chosen true o e = e
  chosen false o e = cc

-- ---- whether a path is in a bundle

pub record InBundle (f : Files) (p : Path) : Type 0 where
  pub path : Path
  pub rest : Path
  pub files : List Packed
  pub whole : p ≡ path ++ rest
  pub is : bundle_at f path ≡ Some files

abbrev pub NoneIn : Files → Path → Path → Type 0
NoneIn f front rest = (a b : Path) → rest ≡ a ++ b → bundle_at f (front ++ a) ≡ None

at_end : (f : Files) (front : Path) (o : Option (List Packed)) → bundle_at f front ≡ o → InBundle f (front ++ []) ⊎ NoneIn f front []
at_end f front (Some files) is = inl (record { path = front; rest = []; files = files; whole = refl; is = is })
at_end f front None is = inr none where
  none : NoneIn f front []
  none [] b e = ap (bundle_at f) (append-nil front) ∙ is
  none (x ∷ a) b e = cc

going_on : (f : Files) (front : Path) (x : List ℕ) (rest : Path) (o : Option (List Packed)) → bundle_at f front ≡ o → InBundle f ((front ++ x ∷ []) ++ rest) ⊎ NoneIn f (front ++ x ∷ []) rest → InBundle f (front ++ x ∷ rest) ⊎ NoneIn f front (x ∷ rest)
going_on f front x rest (Some files) is more = inl (record { path = front; rest = x ∷ rest; files = files; whole = refl; is = is })
going_on f front x rest None is (inl i) = inl (record { path = i.path; rest = i.rest; files = i.files; whole = sym (append_assoc front (x ∷ []) rest) ∙ i.whole; is = i.is })
going_on f front x rest None is (inr below) = inr none where
  none : NoneIn f front (x ∷ rest)
  none [] b e = ap (bundle_at f) (append-nil front) ∙ is
  none (y ∷ a) b e =
      let same : x ≡ y = cc in
      let behind : rest ≡ a ++ b = cc in
      ap (λ t. bundle_at f (front ++ t ∷ a)) (sym same) ∙ ap (bundle_at f) (sym (append_assoc front (x ∷ []) a)) ∙ below a b behind

seek : (f : Files) (front rest : Path) → InBundle f (front ++ rest) ⊎ NoneIn f front rest
seek f front [] = at_end f front (bundle_at f front) refl
seek f front (x ∷ rest) = going_on f front x rest (bundle_at f front) refl (seek f (front ++ x ∷ []) rest)

pub in_bundle : (f : Files) (p : Path) → InBundle f p ⊎ ((a b : Path) → p ≡ a ++ b → bundle_at f a ≡ None)
in_bundle f p = seek f [] p

-- ---- a name in a folder

pub split : (dir q r : Path) (name : List ℕ) → dir ++ name ∷ [] ≡ q ++ r → (q ≡ dir ++ name ∷ []) ⊎ ((rest : Path) × (dir ≡ q ++ rest))
split dir [] r name e = inr (dir, refl)
split [] (x ∷ []) r name e = let same : name ≡ x = cc in inl (ap (λ t. t ∷ []) (sym same))
split [] (x ∷ y ∷ q) r name e = cc
split (z ∷ dir) (x ∷ q) r name e =
    let same : z ≡ x = cc in
    let behind : dir ++ name ∷ [] ≡ q ++ r = cc in
    elim (split dir q r name behind) [
      | inl is ↦ inl (ap (λ t. t ∷ q) (sym same) ∙ ap (λ t. z ∷ t) is)
      | inr is ↦ inr (is.0, ap (λ t. t ∷ dir) same ∙ ap (λ t. x ∷ t) is.1)
    ]

dir_there : (n : Option Node) → is_dir n ≡ true → is_some n ≡ true
dir_there None e = cc
dir_there (Some x) e = refl

dir_no_bundle : (q : Path) (n : Option Node) → is_dir n ≡ true → bundle_in q n ≡ None
dir_no_bundle q None e = refl
dir_no_bundle q (Some (Dir time)) e = refl
dir_no_bundle q (Some (File bytes)) e = cc

-- no bundle stands at a directory or above
pub none_above : (f : Files) → IsTree f → (dir : Path) → IsDirAt f dir → (q r : Path) → dir ≡ q ++ r → bundle_at f q ≡ None
none_above f t dir is q [] e = dir_no_bundle q (node_at f q) (ap (λ p. is_dir (node_at f p)) (sym (e ∙ append-nil q)) ∙ is)
none_above f t dir is q (x ∷ r) e = dir_no_bundle q (node_at f q) (above_is_dir f t q x r (ap (λ p. is_some (node_at f p)) (sym e) ∙ dir_there (node_at f dir) is))

-- what stands in a folder still does, a bundle as a folder
module _ (f : Files) (t : IsTree f) (dir : Path) (name : List ℕ) (none : (q r : Path) → dir ≡ q ++ r → bundle_at f q ≡ None) where
  by_bundle : (o : Option (List Packed)) → bundle_at f (dir ++ name ∷ []) ≡ o → is_some (node_at (expand f) (dir ++ name ∷ [])) ≡ is_some (node_at f (dir ++ name ∷ []))
  by_bundle (Some files) is =
      let s = stored (dir ++ name ∷ []) (node_at f (dir ++ name ∷ [])) files is in
      ap (λ p. is_some (node_at (expand f) p)) (sym (append-nil (dir ++ name ∷ []))) ∙ ap is_some (node_at-inside f t (dir ++ name ∷ []) [] files is) ∙ sym (ap is_some s.is)
  by_bundle None is =
      ap is_some (node_at-outside f (dir ++ name ∷ []) (λ q r e. elim (split dir q r name e) [
        | inl same ↦ ap (bundle_at f) same ∙ is
        | inr above ↦ none q above.0 above.1
      ]))

  pub child_stays : is_some (node_at (expand f) (dir ++ name ∷ [])) ≡ is_some (node_at f (dir ++ name ∷ []))
  child_stays = by_bundle (bundle_at f (dir ++ name ∷ [])) refl

-- ---- paths that lie within one another

pub within_self : (p : Path) → is_within p p ≡ true
within_self [] = refl
within_self (x ∷ p) = ap (λ b. b && is_within p p) (nat_list_eq_equiv.refl x) ∙ within_self p

not_within : (p : Path) (name : List ℕ) → is_within (p ++ name ∷ []) p ≡ false
not_within [] name = refl
not_within (x ∷ p) name = ap (λ b. b && is_within (p ++ name ∷ []) p) (nat_list_eq_equiv.refl x) ∙ not_within p name

apart_more : (a w v : Bool) → (w ≡ false → v ≡ false) → a && w ≡ false → a && v ≡ false
apart_more true w v h e = h e
apart_more false w v h e = refl

apart_front : (q r p : Path) → is_within q p ≡ false → is_within (q ++ r) p ≡ false
apart_front [] r p e = cc
apart_front (x ∷ q) r [] e = refl
apart_front (x ∷ q) r (y ∷ p) e = apart_more (pointwise nat_eq x y) (is_within q p) (is_within (q ++ r) p) (apart_front q r p) e

not_same : (q p : Path) → is_within p q ≡ false → is_same q p ≡ false
not_same q p e = by (is_same q p) refl where
  by : (b : Bool) → is_same q p ≡ b → b ≡ false
  by true s = let w : is_within p q ≡ true = ap (is_within p) (sym (same_is p q s)) ∙ within_self p in cc
  by false s = refl

pub skips : (file : Packed) (files : List Packed) (p : Path) → is_within p file.path ≡ false → node_among (file ∷ files) p ≡ node_among files p
skips file files p e =
    ap (λ b. if b then Some (File file.bytes) else (if is_within p file.path then Some (Dir 0) else node_among files p)) (not_same file.path p e)
    ∙ ap (λ b. if b then Some (Dir 0) else node_among files p) e

nothing_below : (files : List Packed) (q : Path) (name : List ℕ) → AllByRecursion (λ e. Before q e.path) (entries_of files) → node_among files (q ++ name ∷ []) ≡ None
nothing_below [] q name all = refl
nothing_below (file ∷ files) q name all = skips file files (q ++ name ∷ []) (apart_front q (name ∷ []) file.path all.0.1) ∙ nothing_below files q name all.1

folder_there : (files : List Packed) (p : Path) (name : List ℕ) → Ascend (entries_of files) → is_some (node_among files (p ++ name ∷ [])) ≡ true → is_dir (node_among files p) ≡ true
folder_there [] p name asc some = cc
folder_there (file ∷ files) p name asc some = by (is_same file.path p) (is_within p file.path) refl refl (folder_there files p name asc.1)
  where
    by : (s w : Bool) → is_same file.path p ≡ s → is_within p file.path ≡ w → (is_some (node_among files (p ++ name ∷ [])) ≡ true → is_dir (node_among files p) ≡ true)
        → is_dir (if s then Some (File file.bytes) else (if w then Some (Dir 0) else node_among files p)) ≡ true
    by true w s is more =
        let same : p ≡ file.path = same_is p file.path s in
        let below : node_among files (p ++ name ∷ []) ≡ None = ap (λ q. node_among files (q ++ name ∷ [])) same ∙ nothing_below files file.path name asc.0 in
        let head : node_among (file ∷ files) (p ++ name ∷ []) ≡ node_among files (p ++ name ∷ []) = skips file files (p ++ name ∷ []) (ap (is_within (p ++ name ∷ [])) (sym same) ∙ not_within p name) in
        let bad : ◌≡◌ {A = Bool} false true = sym (ap is_some (head ∙ below)) ∙ some in
        cc
    by false true s is more = refl
    by false false s is more = more (ap is_some (sym (skips file files (p ++ name ∷ []) (apart_front p (name ∷ []) file.path is))) ∙ some)

folder_inside : (files : List Packed) (p : Path) (name : List ℕ) → Ascend (entries_of files) → is_some (node_inside files (p ++ name ∷ [])) ≡ true → is_dir (node_inside files p) ≡ true
folder_inside files [] name asc some = refl
folder_inside files (x ∷ p) name asc some = folder_there files (x ∷ p) name asc some

-- ---- the tree

root_stays : (f : Files) → node_at (expand f) [] ≡ node_at f []
root_stays f = node_at-outside f [] none where
  none : (q r : Path) → [] ≡ q ++ r → bundle_at f q ≡ None
  none [] r e = no_name_no_bundle [] (node_at f []) refl
  none (x ∷ q) r e = cc

module _ (f : Files) (t : IsTree f) (p : Path) (name : List ℕ) (some : is_some (node_at (expand f) (p ++ name ∷ [])) ≡ true) where
  above_in : InBundle f p → IsDirAt (expand f) p
  above_in i =
      let s = stored i.path (node_at f i.path) i.files i.is in
      let child : node_at (expand f) (p ++ name ∷ []) ≡ node_inside i.files (i.rest ++ name ∷ []) =
      ap (λ q. node_at (expand f) (q ++ name ∷ [])) i.whole ∙ ap (node_at (expand f)) (append_assoc i.path i.rest (name ∷ [])) ∙ node_at-inside f t i.path (i.rest ++ name ∷ []) i.files i.is in
      ap is_dir (ap (node_at (expand f)) i.whole ∙ node_at-inside f t i.path i.rest i.files i.is) ∙ folder_inside i.files i.rest name s.bundle.entries.ascend (ap is_some (sym child) ∙ some)

  above_out : ((a b : Path) → p ≡ a ++ b → bundle_at f a ≡ None) → IsDirAt (expand f) p
  above_out none =
      ap is_dir (node_at-outside f p none) ∙ t.inside p name (sym (child_stays f t p name none) ∙ some)

  above_dir : IsDirAt (expand f) p
  above_dir = elim (in_bundle f p) [ inl i ↦ above_in i | inr none ↦ above_out none ]

pub IsTree-expand : (f : Files) → IsTree f → IsTree (expand f)
IsTree-expand f t = record {
  root = ap is_dir (root_stays f) ∙ t.root;
  inside = λ p name some. above_dir f t p name some;
}

pub tree_told : (told : Option Files) → IfSome told IsTree → IfSome (expand_told told) IsTree
tree_told None t = t
tree_told (Some f) t = IsTree-expand f t
