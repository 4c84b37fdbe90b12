-- Edits keep the shape of a tree, and the map in memory follows them.
use Rattle.std.proofs.Common.{◌≡◌, ◌≢◌, ◌∙◌, refl, sym, ap, subst, ℕ, zero, suc, ◌+◌, ◌<◌, List, [], ◌∷◌, ◌++◌, Bool, true, false, cond, Option, Some, IsTrue, is_some, length, take, map, get_or, add-one, arith, not, ◌&&◌}
use Rattle.std.proofs.lemmas.List.{same_from_push, take_more, length-map, map-append}
use Rattle.std.specs.Cmp.{tied_itself}
use Rattle.std.specs.Ordering.{eq_by_cmp, is_eq, ordering_then}
use Rattle.std.specs.List.{AllByRecursion}
use Rattle.std.specs.declared.cmp.Ordering.{Ordering}
use Rattle.std.specs.declared.cmp.Ordering.TheVariants.{Less, Equal, Greater}
use Rattle.std.specs.Cmp.{eq_by_cmp_equiv}
use Rattle.std.specs.Cmp.Lexicographic.{nat_list_cmp_total}
use Rattle.std.specs.FinMap.{insert, get-insert, same_map, IsAntisymmetric, slice_cmp-IsAntisymmetric, nat_cmp-IsAntisymmetric}
use Rattle.std.specs.BTreeMap.{BTreeMap, Updates, get}
use Rattle.base_types.specs.Path.{Path, path_cmp}
use Rattle.std.specs.List.{list_all}
use Rattle.std.proofs.lemmas.List.Folds.{list_all_at, list_all_more}
use Rattle.std.proofs.Math.Seq.{take-length}
use Rattle.tree_files.specs.Files.{Files, node_at, is_dir, is_file, IsDirAt, IsTree}
use Rattle.tree_files.specs.Edits.{prefixes, with_dir_at, with_dirs, HasParent, HasDirs, is_way_free}
use Rattle.tree_files.specs.MemFiles.{map_files}
use Rattle.tree_files.proofs.MemFilesLemmas.{path_total, get_by-node_at}
use Rattle.tree_files.specs.declared.tree.Node.{Node}
use Rattle.tree_files.specs.declared.tree.Node.TheVariants.{File, Dir}

path_exact : IsAntisymmetric path_cmp
path_exact = slice_cmp-IsAntisymmetric (slice_cmp-IsAntisymmetric nat_cmp-IsAntisymmetric)

-- the tree of a map after an insert
pub map_files-insert : (m n : BTreeMap Path Node) (p : Path) (x : Node) → Updates path_cmp m n p (Some x) → map_files n ≡ insert (map_files m) p x
map_files-insert m n p x u =
    same_map path_total path_exact _ _ (λ q.
    sym (get_by-node_at n q) ∙ u.0 q
    ∙ ap (λ b. cond b (Some x) (get path_cmp m q)) ((eq_by_cmp_equiv path_total).symm p q)
    ∙ ap (cond (eq_by_cmp path_cmp q p) (Some x)) (get_by-node_at m q)
    ∙ sym (get-insert path_total (map_files m) p x q))

equal : (o : Ordering) → is_eq o ≡ true → o ≡ Equal
equal Less e = cc
equal Equal e = refl
equal Greater e = cc

-- what stands at a path after an insert
same_or_not : (q p : Path) (b : Bool) → eq_by_cmp path_cmp q p ≡ b → (b ≡ true → q ≡ p)
same_or_not q p b e t = path_exact q p (equal (path_cmp q p) (e ∙ t))

node_at-insert : (f : Files) (p : Path) (x : Node) (q : Path) → node_at (insert f p x) q ≡ cond (eq_by_cmp path_cmp q p) (Some x) (node_at f q)
node_at-insert f p x q = get-insert path_total f p x q

dir_kept : (b : Bool) (x : Node) (o : Option Node) → is_dir (Some x) ≡ true → is_dir o ≡ true → is_dir (cond b (Some x) o) ≡ true
dir_kept true x o d h = d
dir_kept false x o d h = h

-- a directory where its parent is one keeps a tree
pub IsTree-insert_dir : (f : Files) (q : Path) (x : Node) → IsTree f → is_dir (Some x) ≡ true → HasParent f q → IsTree (insert f q x)
IsTree-insert_dir f q x t d parent = record {
  root = subst (λ o. IsTrue (is_dir o)) (sym (node_at-insert f q x [])) (dir_kept (eq_by_cmp path_cmp [] q) x (node_at f []) d t.root);
  inside = λ p part h. subst (λ o. IsTrue (is_dir o)) (sym (node_at-insert f q x p)) (dir_kept (eq_by_cmp path_cmp p q) x (node_at f p) d (below p part h));
} where
  below : (p : Path) (part : List ℕ) → IsTrue (is_some (node_at (insert f q x) (p ++ part ∷ []))) → IsDirAt f p
  below p part h =
      elim (eq_by_cmp path_cmp (p ++ part ∷ []) q) as (λ b. eq_by_cmp path_cmp (p ++ part ∷ []) q ≡ b → IsDirAt f p) [
        | true ↦ λ e. parent p part (sym (same_or_not (p ++ part ∷ []) q true e refl))
        | false ↦ λ e. t.inside p part (subst (λ o. IsTrue (is_some o)) (node_at-insert f q x (p ++ part ∷ []) ∙ ap (λ b. cond b (Some x) (node_at f (p ++ part ∷ []))) e) h)
      ] refl

true_first : (b : Bool) (x : Node) (o : Option Node) → b ≡ true → is_dir (Some x) ≡ true → is_dir (cond b (Some x) o) ≡ true
true_first true x o e d = d
true_first false x o e d = cc

pub IsDirAt-insert : (f : Files) (p : Path) (x : Node) → is_dir (Some x) ≡ true → IsDirAt (insert f p x) p
IsDirAt-insert f p x d =
    subst (λ o. IsTrue (is_dir o)) (sym (node_at-insert f p x p)) (true_first (eq_by_cmp path_cmp p p) x (node_at f p) (ap is_eq (tied_itself path_total p)) d)

pub HasParent-more : (g : Files) (p : Path) (n : ℕ) → n < length p → IsDirAt g (take n p) → HasParent g (take (n + 1) p)
HasParent-more g p n lt d q part e =
    let both = same_from_push (take n p) q (get_or p n []) part (sym (take_more p n [] lt) ∙ e) in
    subst (IsDirAt g) both.0 d

pub length-prefixes : (p : Path) → length (prefixes p) ≡ length p
length-prefixes [] = refl
length-prefixes (x ∷ p) = ap suc (length-map (prefixes p) (λ q. x ∷ q) ∙ length-prefixes p)

-- with one more directory
with_dirs-push : (f : Files) (ps : List Path) (p : Path) → with_dirs f (ps ++ p ∷ []) ≡ with_dir_at (with_dirs f ps) p
with_dirs-push f [] p = refl
with_dirs-push f (q ∷ ps) p = with_dirs-push (with_dir_at f q) ps p

take_map : (x : List ℕ) (ps : List Path) (n : ℕ) → take n (map (λ q. x ∷ q) ps) ≡ map (λ q. x ∷ q) (take n ps)
take_map x ps zero = refl
take_map x [] (suc n) = refl
take_map x (p ∷ ps) (suc n) = ap (λ r. (x ∷ p) ∷ r) (take_map x ps n)

prefixes_more : (p : Path) (n : ℕ) → n < length p → take (suc n) (prefixes p) ≡ take n (prefixes p) ++ take n p ∷ []
prefixes_more [] n h = absurd (omega arith)
prefixes_more (x ∷ p) zero h = refl
prefixes_more (x ∷ p) (suc n) h =
    let lt : n < length p = omega arith in
    ap (λ r. [] ∷ r) (take_map x (prefixes p) (suc n) ∙ ap (map (λ q. x ∷ q)) (prefixes_more p n lt) ∙ map-append _ _ _
    ∙ ap (λ r. r ++ (x ∷ take n p) ∷ []) (sym (take_map x (prefixes p) n)))

-- the n-th proper prefix
pub prefix_at : (p : Path) (n : ℕ) (d : Path) → n < length p → get_or (prefixes p) n d ≡ take n p
prefix_at p n d h =
    let below : n < length (prefixes p) = omega (arith, length-prefixes p) in
    (same_from_push (take n (prefixes p)) (take n (prefixes p)) (get_or (prefixes p) n d) (take n p) (sym (take_more (prefixes p) n d below) ∙ rw add-one (prefixes_more p n h))).1

pub with_dirs_more : (f : Files) (p : Path) (n : ℕ) → n < length p → with_dir_at (with_dirs f (take n (prefixes p))) (take n p) ≡ with_dirs f (take (n + 1) (prefixes p))
with_dirs_more f p n h = rw add-one (sym (ap (with_dirs f) (prefixes_more p n h) ∙ with_dirs-push f (take n (prefixes p)) (take n p)))

-- ---- a file

abbrev IsApart : Path → List Path → Type 0
IsApart q ps = AllByRecursion (λ p. eq_by_cmp path_cmp q p ≡ false) ps

chosen_apart : (b : Bool) (f : Files) (p q : Path) → eq_by_cmp path_cmp q p ≡ false → node_at (cond b f (insert f p (Dir 0))) q ≡ node_at f q
chosen_apart true f p q e = refl
chosen_apart false f p q e = node_at-insert f p (Dir 0) q ∙ ap (λ b. cond b (Some (Dir 0)) (node_at f q)) e

-- directories leave what is at other paths
with_dirs_apart : (f : Files) (ps : List Path) (q : Path) → IsApart q ps → node_at (with_dirs f ps) q ≡ node_at f q
with_dirs_apart f [] q a = refl
with_dirs_apart f (p ∷ ps) q a = with_dirs_apart (with_dir_at f p) ps q a.1 ∙ chosen_apart (is_dir (node_at f p)) f p q a.0

apart_map : (x : List ℕ) (p : Path) (ps : List Path) → IsApart p ps → IsApart (x ∷ p) (map (λ q. x ∷ q) ps)
apart_map x p [] a = tt
apart_map x p (q ∷ ps) a = (ap (λ o. is_eq (ordering_then o (path_cmp p q))) (tied_itself nat_list_cmp_total x) ∙ a.0, apart_map x p ps a.1)

apart_prefixes : (p : Path) → IsApart p (prefixes p)
apart_prefixes [] = tt
apart_prefixes (x ∷ p) = (refl, apart_map x p (prefixes p) (apart_prefixes p))

pub same_after_dirs : (f : Files) (p : Path) → node_at (with_dirs f (prefixes p)) p ≡ node_at f p
same_after_dirs f p = with_dirs_apart f (prefixes p) p (apart_prefixes p)

kept_dir : (f : Files) (q p : Path) (x : Node) → is_dir (node_at f q) ≡ false → IsDirAt f p → IsDirAt (insert f q x) p
kept_dir f q p x not_dir d =
    elim (eq_by_cmp path_cmp p q) as (λ b. eq_by_cmp path_cmp p q ≡ b → IsDirAt (insert f q x) p) [
      | true ↦ λ e. let same : p ≡ q = same_or_not p q true e refl in let was : is_dir (node_at f q) ≡ true = subst (λ r. IsDirAt f r) same d in cc
      | false ↦ λ e. subst (λ o. IsTrue (is_dir o)) (sym (node_at-insert f q x p ∙ ap (λ b. cond b (Some x) (node_at f p)) e)) d
    ] refl

-- a file where its parent is a directory, and no directory was, keeps a tree
pub IsTree-insert_file : (f : Files) (q : Path) (x : Node) → IsTree f → is_dir (node_at f q) ≡ false → HasParent f q → IsTree (insert f q x)
IsTree-insert_file f q x t not_dir parent = record {
  root = kept_dir f q [] x not_dir t.root;
  inside = λ p part h. kept_dir f q p x not_dir (below p part h);
} where
  below : (p : Path) (part : List ℕ) → IsTrue (is_some (node_at (insert f q x) (p ++ part ∷ []))) → IsDirAt f p
  below p part h =
      elim (eq_by_cmp path_cmp (p ++ part ∷ []) q) as (λ b. eq_by_cmp path_cmp (p ++ part ∷ []) q ≡ b → IsDirAt f p) [
        | true ↦ λ e. parent p part (sym (same_or_not (p ++ part ∷ []) q true e refl))
        | false ↦ λ e. t.inside p part (subst (λ o. IsTrue (is_some o)) (node_at-insert f q x (p ++ part ∷ []) ∙ ap (λ b. cond b (Some x) (node_at f (p ++ part ∷ []))) e) h)
      ] refl

-- a node where its parent is a directory, and a file only where no directory was, keeps a tree
pub IsTree-insert : (f : Files) (q : Path) (x : Node) → IsTree f → (is_dir (Some x) ≡ false → is_dir (node_at f q) ≡ false) → HasParent f q → IsTree (insert f q x)
IsTree-insert f q (File bytes) t keeps parent = IsTree-insert_file f q (File bytes) t (keeps refl) parent
IsTree-insert f q (Dir time) t keeps parent = IsTree-insert_dir f q (Dir time) t refl parent

-- all directories on the way were made
pub HasDirs-all : (f g h : Files) (p : Path) → g ≡ with_dirs f (prefixes p) → h ≡ g → HasDirs f p h
HasDirs-all f g h p e s = (length (prefixes p), s ∙ e ∙ ap (with_dirs f) (sym (take-length (prefixes p))))

-- whether no file is on the way, as far as n directories down
pub is_way_free_at : (f : Files) (p : Path) (n : ℕ) → n < length p → is_file (node_at f (take n p)) ≡ true → is_way_free f p ≡ false
is_way_free_at f p n h e =
    let below : n < length (prefixes p) = omega (arith, length-prefixes p) in
    list_all_at (λ q. not (is_file (node_at f q))) (prefixes p) n [] below (ap (λ q. not (is_file (node_at f q))) (prefix_at p n [] h) ∙ ap not e)

pub is_way_free_more : (f : Files) (p : Path) (n : ℕ) → n < length p → is_file (node_at f (take n p)) ≡ false
    → list_all (λ q. not (is_file (node_at f q))) (take n (prefixes p)) ≡ true → list_all (λ q. not (is_file (node_at f q))) (take (n + 1) (prefixes p)) ≡ true
is_way_free_more f p n h e all =
    let below : n < length (prefixes p) = omega (arith, length-prefixes p) in
    let last : not (is_file (node_at f (get_or (prefixes p) n []))) ≡ true = ap (λ q. not (is_file (node_at f q))) (prefix_at p n [] h) ∙ ap not e in
    list_all_more (λ q. not (is_file (node_at f q))) (prefixes p) n [] below ∙ ap (λ b. b && not (is_file (node_at f (get_or (prefixes p) n [])))) all ∙ last
