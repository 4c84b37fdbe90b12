-- What is found at a path among things and what replaces them.
use Rattle.std.proofs.Common.{◌≡◌, ◌∙◌, refl, sym, ap, List, [], ◌∷◌, ◌++◌, Bool, true, false, cond, not, ◌&&◌, ◌||◌, map, nat_eq, Option, Some, None, if◌then◌else◌, append-nil}
use Rattle.std.specs.Prelude.{T}
use Rattle.std.specs.List.{AllByRecursion, flat_map}
use Rattle.std.specs.Ordering.{is_lt, is_eq, eq_by_cmp, ordering_reverse}
use Rattle.std.specs.declared.cmp.Ordering.{Ordering}
use Rattle.std.specs.declared.cmp.Ordering.TheVariants.{Less, Equal, Greater}
use Rattle.std.specs.Cmp.{tied_itself}
use Rattle.std.specs.Cmp.Lexicographic.{pointwise, nat_list_eq_equiv}
use Rattle.std.specs.FinMap.{find, is_sorted}
use Rattle.std.specs.FinMap.Entries.{below_all}
use Rattle.base_types.specs.Path.{Path, path_cmp}
use Rattle.tree_files.specs.Edits.{prefixes, is_within}
use Rattle.tree_files.proofs.MemFilesLemmas.{path_total}
use Rattle.tree_files.specs.declared.tree.Node.{Node}
use Rattle.tree_files.specs.declared.tree.Node.TheVariants.{File, Dir}
use Rattle.tree_overlay.specs.Fates.{is_same}
use Rattle.tree_overlay.proofs.FateLemmas.{same_by, among, is_proper, proper_prefixes}
use Rattle.bundle_hook.specs.declared.bundle.Packed.{Packed}
use Rattle.bundle_hook.specs.Expand.{folder, file_below, holding}
use Rattle.bundle_hook.specs.Inside.{node_among, node_inside}

abbrev pub or_else : Option Node → Option Node → Option Node
or_else None o = o
or_else (Some x) o = Some x

step : (b : Bool) (x : Node) (o p : Option Node) → cond b (Some x) (or_else o p) ≡ or_else (cond b (Some x) o) p
step true x o p = refl
step false x o p = refl

pub find-both : (p : Path) (a b : List (Path × Node)) → find path_cmp p (a ++ b) ≡ or_else (find path_cmp p a) (find path_cmp p b)
find-both p [] b = refl
find-both p (e ∷ a) b = ap (cond (eq_by_cmp path_cmp p e.0) (Some e.1)) (find-both p a b) ∙ step (eq_by_cmp path_cmp p e.0) e.1 (find path_cmp p a) (find path_cmp p b)

pub find-one : (p q : Path) (x : Node) → find path_cmp p ((q, x) ∷ []) ≡ cond (is_same q p) (Some x) None
find-one p q x = ap (λ b. cond b (Some x) None) (same_by p q)

-- ---- below a path

same_below : (q a b : Path) → is_same (q ++ a) (q ++ b) ≡ is_same a b
same_below [] a b = refl
same_below (x ∷ q) a b = ap (λ c. c && is_same (q ++ a) (q ++ b)) (nat_list_eq_equiv.refl x) ∙ same_below q a b

pub same_front : (q r : Path) → is_same q (q ++ r) ≡ is_same [] r
same_front q r = ap (λ t. is_same t (q ++ r)) (sym (append-nil q)) ∙ same_below q [] r

same_apart_more : (a w s : Bool) → (w ≡ false → s ≡ false) → a && w ≡ false → a && s ≡ false
same_apart_more true w s h e = h e
same_apart_more false w s h e = refl

-- a path that is not within another is none of those below that one
same_apart : (q x p : Path) → is_within q p ≡ false → is_same (q ++ x) p ≡ false
same_apart [] x p e = cc
same_apart (y ∷ q) x [] e = refl
same_apart (y ∷ q) x (z ∷ p) e = same_apart_more (pointwise nat_eq y z) (is_within q p) (is_same (q ++ x) p) (same_apart q x p) e

-- ---- the folders on the way to a file

or_cond : (b c : Bool) (x : Node) (o : Option Node) → o ≡ cond c (Some x) None → cond b (Some x) o ≡ cond (b || c) (Some x) None
or_cond true c x o e = refl
or_cond false c x o e = e

find-folders : (q r : Path) (ps : List Path) → find path_cmp (q ++ r) (map (λ between. folder (q ++ between)) ps) ≡ cond (among ps r) (Some (Dir 0)) None
find-folders q r [] = refl
find-folders q r (x ∷ ps) =
    ap (λ b. cond b (Some (Dir 0)) (find path_cmp (q ++ r) (map (λ between. folder (q ++ between)) ps))) (same_by (q ++ r) (q ++ x) ∙ same_below q x r)
    ∙ or_cond (is_same x r) (among ps r) (Dir 0) _ (find-folders q r ps)

by_file : (s w : Bool) (x : Node) (o : Option Node) → or_else (or_else (cond (w && not s) (Some (Dir 0)) None) (cond s (Some x) None)) o ≡ (if s then Some x else (if w then Some (Dir 0) else o))
by_file true true x o = refl
by_file true false x o = refl
by_file false true x o = refl
by_file false false x o = refl

find-file : (q r : Path) (file : Packed) (o : Option Node) → or_else (find path_cmp (q ++ r) (file_below q file)) o ≡ (if is_same file.path r then Some (File file.bytes) else (if is_within r file.path then Some (Dir 0) else o))
find-file q r file o =
    ap (λ n. or_else n o)
    (find-both (q ++ r) (map (λ between. folder (q ++ between)) (prefixes file.path)) ((q ++ file.path, File file.bytes) ∷ [])
    ∙ ap (λ n. or_else n (find path_cmp (q ++ r) ((q ++ file.path, File file.bytes) ∷ []))) (find-folders q r (prefixes file.path) ∙ ap (λ b. cond b (Some (Dir 0)) None) (proper_prefixes r file.path))
    ∙ ap (or_else (cond (is_proper r file.path) (Some (Dir 0)) None)) (find-one (q ++ r) (q ++ file.path) (File file.bytes) ∙ ap (λ b. cond b (Some (File file.bytes)) None) (same_below q file.path r)))
    ∙ by_file (is_same file.path r) (is_within r file.path) (File file.bytes) o

find-files : (q r : Path) (files : List Packed) → find path_cmp (q ++ r) (flat_map (file_below q) files) ≡ node_among files r
find-files q r [] = refl
find-files q r (file ∷ files) =
    find-both (q ++ r) (file_below q file) (flat_map (file_below q) files)
    ∙ ap (or_else (find path_cmp (q ++ r) (file_below q file))) (find-files q r files)
    ∙ find-file q r file (node_among files r)

-- what is found below a bundle
pub find-holding : (q r : Path) (files : List Packed) → find path_cmp (q ++ r) (holding q files) ≡ node_inside files r
find-holding q [] files = ap (λ b. cond b (Some (Dir 0)) (find path_cmp (q ++ []) (flat_map (file_below q) files))) (same_by (q ++ []) q ∙ same_front q [])
find-holding q (x ∷ r) files =
    ap (λ b. cond b (Some (Dir 0)) (find path_cmp (q ++ x ∷ r) (flat_map (file_below q) files))) (same_by (q ++ x ∷ r) q ∙ same_front q (x ∷ r))
    ∙ find-files q (x ∷ r) files

-- ---- apart from a path

no_folders : (q p : Path) (ps : List Path) → is_within q p ≡ false → find path_cmp p (map (λ between. folder (q ++ between)) ps) ≡ None
no_folders q p [] e = refl
no_folders q p (x ∷ ps) e =
    ap (λ b. cond b (Some (Dir 0)) (find path_cmp p (map (λ between. folder (q ++ between)) ps))) (same_by p (q ++ x) ∙ same_apart q x p e) ∙ no_folders q p ps e

no_file : (q p : Path) (file : Packed) → is_within q p ≡ false → find path_cmp p (file_below q file) ≡ None
no_file q p file e =
    find-both p (map (λ between. folder (q ++ between)) (prefixes file.path)) ((q ++ file.path, File file.bytes) ∷ [])
    ∙ ap (λ n. or_else n (find path_cmp p ((q ++ file.path, File file.bytes) ∷ []))) (no_folders q p (prefixes file.path) e)
    ∙ find-one p (q ++ file.path) (File file.bytes) ∙ ap (λ b. cond b (Some (File file.bytes)) None) (same_apart q file.path p e)

no_files : (q p : Path) (files : List Packed) → is_within q p ≡ false → find path_cmp p (flat_map (file_below q) files) ≡ None
no_files q p [] e = refl
no_files q p (file ∷ files) e =
    find-both p (file_below q file) (flat_map (file_below q) files)
    ∙ ap (λ n. or_else n (find path_cmp p (flat_map (file_below q) files))) (no_file q p file e) ∙ no_files q p files e

pub no_holding : (q p : Path) (files : List Packed) → is_within q p ≡ false → find path_cmp p (holding q files) ≡ None
no_holding q p files e =
    ap (λ b. cond b (Some (Dir 0)) (find path_cmp p (flat_map (file_below q) files))) (same_by p q ∙ ap (λ t. is_same t p) (sym (append-nil q)) ∙ same_apart q [] p e)
    ∙ no_files q p files e

pub no_thing : (q p : Path) (x : Node) → is_within q p ≡ false → find path_cmp p ((q, x) ∷ []) ≡ None
no_thing q p x e = find-one p q x ∙ ap (λ b. cond b (Some x) None) (ap (λ t. is_same t p) (sym (append-nil q)) ∙ same_apart q [] p e)

-- ---- each thing of a sorted list is found

both : (a b : Bool) → T (a && b) → T a × T b
both true b h = (tt, h)
both false b h = absurd h

less : (o : Ordering) → T (is_lt o) → o ≡ Less
less Less h = refl
less Equal h = absurd h
less Greater h = absurd h

later : (a b : Path) → path_cmp a b ≡ Less → eq_by_cmp path_cmp b a ≡ false
later a b l = ap is_eq (path_total.antisymm b a ∙ ap ordering_reverse l)

abbrev pub Found : List (Path × Node) → List (Path × Node) → Type 0
Found whole es = AllByRecursion (λ e. find path_cmp e.0 whole ≡ Some e.1) es

found_later : (e : Path × Node) (whole es : List (Path × Node)) → T (below_all path_cmp e.0 es) → Found whole es → Found (e ∷ whole) es
found_later e whole [] b h = tt
found_later e whole (x ∷ es) b h =
    let two = both _ _ b in
    (ap (λ c. cond c (Some e.1) (find path_cmp x.0 whole)) (later e.0 x.0 (less _ two.0)) ∙ h.0, found_later e whole es two.1 h.1)

pub all_found : (es : List (Path × Node)) → T (is_sorted path_cmp es) → Found es es
all_found [] h = tt
all_found (e ∷ es) h =
    let two = both _ _ h in
    (ap (λ r. cond (is_eq r) (Some e.1) (find path_cmp e.0 es)) (tied_itself path_total e.0), found_later e es es two.0 (all_found es two.1))
