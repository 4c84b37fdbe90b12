-- The names in a directory are those that the paths of a map have there.
use Rattle.std.proofs.Common.{◌≡◌, ◌∙◌, refl, sym, ap, subst, ℕ, List, [], ◌∷◌, ◌++◌, Bool, true, false, cond, ◌&&◌, ◌||◌, Option, None, Some, is_some, nat_eq, map, length, arith}
use Rattle.std.specs.List.{filter_map, cons_option, AllByRecursion}
use Rattle.std.specs.List.Sorted.{IsStrictlySortedBy}
use Rattle.std.specs.Ordering.{nat_cmp, eq_by_cmp, ordering_then}
use Rattle.std.specs.declared.cmp.Ordering.{Ordering}
use Rattle.std.specs.declared.cmp.Ordering.TheVariants.{Less, Equal, Greater}
use Rattle.std.specs.Cmp.{tied_itself}
use Rattle.std.specs.Cmp.Lexicographic.{pointwise, slice_cmp, bytes_decides, nat_list_eq_equiv, nat_list_cmp_total, lists_ties, texts_ties}
use Rattle.std.specs.FinMap.{find}
use Rattle.base_types.specs.Path.{Path, path_cmp}
use Rattle.tree_files.specs.Files.{name_below, has_name}
use Rattle.tree_files.specs.declared.tree.Node.{Node}

abbrev same : List ℕ → List ℕ → Bool
same = pointwise nat_eq

pub none_at_root : (dir : Path) → name_below dir [] ≡ None
none_at_root [] = refl
none_at_root (d ∷ ds) = refl

too_short : (b : Bool) (o : Option (List ℕ)) → o ≡ None → cond b o None ≡ None
too_short true o e = e
too_short false o e = refl

step : (b c : Bool) (o : Option (List ℕ)) (name : List ℕ) → o ≡ cond c (Some name) None → cond b o None ≡ cond (b && c) (Some name) None
step true c o name e = e
step false c o name e = refl

-- a path is its last part below the rest
pub name_below-append : (dir front : Path) (name : List ℕ) → name_below dir (front ++ name ∷ []) ≡ cond (pointwise same dir front) (Some name) None
name_below-append [] [] name = refl
name_below-append [] (f ∷ []) name = refl
name_below-append [] (f ∷ (g ∷ fs)) name = refl
name_below-append (d ∷ ds) [] name = too_short (same d name) (name_below ds []) (none_at_root ds)
name_below-append (d ∷ ds) (f ∷ fs) name = step (same d f) (pointwise same ds fs) _ name (name_below-append ds fs name)

abbrev is_it : List ℕ → Option (List ℕ) → Bool
is_it name None = false
is_it name (Some other) = same other name

and_true : (b : Bool) → b && true ≡ b
and_true true = refl
and_true false = refl

and_false : (b : Bool) → b && false ≡ false
and_false true = refl
and_false false = refl

is_it-cond : (b c : Bool) (name : List ℕ) (o : Option (List ℕ)) → c ≡ is_it name o → b && c ≡ is_it name (cond b o None)
is_it-cond true c name o e = e
is_it-cond false c name o e = refl

-- the path of a name in the directory
path_of : (dir p : Path) (name : List ℕ) → pointwise same (dir ++ name ∷ []) p ≡ is_it name (name_below dir p)
path_of [] [] name = refl
path_of [] (x ∷ []) name = and_true (same name x) ∙ nat_list_eq_equiv.symm name x
path_of [] (x ∷ (y ∷ rest)) name = and_false (same name x)
path_of (d ∷ ds) [] name = refl
path_of (d ∷ ds) (x ∷ xs) name = is_it-cond (same d x) _ name (name_below ds xs) (path_of ds xs name)

has_more : (names : List (List ℕ)) (name : List ℕ) (o : Option (List ℕ)) → has_name (cons_option o names) name ≡ is_it name o || has_name names name
has_more names name None = refl
has_more names name (Some x) = refl

is_some_more : (b c : Bool) (x : Node) (o : Option Node) → c ≡ is_some o → b || c ≡ is_some (cond b (Some x) o)
is_some_more true c x o e = refl
is_some_more false c x o e = e

-- a name is among those that stand in the directory where the map has its path
pub has_name-find : (dir : Path) (name : List ℕ) (es : List (Path × Node))
    → has_name (filter_map (name_below dir) (map (λ e. e.0) es)) name ≡ is_some (find path_cmp (dir ++ name ∷ []) es)
has_name-find dir name [] = refl
has_name-find dir name (e ∷ es) =
    has_more _ name (name_below dir e.0)
    ∙ ap (λ b. b || has_name (filter_map (name_below dir) (map (λ e. e.0) es)) name) (sym (path_of dir e.0 name) ∙ lists_ties (slice_cmp nat_cmp) texts_ties (dir ++ name ∷ []) e.0)
    ∙ is_some_more (eq_by_cmp path_cmp (dir ++ name ∷ []) e.0) _ e.1 _ (has_name-find dir name es)

-- ---- the order

below_then : (o : Ordering) → ordering_then o Equal ≡ Less → o ≡ Less
below_then Less e = refl
below_then Equal e = cc
below_then Greater e = cc

not_some : {A : Type 0} (x : A) → ◌≡◌ {A = Option A} None (Some x) → ⊥
not_some x e = cc

through : (x y : List ℕ) (r : Ordering) → x ≡ y → ordering_then (slice_cmp nat_cmp x y) r ≡ Less → r ≡ Less
through x y r same e =
    subst (λ o. ordering_then o r ≡ Less) (ap (λ z. slice_cmp nat_cmp z y) same ∙ tied_itself nat_list_cmp_total y) e

in_part : (b : Bool) (o : Option (List ℕ)) (a : List ℕ) → cond b o None ≡ Some a → (b ≡ true) × (o ≡ Some a)
in_part true o a e = (refl, e)
in_part false o a e = absurd (not_some a e)

-- the names are in the order of their paths
ordered : (dir p q : Path) (a b : List ℕ) → name_below dir p ≡ Some a → name_below dir q ≡ Some b → path_cmp p q ≡ Less → slice_cmp nat_cmp a b ≡ Less
ordered [] [] q a b e f l = absurd (not_some a e)
ordered [] (x ∷ (y ∷ r)) q a b e f l = absurd (not_some a e)
ordered [] (x ∷ []) [] a b e f l = absurd (not_some b f)
ordered [] (x ∷ []) (z ∷ (y ∷ r)) a b e f l = absurd (not_some b f)
ordered [] (x ∷ []) (z ∷ []) a b e f l =
    let same_x : x ≡ a = cc in
    let same_z : z ≡ b = cc in
    subst (λ u. slice_cmp nat_cmp u b ≡ Less) same_x (subst (λ u. slice_cmp nat_cmp x u ≡ Less) same_z (below_then _ l))
ordered (d ∷ ds) [] q a b e f l = absurd (not_some a e)
ordered (d ∷ ds) (x ∷ xs) [] a b e f l = absurd (not_some b f)
ordered (d ∷ ds) (x ∷ xs) (y ∷ ys) a b e f l =
    let p = in_part (same d x) (name_below ds xs) a e in
    let q = in_part (same d y) (name_below ds ys) b f in
    let equal : x ≡ y = sym ((bytes_decides d x).0 p.0) ∙ (bytes_decides d y).0 q.0 in
    ordered ds xs ys a b p.1 q.1 (through x y _ equal l)

all_more : (a : List ℕ) (o : Option (List ℕ)) (names : List (List ℕ)) → ((b : List ℕ) → o ≡ Some b → slice_cmp nat_cmp a b ≡ Less)
    → AllByRecursion (λ b. slice_cmp nat_cmp a b ≡ Less) names → AllByRecursion (λ b. slice_cmp nat_cmp a b ≡ Less) (cons_option o names)
all_more a None names first rest = rest
all_more a (Some b) names first rest = (first b refl, rest)

all_below : (dir p : Path) (a : List ℕ) (ps : List Path) → name_below dir p ≡ Some a → AllByRecursion (λ q. path_cmp p q ≡ Less) ps
    → AllByRecursion (λ b. slice_cmp nat_cmp a b ≡ Less) (filter_map (name_below dir) ps)
all_below dir p a [] e h = tt
all_below dir p a (q ∷ ps) e h =
    all_more a (name_below dir q) _ (λ b f. ordered dir p q a b e f h.0) (all_below dir p a ps e h.1)

sorted_more : (o : Option (List ℕ)) (names : List (List ℕ)) → ((a : List ℕ) → o ≡ Some a → AllByRecursion (λ b. slice_cmp nat_cmp a b ≡ Less) names)
    → IsStrictlySortedBy (slice_cmp nat_cmp) names → IsStrictlySortedBy (slice_cmp nat_cmp) (cons_option o names)
unfolding IsStrictlySortedBy
sorted_more None names first rest = rest
sorted_more (Some a) names first rest = (first a refl, rest)

pub names_sorted : (dir : Path) (ps : List Path) → IsStrictlySortedBy path_cmp ps → IsStrictlySortedBy (slice_cmp nat_cmp) (filter_map (name_below dir) ps)
unfolding IsStrictlySortedBy
names_sorted dir [] s = tt
names_sorted dir (p ∷ ps) s = sorted_more (name_below dir p) _ (λ a e. all_below dir p a ps e s.0) (names_sorted dir ps s.1)

pub none_below_empty : (dir p : Path) → length p ≡ 0 → name_below dir p ≡ None
none_below_empty dir [] e = none_at_root dir
none_below_empty dir (x ∷ p) e = absurd (omega arith)

pub ruleset below = (name_below-append, none_below_empty)
