-- What stands at a path of the edited files, by the fate of the path.
use Rattle.std.proofs.Common.{◌≡◌, ◌∙◌, refl, sym, ap, ℕ, List, [], ◌∷◌, Bool, true, false, cond, not, ◌&&◌, ◌||◌, Option, None, Some, nat_eq, map, if◌then◌else◌}
use Rattle.std.specs.List.{list_any}
use Rattle.std.specs.Ordering.{eq_by_cmp, nat_cmp, is_eq}
use Rattle.std.specs.declared.cmp.Ordering.{Ordering}
use Rattle.std.specs.declared.cmp.Ordering.TheVariants.{Less, Equal, Greater}
use Rattle.std.specs.Cmp.{eq_by_cmp_equiv}
use Rattle.std.specs.Cmp.Lexicographic.{pointwise, slice_cmp, nat_list_eq_equiv, lists_ties, texts_ties}
use Rattle.std.specs.FinMap.{insert, get-insert, get-retain_keys, IsAntisymmetric, slice_cmp-IsAntisymmetric, nat_cmp-IsAntisymmetric}
use Rattle.base_types.specs.Path.{Path, path_cmp}
use Rattle.tree_files.specs.Files.{Files, node_at, is_dir}
use Rattle.tree_files.specs.Edits.{prefixes, with_dir_at, with_dirs, is_within, cleared, edited_once, edited}
use Rattle.tree_files.proofs.MemFilesLemmas.{path_total}
use Rattle.tree_files.specs.declared.tree.Node.{Node}
use Rattle.tree_files.specs.declared.tree.Node.TheVariants.{File, Dir}
use Rattle.tree_files.specs.declared.edit.Edit.{Edit}
use Rattle.tree_files.specs.declared.edit.Edit.TheVariants as edit
use Rattle.tree_overlay.specs.Fates.{Fate, Kept, Way, Put, Gone, node_by, is_same, way, after, fate_from, fate_of}

pub path_exact : IsAntisymmetric path_cmp
path_exact = slice_cmp-IsAntisymmetric (slice_cmp-IsAntisymmetric nat_cmp-IsAntisymmetric)

equal : (o : Ordering) → is_eq o ≡ true → o ≡ Equal
equal Less e = cc
equal Equal e = refl
equal Greater e = cc

-- the two tests of sameness agree
pub same_by : (p q : Path) → eq_by_cmp path_cmp p q ≡ is_same q p
same_by p q = (eq_by_cmp_equiv path_total).symm p q ∙ sym (lists_ties (slice_cmp nat_cmp) texts_ties q p)

pub same_is : (p q : Path) → is_same q p ≡ true → p ≡ q
same_is p q e = path_exact p q (equal (path_cmp p q) (same_by p q ∙ e))

pub same_refl : (p : Path) → is_same p p ≡ true
same_refl [] = refl
same_refl (x ∷ p) = ap (λ b. b && is_same p p) (nat_list_eq_equiv.refl x) ∙ same_refl p

pub node_at-insert : (f : Files) (q : Path) (x : Node) (p : Path) → node_at (insert f q x) p ≡ cond (is_same q p) (Some x) (node_at f p)
node_at-insert f q x p = get-insert path_total f q x p ∙ ap (λ b. cond b (Some x) (node_at f p)) (same_by p q)

pub node_at-cleared : (f : Files) (q p : Path) → node_at (cleared f q) p ≡ cond (not (is_within q p)) (node_at f p) None
node_at-cleared f q p = get-retain_keys f (λ r. not (is_within q r)) p (λ x e. ap (λ r. not (is_within q r)) (sym (path_exact p x e)))

-- ---- directories on the way

abbrev pub way_if : Bool → Option Node → Option Node
way_if true n = node_by Way n
way_if false n = n

way_again : (n : Option Node) → node_by Way (node_by Way n) ≡ node_by Way n
way_again None = refl
way_again (Some (File bytes)) = refl
way_again (Some (Dir time)) = refl

way_both : (a b : Bool) (n : Option Node) → way_if b (way_if a n) ≡ way_if (a || b) n
way_both true true n = way_again n
way_both true false n = refl
way_both false b n = refl

way_dir : (b : Bool) (n : Option Node) → is_dir n ≡ b → b ≡ true → n ≡ node_by Way n
way_dir b n e t = ap (λ c. if c then n else Some (Dir 0)) (sym (e ∙ t))

way_made : (n : Option Node) → is_dir n ≡ false → ◌≡◌ {A = Option Node} (Some (Dir 0)) (node_by Way n)
way_made n e = ap (λ c. if c then n else Some (Dir 0)) (sym e)

dir_at_by : (f : Files) (x p : Path) (b s : Bool) → is_dir (node_at f x) ≡ b → is_same x p ≡ s → node_at (if b then f else insert f x (Dir 0)) p ≡ way_if s (node_at f p)
dir_at_by f x p true true e t =
    let d : is_dir (node_at f p) ≡ true = ap (λ r. is_dir (node_at f r)) (same_is p x t) ∙ e in
    way_dir true (node_at f p) d refl
dir_at_by f x p true false e t = refl
dir_at_by f x p false true e t =
    let d : is_dir (node_at f p) ≡ false = ap (λ r. is_dir (node_at f r)) (same_is p x t) ∙ e in
    node_at-insert f x (Dir 0) p ∙ ap (λ c. cond c (Some (Dir 0)) (node_at f p)) t ∙ way_made (node_at f p) d
dir_at_by f x p false false e t = node_at-insert f x (Dir 0) p ∙ ap (λ c. cond c (Some (Dir 0)) (node_at f p)) t

abbrev pub among : List Path → Path → Bool
among ps p = list_any (λ x. is_same x p) ps

pub node_at-with_dirs : (f : Files) (ps : List Path) (p : Path) → node_at (with_dirs f ps) p ≡ way_if (among ps p) (node_at f p)
node_at-with_dirs f [] p = refl
node_at-with_dirs f (x ∷ ps) p =
    node_at-with_dirs (with_dir_at f x) ps p
    ∙ ap (way_if (among ps p)) (dir_at_by f x p (is_dir (node_at f x)) (is_same x p) refl refl)
    ∙ way_both (is_same x p) (among ps p) (node_at f p)

-- ---- proper prefixes

abbrev pub is_proper : Path → Path → Bool
is_proper p q = is_within p q && not (is_same q p)

any_and : (a : Bool) (y : List ℕ) (xs : Path) (x : List ℕ) (ps : List Path) → pointwise nat_eq y x ≡ a → among (map (λ r. y ∷ r) ps) (x ∷ xs) ≡ a && among ps xs
any_and true y xs x [] e = refl
any_and false y xs x [] e = refl
any_and true y xs x (p ∷ ps) e = rw (e, any_and true y xs x ps e) refl
any_and false y xs x (p ∷ ps) e = rw (e, any_and false y xs x ps e) refl

tidy : (a w s : Bool) → a && (w && not s) ≡ (a && w) && not (a && s)
tidy true w s = refl
tidy false w s = refl

pub proper_prefixes : (p q : Path) → among (prefixes q) p ≡ is_proper p q
proper_prefixes [] [] = refl
proper_prefixes (x ∷ xs) [] = refl
proper_prefixes [] (y ∷ ys) = refl
proper_prefixes (x ∷ xs) (y ∷ ys) =
    any_and (pointwise nat_eq y x) y xs x (prefixes ys) refl
    ∙ ap (λ b. pointwise nat_eq y x && b) (proper_prefixes xs ys)
    ∙ tidy (pointwise nat_eq y x) (is_within xs ys) (is_same ys xs)
    ∙ ap (λ b. (b && is_within xs ys) && not (pointwise nat_eq y x && is_same ys xs)) (nat_list_eq_equiv.symm y x)

both_parts : (xs ys : Path) (c d : Bool) → (is_within ys xs ≡ true → is_within xs ys ≡ true → is_same ys xs ≡ true)
    → c && is_within ys xs ≡ true → d && is_within xs ys ≡ true → c && is_same ys xs ≡ true
both_parts xs ys true true h u v = h u v
both_parts xs ys true false h u v = cc
both_parts xs ys false d h u v = cc

-- paths that lie within each other are the same
both_within : (p q : Path) → is_within q p ≡ true → is_within p q ≡ true → is_same q p ≡ true
both_within [] [] a b = refl
both_within (x ∷ xs) [] a b = cc
both_within [] (y ∷ ys) a b = cc
both_within (x ∷ xs) (y ∷ ys) a b = both_parts xs ys (pointwise nat_eq y x) (pointwise nat_eq x y) (both_within xs ys) a b

-- ---- one edit

filed : (n : Option Node) (x : Node) (s w v : Bool) → (w ≡ true → v ≡ true → s ≡ true)
    → cond s (Some x) (way_if (v && not s) (cond (not w) n None)) ≡ node_by (if s then Put x else (if w then Gone else (if v then Way else Kept))) n
filed n x true w v h = refl
filed n x false true true h = let bad : ◌≡◌ {A = Bool} false true = h refl refl in cc
filed n x false true false h = refl
filed n x false false true h = refl
filed n x false false false h = refl

made : (n : Option Node) (x : Node) (s v : Bool) → cond s (Some x) (way_if (v && not s) n) ≡ node_by (if s then Put x else (if v then Way else Kept)) n
made n x true v = refl
made n x false true = refl
made n x false false = refl

removed : (n : Option Node) (w : Bool) → cond (not w) n None ≡ node_by (if w then Gone else Kept) n
removed n true = refl
removed n false = refl

pub after-edit : (f : Files) (e : Edit) (p : Path) → node_at (edited_once f e) p ≡ node_by (after e p Kept) (node_at f p)
after-edit f (edit.File q bytes) p =
    node_at-insert (with_dirs (cleared f q) (prefixes q)) q (File bytes) p
    ∙ ap (cond (is_same q p) (Some (File bytes))) (node_at-with_dirs (cleared f q) (prefixes q) p ∙ ap (λ b. way_if b (node_at (cleared f q) p)) (proper_prefixes p q) ∙ ap (way_if (is_proper p q)) (node_at-cleared f q p))
    ∙ filed (node_at f p) (File bytes) (is_same q p) (is_within q p) (is_within p q) (both_within p q)
after-edit f (edit.Dir q time) p =
    node_at-insert (with_dirs f (prefixes q)) q (Dir time) p
    ∙ ap (cond (is_same q p) (Some (Dir time))) (node_at-with_dirs f (prefixes q) p ∙ ap (λ b. way_if b (node_at f p)) (proper_prefixes p q))
    ∙ made (node_at f p) (Dir time) (is_same q p) (is_within p q)
after-edit f (edit.Remove q) p = node_at-cleared f q p ∙ removed (node_at f p) (is_within q p)

-- ---- edits one after another

way_node : (fate : Fate) (n : Option Node) → node_by Way (node_by fate n) ≡ node_by (way fate) n
way_node Kept n = refl
way_node Way n = way_again n
way_node (Put (Dir time)) n = refl
way_node (Put (File bytes)) n = refl
way_node Gone n = refl

filed_again : (fate : Fate) (n : Option Node) (x : Node) (s w v : Bool)
    → node_by (if s then Put x else (if w then Gone else (if v then Way else Kept))) (node_by fate n) ≡ node_by (if s then Put x else (if w then Gone else (if v then way fate else fate))) n
filed_again fate n x true w v = refl
filed_again fate n x false true v = refl
filed_again fate n x false false true = way_node fate n
filed_again fate n x false false false = refl

made_again : (fate : Fate) (n : Option Node) (x : Node) (s v : Bool) → node_by (if s then Put x else (if v then Way else Kept)) (node_by fate n) ≡ node_by (if s then Put x else (if v then way fate else fate)) n
made_again fate n x true v = refl
made_again fate n x false true = way_node fate n
made_again fate n x false false = refl

removed_again : (fate : Fate) (n : Option Node) (w : Bool) → node_by (if w then Gone else Kept) (node_by fate n) ≡ node_by (if w then Gone else fate) n
removed_again fate n true = refl
removed_again fate n false = refl

after_again : (e : Edit) (p : Path) (fate : Fate) (n : Option Node) → node_by (after e p Kept) (node_by fate n) ≡ node_by (after e p fate) n
after_again (edit.File q bytes) p fate n = filed_again fate n (File bytes) (is_same q p) (is_within q p) (is_within p q)
after_again (edit.Dir q time) p fate n = made_again fate n (Dir time) (is_same q p) (is_within p q)
after_again (edit.Remove q) p fate n = removed_again fate n (is_within q p)

pub fate_from-node : (es : List Edit) (g f : Files) (p : Path) (fate : Fate) → node_at g p ≡ node_by fate (node_at f p) → node_at (edited g es) p ≡ node_by (fate_from fate es p) (node_at f p)
fate_from-node [] g f p fate h = h
fate_from-node (e ∷ es) g f p fate h =
    fate_from-node es (edited_once g e) f p (after e p fate) (after-edit g e p ∙ ap (node_by (after e p Kept)) h ∙ after_again e p fate (node_at f p))

-- what stands at a path of the edited files
pub edited-node : (f : Files) (es : List Edit) (p : Path) → node_at (edited f es) p ≡ node_by (fate_of es p) (node_at f p)
edited-node f es p = fate_from-node es f f p Kept refl
