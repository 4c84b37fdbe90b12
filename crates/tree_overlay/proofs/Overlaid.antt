-- What is known of the tree inside, said of the edited files.
use Rattle.std.proofs.Common.{◌≡◌, ◌∙◌, ◌≤◌, ◌-◌, refl, sym, ap, subst, arith, length, if◌then◌else◌, ℕ, List, [], ◌∷◌, ◌++◌, Bool, true, false, Option, None, Some, IsTrue, IfSome, is_some}
use Rattle.std.specs.Option.{ForSome}
use Rattle.std.specs.FinMap.{insert, empty}
use Rattle.base_types.specs.Path.{Path}
use Rattle.tree_files.specs.Files.{Files, node_at, is_dir, is_file, IsDirAt, IsFileAt, IsTree, IsListing, IsRead, stamp_of, bytes_of, has_name}
use Rattle.tree_files.specs.Edits.{edited, edited_once}
use Rattle.tree_files.specs.declared.tree.Node.{Node}
use Rattle.tree_files.specs.declared.tree.Node.TheVariants.{File, Dir}
use Rattle.tree_files.specs.declared.tree.Stamp.{Stamp}
use Rattle.tree_files.specs.declared.edit.Edit.{Edit}
use Rattle.tree_overlay.specs.Fates.{Fate, Kept, Way, Put, Gone, node_by, fate_of}
use Rattle.tree_overlay.specs.Kinds.{IsBelowRoot, IsNoDir, IsNoFile}
use Rattle.tree_overlay.specs.Names.{IsMerged, is_no_dir}
use Rattle.tree_overlay.specs.Told.{edited_told}
use Rattle.tree_overlay.proofs.FateLemmas.{edited-node, node_at-insert, same_refl}
use Rattle.tree_overlay.proofs.TreeLemmas.{IsTree-edited}
use Rattle.tree_overlay.proofs.Merging.{IsListing-merged}

pub tree_told : (told : Option Files) (es : List Edit) → IsBelowRoot es → IfSome told IsTree → IfSome (edited_told es told) IsTree
tree_told None es low t = t
tree_told (Some f) es low t = IsTree-edited f es low t

pub stamp_told : (told : Option Files) (es : List Edit) (p : Path) (fate : Fate) (inner outer : Stamp) → fate ≡ fate_of es p → IfSome told (λ f. inner ≡ stamp_of (node_at f p))
    → ((before : Option Node) → inner ≡ stamp_of before → outer ≡ stamp_of (node_by fate before)) → IfSome (edited_told es told) (λ f. outer ≡ stamp_of (node_at f p))
stamp_told None es p fate inner outer e was made = was
stamp_told (Some f) es p fate inner outer e was made =
    made (node_at f p) was ∙ ap stamp_of (ap (λ x. node_by x (node_at f p)) e ∙ sym (edited-node f es p))

pub list_told : (told : Option Files) (es : List Edit) (dir : Path) (inner names : List (List ℕ)) → IfSome told (λ f. (name : List ℕ) → has_name inner name ≡ is_some (node_at f (dir ++ name ∷ [])))
    → IsMerged es dir inner names → IfSome (edited_told es told) (λ f. IsListing f dir names)
list_told None es dir inner names was m = was
list_told (Some f) es dir inner names was m = IsListing-merged f es dir inner names was m

-- ---- the kind that edits give

never_dir : (fate : Fate) (n : Option Node) → is_no_dir fate ≡ true → is_dir (node_by fate n) ≡ false
never_dir Kept n e = cc
never_dir Way n e = cc
never_dir (Put (File bytes)) n e = refl
never_dir (Put (Dir time)) n e = cc
never_dir Gone n e = refl

-- where no directory is, no list is asked for
pub no_dir_told : (told : Option Files) (es : List Edit) (dir : Path) (names : List (List ℕ)) → is_no_dir (fate_of es dir) ≡ true → ForSome (edited_told es told) (λ f. IsDirAt f dir)
    → IfSome (edited_told es told) (λ f. IsListing f dir names)
no_dir_told None es dir names e asked = tt
no_dir_told (Some f) es dir names e asked =
    let bad : ◌≡◌ {A = Bool} false true = sym (ap is_dir (edited-node f es dir) ∙ never_dir (fate_of es dir) (node_at f dir) e) ∙ asked (edited f es) refl in
    cc

there : (x : Node) (p : Path) → node_at (insert empty p x) p ≡ Some x
there x p = node_at-insert empty p x p ∙ ap (λ b. if b then Some x else node_at empty p) (same_refl p)

some_dir : (fate : Fate) → is_no_dir fate ≡ false → is_dir (node_by fate (Some (Dir 0))) ≡ true
some_dir Kept e = refl
some_dir Way e = refl
some_dir (Put (File bytes)) e = cc
some_dir (Put (Dir time)) e = refl
some_dir Gone e = cc

pub dir_may_be : (es : List Edit) (p : Path) → is_no_dir (fate_of es p) ≡ false → IsNoDir es p → ⊥
dir_may_be es p may never =
    let f = insert empty p (Dir 0) in
    let is : is_dir (node_by (fate_of es p) (Some (Dir 0))) ≡ true = some_dir (fate_of es p) may in
    let not : is_dir (node_by (fate_of es p) (Some (Dir 0))) ≡ false =
    ap (λ n. is_dir (node_by (fate_of es p) n)) (sym (there (Dir 0) p)) ∙ ap is_dir (sym (edited-node f es p)) ∙ never f in
    let bad : ◌≡◌ {A = Bool} true false = sym is ∙ not in
    cc

-- ---- reading

pub kept_file : (told : Option Files) (es : List Edit) (p : Path) → fate_of es p ≡ Kept → ForSome (edited_told es told) (λ f. IsFileAt f p) → ForSome told (λ f. IsFileAt f p)
kept_file None es p k asked = λ f e. cc
kept_file (Some g) es p k asked = λ f e.
    let same : node_at (edited g es) p ≡ node_at g p = edited-node g es p ∙ ap (λ x. node_by x (node_at g p)) k in
    let file : IsFileAt g p = subst (λ n. IsTrue (is_file n)) same (asked (edited g es) refl) in
    let equal : g ≡ f = cc in
    subst (λ h. IsFileAt h p) equal file

pub kept_told : (P : List ℕ → Type 0) (told : Option Files) (es : List Edit) (p : Path) → fate_of es p ≡ Kept → IfSome told (λ f. P (bytes_of (node_at f p))) → IfSome (edited_told es told) (λ f. P (bytes_of (node_at f p)))
kept_told P None es p k was = was
kept_told P (Some f) es p k was = subst (λ n. P (bytes_of n)) (sym (edited-node f es p ∙ ap (λ x. node_by x (node_at f p)) k)) was

pub put_told : (P : List ℕ → Type 0) (told : Option Files) (es : List Edit) (p : Path) (bytes : List ℕ) → ((before : Option Node) → bytes_of (node_by (fate_of es p) before) ≡ bytes) → P bytes
    → IfSome (edited_told es told) (λ f. P (bytes_of (node_at f p)))
put_told P None es p bytes put is = tt
put_told P (Some f) es p bytes put is = subst P (sym (ap bytes_of (edited-node f es p) ∙ put (node_at f p))) is

no_file_no_bytes : (n : Option Node) → is_file n ≡ false → bytes_of n ≡ []
no_file_no_bytes None e = refl
no_file_no_bytes (Some (File bytes)) e = cc
no_file_no_bytes (Some (Dir time)) e = refl

pub no_bytes : (es : List Edit) (p : Path) (bytes : List ℕ) → ((before : Option Node) → bytes_of (node_by (fate_of es p) before) ≡ bytes) → IsNoFile es p → bytes ≡ []
no_bytes es p bytes put never =
    let f = empty in
    sym (put (node_at f p)) ∙ ap bytes_of (sym (edited-node f es p)) ∙ no_file_no_bytes (node_at (edited f es) p) (never f)

pub file_may_be : (es : List Edit) (p : Path) → fate_of es p ≡ Kept → IsNoFile es p → ⊥
file_may_be es p k never =
    let f = insert empty p (File []) in
    let not : is_file (Some (File [])) ≡ false =
    ap is_file (sym (there (File []) p)) ∙ ap (λ x. is_file (node_by x (node_at f p))) (sym k) ∙ ap is_file (sym (edited-node f es p)) ∙ never f in
    cc

pub none_read : (bytes old new : List ℕ) (at n : ℕ) → bytes ≡ [] → IsRead bytes at old new n → n ≡ 0
none_read bytes old new at n e r = let within : n ≤ length bytes - at = r.within in let none = ap length e in omega arith

-- ---- further edits

edited-append : (f : Files) (es more : List Edit) → edited f (es ++ more) ≡ edited (edited f es) more
edited-append f [] more = refl
edited-append f (e ∷ es) more = edited-append (edited_once f e) es more

pub told_append : (told : Option Files) (es more all : List Edit) → all ≡ es ++ more → edited_told all told ≡ edited_told more (edited_told es told)
told_append None es more all e = refl
told_append (Some f) es more all e = ap Some (ap (edited f) e ∙ edited-append f es more)
