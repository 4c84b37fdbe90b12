-- The edited files are a tree.
use Rattle.std.proofs.Common.{◌≡◌, ◌∙◌, refl, sym, ap, subst, ℕ, ◌<◌, List, [], ◌∷◌, ◌++◌, Bool, true, false, cond, not, ◌&&◌, Option, None, Some, IsTrue, is_some, length, nat_eq, ◌==◌, arith}
use Rattle.std.specs.Cmp.Lexicographic.{pointwise, nat_list_eq_equiv}
use Rattle.base_types.specs.Path.{Path}
use Rattle.tree_files.specs.Files.{Files, node_at, is_dir, IsTree}
use Rattle.tree_files.specs.Edits.{HasParent, prefixes, with_dirs, is_within, cleared, edited_once, edited}
use Rattle.tree_files.proofs.EditLemmas.{IsTree-insert, same_after_dirs}
use Rattle.tree_files.specs.declared.tree.Node.{Node}
use Rattle.tree_files.specs.declared.tree.Node.TheVariants.{File, Dir}
use Rattle.tree_files.specs.declared.edit.Edit.{Edit}
use Rattle.tree_files.specs.declared.edit.Edit.TheVariants as edit
use Rattle.tree_overlay.specs.Fates.{Way, node_by, is_same}
use Rattle.tree_overlay.specs.Kinds.{is_below_root, IsBelowRoot}
use Rattle.tree_overlay.proofs.FateLemmas.{way_if, is_proper, proper_prefixes, node_at-with_dirs, node_at-cleared}

left : (a b : Bool) → a && b ≡ true → a ≡ true
left true b e = refl
left false b e = e

right : (a b : Bool) → a && b ≡ true → b ≡ true
right true b e = e
right false b e = cc

-- ---- directories on the way

way_is_dir : (n : Option Node) → is_dir (node_by Way n) ≡ true
way_is_dir None = refl
way_is_dir (Some (File bytes)) = refl
way_is_dir (Some (Dir time)) = refl

still_dir : (b : Bool) (n : Option Node) → is_dir n ≡ true → is_dir (way_if b n) ≡ true
still_dir true n d = way_is_dir n
still_dir false n d = d

front_parts : (p : Path) (part : List ℕ) (ys : Path) (a b : Bool) → b ≡ a → (is_within (p ++ part ∷ []) ys ≡ true → is_proper p ys ≡ true)
    → a && is_within (p ++ part ∷ []) ys ≡ true → (a && is_within p ys) && not (b && is_same ys p) ≡ true
front_parts p part ys true true s below h = below h
front_parts p part ys true false s below h = cc
front_parts p part ys false b s below h = cc

-- what lies below a path is not the path, and what contains it contains the path
front_proper : (p : Path) (part : List ℕ) (q : Path) → is_within (p ++ part ∷ []) q ≡ true → is_proper p q ≡ true
front_proper [] part [] e = cc
front_proper [] part (y ∷ ys) e = refl
front_proper (x ∷ p) part [] e = cc
front_proper (x ∷ p) part (y ∷ ys) e =
    front_parts p part ys (pointwise nat_eq x y) (pointwise nat_eq y x) (nat_list_eq_equiv.symm y x) (front_proper p part ys) e

itself : (p : Path) → is_within p p ≡ true
itself [] = refl
itself (x ∷ p) = ap (λ b. b && is_within p p) (nat_list_eq_equiv.refl x) ∙ itself p

more_parts : (q p : Path) (part : List ℕ) (a : Bool) → (is_within q p ≡ true → is_within q (p ++ part ∷ []) ≡ true)
    → a && is_within q p ≡ true → a && is_within q (p ++ part ∷ []) ≡ true
more_parts q p part true more h = more h
more_parts q p part false more h = h

more_within : (q p : Path) (part : List ℕ) → is_within q p ≡ true → is_within q (p ++ part ∷ []) ≡ true
more_within [] p part e = refl
more_within (y ∷ q) [] part e = cc
more_within (y ∷ q) (x ∷ p) part e = more_parts q p part (pointwise nat_eq y x) (more_within q p part) e

some_way : (b : Bool) (n : Option Node) → b ≡ false → is_some (way_if b n) ≡ true → is_some n ≡ true
some_way true n e h = cc
some_way false n e h = h

way_if_proper : (b : Bool) (n : Option Node) → b ≡ true → is_dir (way_if b n) ≡ true
way_if_proper true n e = way_is_dir n
way_if_proper false n e = cc

dirs_at : (f : Files) (q p : Path) → node_at (with_dirs f (prefixes q)) p ≡ way_if (is_proper p q) (node_at f p)
dirs_at f q p = node_at-with_dirs f (prefixes q) p ∙ ap (λ b. way_if b (node_at f p)) (proper_prefixes p q)

IsTree-dirs : (f : Files) (q : Path) → IsTree f → IsTree (with_dirs f (prefixes q))
IsTree-dirs f q t = record {
  root = subst (λ o. IsTrue (is_dir o)) (sym (dirs_at f q [])) (still_dir (is_proper [] q) (node_at f []) t.root);
  inside = λ p part h. subst (λ o. IsTrue (is_dir o)) (sym (dirs_at f q p)) (inside p part (is_proper (p ++ part ∷ []) q) refl (subst (λ o. IsTrue (is_some o)) (dirs_at f q (p ++ part ∷ [])) h));
} where
  inside : (p : Path) (part : List ℕ) (b : Bool) → is_proper (p ++ part ∷ []) q ≡ b → is_some (way_if (is_proper (p ++ part ∷ []) q) (node_at f (p ++ part ∷ []))) ≡ true → is_dir (way_if (is_proper p q) (node_at f p)) ≡ true
  inside p part true e h = way_if_proper (is_proper p q) (node_at f p) (front_proper p part q (left _ _ e))
  inside p part false e h = still_dir (is_proper p q) (node_at f p) (t.inside p part (some_way _ _ e h))

HasParent-dirs : (f : Files) (q : Path) → HasParent (with_dirs f (prefixes q)) q
HasParent-dirs f q p part e =
    let within : is_within (p ++ part ∷ []) q ≡ true = subst (λ r. is_within (p ++ part ∷ []) r ≡ true) (sym e) (itself (p ++ part ∷ [])) in
    subst (λ o. IsTrue (is_dir o)) (sym (dirs_at f q p)) (way_if_proper (is_proper p q) (node_at f p) (front_proper p part q within))

-- ---- what is cleared

not_cleared : (w : Bool) (n : Option Node) → is_some (cond (not w) n None) ≡ true → (w ≡ false) × (is_some n ≡ true)
not_cleared true n h = cc
not_cleared false n h = (refl, h)

kept_dir : (w : Bool) (n : Option Node) → w ≡ false → is_dir n ≡ true → is_dir (cond (not w) n None) ≡ true
kept_dir true n e d = cc
kept_dir false n e d = d

IsTree-cleared : (f : Files) (q : Path) → 0 < length q → IsTree f → IsTree (cleared f q)
IsTree-cleared f [] low t = absurd (omega arith)
IsTree-cleared f (y ∷ q) low t = record {
  root = subst (λ o. IsTrue (is_dir o)) (sym (node_at-cleared f (y ∷ q) [])) t.root;
  inside = λ p part h.
      let there = not_cleared (is_within (y ∷ q) (p ++ part ∷ [])) _ (subst (λ o. IsTrue (is_some o)) (node_at-cleared f (y ∷ q) (p ++ part ∷ [])) h) in
      subst (λ o. IsTrue (is_dir o)) (sym (node_at-cleared f (y ∷ q) p)) (kept_dir (is_within (y ∷ q) p) (node_at f p) (outside p part (is_within (y ∷ q) p) refl there.0) (t.inside p part there.1));
} where
  outside : (p : Path) (part : List ℕ) (b : Bool) → is_within (y ∷ q) p ≡ b → is_within (y ∷ q) (p ++ part ∷ []) ≡ false → is_within (y ∷ q) p ≡ false
  outside p part true e h = let inside : is_within (y ∷ q) (p ++ part ∷ []) ≡ true = more_within (y ∷ q) p part e in cc
  outside p part false e h = e

nothing_there : (f : Files) (q : Path) → is_dir (node_at (with_dirs (cleared f q) (prefixes q)) q) ≡ false
nothing_there f q =
    ap is_dir (same_after_dirs (cleared f q) q ∙ node_at-cleared f q q ∙ ap (λ w. cond (not w) (node_at f q) None) (itself q))

-- ---- edits

length_not_zero : (q : Path) → not (length q == 0) ≡ true → 0 < length q
length_not_zero [] e = cc
length_not_zero (x ∷ q) e = omega arith

IsTree-edit : (f : Files) (e : Edit) → is_below_root e ≡ true → IsTree f → IsTree (edited_once f e)
IsTree-edit f (edit.File q bytes) low t =
    IsTree-insert (with_dirs (cleared f q) (prefixes q)) q (File bytes) (IsTree-dirs (cleared f q) q (IsTree-cleared f q (length_not_zero q low) t)) (λ _. nothing_there f q) (HasParent-dirs (cleared f q) q)
IsTree-edit f (edit.Dir q time) low t =
    IsTree-insert (with_dirs f (prefixes q)) q (Dir time) (IsTree-dirs f q t) (λ no_dir. cc) (HasParent-dirs f q)
IsTree-edit f (edit.Remove q) low t = IsTree-cleared f q (length_not_zero q low) t

pub IsTree-edited : (f : Files) (es : List Edit) → IsBelowRoot es → IsTree f → IsTree (edited f es)
IsTree-edited f [] all t = t
IsTree-edited f (e ∷ es) all t =
    IsTree-edited (edited_once f e) es (right _ _ all) (IsTree-edit f e (left _ _ all) t)
