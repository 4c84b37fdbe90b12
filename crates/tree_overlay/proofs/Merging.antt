-- Merged names are a listing of the edited files.
use Rattle.std.proofs.Common.{◌≡◌, ◌∙◌, refl, sym, ap, ℕ, List, [], ◌∷◌, ◌++◌, Bool, true, false, ◌&&◌, ◌||◌, nat_eq, Option, Some, None, is_some, if◌then◌else◌}
use Rattle.std.specs.Cmp.Lexicographic.{pointwise, nat_list_eq_equiv}
use Rattle.std.specs.List.{cons_option}
use Rattle.base_types.specs.Path.{Path}
use Rattle.tree_files.specs.Files.{Files, node_at, has_name, IsListing}
use Rattle.tree_files.specs.Edits.{is_within, edited}
use Rattle.tree_files.specs.declared.tree.Node.{Node}
use Rattle.tree_files.specs.declared.tree.Node.TheVariants.{File, Dir}
use Rattle.tree_files.specs.declared.edit.Edit.{Edit}
use Rattle.tree_files.specs.declared.edit.Edit.TheVariants as edit
use Rattle.tree_overlay.specs.Fates.{Fate, Kept, Way, Put, Gone, node_by, is_same, way, after, fate_from, fate_of}
use Rattle.tree_overlay.specs.Names.{part_after, path_of, is_put, is_seen, put_names, IsMerged}
use Rattle.tree_overlay.proofs.FateLemmas.{edited-node}

abbrev is_it : List ℕ → Option (List ℕ) → Bool
is_it name None = false
is_it name (Some other) = pointwise nat_eq other name

below_part : (a : Bool) (name : List ℕ) (o : Option (List ℕ)) (w : Bool) → (w ≡ true → is_it name o ≡ true) → a && w ≡ true → is_it name (if a then o else None) ≡ true
below_part true name o w below e = below e
below_part false name o w below e = cc

left : (a b : Bool) → a && b ≡ true → a ≡ true
left true b e = refl
left false b e = e

-- what lies at a name of the directory, or below, follows the directory by that name
below_name : (dir : Path) (name : List ℕ) (p : Path) → is_within (dir ++ name ∷ []) p ≡ true → is_it name (part_after dir p) ≡ true
below_name [] name [] e = cc
below_name [] name (y ∷ p) e = nat_list_eq_equiv.symm y name ∙ left _ _ e
below_name (x ∷ dir) name [] e = cc
below_name (x ∷ dir) name (y ∷ p) e = below_part (pointwise nat_eq x y) name (part_after dir p) _ (below_name dir name p) e

-- the same path lies within it
same_within : (p q : Path) → is_same q p ≡ true → is_within p q ≡ true
same_within [] q e = refl
same_within (x ∷ p) [] e = cc
same_within (x ∷ p) (y ∷ q) e = same_parts (pointwise nat_eq y x) (pointwise nat_eq x y) (nat_list_eq_equiv.symm y x) _ _ (same_within p q) e where
  same_parts : (a b : Bool) → a ≡ b → (s w : Bool) → (s ≡ true → w ≡ true) → a && s ≡ true → b && w ≡ true
  same_parts true true h s w f e = f e
  same_parts true false h s w f e = cc
  same_parts false b h s w f e = cc

-- something is put somewhere only where it was before, or by an edit at or below the path
put_file : (fate : Fate) (x : Node) (s w v : Bool) → (s ≡ true → v ≡ true) → is_put (if s then Put x else (if w then Gone else (if v then way fate else fate))) ≡ true → is_put fate || v ≡ true
put_file fate x s w true h e = or_true (is_put fate) where
  or_true : (b : Bool) → b || true ≡ true
  or_true true = refl
  or_true false = refl
put_file fate x true w false h e = let bad : ◌≡◌ {A = Bool} false true = h refl in cc
put_file fate x false true false h e = cc
put_file fate x false false false h e = or_false (is_put fate) ∙ e where
  or_false : (b : Bool) → b || false ≡ b
  or_false true = refl
  or_false false = refl

put_removed : (fate : Fate) (w v : Bool) → is_put (if w then Gone else fate) ≡ true → is_put fate || v ≡ true
put_removed fate true v e = cc
put_removed fate false v e = ap (λ b. b || v) e

put_after : (e : Edit) (p : Path) (fate : Fate) → is_put (after e p fate) ≡ true → is_put fate || is_within p (path_of e) ≡ true
put_after (edit.File q bytes) p fate h = put_file fate (File bytes) (is_same q p) (is_within q p) (is_within p q) (same_within p q) h
put_after (edit.Dir q time) p fate h = put_file fate (Dir time) (is_same q p) false (is_within p q) (same_within p q) h
put_after (edit.Remove q) p fate h = put_removed fate (is_within q p) (is_within p q) h

or_step : (first within later : Bool) (name : List ℕ) (o : Option (List ℕ)) (names : List (List ℕ)) (all : Bool) → all ≡ has_name (cons_option o names) name
    → (within ≡ true → is_it name o ≡ true) → later ≡ has_name names name → (a : Bool) → (a ≡ true → first || within ≡ true) → a || later ≡ true → first || all ≡ true
or_step true within later name o names all e below l a h r = refl
or_step false within later name o names all e below l true h r = e ∙ named o (below (h refl)) where
  named : (o : Option (List ℕ)) → is_it name o ≡ true → has_name (cons_option o names) name ≡ true
  named None e = cc
  named (Some other) e = ap (λ b. b || has_name names name) e
or_step false within later name o names all e below l false h r = e ∙ more o (sym l ∙ r) where
  more : (o : Option (List ℕ)) → has_name names name ≡ true → has_name (cons_option o names) name ≡ true
  more None e = e
  more (Some other) e = ap (λ b. pointwise nat_eq other name || b) e ∙ or_true (pointwise nat_eq other name) where
    or_true : (b : Bool) → b || true ≡ true
    or_true true = refl
    or_true false = refl

put_named_from : (es : List Edit) (dir : Path) (name : List ℕ) (fate : Fate) → is_put (fate_from fate es (dir ++ name ∷ [])) ≡ true → is_put fate || has_name (put_names dir es) name ≡ true
put_named_from [] dir name fate h = ap (λ b. b || false) h
put_named_from (e ∷ es) dir name fate h =
    or_step (is_put fate) (is_within (dir ++ name ∷ []) (path_of e)) (has_name (put_names dir es) name) name (part_after dir (path_of e)) (put_names dir es) (has_name (put_names dir (e ∷ es)) name) refl
    (below_name dir name (path_of e)) refl (is_put (after e (dir ++ name ∷ []) fate)) (put_after e (dir ++ name ∷ []) fate) (put_named_from es dir name (after e (dir ++ name ∷ []) fate) h)

put_named : (es : List Edit) (dir : Path) (name : List ℕ) → is_put (fate_of es (dir ++ name ∷ [])) ≡ true → has_name (put_names dir es) name ≡ true
put_named es dir name h = put_named_from es dir name Kept h

way_there : (n : Option Node) → is_some (node_by Way n) ≡ true
way_there None = refl
way_there (Some (File bytes)) = refl
way_there (Some (Dir time)) = refl

or_no : (b : Bool) → b || false ≡ b
or_no true = refl
or_no false = refl

or_yes : (b c : Bool) → c ≡ true → b || c ≡ true
or_yes true c e = refl
or_yes false c e = e

seen_or_put : (fate : Fate) (n : Option Node) (named : Bool) → (is_put fate ≡ true → named ≡ true) → (is_seen fate && is_some n) || (is_put fate && named) ≡ is_some (node_by fate n)
seen_or_put Kept n named h = or_no (is_some n)
seen_or_put Way n named h = or_yes (is_some n) named (h refl) ∙ sym (way_there n)
seen_or_put (Put node) n named h = or_yes (is_some n) named (h refl)
seen_or_put Gone n named h = refl

pub IsListing-merged : (f : Files) (es : List Edit) (dir : Path) (inner names : List (List ℕ)) → ((name : List ℕ) → has_name inner name ≡ is_some (node_at f (dir ++ name ∷ [])))
    → IsMerged es dir inner names → IsListing (edited f es) dir names
IsListing-merged f es dir inner names was m = record {
  ordered = m.ordered;
  exact = λ name. m.exact name ∙ ap (λ b. (is_seen (fate_of es (dir ++ name ∷ [])) && b) || (is_put (fate_of es (dir ++ name ∷ [])) && has_name (put_names dir es) name)) (was name)
      ∙ seen_or_put (fate_of es (dir ++ name ∷ [])) (node_at f (dir ++ name ∷ [])) (has_name (put_names dir es) name) (put_named es dir name)
      ∙ ap is_some (sym (edited-node f es (dir ++ name ∷ [])));
}
