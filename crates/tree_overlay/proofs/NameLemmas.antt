-- Names that are gathered one after another.
use Rattle.std.proofs.Common.{◌≡◌, ◌∙◌, refl, sym, ap, ℕ, ◌+◌, ◌<◌, List, [], ◌∷◌, Bool, true, false, cond, ◌&&◌, ◌||◌, length, take, get_or, nat_eq}
use Rattle.std.proofs.lemmas.List.{take_more}
use Rattle.std.proofs.lemmas.List.Elements.{filter_map-append}
use Rattle.std.proofs.lemmas.List.Folds.{list_any-append}
use Rattle.std.specs.List.{list_any}
use Rattle.std.specs.Ordering.{nat_cmp, is_eq}
use Rattle.std.specs.BTreeMap.{is_at}
use Rattle.std.specs.BTreeSet.{BTreeSet, Updates, contains}
use Rattle.std.specs.Cmp.Lexicographic.{pointwise, slice_cmp, nat_list_eq_equiv, texts_ties}
use Rattle.base_types.specs.Path.{Path}
use Rattle.tree_files.specs.Files.{has_name}
use Rattle.tree_files.specs.declared.edit.Edit.{Edit}
use Rattle.tree_overlay.specs.Gathered.{holds}
use Rattle.tree_overlay.specs.Names.{part_after, path_of, put_names}

same_name : (x y : List ℕ) → is_eq (slice_cmp nat_cmp x y) ≡ pointwise nat_eq x y
same_name x y = sym (texts_ties x y)

same_any : (name : List ℕ) (ks : List (List ℕ)) → list_any (is_at (slice_cmp nat_cmp name)) ks ≡ has_name ks name
same_any name [] = refl
same_any name (k ∷ ks) = ap (λ b. b || list_any (is_at (slice_cmp nat_cmp name)) ks) (same_name name k ∙ nat_list_eq_equiv.symm name k) ∙ ap (λ b. pointwise nat_eq k name || b) (same_any name ks)

or_cond : (b c : Bool) → cond b true c ≡ c || b
or_cond true true = refl
or_cond true false = refl
or_cond false true = refl
or_cond false false = refl

holds-insert : (s n : BTreeSet (List ℕ)) (key : List ℕ) → Updates (slice_cmp nat_cmp) s n key true → (other : List ℕ) → holds n other ≡ (holds s other || pointwise nat_eq key other)
holds-insert s n key u other =
    sym (same_any other n.keys) ∙ u.0 other ∙ ap (λ b. cond b true (contains (slice_cmp nat_cmp) s other)) (same_name key other)
    ∙ ap (λ b. cond (pointwise nat_eq key other) true b) (same_any other s.keys) ∙ or_cond (pointwise nat_eq key other) (holds s other)

-- a wanted name was put into the set
pub holds-added : (s n : BTreeSet (List ℕ)) (key name : List ℕ) (wanted : Bool) → wanted ≡ true → key ≡ name → Updates (slice_cmp nat_cmp) s n key true
    → (other : List ℕ) → holds n other ≡ (holds s other || (wanted && pointwise nat_eq name other))
holds-added s n key name true w same u other = holds-insert s n key u other ∙ ap (λ k. holds s other || pointwise nat_eq k other) same
holds-added s n key name false w same u other = cc

or_later : (first w a b c : Bool) → c ≡ (a || b) → (first || (w && a)) || (w && b) ≡ first || (w && c)
or_later true w a b c e = refl
or_later false true a b c e = sym e
or_later false false a b c e = refl

-- the names of one more edit
pub puts_next : (dir : Path) (es : List Edit) (i : ℕ) (e : Edit) (other : List ℕ) (first wanted old new : Bool) → i < length es → e ≡ get_or es i e
    → old ≡ (first || (wanted && has_name (put_names dir (take i es)) other)) → new ≡ (old || (wanted && has_name (put_names dir (e ∷ [])) other))
    → new ≡ (first || (wanted && has_name (put_names dir (take (i + 1) es)) other))
puts_next dir es i e other first wanted old new lt is was now =
    let all : has_name (put_names dir (take (i + 1) es)) other ≡ (has_name (put_names dir (take i es)) other || has_name (put_names dir (e ∷ [])) other) =
    ap (λ l. has_name (put_names dir l) other) (take_more es i e lt) ∙ ap (λ l. has_name l other) (filter_map-append (λ x. part_after dir (path_of x)) (take i es) (get_or es i e ∷ []))
    ∙ list_any-append _ (put_names dir (take i es)) (put_names dir (get_or es i e ∷ [])) ∙ ap (λ x. has_name (put_names dir (take i es)) other || has_name (put_names dir (x ∷ [])) other) (sym is) in
    now ∙ ap (λ b. b || (wanted && has_name (put_names dir (e ∷ [])) other)) was ∙ or_later first wanted _ _ _ all
