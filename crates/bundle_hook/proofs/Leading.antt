-- Where a path leads, in told files.
use Rattle.std.proofs.Common.{◌≡◌, ◌∙◌, refl, sym, ap, subst, ℕ, ◌+◌, ◌-◌, ◌≤◌, ◌<◌, zero, suc, List, [], ◌∷◌, ◌++◌, length, take, get_or, true, false, Option, Some, None, IfSome, MatchOption, is_some, arith, if◌then◌else◌, length-take, length-append}
use Rattle.std.proofs.Math.Seq.{take-append_seam}
use Rattle.base_types.specs.Path.{Path}
use Rattle.tree_files.specs.Files.{Files, IsTree, is_dir, node_at, stamp_of}
use Rattle.tree_files.specs.declared.tree.Node.{Node}
use Rattle.tree_files.specs.declared.tree.Node.TheVariants.{File, Dir}
use Rattle.tree_files.specs.declared.tree.Stamp.{Stamp}
use Rattle.tree_files.specs.declared.tree.Stamp.TheVariants as stamp
use Rattle.bundle_hook.specs.Files.{files_in}
use Rattle.bundle_hook.specs.declared.kept.Kept.{Kept}
use Rattle.bundle_hook.specs.Expand.{is_bundle_name, names_bundle, bundle_in, bundle_at, expand}
use Rattle.bundle_hook.specs.declared.place.Found.{Found}
use Rattle.bundle_hook.specs.declared.place.Place.TheVariants.{Outside}
use Rattle.bundle_hook.specs.Places.{Leads, LeadsInto}
use Rattle.bundle_hook.specs.Indexes.{IsKeptAt, HasNoBundle}
use Rattle.bundle_hook.proofs.Expanding.{above_is_dir, node_at-outside}

-- the last of the first parts decides the name
pub named_by_last : (path : Path) (n : ℕ) (d : List ℕ) → n < length path → names_bundle (take (n + 1) path) ≡ is_bundle_name (get_or path n d)
named_by_last [] n d low = absurd (omega arith)
named_by_last (x ∷ []) zero d low = refl
named_by_last (x ∷ []) (suc n) d low = absurd (omega arith)
named_by_last (x ∷ y ∷ path) zero d low = refl
named_by_last (x ∷ y ∷ path) (suc n) d low =
    let one : suc n + 1 ≡ suc (n + 1) = omega arith in
    ap (λ k. names_bundle (take k (x ∷ y ∷ path))) one ∙ longer (take (n + 1) (y ∷ path)) (some n) ∙ named_by_last (y ∷ path) n d (omega arith)
  where
    longer : (rest : Path) → 0 < length rest → names_bundle (x ∷ rest) ≡ names_bundle rest
    longer [] l = absurd (omega arith)
    longer (z ∷ rest) l = refl

    some : (m : ℕ) → 0 < length (take (m + 1) (y ∷ path))
    some m = let l = length-take (m + 1) (y ∷ path) in omega (arith, l)

pub no_name_no_bundle : (q : Path) (n : Option Node) → names_bundle q ≡ false → bundle_in q n ≡ None
no_name_no_bundle q None h = refl
no_name_no_bundle q (Some (Dir time)) h = refl
no_name_no_bundle q (Some (File bytes)) h = ap (λ b. if b then files_in bytes else None) h

same_parts : (p q r : Path) → p ≡ q ++ r → take (length q) p ≡ q
same_parts p q r e = ap (take (length q)) e ∙ take-append_seam q r

longer_than : (p q r : Path) → p ≡ q ++ r → length q < length p + 1
longer_than p q r e = let l : length p ≡ length (q ++ r) = ap length e in let m = length-append q r in omega (arith, l, m)

-- a path none of whose first parts lead to a bundle has what stands there
pub outside_told : (f : Files) (p : Path) → HasNoBundle f p (length p + 1) → node_at (expand f) p ≡ node_at f p
outside_told f p none = node_at-outside f p (λ q r e. ap (bundle_at f) (sym (same_parts p q r e)) ∙ none (length q) (longer_than p q r e))

-- no bundle stands above a directory, or there
pub outside_dir : (f : Files) → IsTree f → (p : Path) (time : ℕ) → stamp.Dir time ≡ stamp_of (node_at f p) → node_at (expand f) p ≡ node_at f p
outside_dir f t p time is = node_at-outside f p none
  where
    dir_stamp : (n : Option Node) → stamp.Dir time ≡ stamp_of n → is_dir n ≡ true
    dir_stamp None e = cc
    dir_stamp (Some (File bytes)) e = cc
    dir_stamp (Some (Dir t)) e = refl

    there : (n : Option Node) → is_dir n ≡ true → is_some n ≡ true
    there None e = cc
    there (Some x) e = refl

    dir_alone : (q : Path) (n : Option Node) → is_dir n ≡ true → bundle_in q n ≡ None
    dir_alone q None e = refl
    dir_alone q (Some (Dir t)) e = refl
    dir_alone q (Some (File bytes)) e = cc

    nil : (a : Path) → a ++ [] ≡ a
    nil [] = refl
    nil (y ∷ a) = ap (λ l. y ∷ l) (nil a)

    none : (q r : Path) → p ≡ q ++ r → bundle_at f q ≡ None
    none q [] e = dir_alone q (node_at f q) (ap (λ x. is_dir (node_at f x)) (sym (e ∙ nil q)) ∙ dir_stamp (node_at f p) is)
    none q (x ∷ r) e = dir_alone q (node_at f q) (above_is_dir f t q x r (ap (λ y. is_some (node_at f y)) (sym e) ∙ there (node_at f p) (dir_stamp (node_at f p) is)))

-- the part before the place decides
pub named_by_part : (path : Path) (parts : ℕ) (d : List ℕ) → 0 < parts → parts ≤ length path → names_bundle (take parts path) ≡ is_bundle_name (get_or path (parts - 1) d)
named_by_part path zero d low high = absurd (omega arith)
named_by_part path (suc n) d low high =
    let one : suc n ≡ n + 1 = omega arith in
    let back : n ≡ suc n - 1 = omega arith in
    ap (λ k. names_bundle (take k path)) one ∙ named_by_last path n d (omega arith) ∙ ap (λ k. is_bundle_name (get_or path k d)) back

pub no_name_told : (told : Option Files) (path : Path) (parts : ℕ) → names_bundle (take parts path) ≡ false → IfSome told (λ f. bundle_at f (take parts path) ≡ None)
no_name_told None path parts no_name = tt
no_name_told (Some f) path parts no_name = no_name_no_bundle (take parts path) (node_at f (take parts path)) no_name

-- what is asked of the path itself leads past all bundles where it is a directory
pub dir_leads : (told : Option Files) (kept : List Kept) (p : Path) (time : ℕ) (s : Stamp) → IfSome told IsTree → IfSome told (λ f. s ≡ stamp_of (node_at f p)) → s ≡ stamp.Dir time → IfSome told (λ f. Leads f kept p (Outside s))
dir_leads None kept p time s tree is dir = tt
dir_leads (Some f) kept p time s tree is dir = (outside_dir f tree p time (sym dir ∙ is), is)

pub none_leads : (told after : Option Files) (kept : List Kept) (p : Path) (s : Stamp) (o : Option Found) → after ≡ told → o ≡ None
    → IfSome after (λ f. MatchOption o (HasNoBundle f p (length p + 1)) (λ found. (found.parts ≤ length p) × IsKeptAt f kept found.at (take found.parts p)))
    → IfSome told (λ f. s ≡ stamp_of (node_at f p)) → IfSome told (λ f. Leads f kept p (Outside s))
none_leads None after kept p s o same is none was = tt
none_leads (Some f) after kept p s (Some found) same is none was = cc
none_leads (Some f) after kept p s None same is none was =
    let here : HasNoBundle f p (length p + 1) = subst (λ t. IfSome t (λ f. HasNoBundle f p (length p + 1))) same none in
    (outside_told f p here, was)

-- what stands at the path is not needed to say where it leads
pub on_leads : (told : Option Files) (kept : List Kept) (p : Path) (o : Option Found) → IfSome told (λ f. MatchOption o (HasNoBundle f p (length p + 1)) (λ found. (found.parts ≤ length p) × IsKeptAt f kept found.at (take found.parts p)))
    → IfSome told (λ f. LeadsInto f kept p o)
on_leads None kept p o on = tt
on_leads (Some f) kept p None on = outside_told f p on
on_leads (Some f) kept p (Some found) on = on
