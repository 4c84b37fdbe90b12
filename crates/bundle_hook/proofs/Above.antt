-- What is kept stays right where an index is put, added or taken out, and a path may lead into a bundle that is kept.
use Rattle.std.proofs.Common.{◌≡◌, ◌∙◌, refl, sym, ap, subst, ℕ, zero, suc, ◌≤◌, ◌<◌, ◌^◌, List, [], ◌∷◌, ◌++◌, length, take, true, Option, Some, None, IfSome, arith, slice_get, slice_set}
use Rattle.std.specs.List.{All, remove}
use Rattle.std.specs.Option.{ForSome}
use Rattle.base_types.specs.Path.{Path}
use Rattle.tree_files.specs.Files.{Files, node_at, stamp_of, bytes_of}
use Rattle.tree_files.specs.declared.tree.Stamp.TheVariants as stamp
use Rattle.bundle_hook.specs.declared.kept.Kept.{Kept}
use Rattle.bundle_hook.specs.declared.place.Found.{Found}
use Rattle.bundle_hook.specs.declared.place.Place.TheVariants.{Inside}
use Rattle.bundle_hook.specs.Places.{Leads}
use Rattle.bundle_hook.specs.Files.{index_in}
use Rattle.bundle_hook.specs.Expand.{names_bundle}
use Rattle.bundle_hook.specs.Indexes.{IsRight, AreRight, IsKeptAt, index_at}

-- a path that leads to something in a bundle that is kept
pub above_leads : (told : Option Files) (kept : List Kept) (path : Path) (found : Found) → AreRight told kept → found.parts ≤ length path → ((f : Files) → All (IsRight f) kept → IsKeptAt f kept found.at (take found.parts path))
    → IfSome told (λ f. Leads f kept path (Inside found))
unfolding AreRight
above_leads None kept path found right along there = tt
above_leads (Some f) kept path found right along there = (along, there f (right f refl))

-- what is kept of a file of this size has the file's index
pub fresh_told : (told : Option Files) (kept : List Kept) (file : Path) (size at : ℕ) → AreRight told kept → ForSome told (λ f. stamp_of (node_at f file) ≡ stamp.File size)
    → ((f : Files) → All (IsRight f) kept → stamp_of (node_at f file) ≡ stamp.File size → index_at kept at ≡ index_in (bytes_of (node_at f file))) → IfSome told (λ f. index_at kept at ≡ index_in (bytes_of (node_at f file)))
unfolding AreRight
fresh_told None kept file size at right is fresh = tt
fresh_told (Some f) kept file size at right is fresh = fresh f (right f refl) (is f refl)

-- what was read of a file is right
pub new_right : (told : Option Files) (file : Path) (size : ℕ) (k : Kept) → size < 2 ^ 64 → names_bundle file ≡ true → ForSome told (λ f. stamp_of (node_at f file) ≡ stamp.File size) → k.path ≡ file → k.size ≡ size
    → IfSome told (λ f. k.index ≡ index_in (bytes_of (node_at f file))) → ForSome told (λ f. IsRight f k)
new_right None file size k fits named is path long index = λ f none. cc
new_right (Some g) file size k fits named is path long index = λ f same.
    let other : g ≡ f = cc same in
    subst (λ f. IsRight f k) other (record {
      stamp = ap (λ p. stamp_of (node_at g p)) path ∙ is g refl ∙ ap stamp.File (sym long);
      named = ap names_bundle path ∙ named;
      fits = subst (λ n. n < 2 ^ 64) (sym long) fits;
      index = index ∙ ap (λ p. index_in (bytes_of (node_at g p))) (sym path);
    })

-- ---- one index more or less

module _ {X : Type 0} (P : X → Type 0) where
  pub all_behind : (y : X) (l : List X) → All P (y ∷ l) → All P l
  all_behind y l all k d low = all (suc k) d (omega (arith, low))

  pub all_with : (y : X) (l : List X) → P y → All P l → All P (y ∷ l)
  all_with y l py all zero d low = py
  all_with y l py all (suc k) d low = all k d (omega (arith, low))

  pub all_set : (l : List X) (at : ℕ) (x : X) → All P l → P x → All P (slice_set l at x)
  all_set [] at x all px = all
  all_set (y ∷ l) zero x all px = all_with x l px (all_behind y l all)
  all_set (y ∷ l) (suc at) x all px = all_with y (slice_set l at x) (all zero y (omega arith)) (all_set l at x (all_behind y l all) px)

  pub all_push : (l : List X) (x : X) → All P l → P x → All P (l ++ x ∷ [])
  all_push [] x all px = all_with x [] px all
  all_push (y ∷ l) x all px = all_with y (l ++ x ∷ []) (all zero y (omega arith)) (all_push l x (all_behind y l all) px)

  pub all_removed : (l : List X) (at : ℕ) → All P l → All P (remove l at)
  all_removed [] zero all = all
  all_removed [] (suc at) all = all
  all_removed (y ∷ l) zero all = all_behind y l all
  all_removed (y ∷ l) (suc at) all = all_with y (remove l at) (all zero y (omega arith)) (all_removed l at (all_behind y l all))

pub set_there : {X : Type 0} (l : List X) (at : ℕ) (x : X) → at < length l → slice_get (slice_set l at x) at ≡ Some x
set_there [] at x low = absurd (omega (arith, low))
set_there (y ∷ l) zero x low = refl
set_there (y ∷ l) (suc at) x low = set_there l at x (omega (arith, low))

pub pushed_there : {X : Type 0} (l : List X) (x : X) → slice_get (l ++ x ∷ []) (length l) ≡ Some x
pushed_there [] x = refl
pushed_there (y ∷ l) x = pushed_there l x

-- where nothing is kept, all is right
pub none_right : (told : Option Files) (kept : List Kept) → kept ≡ [] → AreRight told kept
unfolding AreRight
none_right told [] none = λ f is k d low. absurd (omega (arith, low))
none_right told (k ∷ kept) none = cc
