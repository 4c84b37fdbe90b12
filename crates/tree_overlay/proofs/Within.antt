-- Prefixes of paths, and fates one edit after another.
use Rattle.std.proofs.Common.{◌≡◌, ◌∙◌, refl, sym, ap, ℕ, List, [], ◌∷◌, ◌++◌, ◌+◌, ◌<◌, get_or, Bool, true, false, ◌&&◌, length, take, nat_eq, Option, None, if◌then◌else◌}
use Rattle.std.proofs.lemmas.List.{take_more}
use Rattle.std.specs.List.{starts_with, slice_get}
use Rattle.std.specs.Cmp.Lexicographic.{pointwise}
use Rattle.base_types.specs.Path.{Path}
use Rattle.tree_files.specs.Edits.{is_within}
use Rattle.tree_files.specs.declared.edit.Edit.{Edit}
use Rattle.tree_overlay.specs.Fates.{Fate, Kept, after, fate_from, fate_of}
use Rattle.tree_overlay.specs.Names.{part_after}

pub within_taken : (above path : Path) → starts_with (pointwise nat_eq) path above ≡ is_within above path
within_taken [] path = refl
within_taken (x ∷ above) [] = refl
within_taken (x ∷ above) (y ∷ path) = ap (λ b. pointwise nat_eq x y && b) (within_taken above path)

part_there_more : (b : Bool) (o : Option (List ℕ)) (p : Option (List ℕ)) (w : Bool) → (w ≡ true → o ≡ p) → b && w ≡ true → o ≡ (if b then p else None)
part_there_more true o p w same e = same e
part_there_more false o p w same e = cc

pub part_there : (dir path : Path) → is_within dir path ≡ true → slice_get path (length dir) ≡ part_after dir path
part_there [] [] e = refl
part_there [] (y ∷ path) e = refl
part_there (x ∷ dir) [] e = cc
part_there (x ∷ dir) (y ∷ path) e = part_there_more (pointwise nat_eq x y) _ _ (is_within dir path) (part_there dir path) e

no_part_more : (b : Bool) (p : Option (List ℕ)) (w : Bool) → (w ≡ false → p ≡ None) → b && w ≡ false → (if b then p else None) ≡ None
no_part_more true p w none e = none e
no_part_more false p w none e = refl

pub no_part : (dir path : Path) → is_within dir path ≡ false → part_after dir path ≡ None
no_part [] path e = cc
no_part (x ∷ dir) [] e = refl
no_part (x ∷ dir) (y ∷ path) e = no_part_more (pointwise nat_eq x y) _ (is_within dir path) (no_part dir path) e

pub fate_from-append : (fate : Fate) (es more : List Edit) (p : Path) → fate_from fate (es ++ more) p ≡ fate_from (fate_from fate es p) more p
fate_from-append fate [] more p = refl
fate_from-append fate (e ∷ es) more p = fate_from-append (after e p fate) es more p

-- the fate after one edit more
pub fate_next : (es : List Edit) (p : Path) (i : ℕ) (e : Edit) → i < length es → e ≡ get_or es i e → fate_of (take (i + 1) es) p ≡ after e p (fate_of (take i es) p)
fate_next es p i e lt is =
    ap (λ l. fate_of l p) (take_more es i e lt) ∙ fate_from-append Kept (take i es) (get_or es i e ∷ []) p ∙ ap (λ x. after x p (fate_of (take i es) p)) (sym is)
