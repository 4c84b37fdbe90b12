-- The files that are read in the bytes of a bundle are those of which it is one.
use Rattle.std.proofs.Common.{◌≡◌, ◌∙◌, refl, sym, ap, subst, ℕ, ◌+◌, ◌-◌, List, [], ◌∷◌, length, take, drop, min, eqb, Some, None, Option, arith, length-take, length-drop}
use Rattle.std.proofs.Math.Seq.{take-append_seam, drop-append_seam}
use Rattle.std.proofs.lemmas.Bool.{cond-true, eqb-true, eq-eqb}
use Rattle.std.specs.Option.{option_and_then, option_map}
use Rattle.bundle_hook.specs.declared.entry.Entry.{Entry}
use Rattle.bundle_hook.specs.declared.bundle.Packed.{Packed}
use Rattle.bundle_hook.specs.declared.bundle.Index.{Index}
use Rattle.bundle_hook.specs.Spelling.{most_front, front_of}
use Rattle.bundle_hook.specs.Bundle.{IsBundle, IsFrontOf, Lists, Reads, sizes, entries_of, data_of, items_from, index_of}
use Rattle.bundle_hook.specs.Reading.{front_in}
use Rattle.bundle_hook.specs.Files.{cut_up, filling, behind, files_in, index_in}
use Rattle.bundle_hook.proofs.Cuts.{if_some, then_some}
use Rattle.bundle_hook.proofs.Indexed.{begun, is_index, sizes_are}

cut_again : (files : List Packed) → cut_up (entries_of files) (data_of files) ≡ files
cut_again [] = refl
cut_again (file ∷ files) =
    ap (λ t. record { path = file.path; bytes = t } ∷ cut_up (entries_of files) (drop (length file.bytes) (data_of (file ∷ files)))) (take-append_seam file.bytes (data_of files))
    ∙ ap (λ t. file ∷ cut_up (entries_of files) t) (drop-append_seam file.bytes (data_of files))
    ∙ ap (λ t. file ∷ t) (cut_again files)

-- a bundle's files are found in it
pub filled : (files : List Packed) (bytes : List ℕ) → IsBundle files bytes → files_in bytes ≡ Some files
unfolding files_in
filled files bytes is =
    let es : List Entry = entries_of files in
    let front : List ℕ = take most_front bytes in
    let b = begun front (length bytes) bytes files (refl, refl) is in
    let at : length front - length b.0 ≡ length (front_of es) = let l = b.2 in omega (arith, l) in
    let stored : drop (length front - length b.0) bytes ≡ data_of files = ap (λ n. drop n bytes) at ∙ ap (drop (length (front_of es))) is.whole ∙ drop-append_seam (front_of es) (data_of files) in
    ap (option_and_then (behind bytes (length front))) b.1
    ∙ ap (filling es) stored
    ∙ cond-true _ _ _ (eq-eqb _ _ (sizes_are files))
    ∙ ap Some (cut_again files)

same_some : {X : Type 0} (x y : X) → Some x ≡ Some y → x ≡ y
same_some x y e = cc

-- and what is found is a bundle's files
pub filled_back : (files : List Packed) (bytes : List ℕ) → files_in bytes ≡ Some files → IsBundle files bytes
unfolding files_in
filled_back files bytes h =
    let front : List ℕ = take most_front bytes in
    let f = then_some (behind bytes (length front)) (front_in front) files h in
    let es : List Entry = f.0.0 in
    let left : ℕ = f.0.1 in
    let head : ℕ = length front - left in
    let c = if_some (eqb (length (drop head bytes)) (sizes es)) (Some (cut_up es (drop head bytes))) files f.2 in
    let all : length (drop head bytes) ≡ sizes es = eqb-true _ _ c.0 in
    let long : length front ≡ min (length bytes) most_front = let l = length-take most_front bytes in omega (arith, l) in
    let fits : head + sizes es ≡ length bytes = let l = length-drop head bytes in omega (arith, l, all, long) in
    let reads : Reads front (length bytes) (Some (record { head = head; items = items_from head es })) =
    is_index front (length bytes) left head es (items_from head es) refl (sym f.1) long fits refl in
    let l : Lists (record { head = head; items = items_from head es }) bytes = reads bytes (refl, refl) in
    let same : l.0 ≡ files = same_some l.0 files (sym (filled l.0 bytes l.1) ∙ h) in
    subst (λ fs. IsBundle fs bytes) same l.1

-- what `read_index` answers
pub index_is : (bytes front : List ℕ) (size : ℕ) (o : Option Index) → IsFrontOf front size bytes → Reads front size o → o ≡ index_in bytes
index_is bytes front size (Some index) of reads =
    let l : Lists index bytes = reads bytes of in
    ap Some l.2 ∙ ap (option_map (λ files. index_of (entries_of files))) (sym (filled l.0 bytes l.1))
index_is bytes front size None of reads = by (files_in bytes) refl
  where
    by : (o : Option (List Packed)) → files_in bytes ≡ o → None ≡ index_in bytes
    by (Some files) is = absurd (reads bytes of files (filled_back files bytes is))
    by None is = ap (option_map (λ files. index_of (entries_of files))) (sym is)
