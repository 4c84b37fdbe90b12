-- What an index says of the bytes of a bundle.
use Rattle.std.proofs.Common.{◌≡◌, ◌∙◌, refl, sym, ap, ℕ, ◌+◌, List, [], ◌∷◌, ◌++◌, length, take, drop, Some, None, Option, append_assoc, length-append}
use Rattle.std.proofs.Math.Seq.{take-append_seam, drop-append_seam}
use Rattle.bundle_hook.specs.declared.bundle.Packed.{Packed}
use Rattle.bundle_hook.specs.declared.bundle.Index.{Index}
use Rattle.bundle_hook.specs.Spelling.{front_of}
use Rattle.bundle_hook.specs.Bundle.{IsBundle, IsFrontOf, Lists, Reads, StandIn, entries_of, data_of, items_from, index_of}
use Rattle.bundle_hook.proofs.Indexed.{one_list}

stand_behind : (files : List Packed) (front bytes : List ℕ) (at : ℕ) → at ≡ length front → bytes ≡ front ++ data_of files → StandIn bytes files (items_from at (entries_of files))
stand_behind [] front bytes at is whole = tt
stand_behind (file ∷ files) front bytes at is whole =
    let here : drop at bytes ≡ file.bytes ++ data_of files = ap (λ n. drop n bytes) is ∙ ap (drop (length front)) whole ∙ drop-append_seam front (file.bytes ++ data_of files) in
    let own : take (length file.bytes) (drop at bytes) ≡ file.bytes = ap (take (length file.bytes)) here ∙ take-append_seam file.bytes (data_of files) in
    let next : at + length file.bytes ≡ length (front ++ file.bytes) = ap (λ n. n + length file.bytes) is ∙ sym (length-append front file.bytes) in
    (refl, own, stand_behind files (front ++ file.bytes) bytes (at + length file.bytes) next (whole ∙ sym (append_assoc front file.bytes (data_of files))))

pub stand_in : (files : List Packed) (bytes : List ℕ) → IsBundle files bytes → StandIn bytes files (items_from (length (front_of (entries_of files))) (entries_of files))
stand_in files bytes is = stand_behind files (front_of (entries_of files)) bytes (length (front_of (entries_of files))) refl is.whole

pub listed_again : (files : List Packed) (bytes front : List ℕ) (size : ℕ) (o : Option Index) → IsBundle files bytes → IsFrontOf front size bytes → Reads front size o → o ≡ Some (index_of (entries_of files))
listed_again files bytes front size None is of reads = absurd (reads bytes of files is)
listed_again files bytes front size (Some index) is of reads =
    let l : Lists index bytes = reads bytes of in
    ap Some (l.2 ∙ ap (λ fs. index_of (entries_of fs)) (one_list l.0 files bytes l.1 is))
