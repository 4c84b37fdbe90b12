-- Reading the front of a file in pieces.
use Rattle.std.proofs.Common.{◌≡◌, ◌∙◌, sym, ap, ℕ, ◌+◌, ◌-◌, ◌≤◌, ◌<◌, List, ◌++◌, length, take, drop, min, Option, Some, None, IfSome, arith, length-take, length-drop, length-append}
use Rattle.std.proofs.lemmas.List.{take_all, take_min, take-append-le}
use Rattle.std.proofs.Math.Seq.{take-add, take-append_seam, drop-append_seam}
use Rattle.base_types.specs.Path.{Path}
use Rattle.tree_files.specs.Files.{Files, IsRead, node_at, bytes_of}
use Rattle.tree_files.specs.Reading.{IsRead-next}
use Rattle.bundle_hook.specs.declared.bundle.Index.{Index}
use Rattle.bundle_hook.specs.Spelling.{most_front}
use Rattle.bundle_hook.specs.Bundle.{Reads}
use Rattle.bundle_hook.specs.Files.{index_in}
use Rattle.bundle_hook.proofs.Filled.{index_is}

-- one piece more
pub piece : (told : Option Files) (p : Path) (old new before into rest : List ℕ) (at n : ℕ) → at < length old → IfSome told (λ f. IsRead (bytes_of (node_at f p)) at before into n) → new ≡ take at old ++ (into ++ rest)
    → IfSome told (λ f. take at old ≡ take at (bytes_of (node_at f p)) → take (at + n) new ≡ take (at + n) (bytes_of (node_at f p)))
piece None p old new before into rest at n low read is = tt
piece (Some f) p old new before into rest at n low read is = λ same.
    let bytes : List ℕ = bytes_of (node_at f p) in
    let within : n ≤ length bytes - at = read.within in
    let long : length (take at old) ≡ at = let l = length-take at old in omega (arith, l, low) in
    let enough : n ≤ length into =
    let l = ap length read.filled in let m = length-append (take n (drop at bytes)) (drop n before) in let k = length-take n (drop at bytes) in let d = length-drop at bytes in omega (arith, l, m, k, d, within) in
    let behind : drop at new ≡ into ++ rest = ap (drop at) is ∙ ap (λ k. drop k (take at old ++ (into ++ rest))) (sym long) ∙ drop-append_seam (take at old) (into ++ rest) in
    let front : take at new ≡ take at old = ap (take at) is ∙ ap (λ k. take k (take at old ++ (into ++ rest))) (sym long) ∙ take-append_seam (take at old) (into ++ rest) in
    take-add at n new ∙ ap (λ t. t ++ take n (drop at new)) (front ∙ same) ∙ ap (λ t. take at bytes ++ take n t) behind ∙ ap (λ t. take at bytes ++ t) (take-append-le n into rest enough) ∙ IsRead-next bytes before into at n read

-- the whole front
pub whole : (told : Option Files) (p : Path) (front : List ℕ) (len size : ℕ) → length front ≡ len → len ≡ min size most_front → IfSome told (λ f. take len front ≡ take len (bytes_of (node_at f p)))
    → IfSome told (λ f. length (bytes_of (node_at f p)) ≡ size → front ≡ take most_front (bytes_of (node_at f p)))
whole None p front len size long is read = tt
whole (Some f) p front len size long is read = λ all.
    let bytes : List ℕ = bytes_of (node_at f p) in
    let looked : len ≡ min most_front (length bytes) = omega (arith, is, all) in
    sym (take_all len front (omega (arith, long))) ∙ read ∙ ap (λ k. take k bytes) looked ∙ take_min most_front bytes

-- the index of a file whose front was read
pub index_told : (told : Option Files) (p : Path) (front : List ℕ) (size : ℕ) (o : Option Index) → IfSome told (λ f. length (bytes_of (node_at f p)) ≡ size → front ≡ take most_front (bytes_of (node_at f p))) → Reads front size o
    → IfSome told (λ f. length (bytes_of (node_at f p)) ≡ size → o ≡ index_in (bytes_of (node_at f p)))
index_told None p front size o read reads = tt
index_told (Some f) p front size o read reads = λ all. index_is (bytes_of (node_at f p)) front size o (read all, sym all) reads
