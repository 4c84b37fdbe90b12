-- Bytes of a file of a bundle, read at their place in the bundle.
use Rattle.std.proofs.Common.{◌≡◌, ◌∙◌, sym, ap, subst, ℕ, ◌+◌, ◌-◌, ◌≤◌, ◌<◌, ◌^◌, List, ◌++◌, length, take, drop, min, Option, Some, None, IfSome, arith, append_assoc, length-take, length-drop}
use Rattle.std.proofs.lemmas.List.{take-append-drop, drop-append-le, drop-drop, drop-take, take-take}
use Rattle.base_types.specs.Path.{Path}
use Rattle.tree_files.specs.Files.{Files, IsRead, node_at, bytes_of}

-- a piece of the file is that piece of the bundle
same_bytes : (bundle : List ℕ) (start size at n : ℕ) → at < size → n ≤ size - at → take n (drop (start + at) bundle) ≡ take n (drop at (take size (drop start bundle)))
same_bytes bundle start size at n low fits =
    let whole : at + (size - at) ≡ size = omega (arith, low) in
    sym (ap (λ k. take n (drop at (take k (drop start bundle)))) (sym whole) ∙ ap (take n) (drop-take at (size - at) (drop start bundle)) ∙ take-take n (size - at) (drop at (drop start bundle)) fits ∙ ap (take n) (drop-drop at start bundle))

stored_read : (bundle : List ℕ) (start size at room : ℕ) (old before piece new : List ℕ) (n : ℕ) → start + size ≤ length bundle → at < size → room ≡ min (size - at) (length old) → before ≡ take room old → new ≡ piece ++ drop room old → n ≤ length before
    → IsRead bundle (start + at) before piece n → IsRead (take size (drop start bundle)) at old new n
stored_read bundle start size at room old before piece new n ends low is_room is_before is_new count read =
    let b = ap length is_before in
    let t = length-take room old in
    let d = length-drop start bundle in
    let l = length-take size (drop start bundle) in
    let within : n ≤ room = omega (arith, b, t, is_room, count) in
    let fits : n ≤ size - at = omega (arith, within, is_room) in
    let shorter : n ≤ length (take room old) = omega (arith, b, count) in
    let joins : drop n (take room old) ++ drop room old ≡ drop n old = sym (drop-append-le n (take room old) (drop room old) shorter) ∙ ap (drop n) (take-append-drop room old) in
    record {
      filled =
          is_new ∙ ap (λ s. s ++ drop room old) (read.filled ∙ ap (λ s. take n (drop (start + at) bundle) ++ drop n s) is_before)
          ∙ append_assoc (take n (drop (start + at) bundle)) (drop n (take room old)) (drop room old) ∙ ap (λ s. take n (drop (start + at) bundle) ++ s) joins
          ∙ ap (λ s. s ++ drop n old) (same_bytes bundle start size at n low fits);
      within = omega (arith, fits, l, d, ends);
      some = λ has more. read.some (omega (arith, b, t, is_room, low, has)) (omega (arith, low, ends));
    }

pub stored_told : (told : Option Files) (p : Path) (start size at place room : ℕ) (old before piece new : List ℕ) (n : ℕ) → at < size → place ≡ min (start + at) (2 ^ 64 - 1) → room ≡ min (size - at) (length old) → before ≡ take room old → new ≡ piece ++ drop room old → n ≤ length before
    → IfSome told (λ f. IsRead (bytes_of (node_at f p)) place before piece n)
    → IfSome told (λ f. start + size ≤ length (bytes_of (node_at f p)) → length (bytes_of (node_at f p)) < 2 ^ 64 → IsRead (take size (drop start (bytes_of (node_at f p)))) at old new n)
stored_told None p start size at place room old before piece new n low is_place is_room is_before is_new count read = tt
stored_told (Some f) p start size at place room old before piece new n low is_place is_room is_before is_new count read = λ ends small.
    let there : place ≡ start + at = omega (arith, is_place, low, ends, small) in
    stored_read (bytes_of (node_at f p)) start size at room old before piece new n ends low is_room is_before is_new count
    (subst (λ k. IsRead (bytes_of (node_at f p)) k before piece n) there read)
