-- Runs of bytes that stand for themselves between quotes.
use Rattle.std.proofs.Common.{◌≡◌, ◌∙◌, refl, sym, ap, ℕ, suc, ◌+◌, ◌-◌, ◌<◌, ◌≤◌, List, [], ◌∷◌, ◌++◌, append_assoc, true, false, length, get_or, take, drop, length-take, length-drop, arith, if◌then◌else◌}
use Rattle.std.proofs.lemmas.Grind.{flat_map-append}
use Rattle.std.proofs.lemmas.List.{take_more, get_or-drop, get_or-take, take-append-drop, append-nil}
use Rattle.std.proofs.Math.Seq.{take-add}
use Rattle.std.specs.List.{flat_map}
use Rattle.base_spelling.specs.Spelling.{is_escaped, escape, escaped}

-- what is escaped is ASCII
pub ascii : (b : ℕ) → is_escaped b ≡ true → b < 128
ascii b h = grind arith

itself : (b : ℕ) → is_escaped b ≡ false → escaped b ≡ b ∷ []
itself b h = ap (λ t. if t then escape b else b ∷ []) h

turned : (b : ℕ) → is_escaped b ≡ true → escaped b ≡ escape b
turned b h = ap (λ t. if t then escape b else b ∷ []) h

plain_run : (run : List ℕ) → ((k : ℕ) → k < length run → is_escaped (get_or run k 0) ≡ false) → flat_map escaped run ≡ run
plain_run [] h = refl
plain_run (b ∷ run) h =
    let first : is_escaped b ≡ false = h 0 (omega arith) in
    let rest = plain_run run (λ k below. h (suc k) (omega arith)) in
    ap (λ t. t ++ flat_map escaped run) (itself b first) ∙ ap (λ t. b ∷ t) rest

-- the bytes from one place to another, where each of them stands for itself
piece : (bytes : List ℕ) (from n : ℕ) → from + n ≤ length bytes → ((k : ℕ) → from ≤ k → k < from + n → is_escaped (get_or bytes k 0) ≡ false) →
    flat_map escaped (take (from + n) bytes) ≡ flat_map escaped (take from bytes) ++ take n (drop from bytes)
piece bytes from n fits plain =
    let run = take n (drop from bytes) in
    let len : length run ≡ n = simp (length-take, length-drop) (omega arith) in
    let same : flat_map escaped run ≡ run =
    plain_run run (λ k below.
    let small : k < n = omega arith in
    let at : get_or run k 0 ≡ get_or bytes (from + k) 0 = get_or-take n (drop from bytes) k 0 small ∙ get_or-drop from bytes k 0 in
    ap is_escaped at ∙ plain (from + k) (omega arith) (omega arith))
    in
    ap (flat_map escaped) (take-add from n bytes) ∙ flat_map-append escaped (take from bytes) run ∙ ap (λ t. flat_map escaped (take from bytes) ++ t) same

pub run_step : (bytes : List ℕ) (from i : ℕ) → from ≤ i → i < length bytes → ((k : ℕ) → from ≤ k → k < i → is_escaped (get_or bytes k 0) ≡ false) → is_escaped (get_or bytes i 0) ≡ true →
    flat_map escaped (take (i + 1) bytes) ≡ flat_map escaped (take from bytes) ++ (take (i - from) (drop from bytes) ++ escape (get_or bytes i 0))
run_step bytes from i low high plain last =
    let there : from + (i - from) ≡ i = omega arith in
    let before : flat_map escaped (take i bytes) ≡ flat_map escaped (take from bytes) ++ take (i - from) (drop from bytes) =
    ap (λ n. flat_map escaped (take n bytes)) (sym there) ∙ piece bytes from (i - from) (omega arith) (λ k above below. plain k above (omega arith))
    in
    let end : flat_map escaped (get_or bytes i 0 ∷ []) ≡ escape (get_or bytes i 0) = append-nil (escaped (get_or bytes i 0)) ∙ turned (get_or bytes i 0) last in
    ap (flat_map escaped) (take_more bytes i 0 high) ∙ flat_map-append escaped (take i bytes) (get_or bytes i 0 ∷ [])
    ∙ (λ k. before k ++ end k) ∙ append_assoc (flat_map escaped (take from bytes)) (take (i - from) (drop from bytes)) (escape (get_or bytes i 0))

pub run_end : (bytes : List ℕ) (from : ℕ) → from ≤ length bytes → ((k : ℕ) → from ≤ k → k < length bytes → is_escaped (get_or bytes k 0) ≡ false) →
    flat_map escaped bytes ≡ flat_map escaped (take from bytes) ++ drop from bytes
run_end bytes from low plain =
    let len = length-drop from bytes in
    let same : flat_map escaped (drop from bytes) ≡ drop from bytes =
    plain_run (drop from bytes) (λ k below.
    ap is_escaped (get_or-drop from bytes k 0) ∙ plain (from + k) (omega arith) (omega arith))
    in
    ap (flat_map escaped) (sym (take-append-drop from bytes)) ∙ flat_map-append escaped (take from bytes) (drop from bytes) ∙ ap (λ t. flat_map escaped (take from bytes) ++ t) same
