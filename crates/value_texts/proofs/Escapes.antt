-- Runs of bytes that stand for themselves between quotes.
use Rattle.std.proofs.Common.{◌≡◌, ◌∙◌, refl, sym, ap, ℕ, suc, ◌+◌, ◌-◌, ◌<◌, ◌≤◌, List, [], ◌∷◌, ◌++◌, append_assoc, true, false, length, get_or, take, drop, length-take, length-drop, arith, if◌then◌else◌}
use Rattle.std.proofs.lemmas.Grind.{flat_map-append}
use Rattle.std.proofs.lemmas.List.{take_more, get_or-drop, get_or-take, take-append-drop, append-nil}
use Rattle.std.proofs.Math.Seq.{take-add}
use Rattle.std.specs.List.{flat_map}
use Rattle.value_texts.specs.declared.quoting.Quote.{Quote}
use Rattle.value_texts.specs.declared.quoting.Quote.TheVariants as quotes
use Rattle.value_texts.specs.Texts.{quote_byte, is_escaped, escape, escaped}

-- what is escaped is ASCII
pub ascii : (quote : Quote) (b : ℕ) → is_escaped (quote_byte quote) b ≡ true → b < 128
ascii quotes.Single b h = grind arith
ascii quotes.Double b h = grind arith

itself : (quote b : ℕ) → is_escaped quote b ≡ false → escaped quote b ≡ b ∷ []
itself quote b h = ap (λ t. if t then escape quote b else b ∷ []) h

turned : (quote b : ℕ) → is_escaped quote b ≡ true → escaped quote b ≡ escape quote b
turned quote b h = ap (λ t. if t then escape quote b else b ∷ []) h

plain_run : (quote : ℕ) (run : List ℕ) → ((k : ℕ) → k < length run → is_escaped quote (get_or run k 0) ≡ false) → flat_map (escaped quote) run ≡ run
plain_run quote [] h = refl
plain_run quote (b ∷ run) h =
    let first : is_escaped quote b ≡ false = h 0 (omega arith) in
    let rest = plain_run quote run (λ k below. h (suc k) (omega arith)) in
    ap (λ t. t ++ flat_map (escaped quote) run) (itself quote b first) ∙ ap (λ t. b ∷ t) rest

-- the bytes from one place to another, where each of them stands for itself
piece : (quote : ℕ) (bytes : List ℕ) (from n : ℕ) → from + n ≤ length bytes → ((k : ℕ) → from ≤ k → k < from + n → is_escaped quote (get_or bytes k 0) ≡ false) →
    flat_map (escaped quote) (take (from + n) bytes) ≡ flat_map (escaped quote) (take from bytes) ++ take n (drop from bytes)
piece quote bytes from n fits plain =
    let run = take n (drop from bytes) in
    let len : length run ≡ n = simp (length-take, length-drop) (omega arith) in
    let same : flat_map (escaped quote) run ≡ run =
    plain_run quote run (λ k below.
    let small : k < n = omega arith in
    let at : get_or run k 0 ≡ get_or bytes (from + k) 0 = get_or-take n (drop from bytes) k 0 small ∙ get_or-drop from bytes k 0 in
    ap (is_escaped quote) at ∙ plain (from + k) (omega arith) (omega arith))
    in
    ap (flat_map (escaped quote)) (take-add from n bytes) ∙ flat_map-append (escaped quote) (take from bytes) run ∙ ap (λ t. flat_map (escaped quote) (take from bytes) ++ t) same

pub run_step : (quote : ℕ) (bytes : List ℕ) (from i : ℕ) → from ≤ i → i < length bytes → ((k : ℕ) → from ≤ k → k < i → is_escaped quote (get_or bytes k 0) ≡ false) → is_escaped quote (get_or bytes i 0) ≡ true →
    flat_map (escaped quote) (take (i + 1) bytes) ≡ flat_map (escaped quote) (take from bytes) ++ (take (i - from) (drop from bytes) ++ escape quote (get_or bytes i 0))
run_step quote bytes from i low high plain last =
    let there : from + (i - from) ≡ i = omega arith in
    let before : flat_map (escaped quote) (take i bytes) ≡ flat_map (escaped quote) (take from bytes) ++ take (i - from) (drop from bytes) =
    ap (λ n. flat_map (escaped quote) (take n bytes)) (sym there) ∙ piece quote bytes from (i - from) (omega arith) (λ k above below. plain k above (omega arith))
    in
    let end : flat_map (escaped quote) (get_or bytes i 0 ∷ []) ≡ escape quote (get_or bytes i 0) = append-nil (escaped quote (get_or bytes i 0)) ∙ turned quote (get_or bytes i 0) last in
    ap (flat_map (escaped quote)) (take_more bytes i 0 high) ∙ flat_map-append (escaped quote) (take i bytes) (get_or bytes i 0 ∷ [])
    ∙ (λ k. before k ++ end k) ∙ append_assoc (flat_map (escaped quote) (take from bytes)) (take (i - from) (drop from bytes)) (escape quote (get_or bytes i 0))

pub run_end : (quote : ℕ) (bytes : List ℕ) (from : ℕ) → from ≤ length bytes → ((k : ℕ) → from ≤ k → k < length bytes → is_escaped quote (get_or bytes k 0) ≡ false) →
    flat_map (escaped quote) bytes ≡ flat_map (escaped quote) (take from bytes) ++ drop from bytes
run_end quote bytes from low plain =
    let len = length-drop from bytes in
    let same : flat_map (escaped quote) (drop from bytes) ≡ drop from bytes =
    plain_run quote (drop from bytes) (λ k below.
    ap (is_escaped quote) (get_or-drop from bytes k 0) ∙ plain (from + k) (omega arith) (omega arith))
    in
    ap (flat_map (escaped quote)) (sym (take-append-drop from bytes)) ∙ flat_map-append (escaped quote) (take from bytes) (drop from bytes) ∙ ap (λ t. flat_map (escaped quote) (take from bytes) ++ t) same
