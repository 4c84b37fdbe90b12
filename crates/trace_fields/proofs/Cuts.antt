-- A text piece by piece.
use Rattle.std.proofs.Common.{◌≡◌, ◌∙◌, refl, sym, ap, ℕ, zero, suc, ◌+◌, ◌-◌, ◌<◌, ◌≤◌, List, [], ◌∷◌, ◌++◌, append_assoc, length, get_or, take, drop, Bool, true, false, ◌==◌, ◌||◌, arith, inl, inr, if◌then◌else◌}
use Rattle.std.proofs.lemmas.Bool.{cases_Bool, cond-true, cond-false}
use Rattle.std.proofs.lemmas.List.{append-nil, drop_more, take_more, get_or-drop, length-drop}
use Rattle.trace_fields.specs.declared.pieces.Scan.{Scan}
use Rattle.trace_fields.specs.declared.pieces.Scan.TheVariants as scan
use Rattle.trace_fields.specs.Splitting.{next_outside, next_quoted, next, depth, separates, with_front, split_from}

pub front_front : (p q : List ℕ) (pieces : List (List ℕ)) → with_front p (with_front q pieces) ≡ with_front (p ++ q) pieces
front_front p q [] = refl
front_front p q (x ∷ xs) = ap (λ t. t ∷ xs) (sym (append_assoc p q x))

-- a separator ends a piece
pub at_separator : (c : ℕ) (s : Scan) (b : ℕ) (rest : List ℕ) → separates c s b ≡ true → split_from c s (b ∷ rest) ≡ [] ∷ split_from c s rest
at_separator c s b rest h = cond-true _ _ _ h

pub at_other : (c : ℕ) (s : Scan) (b : ℕ) (rest : List ℕ) → separates c s b ≡ false → split_from c s (b ∷ rest) ≡ with_front (b ∷ []) (split_from c (next s b) rest)
at_other c s b rest h = cond-false _ _ _ h

pub nothing_front : (c : ℕ) (s : Scan) (text : List ℕ) → with_front [] (split_from c s text) ≡ split_from c s text
nothing_front c s [] = refl
nothing_front c s (b ∷ rest) = elim (cases_Bool (separates c s b)) [
  | inl turns ↦ ap (with_front []) (at_separator c s b rest turns) ∙ sym (at_separator c s b rest turns)
  | inr stays ↦ ap (with_front []) (at_other c s b rest stays) ∙ front_front [] (b ∷ []) (split_from c (next s b) rest) ∙ sym (at_other c s b rest stays)
]

-- the piece so far
abbrev pub piece : ℕ → ℕ → List ℕ → List ℕ
piece from i text = take (i - from) (drop from text)

piece_more : (from i : ℕ) (text : List ℕ) → from ≤ i → i < length text → piece from (i + 1) text ≡ piece from i text ++ get_or text i 0 ∷ []
piece_more from i text low high =
    let len : i - from < length (drop from text) = omega (arith, length-drop from text) in
    let there : i + 1 - from ≡ i - from + 1 = omega arith in
    let back : from + (i - from) ≡ i = omega arith in
    ap (λ n. take n (drop from text)) there ∙ take_more (drop from text) (i - from) 0 len
    ∙ ap (λ b. piece from i text ++ b ∷ []) (get_or-drop from text (i - from) 0 ∙ ap (λ n. get_or text n 0) back)

no_piece : (i : ℕ) (text : List ℕ) → piece i i text ≡ []
no_piece i text = let none : i - i ≡ 0 = omega arith in ap (λ n. take n (drop i text)) none

pub ends_piece : (c : ℕ) (s : Scan) (text : List ℕ) (from i : ℕ) (done : List (List ℕ)) → from ≤ i → i < length text → separates c s (get_or text i 0) ≡ true →
    done ++ with_front (piece from i text) (split_from c s (drop i text)) ≡ (done ++ piece from i text ∷ []) ++ with_front (piece (i + 1) (i + 1) text) (split_from c s (drop (i + 1) text))
ends_piece c s text from i done low high turns =
    let rest = split_from c s (drop (i + 1) text) in
    let cut : split_from c s (drop i text) ≡ [] ∷ rest = ap (split_from c s) (drop_more text i 0 high) ∙ at_separator c s (get_or text i 0) (drop (i + 1) text) turns in
    ap (λ r. done ++ with_front (piece from i text) r) cut
    ∙ ap (λ p. done ++ p ∷ rest) (append-nil (piece from i text))
    ∙ sym (append_assoc done (piece from i text ∷ []) rest)
    ∙ ap (λ r. (done ++ piece from i text ∷ []) ++ r) (sym (ap (λ p. with_front p rest) (no_piece (i + 1) text) ∙ nothing_front c s (drop (i + 1) text)))

pub goes_on : (c : ℕ) (s : Scan) (text : List ℕ) (from i : ℕ) (done : List (List ℕ)) → from ≤ i → i < length text → separates c s (get_or text i 0) ≡ false →
    done ++ with_front (piece from i text) (split_from c s (drop i text)) ≡ done ++ with_front (piece from (i + 1) text) (split_from c (next s (get_or text i 0)) (drop (i + 1) text))
goes_on c s text from i done low high stays =
    let b = get_or text i 0 in
    let rest = split_from c (next s b) (drop (i + 1) text) in
    let cut : split_from c s (drop i text) ≡ with_front (b ∷ []) rest = ap (split_from c s) (drop_more text i 0 high) ∙ at_other c s b (drop (i + 1) text) stays in
    ap (λ r. done ++ with_front (piece from i text) r) cut
    ∙ ap (λ r. done ++ r) (front_front (piece from i text) (b ∷ []) rest)
    ∙ ap (λ p. done ++ with_front p rest) (sym (piece_more from i text low high))

at_most : (b : Bool) (s t : Scan) (n : ℕ) → depth s ≤ n + 1 → depth t ≤ n + 1 → depth (if b then s else t) ≤ n + 1
at_most true s t n f g = f
at_most false s t n f g = g

depth_outside : (n b : ℕ) → depth (next_outside n b) ≤ n + 1
depth_outside n b =
    at_most (b == 34) _ _ n (omega arith) (at_most (b == 91 || b == 40) _ _ n (omega arith) (at_most (b == 93 || b == 41) _ _ n (omega arith) (omega arith)))

depth_quoted : (n b : ℕ) → depth (next_quoted n b) ≤ n + 1
depth_quoted n b = at_most (b == 92) _ _ n (omega arith) (at_most (b == 34) _ _ n (omega arith) (omega arith))

pub depth_next : (s : Scan) (b : ℕ) → depth (next s b) ≤ depth s + 1
depth_next (scan.Outside n) b = depth_outside n b
depth_next (scan.Quoted n) b = depth_quoted n b
depth_next (scan.Escaped n) b = omega arith
