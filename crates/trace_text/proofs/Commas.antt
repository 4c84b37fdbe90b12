-- Texts with commas between, and one more behind.
use Rattle.std.proofs.Common.{◌≡◌, ◌∙◌, sym, ap, ℕ, ◌+◌, ◌<◌, List, [], ◌∷◌, ◌++◌, append_assoc, length, get_or, take, map, arith, codes}
use Rattle.std.proofs.lemmas.Grind.{flat_map-append}
use Rattle.std.proofs.lemmas.List.{take_more, map_push, append-nil, length-map, length-take}
use Rattle.std.specs.List.{flat_map}
use Rattle.trace_text.specs.Values.{with_commas, comma_before}

more : (texts : List (List ℕ)) (text : List ℕ) → with_commas (texts ++ text ∷ []) ≡ with_commas texts ++ (comma_before (length texts) ++ text)
more [] text = append-nil text
more (first ∷ texts) text =
    ap (λ t. first ++ t) (flat_map-append (λ t. codes "," ++ t) texts (text ∷ []) ∙ ap (λ t. flat_map (λ u. codes "," ++ u) texts ++ t) (append-nil (codes "," ++ text)))
    ∙ sym (append_assoc first (flat_map (λ t. codes "," ++ t) texts) (codes "," ++ text))

pub commas_more : {X : Type 0} (f : X → List ℕ) (items : List X) (n : ℕ) (d : X) → n < length items →
    with_commas (map f (take (n + 1) items)) ≡ with_commas (map f (take n items)) ++ (comma_before n ++ f (get_or items n d))
commas_more f items n d h =
    let texts = map f (take n items) in
    let len : length texts ≡ n = simp (length-map, length-take) (omega arith) in
    ap (λ xs. with_commas (map f xs)) (take_more items n d h) ∙ ap with_commas (map_push f (take n items) (get_or items n d)) ∙ more texts (f (get_or items n d))
    ∙ ap (λ k. with_commas texts ++ (comma_before k ++ f (get_or items n d))) len

-- the text so far, with a comma and one more piece
pub put_more : {X : Type 0} (f : X → List ℕ) (out : List ℕ) (items : List X) (n : ℕ) (d : X) → n < length items →
    ((out ++ with_commas (map f (take n items))) ++ comma_before n) ++ f (get_or items n d) ≡ out ++ with_commas (map f (take (n + 1) items))
put_more f out items n d h =
    append_assoc (out ++ with_commas (map f (take n items))) (comma_before n) (f (get_or items n d))
    ∙ append_assoc out (with_commas (map f (take n items))) (comma_before n ++ f (get_or items n d))
    ∙ ap (λ t. out ++ t) (sym (commas_more f items n d h))
