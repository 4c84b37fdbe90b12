-- Texts with commas between, and one more behind.
use Rattle.std.proofs.Common.{◌≡◌, ◌∙◌, sym, ap, ℕ, ◌+◌, ◌<◌, List, [], ◌∷◌, ◌++◌, append_assoc, length, get_or, take, map, arith, codes}
use Rattle.std.proofs.lemmas.Grind.{flat_map-append}
use Rattle.std.proofs.lemmas.List.{take_more, map_push, append-nil, length-map, length-take}
use Rattle.std.specs.List.{flat_map}
use Rattle.py_value.specs.declared.value.Value.{Value}
use Rattle.py_value.specs.declared.value.Value.TheVariants as values
use Rattle.value_texts.specs.declared.draft.Draft.TheVariants as drafts
use Rattle.value_texts.specs.Texts.{with_commas, comma_before, repr_text}

more : (texts : List (List ℕ)) (text : List ℕ) → with_commas (texts ++ text ∷ []) ≡ with_commas texts ++ (comma_before (length texts) ++ text)
more [] text = append-nil text
more (first ∷ texts) text =
    ap (λ t. first ++ t) (flat_map-append (λ t. codes ", " ++ t) texts (text ∷ []) ∙ ap (λ t. flat_map (λ u. codes ", " ++ u) texts ++ t) (append-nil (codes ", " ++ text)))
    ∙ sym (append_assoc first (flat_map (λ t. codes ", " ++ t) texts) (codes ", " ++ text))

pub commas_more : (items : List Value) (n : ℕ) (d : Value) → n < length items →
    with_commas (map repr_text (take (n + 1) items)) ≡ with_commas (map repr_text (take n items)) ++ (comma_before n ++ repr_text (get_or items n d))
commas_more items n d h =
    let texts = map repr_text (take n items) in
    let len : length texts ≡ n = simp (length-map, length-take) (omega arith) in
    ap (λ xs. with_commas (map repr_text xs)) (take_more items n d h) ∙ ap with_commas (map_push repr_text (take n items) (get_or items n d)) ∙ more texts (repr_text (get_or items n d))
    ∙ ap (λ k. with_commas texts ++ (comma_before k ++ repr_text (get_or items n d))) len
