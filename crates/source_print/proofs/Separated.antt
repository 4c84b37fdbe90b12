-- Items that are put one after the other.
use Rattle.std.proofs.Common.{◌≡◌, ◌∙◌, refl, sym, ap, ℕ, zero, suc, ◌+◌, ◌<◌, List, [], ◌∷◌, ◌++◌, append_assoc, append-nil, length, get_or, take, map, flat_map, ◌==◌, arith}
use Rattle.std.proofs.lemmas.Grind.{flat_map-append}
use Rattle.std.proofs.lemmas.List.{take_more, map_push, length-map, length-take}
use Rattle.py_syntax.specs.declared.lexeme.Lexeme.{Lexeme}
use Rattle.py_syntax.specs.declared.lexeme.Lexeme.TheVariants as token
use Rattle.source_print.specs.Expressions.{separated}
use Rattle.source_print.specs.Statements.{dots}
use Rattle.source_print.specs.Between.{before}

-- ---- separators

one_more : (sep : Lexeme) (tss : List (List Lexeme)) (ts : List Lexeme) → separated sep (tss ++ ts ∷ []) ≡ separated sep tss ++ (before sep (length tss) ++ ts)
one_more sep [] ts = append-nil ts
one_more sep (first ∷ others) ts =
    ap (λ us. first ++ us) (flat_map-append (λ us. sep ∷ us) others (ts ∷ []) ∙ ap (λ us. flat_map (λ vs. sep ∷ vs) others ++ us) (append-nil (sep ∷ ts)))
    ∙ sym (append_assoc first (flat_map (λ us. sep ∷ us) others) (sep ∷ ts))

module _ {X : Type 0} (print : X → List Lexeme) where
  taken : (xs : List X) (n : ℕ) → n < length xs → length (map print (take n xs)) ≡ n
  taken xs n h = simp (length-map, length-take) (omega arith)

  pushed : (xs : List X) (n : ℕ) (d : X) → n < length xs → map print (take (n + 1) xs) ≡ map print (take n xs) ++ print (get_or xs n d) ∷ []
  pushed xs n d h = ap (map print) (take_more xs n d h) ∙ map_push print (take n xs) (get_or xs n d)

  -- what is put so far, with a separator and one more item
  pub separated_more : (sep : Lexeme) (out : List Lexeme) (xs : List X) (n : ℕ) (d : X) → n < length xs →
      ((out ++ separated sep (map print (take n xs))) ++ before sep n) ++ print (get_or xs n d) ≡ out ++ separated sep (map print (take (n + 1) xs))
  separated_more sep out xs n d h =
      append_assoc (out ++ separated sep (map print (take n xs))) (before sep n) (print (get_or xs n d))
      ∙ append_assoc out (separated sep (map print (take n xs))) (before sep n ++ print (get_or xs n d))
      ∙ ap (λ k. out ++ (separated sep (map print (take n xs)) ++ (before sep k ++ print (get_or xs n d)))) (sym (taken xs n h))
      ∙ ap (λ ts. out ++ ts) (sym (ap (separated sep) (pushed xs n d h) ∙ one_more sep (map print (take n xs)) (print (get_or xs n d))))

-- ---- items of expressions

-- ---- branches

-- ---- dots

dots_end : (n : ℕ) → token.Dot ∷ dots n ≡ dots n ++ token.Dot ∷ []
dots_end zero = refl
dots_end (suc n) = ap (λ ts. token.Dot ∷ ts) (dots_end n)

pub dots_more : (out : List Lexeme) (n : ℕ) → (out ++ dots n) ++ token.Dot ∷ [] ≡ out ++ dots (n + 1)
dots_more out n =
    let next : suc n ≡ n + 1 = omega arith in
    append_assoc out (dots n) (token.Dot ∷ []) ∙ ap (λ ts. out ++ ts) (sym (dots_end n)) ∙ ap (λ k. out ++ dots k) next
