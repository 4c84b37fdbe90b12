-- Pieces that are put one after the other.
use Rattle.std.proofs.Common.{◌≡◌, ◌∙◌, sym, ap, refl, ℕ, zero, suc, ◌+◌, List, ◌++◌, append_assoc, codes, arith}
use Rattle.source_print.specs.Text.{indentation}

pub six : (out a b c d e f : List ℕ) → (((((out ++ a) ++ b) ++ c) ++ d) ++ e) ++ f ≡ out ++ (a ++ (b ++ (c ++ (d ++ (e ++ f)))))
six out a b c d e f = simp append_assoc

indentation_end : (n : ℕ) → codes "    " ++ indentation n ≡ indentation n ++ codes "    "
indentation_end zero = refl
indentation_end (suc n) = ap (λ t. codes "    " ++ t) (indentation_end n)

pub indentation_more : (out : List ℕ) (n : ℕ) → (out ++ indentation n) ++ codes "    " ≡ out ++ indentation (n + 1)
indentation_more out n =
    let next : suc n ≡ n + 1 = omega arith in
    append_assoc out (indentation n) (codes "    ") ∙ ap (λ t. out ++ t) (sym (indentation_end n)) ∙ ap (λ k. out ++ indentation k) next
