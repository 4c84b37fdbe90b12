-- Statements that are put beside lines one by one.
use Rattle.std.proofs.Common.{◌≡◌, refl, ap, ℕ, List, [], ◌∷◌, ◌++◌, drop, length}
use Rattle.report_questions.specs.SourceImports.{paired, with_first}
use Rattle.report_questions.specs.declared.collect.Asked.{Asked}
use Rattle.report_questions.specs.declared.source.Import.{Import}

-- one more statement
pub paired_push : (xs : List Asked) (a : Asked) (lines : List ℕ) → paired (xs ++ a ∷ []) lines ≡ paired xs lines ++ with_first a (drop (length xs) lines)
paired_push [] a [] = refl
paired_push [] a (line ∷ lines) = refl
paired_push (x ∷ xs) a [] = refl
paired_push (x ∷ xs) a (line ∷ lines) = ap (λ (all : List Import). record { line = line; asked = x } ∷ all) (paired_push xs a lines)

-- the lines behind one more
pub drop_push : (xs : List Asked) (a : Asked) (lines : List ℕ) → drop 1 (drop (length xs) lines) ≡ drop (length (xs ++ a ∷ [])) lines
drop_push [] a lines = refl
drop_push (x ∷ xs) a [] = refl
drop_push (x ∷ xs) a (line ∷ lines) = drop_push xs a lines
