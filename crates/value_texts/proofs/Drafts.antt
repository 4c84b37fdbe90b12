-- Two pieces that are put one after the other are one piece.
use Rattle.std.proofs.Common.{◌≡◌, ◌∙◌, refl, sym, ap, ℕ, ◌<◌, ◌≤◌, List, ◌++◌, append_assoc, length, length-append, inl, inr, arith}
use Rattle.std.proofs.lemmas.Bool.{cases_lt}
use Rattle.value_texts.specs.declared.draft.Draft.{Draft}
use Rattle.value_texts.specs.declared.draft.Draft.TheVariants as drafts
use Rattle.value_texts.specs.Texts.{put}

pub over : (text piece : List ℕ) → 65536 < length (text ++ piece) → put (drafts.Within text) piece ≡ drafts.Over
over text piece h = grind arith

pub within : (text piece : List ℕ) → length (text ++ piece) ≤ 65536 → put (drafts.Within text) piece ≡ drafts.Within (text ++ piece)
within text piece h = grind arith

pub put_put : (draft : Draft) (a b : List ℕ) → put (put draft a) b ≡ put draft (a ++ b)
put_put drafts.Over a b = refl
put_put (drafts.Within text) a b = elim (cases_lt 65536 (length (text ++ a))) [
  | inl long ↦
      let longer : 65536 < length (text ++ (a ++ b)) = simp (length-append) (omega (arith, length-append text a)) in
      ap (λ d. put d b) (over text a long) ∙ sym (over text (a ++ b) longer)
  | inr short ↦
      let same : put (drafts.Within (text ++ a)) b ≡ put (drafts.Within text) (a ++ b) = simp append_assoc in
      ap (λ d. put d b) (within text a short) ∙ same
]
