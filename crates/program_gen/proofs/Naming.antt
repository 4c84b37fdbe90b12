-- The file of a script names one path.
use Rattle.std.proofs.Common.{◌≡◌, ◌∙◌, refl, sym, ap, subst, ℕ, ◌<◌, ◌^◌, [], ◌∷◌, Bool, true, IsTrue, inl, inr, codes, eqb}
use Rattle.std.proofs.lemmas.Bool.{and_from}
use Rattle.std.proofs.lemmas.Fmt.{decimal_injective}
use Rattle.std.proofs.lemmas.List.{append_cancel_left, append_cancel_right}
use Rattle.std.specs.Fmt.{decimal}
use Rattle.std.specs.List.{slice_split}
use Rattle.base_types.specs.Path.{Path, is_part, IsPath, Spells}
use Rattle.base_types.proofs.PathText.{split-joined}
use Rattle.program_gen.specs.Generator.{Word, script_name, file_of}

abbrev slash : ℕ → Bool
slash b = eqb b 47

no_part-[] : IsTrue (is_part []) → ⊥
no_part-[] h = cc

no_part-dot : IsTrue (is_part (codes ".")) → ⊥
no_part-dot h = cc

whole : (word : Word) → IsTrue (is_part word) → IsPath (word ∷ [])
whole word h = and_from (is_part word) true h refl

pub part_spells : (word : Word) → IsTrue (is_part word) → Spells word (word ∷ [])
part_spells word h = (whole word h, inl refl)

-- a part names itself alone
pub part_only : (word : Word) → IsTrue (is_part word) → (path : Path) → Spells word path → path ≡ word ∷ []
part_only word h [] s = elim s.1 [
  | inl e ↦ absurd (no_part-[] (subst (λ w. IsTrue (is_part w)) e h))
  | inr e ↦ absurd (no_part-dot (subst (λ w. IsTrue (is_part w)) e.1 h))
]
part_only word h (x ∷ ps) s = elim s.1 [
  | inl e ↦ sym (split-joined x ps s.0) ∙ ap (slice_split slash) (sym e) ∙ split-joined word [] (whole word h)
  | inr e ↦ cc
]

-- two scripts have two files
pub script_of_file : (s n : ℕ) → s < 2 ^ 64 → n < 2 ^ 64 → file_of (script_name s) ≡ file_of (script_name n) → s ≡ n
script_of_file s n h k e =
    decimal_injective s n h k (append_cancel_left (codes "s") (decimal s) (decimal n) (append_cancel_right (script_name s) (script_name n) (codes ".py") e))
