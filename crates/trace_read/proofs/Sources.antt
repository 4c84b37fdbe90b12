-- The digits of a source.
use Rattle.std.proofs.Common.{◌≡◌, ◌∙◌, refl, sym, ap, subst, ℕ, ◌/◌, ◌%◌, ◌<◌, List, [], ◌∷◌, ◌++◌, Bool, true, false, codes, arith, inl, inr}
use Rattle.std.proofs.lemmas.Bool.{cases_Bool, cond-true, cond-false, and_from}
use Rattle.std.specs.List.{flat_map, list_all, AllByRecursion}
use Rattle.std.specs.Str.{is_utf8}
use Rattle.base_spelling.specs.Spelling.{hex_digit, hex_byte, quoted, in_hex, source}
use Rattle.trace_fields.proofs.Closed.{Closed, is_ordinary, ordinary_closed, closed_both, inner_closed, in_parentheses_closed}
use Rattle.trace_fields.proofs.Quoting.{quoted_closed}
use Rattle.trace_read.proofs.Bytes.{ordinary_both}

-- a source's digits
hex_digit_ordinary : (d : ℕ) → d < 16 → is_ordinary (hex_digit d) ≡ true
hex_digit_ordinary d h = grind arith

hex_ordinary : (bytes : List ℕ) → AllByRecursion (λ b. b < 256) bytes → list_all is_ordinary (flat_map hex_byte bytes) ≡ true
hex_ordinary [] h = refl
hex_ordinary (b ∷ bytes) h =
    ordinary_both (hex_byte b) (flat_map hex_byte bytes)
    (and_from _ _ (hex_digit_ordinary (b / 16) (omega (arith, h.0))) (and_from _ _ (hex_digit_ordinary (b % 16) (omega arith)) refl))
    (hex_ordinary bytes h.1)

digits_closed : (bytes : List ℕ) → AllByRecursion (λ b. b < 256) bytes → Closed (in_hex bytes)
digits_closed bytes h = closed_both (codes "hex") ((codes "(" ++ flat_map hex_byte bytes) ++ codes ")") (ordinary_closed (codes "hex") refl) (in_parentheses_closed (flat_map hex_byte bytes) (inner_closed (flat_map hex_byte bytes) (ordinary_closed (flat_map hex_byte bytes) (hex_ordinary bytes h))))

pub source_closed : (bytes : List ℕ) → AllByRecursion (λ b. b < 256) bytes → Closed (source bytes)
source_closed bytes h = elim (cases_Bool (is_utf8 bytes)) [
  | inl u ↦ subst Closed (sym (cond-true _ (quoted bytes) (in_hex bytes) u)) (quoted_closed bytes)
  | inr n ↦ subst Closed (sym (cond-false _ (quoted bytes) (in_hex bytes) n)) (digits_closed bytes h)
]
