-- A text in quotes is closed.
use Rattle.std.proofs.Common.{◌≡◌, ◌∙◌, refl, sym, ap, subst, ℕ, zero, suc, ◌+◌, ◌/◌, ◌%◌, ◌<◌, List, [], ◌∷◌, ◌++◌, Bool, true, false, not, ◌&&◌, eqb, codes, arith, inl, inr}
use Rattle.std.proofs.lemmas.Bool.{cases_Bool, cases_eq, and_from, cond-true, cond-false}
use Rattle.std.specs.List.{flat_map}
use Rattle.base_spelling.specs.Spelling.{hex_digit, hex_byte, is_escaped, escape, escaped, quoted}
use Rattle.trace_fields.specs.declared.pieces.Scan.{Scan}
use Rattle.trace_fields.specs.declared.pieces.Scan.TheVariants as scan
use Rattle.trace_fields.specs.Splitting.{next, next_quoted}
use Rattle.trace_fields.proofs.Closed.{Passes, Closed, passes_both, is_clear}

-- a reader in quotes is in quotes behind the text
abbrev Within : List ℕ → Type 0
Within text = (n : ℕ) → Passes (scan.Quoted n) text (scan.Quoted n)

within_both : (a b : List ℕ) → Within a → Within b → Within (a ++ b)
within_both a b f g n = passes_both (scan.Quoted n) a b (scan.Quoted n) (scan.Quoted n) (f n) (g n)

itself : (n b : ℕ) → eqb b 92 ≡ false → eqb b 34 ≡ false → next (scan.Quoted n) b ≡ scan.Quoted n
itself n b f g = cond-false _ _ _ f ∙ cond-false _ _ _ g

clear : (b : ℕ) → eqb b 10 ≡ false → not (eqb b 10) && true ≡ true
clear b e = and_from (not (eqb b 10)) true (ap not e) refl

one_within : (b : ℕ) → eqb b 10 ≡ false → eqb b 92 ≡ false → eqb b 34 ≡ false → Within (b ∷ [])
one_within b e f g n = (clear b e, itself n b f g)

behind_backslash : (b : ℕ) → eqb b 10 ≡ false → Within (92 ∷ b ∷ [])
behind_backslash b e n = (refl, (clear b e, refl))

hex_within : (d : ℕ) → d < 16 → Within (hex_digit d ∷ [])
hex_within d h =
    let f : eqb (hex_digit d) 92 ≡ false = grind arith in
    let g : eqb (hex_digit d) 34 ≡ false = grind arith in
    let e : eqb (hex_digit d) 10 ≡ false = grind arith in
    one_within (hex_digit d) e f g

hex_byte_within : (b : ℕ) → b < 256 → Within (hex_byte b)
hex_byte_within b h = within_both (hex_digit (b / 16) ∷ []) (hex_digit (b % 16) ∷ []) (hex_within (b / 16) (omega arith)) (hex_within (b % 16) (omega arith))

escape_within : (b : ℕ) → is_escaped b ≡ true → Within (escape b)
escape_within b h = elim (cases_eq b 92) [
  | inl e ↦ subst (λ x. Within (escape x)) (sym e) (behind_backslash 92 refl)
  | inr n92 ↦ elim (cases_eq b 34) [
    | inl e ↦ subst (λ x. Within (escape x)) (sym e) (behind_backslash 34 refl)
    | inr n34 ↦ elim (cases_eq b 10) [
      | inl e ↦ subst (λ x. Within (escape x)) (sym e) (behind_backslash 110 refl)
      | inr n10 ↦ elim (cases_eq b 13) [
        | inl e ↦ subst (λ x. Within (escape x)) (sym e) (behind_backslash 114 refl)
        | inr n13 ↦ elim (cases_eq b 9) [
          | inl e ↦ subst (λ x. Within (escape x)) (sym e) (behind_backslash 116 refl)
          | inr n9 ↦
              let is : escape b ≡ codes "\\x" ++ hex_byte b = grind arith in
              let small : b < 256 = grind arith in
              subst Within (sym is) (within_both (codes "\\x") (hex_byte b) (behind_backslash 120 refl) (hex_byte_within b small))
        ]
      ]
    ]
  ]
]

escaped_within : (b : ℕ) → Within (escaped b)
escaped_within b = elim (cases_Bool (is_escaped b)) [
  | inl turns ↦ subst Within (sym (cond-true (is_escaped b) (escape b) (b ∷ []) turns)) (escape_within b turns)
  | inr stays ↦
      let n92 : eqb b 92 ≡ false = grind arith in
      let n34 : eqb b 34 ≡ false = grind arith in
      let n10 : eqb b 10 ≡ false = grind arith in
      subst Within (sym (cond-false (is_escaped b) (escape b) (b ∷ []) stays)) (one_within b n10 n92 n34)
]

all_within : (text : List ℕ) → Within (flat_map escaped text)
all_within [] n = refl
all_within (b ∷ text) n = within_both (escaped b) (flat_map escaped text) (escaped_within b) (all_within text) n

opens : (n : ℕ) → is_clear (scan.Outside n) 34 ≡ true
opens zero = refl
opens (suc n) = refl

pub quoted_closed : (text : List ℕ) → Closed (quoted text)
quoted_closed text n = (opens n, passes_both (scan.Quoted n) (flat_map escaped text) (34 ∷ []) (scan.Quoted n) (scan.Outside n) (all_within text n) (refl, refl))
