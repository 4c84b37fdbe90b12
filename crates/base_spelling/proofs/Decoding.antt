-- The candidate of a spelling is what was spelled.
use Rattle.std.proofs.Common.{◌≡◌, ◌∙◌, refl, sym, ap, subst, ℕ, ◌+◌, ◌*◌, ◌/◌, ◌%◌, ◌<◌, List, [], ◌∷◌, ◌++◌, append_assoc, true, false, fold, codes, arith, inl, inr, eqb}
use Rattle.std.proofs.lemmas.Bool.{cases_Bool, cases_eq, cond-true, cond-false}
use Rattle.std.proofs.lemmas.List.{append-nil}
use Rattle.std.specs.List.{flat_map, AllByRecursion}
use Rattle.std.specs.Str.{is_utf8}
use Rattle.base_spelling.specs.declared.candidate.Reading.{Reading}
use Rattle.base_spelling.specs.declared.candidate.Reading.TheVariants as reading
use Rattle.base_spelling.specs.declared.candidate.Decoded.{Decoded}
use Rattle.base_spelling.specs.Spelling.{hex_digit, hex_byte, is_escaped, escape, escaped, quoted, in_hex, source}
use Rattle.base_spelling.specs.Candidates.{hex_value, with_low, quoted_next, hex_next, quoted_candidate, hex_candidate, source_candidate}

abbrev at : Reading → List ℕ → Decoded
at r bytes = record { reading = r; bytes = bytes }

pub digit_value : (n : ℕ) → n < 16 → hex_value (hex_digit n) ≡ n
digit_value n h = grind arith

pub low_is : (b : ℕ) → b < 256 → with_low (hex_value (hex_digit (b / 16))) (hex_digit (b % 16)) ≡ b
low_is b h =
    let high : hex_value (hex_digit (b / 16)) ≡ b / 16 = digit_value (b / 16) (omega arith) in
    let low : hex_value (hex_digit (b % 16)) ≡ b % 16 = digit_value (b % 16) (omega arith) in
    (λ k. (high k % 16) * 16 + low k) ∙ omega arith

by_digits : (b : ℕ) (done rest : List ℕ) → b < 256 → fold quoted_next (at reading.Plain done) ((codes "\\x" ++ hex_byte b) ++ rest) ≡ fold quoted_next (at reading.Plain (done ++ b ∷ [])) rest
by_digits b done rest h = ap (λ n. fold quoted_next (at reading.Plain (done ++ n ∷ [])) rest) (low_is b h)

abbrev Decodes : ℕ → List ℕ → Type 0
Decodes b text = (done rest : List ℕ) → fold quoted_next (at reading.Plain done) (text ++ rest) ≡ fold quoted_next (at reading.Plain (done ++ b ∷ [])) rest

by_escape : (b : ℕ) → is_escaped b ≡ true → Decodes b (escape b)
by_escape b h = elim (cases_eq b 92) [
  | inl e ↦ subst (λ x. Decodes x (escape x)) (sym e) (λ done rest. refl)
  | inr n92 ↦ elim (cases_eq b 34) [
    | inl e ↦ subst (λ x. Decodes x (escape x)) (sym e) (λ done rest. refl)
    | inr n34 ↦ elim (cases_eq b 10) [
      | inl e ↦ subst (λ x. Decodes x (escape x)) (sym e) (λ done rest. refl)
      | inr n10 ↦ elim (cases_eq b 13) [
        | inl e ↦ subst (λ x. Decodes x (escape x)) (sym e) (λ done rest. refl)
        | inr n13 ↦ elim (cases_eq b 9) [
          | inl e ↦ subst (λ x. Decodes x (escape x)) (sym e) (λ done rest. refl)
          | inr n9 ↦
              let is : escape b ≡ codes "\\x" ++ hex_byte b = grind arith in
              let small : b < 256 = grind arith in
              λ done rest. ap (λ t. fold quoted_next (at reading.Plain done) (t ++ rest)) is ∙ by_digits b done rest small
        ]
      ]
    ]
  ]
]

by_itself : (b : ℕ) → is_escaped b ≡ false → Decodes b (b ∷ [])
by_itself b h done rest =
    let n92 : eqb b 92 ≡ false = grind arith in
    let n34 : eqb b 34 ≡ false = grind arith in
    ap (λ d. fold quoted_next d rest) (cond-false _ _ _ n92 ∙ cond-false _ _ _ n34)

pub byte_decodes : (b : ℕ) → Decodes b (escaped b)
byte_decodes b done rest = elim (cases_Bool (is_escaped b)) [
  | inl turns ↦ ap (λ t. fold quoted_next (at reading.Plain done) (t ++ rest)) (cond-true (is_escaped b) (escape b) (b ∷ []) turns) ∙ by_escape b turns done rest
  | inr stays ↦ ap (λ t. fold quoted_next (at reading.Plain done) (t ++ rest)) (cond-false (is_escaped b) (escape b) (b ∷ []) stays) ∙ by_itself b stays done rest
]

pub text_decodes : (text done rest : List ℕ) → fold quoted_next (at reading.Plain done) (flat_map escaped text ++ rest) ≡ fold quoted_next (at reading.Plain (done ++ text)) rest
text_decodes [] done rest = ap (λ t. fold quoted_next (at reading.Plain t) rest) (sym (append-nil done))
text_decodes (b ∷ text) done rest =
    ap (fold quoted_next (at reading.Plain done)) (append_assoc (escaped b) (flat_map escaped text) rest)
    ∙ byte_decodes b done (flat_map escaped text ++ rest)
    ∙ text_decodes text (done ++ b ∷ []) rest
    ∙ ap (λ t. fold quoted_next (at reading.Plain t) rest) (append_assoc done (b ∷ []) text)

pub quoted_candidate_is : (text : List ℕ) → quoted_candidate (quoted text) ≡ text
unfolding quoted_candidate
quoted_candidate_is text = ap (λ d. d.bytes) (text_decodes text [] (34 ∷ []))

digits_decode : (bytes done rest : List ℕ) → AllByRecursion (λ b. b < 256) bytes → fold hex_next (at reading.High done) (flat_map hex_byte bytes ++ rest) ≡ fold hex_next (at reading.High (done ++ bytes)) rest
digits_decode [] done rest h = ap (λ t. fold hex_next (at reading.High t) rest) (sym (append-nil done))
digits_decode (b ∷ bytes) done rest h =
    ap (λ n. fold hex_next (at reading.High (done ++ n ∷ [])) (flat_map hex_byte bytes ++ rest)) (low_is b h.0)
    ∙ digits_decode bytes (done ++ b ∷ []) rest h.1
    ∙ ap (λ t. fold hex_next (at reading.High t) rest) (append_assoc done (b ∷ []) bytes)

pub hex_candidate_is : (bytes : List ℕ) → AllByRecursion (λ b. b < 256) bytes → hex_candidate (in_hex bytes) ≡ bytes
unfolding hex_candidate
hex_candidate_is bytes h = ap (λ d. d.bytes) (digits_decode bytes [] (codes ")") h)

pub source_candidate_is : (bytes : List ℕ) → AllByRecursion (λ b. b < 256) bytes → source_candidate (source bytes) ≡ bytes
source_candidate_is bytes h = elim (cases_Bool (is_utf8 bytes)) [
  | inl turns ↦ ap source_candidate (cond-true _ (quoted bytes) (in_hex bytes) turns) ∙ quoted_candidate_is bytes
  | inr stays ↦ ap source_candidate (cond-false _ (quoted bytes) (in_hex bytes) stays) ∙ hex_candidate_is bytes h
]
