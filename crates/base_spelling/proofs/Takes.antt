-- What is read is spelled so, and what is spelled so is read.
use Rattle.std.proofs.Common.{◌≡◌, ◌∙◌, refl, sym, ap, subst, ℕ, ◌<◌, List, true, false, Some, None, ◌&&◌, Bool, if◌then◌else◌, Option}
use Rattle.std.proofs.lemmas.Bool.{and_from, and_left, and_parts, cond-true, cond-false, false_from_ne_true}
use Rattle.std.proofs.lemmas.Slice.Eq.{bytes_eq-Decides}
use Rattle.std.proofs.lemmas.Str.{IsUtf8-from_is_utf8, is_utf8-from_IsUtf8}
use Rattle.std.specs.List.{AllByRecursion}
use Rattle.std.specs.Option.{IfSome}
use Rattle.std.specs.Str.{IsUtf8, is_utf8, bytes_eq}
use Rattle.base_spelling.specs.Spelling.{quoted, source}
use Rattle.base_spelling.specs.Candidates.{quoted_candidate, source_candidate}
use Rattle.base_spelling.specs.Read.{text_in, source_in}
use Rattle.base_spelling.proofs.Decoding.{quoted_candidate_is, source_candidate_is}

pub text_again : (text : List ℕ) → IsUtf8 text → text_in (quoted text) ≡ Some text
unfolding text_in
text_again text h =
    let is = quoted_candidate_is text in
    let utf8 : is_utf8 (quoted_candidate (quoted text)) ≡ true = ap is_utf8 is ∙ is_utf8-from_IsUtf8 text h in
    let same : bytes_eq (quoted (quoted_candidate (quoted text))) (quoted text) ≡ true = (bytes_eq-Decides _ _).1 (ap quoted is) in
    cond-true _ _ _ (and_from _ _ utf8 same) ∙ ap Some is

chosen : (b : Bool) (x y : List ℕ) → (if b then Some x else None) ≡ Some y → (b ≡ true) × (x ≡ y)
chosen true x y h = (refl, cc)
chosen false x y h = cc

pub text_takes : (field text : List ℕ) → text_in field ≡ Some text → (field ≡ quoted text) × IsUtf8 text
unfolding text_in
text_takes field text h =
    let c = chosen (is_utf8 (quoted_candidate field) && bytes_eq (quoted (quoted_candidate field)) field) (quoted_candidate field) text h in
    let both = and_parts (is_utf8 (quoted_candidate field)) (bytes_eq (quoted (quoted_candidate field)) field) c.0 in
    let spelled : quoted (quoted_candidate field) ≡ field = (bytes_eq-Decides _ _).0 both.1 in
    (sym spelled ∙ ap quoted c.1, subst IsUtf8 c.1 (IsUtf8-from_is_utf8 (quoted_candidate field) both.0))

pub source_again : (bytes : List ℕ) → AllByRecursion (λ b. b < 256) bytes → source_in (source bytes) ≡ Some bytes
unfolding source_in
source_again bytes h =
    let is = source_candidate_is bytes h in
    let same : bytes_eq (source (source_candidate (source bytes))) (source bytes) ≡ true = (bytes_eq-Decides _ _).1 (ap source is) in
    cond-true _ _ _ same ∙ ap Some is

pub source_takes : (field bytes : List ℕ) → source_in field ≡ Some bytes → field ≡ source bytes
unfolding source_in
source_takes field bytes h =
    let c = chosen (bytes_eq (source (source_candidate field)) field) (source_candidate field) bytes h in
    let spelled : source (source_candidate field) ≡ field = (bytes_eq-Decides _ _).0 c.0 in
    sym spelled ∙ ap source c.1

-- two texts, or two sources, that are spelled alike are one
pub one_text : (s t : List ℕ) → quoted s ≡ quoted t → s ≡ t
one_text s t h = sym (quoted_candidate_is s) ∙ ap quoted_candidate h ∙ quoted_candidate_is t

pub one_source : (s t : List ℕ) → AllByRecursion (λ b. b < 256) s → AllByRecursion (λ b. b < 256) t → source s ≡ source t → s ≡ t
one_source s t f g h = sym (source_candidate_is s f) ∙ ap source_candidate h ∙ source_candidate_is t g

pub no_text : (field bytes : List ℕ) → bytes ≡ quoted_candidate field → ¬ (IsUtf8 bytes) → None ≡ text_in field
unfolding text_in
no_text field bytes is h =
    let no : is_utf8 (quoted_candidate field) ≡ false = ap is_utf8 (sym is) ∙ false_from_ne_true (is_utf8 bytes) (λ yes. h (IsUtf8-from_is_utf8 bytes yes)) in
    sym (cond-false _ _ _ (and_left _ (bytes_eq (quoted (quoted_candidate field)) field) no))

pub some_text : (field text spelled : List ℕ) → text ≡ quoted_candidate field → IsUtf8 text → spelled ≡ quoted text → bytes_eq spelled field ≡ true → Some text ≡ text_in field
unfolding text_in
some_text field text spelled is h wrote same =
    let utf8 : is_utf8 (quoted_candidate field) ≡ true = ap is_utf8 (sym is) ∙ is_utf8-from_IsUtf8 text h in
    let alike : bytes_eq (quoted (quoted_candidate field)) field ≡ true = ap (λ t. bytes_eq t field) (ap quoted (sym is) ∙ sym wrote) ∙ same in
    ap Some is ∙ sym (cond-true _ _ _ (and_from _ _ utf8 alike))

pub text_given : (field : List ℕ) (o : Option (List ℕ)) → o ≡ text_in field → IfSome o (λ text. field ≡ quoted text)
text_given field None h = tt
text_given field (Some text) h = (text_takes field text (sym h)).0

pub source_given : (field : List ℕ) (o : Option (List ℕ)) → o ≡ source_in field → IfSome o (λ bytes. field ≡ source bytes)
source_given field None h = tt
source_given field (Some bytes) h = source_takes field bytes (sym h)
