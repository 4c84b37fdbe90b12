-- A source is written as a text where it is UTF-8, and in `hex(..)` otherwise.
use Rattle.std.proofs.Common.{◌≡◌, ℕ, List, false}
use Rattle.std.proofs.lemmas.Bool.{cond-true, cond-false, false_from_ne_true}
use Rattle.std.proofs.lemmas.Str.{IsUtf8-from_is_utf8, is_utf8-from_IsUtf8}
use Rattle.std.specs.Str.{IsUtf8, is_utf8}
use Rattle.base_spelling.specs.Spelling.{quoted, in_hex, source}

pub not_utf8 : (bytes : List ℕ) → ¬ (IsUtf8 bytes) → is_utf8 bytes ≡ false
not_utf8 bytes h = false_from_ne_true (is_utf8 bytes) (λ yes. h (IsUtf8-from_is_utf8 bytes yes))

pub as_text : (bytes : List ℕ) → IsUtf8 bytes → source bytes ≡ quoted bytes
as_text bytes h = cond-true (is_utf8 bytes) (quoted bytes) (in_hex bytes) (is_utf8-from_IsUtf8 bytes h)

pub as_digits : (bytes : List ℕ) → ¬ (IsUtf8 bytes) → source bytes ≡ in_hex bytes
as_digits bytes h = cond-false (is_utf8 bytes) (quoted bytes) (in_hex bytes) (not_utf8 bytes h)
