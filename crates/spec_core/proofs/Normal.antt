-- Texts that are their own normal form.
use Rattle.std.proofs.Common.{◌≡◌, ◌∙◌, ap, ℕ, List, encode_utf8_all}
use Rattle.std.specs.Str.{IsAscii}
use Rattle.std.proofs.lemmas.Str.{chars-IsAscii, encodes-IsAscii}
use Rattle.std.proofs.lemmas.Str.Ascii.{All-from_ascii}
use Rattle.unicode_normalization.specs.Forms.{Nfkc, nfkc}
use Rattle.unicode_normalization.proofs.FormsLemmas.{normalize-ascii}
use Rattle.spec_core.specs.Identifiers.{normal_form}

-- ASCII text
pub normal_ascii : (text : List ℕ) → IsAscii text → normal_form text ≡ text
normal_ascii text ascii =
    ap (λ cs. encode_utf8_all (nfkc cs)) (chars-IsAscii text ascii)
    ∙ ap encode_utf8_all (normalize-ascii Nfkc text (All-from_ascii text ascii))
    ∙ encodes-IsAscii text ascii
