-- Fields that are text, and fields that are none.
use Rattle.std.proofs.Common.{◌≡◌, ◌∙◌, sym, List, ℕ, Option, None, if◌then◌else◌}
use Rattle.std.proofs.lemmas.Bool.{cond-true, cond-false, false_from_ne_true}
use Rattle.std.proofs.lemmas.Str.{IsUtf8-from_is_utf8, is_utf8-from_IsUtf8}
use Rattle.std.specs.Str.{IsUtf8, is_utf8}

pub as_text : {X : Type 0} (text : List ℕ) (held : Option X) → IsUtf8 text → held ≡ (if is_utf8 text then held else None)
as_text text held h = sym (cond-true _ _ _ (is_utf8-from_IsUtf8 text h))

pub no_text : {X : Type 0} (text : List ℕ) (held : Option X) → ¬ (IsUtf8 text) → None ≡ (if is_utf8 text then held else None)
no_text text held h = sym (cond-false _ _ _ (false_from_ne_true (is_utf8 text) (λ is. h (IsUtf8-from_is_utf8 text is))))
