use Rattle.std.proofs.Common.{◌∙◌, ◌++◌, sym, ap, subst, Some}
use Rattle.std.specs.Str.{IsUtf8}
use Rattle.base_spelling.specs.Spelling.{quoted}
use Rattle.base_spelling.proofs.Takes.{no_text, some_text}
use Rattle.base_spelling.proofs.read.text_of.Goals as goal

pub returns-in_default : goal.returns-in_default
returns-in_default c = no_text c.args.field.now c.as_slice.result.now (c.as_slice.ensures ∙ c.in_ok-bytes.ensures) c.in_default.ensures.cases.0

pub returns-then-eq : goal.returns-then-eq
returns-then-eq c =
    let text = c.in-Ok.ensures.cases in
    let is = text.0 ∙ c.as_slice.ensures ∙ c.in_ok-bytes.ensures in
    let wrote = c.as_bytes.ensures ∙ c.in_ok-spelled.ensures ∙ ap (λ t. t ++ quoted c.in-Ok.text.now) c.new.ensures in
    let same = sym c.eq.ensures ∙ c.if-eq.true in
    ap Some c.in_ok-from_str.ensures ∙ some_text c.args.field.now c.in-Ok.text.now c.as_bytes.result.now is (subst IsUtf8 (sym text.0) text.1) wrote same
