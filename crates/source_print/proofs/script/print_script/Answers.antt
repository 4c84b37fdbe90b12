use Rattle.std.proofs.Common.{◌∙◌, sym, subst}
use Rattle.std.specs.Str.{IsUtf8}
use Rattle.source_print.specs.Statements.{printed}
use Rattle.source_print.specs.TextLaws.{PrintsBack}
use Rattle.source_print.specs.Text.{text_of}
use Rattle.source_print.proofs.Whole.{prints_back}
use Rattle.source_print.proofs.script.print_script.Goals as goal

pub returns-clause-parses : goal.returns-clause-parses
returns-clause-parses c =
    let is = c.in_ok-text.ensures.text in
    let utf8 : IsUtf8 (text_of (printed c.args.script.now)) = subst IsUtf8 (c.as_str.ensures ∙ is) c.is_utf8.ensures in
    subst (λ text. PrintsBack text c.args.script.now) (sym is) (prints_back c.args.script.now c.in_ok-text.ensures.utf8 utf8)
