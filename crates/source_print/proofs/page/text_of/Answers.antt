use Rattle.std.proofs.Common.{◌∙◌, ap, true, ◌++◌}
use Rattle.source_print.specs.Text.{rendered}
use Rattle.source_print.specs.declared.page.Page.{Page}
use Rattle.source_print.proofs.Pages.{written_text}
use Rattle.source_print.proofs.page.text_of.Goals as goal

pub returns-clause-text : goal.returns-clause-text
returns-clause-text c =
    let blank : Page = record { text = c.new.result; depth = 0; is_first = true } in
    ap (λ page. page.text) c.in_ok-text.ensures.page ∙ written_text blank c.args.lexemes.now ∙ ap (λ text. text ++ rendered 0 true c.args.lexemes.now) c.new.ensures
