use Rattle.std.proofs.Common.{◌≡◌, subst, List, Ok}
use Rattle.py_lexer.specs.Source.{Tokens}
use Rattle.py_lexer.specs.declared.word.Token.{Token}
use Rattle.report_questions.proofs.sources.questions.Goals as goal

pub token_questions-requires : goal.token_questions-requires
token_questions-requires c =
    let same : c.in-Ok.tokens ≡ c.as_slice.result.now = cc in
    subst (λ (l : List Token). Tokens c.args.src.now (Ok l)) same c.in-Ok.ensures.given
