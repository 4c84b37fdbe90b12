use Rattle.std.proofs.Common.{Option, IfSome, subst}
use Rattle.py_syntax.specs.Grammar.{Spells}
use Rattle.py_syntax.specs.declared.stmt.Script.{Script}
use Rattle.py_parser.specs.Words.{lexemes_of}
use Rattle.report_questions.proofs.Faulty.{asked_by_tokens}
use Rattle.report_questions.proofs.sources.token_questions.Goals as goal

pub returns-in-Some : goal.returns-in-Some
returns-in-Some c =
    let tokens = c.args.tokens.now in
    let spelled = subst (λ (tree : Option Script). IfSome tree (λ s. Spells 64 (lexemes_of tokens) s)) c.in-Some.is c.in_ok-tree.ensures in
    asked_by_tokens c.args.home.now c.args.src.now tokens c.in-Some.script c.script_questions.result c.requires spelled c.script_questions.ensures
