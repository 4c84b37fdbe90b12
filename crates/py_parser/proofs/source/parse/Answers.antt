use Rattle.std.proofs.Common.{◌≡◌, List, Ok, Err, sym, subst}
use Rattle.py_lexer.specs.Source.{Tokens}
use Rattle.py_lexer.specs.declared.word.Token.{Token}
use Rattle.py_parser.specs.declared.error.ParseError.{ParseError}
use Rattle.py_parser.specs.Parses.{Parses, Told_error}
use Rattle.py_parser.proofs.LastToken.{tokens_end}
use Rattle.py_parser.proofs.Computed.{told_parsed_so}
use Rattle.py_parser.proofs.OneAnswer.{told_only}
use Rattle.py_parser.proofs.Answers.{told_lexer, told_parsed}
use Rattle.py_parser.proofs.source.parse.Goals as goal

pub parse_tokens-requires : goal.parse_tokens-requires
parse_tokens-requires c =
    let same : c.in-Ok.tokens ≡ c.as_slice.result.now = cc in
    tokens_end c.args.src.now c.as_slice.result.now (subst (λ (l : List Token). Tokens c.args.src.now (Ok l)) same c.in-Ok.ensures.given)

pub returns-in-Ok-clause-given : goal.returns-in-Ok-clause-given
returns-in-Ok-clause-given c =
    let same : c.in-Ok.tokens ≡ c.as_slice.result.now = cc in
    told_parsed c.args.src.now c.as_slice.result.now c.parse_tokens.result (subst (λ (l : List Token). Tokens c.args.src.now (Ok l)) same c.in-Ok.ensures.given) c.parse_tokens.ensures

pub returns-in-Ok-clause-only : goal.returns-in-Ok-clause-only
returns-in-Ok-clause-only c =
    let same : c.in-Ok.tokens ≡ c.as_slice.result.now = cc in
    told_only c.args.src.now c.parse_tokens.result (told_parsed c.args.src.now c.as_slice.result.now c.parse_tokens.result (subst (λ (l : List Token). Tokens c.args.src.now (Ok l)) same c.in-Ok.ensures.given) c.parse_tokens.ensures)

pub returns-in-Err-clause-given : goal.returns-in-Err-clause-given
returns-in-Err-clause-given c =
    subst (λ (e : ParseError). Told_error (Parses c.args.src.now) e) (sym c.without_tokens.ensures) (told_lexer c.args.src.now c.in-Err.error c.in-Err.ensures.given)

pub returns-in-Err-clause-only : goal.returns-in-Err-clause-only
returns-in-Err-clause-only c =
    told_only c.args.src.now (Err c.without_tokens.result) (subst (λ (e : ParseError). Told_error (Parses c.args.src.now) e) (sym c.without_tokens.ensures) (told_lexer c.args.src.now c.in-Err.error c.in-Err.ensures.given))

pub returns-in-Ok-clause-is : goal.returns-in-Ok-clause-is
returns-in-Ok-clause-is c =
    let same : c.in-Ok.tokens ≡ c.as_slice.result.now = cc in
    told_parsed_so c.args.src.now c.parse_tokens.result (told_parsed c.args.src.now c.as_slice.result.now c.parse_tokens.result (subst (λ (l : List Token). Tokens c.args.src.now (Ok l)) same c.in-Ok.ensures.given) c.parse_tokens.ensures)

pub returns-in-Err-clause-is : goal.returns-in-Err-clause-is
returns-in-Err-clause-is c =
    told_parsed_so c.args.src.now (Err c.without_tokens.result) (subst (λ (e : ParseError). Told_error (Parses c.args.src.now) e) (sym c.without_tokens.ensures) (told_lexer c.args.src.now c.in-Err.error c.in-Err.ensures.given))
