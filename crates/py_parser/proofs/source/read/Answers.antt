use Rattle.std.proofs.Common.{◌≡◌, List, Err, sym, subst}
use Rattle.source_combinators.specs.declared.fault.ReadError.TheVariants.{Refused}
use Rattle.source_combinators.specs.Refusals.{IsFirstRefused}
use Rattle.py_syntax.specs.declared.lexeme.Lexeme.{Lexeme}
use Rattle.py_syntax.specs.Grammar.{Spells}
use Rattle.py_parser.specs.Parses as parses
use Rattle.py_parser.proofs.Answers.{left_some, left_within, told_fault}
use Rattle.py_parser.proofs.source.read.Goals as goal

pub returns-in-Ok : goal.returns-in-Ok
returns-in-Ok c = parses.spelled (subst (λ (l : List Lexeme). Spells 64 l c.in-Ok.script) c.requires.same c.in-Ok.ensures.spelled)

pub refusal-requires-clause-some : goal.refusal-requires-clause-some
refusal-requires-clause-some c =
    let fault = c.in-Err-Refused.fault in
    let is : c.script.result ≡ Err (Refused fault) = cc in
    let refused = subst (λ (l : List Lexeme). IsFirstRefused Spells 64 l fault) c.requires.same (c.script.ensures.refused fault is) in
    left_some c.args.tokens.now c.script.result fault c.requires.ended refused is (λ s h. c.script.ensures.only s (subst (λ (l : List Lexeme). Spells 64 l s) (sym c.requires.same) h))

pub refusal-requires-clause-within : goal.refusal-requires-clause-within
refusal-requires-clause-within c =
    let fault = c.in-Err-Refused.fault in
    let is : c.script.result ≡ Err (Refused fault) = cc in
    left_within c.args.tokens.now fault (subst (λ (l : List Lexeme). IsFirstRefused Spells 64 l fault) c.requires.same (c.script.ensures.refused fault is))

pub returns-in_ok-refusal-in-Err-Refused : goal.returns-in_ok-refusal-in-Err-Refused
returns-in_ok-refusal-in-Err-Refused c =
    let fault = c.in-Err-Refused.fault in
    let is : c.script.result ≡ Err (Refused fault) = cc in
    let refused = subst (λ (l : List Lexeme). IsFirstRefused Spells 64 l fault) c.requires.same (c.script.ensures.refused fault is) in
    let some = left_some c.args.tokens.now c.script.result fault c.requires.ended refused is (λ s h. c.script.ensures.only s (subst (λ (l : List Lexeme). Spells 64 l s) (sym c.requires.same) h)) in
    told_fault c.args.tokens.now fault c.in_ok-refusal-in-Err-Refused.field-0 refused some c.in_ok-refusal-in-Err-Refused.ensures
