use Rattle.std.proofs.Common.{sym, ◌∙◌, arith}
use Rattle.std.proofs.lemmas.Bool.{eqb-false}
use Rattle.import_words.proofs.Digits.{parses}
use Rattle.import_words.proofs.number.digits_of.Goals as goal

pub returns-in-Err : goal.returns-in-Err
returns-in-Err c =
    let filled = eqb-false _ _ (sym c.if-is_empty.ensures) in
    let is = parses c.args.word.now c.parse.result c.parse.ensures.value.0 (sym c.are_digits.ensures ∙ c.if-not-are_digits.false) (grind arith) (omega arith) in
    let bad = sym is ∙ c.in-Err.is in cc
