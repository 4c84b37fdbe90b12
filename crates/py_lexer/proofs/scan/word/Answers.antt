use Rattle.py_lexer.proofs.Classes.{letter_first, digit_first}
use Rattle.py_lexer.proofs.scan.word.Goals as goal

pub number-requires : goal.number-requires
number-requires c = digit_first c.args.chars.now _ _ _ c.in-len1-up.len_at_least c.c-item.is c.class_of.ensures c.in-Digit.is

pub name-requires : goal.name-requires
name-requires c = letter_first c.args.chars.now _ _ _ c.in-len1-up.len_at_least c.c-item.is c.class_of.ensures c.in-Letter.is
