use Rattle.std.proofs.Common.{◌≡◌, fold, take}
use Rattle.source_print.specs.Lines.{Held}
use Rattle.source_print.specs.TextLaws.{Utf8}
use Rattle.source_print.specs.Page.{written}
use Rattle.source_print.proofs.page.put_lexemes.Given as goal

abbrev pub invariant-loop-lexeme : goal.invariant-loop-lexeme
invariant-loop-lexeme l = record {
  page : l.so_far ≡ fold written l.fn.page (take l.lexeme-index l.lexemes);
  utf8 : Held Utf8 (take l.lexeme-index l.lexemes);
}
