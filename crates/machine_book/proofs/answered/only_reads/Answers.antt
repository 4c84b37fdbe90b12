use Rattle.std.proofs.Common.{◌∙◌, sym}
use Rattle.machine_book.proofs.Reading.{ask_reads}
use Rattle.machine_book.proofs.answered.only_reads.Goals as goal

pub returns-in-Ask : goal.returns-in-Ask
returns-in-Ask c = rw (c.in-Ask.is) (λ told. ask_reads c.in-Ask.field-0 c.args.answer.now (sym c.is_told_at_once.ensures ∙ told))
