use Rattle.std.proofs.Common.{◌≡◌, drop}
use Rattle.base_spelling.specs.Read.{text_in}
use Rattle.trace_fields.specs.Splitting.{views}
use Rattle.trace_fields.specs.Parts.{each}
use Rattle.trace_fields.proofs.Items.{with_items}
use Rattle.trace_fields.proofs.texts.each_text.Given as goal

abbrev pub invariant-loop-i : goal.invariant-loop-i
invariant-loop-i l = each text_in (views l.pieces) ≡ with_items l.texts (each text_in (drop l.i (views l.pieces)))
