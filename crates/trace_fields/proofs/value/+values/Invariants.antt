use Rattle.std.proofs.Common.{◌≡◌, ◌+◌, ◌*◌, drop}
use Rattle.trace_fields.specs.Splitting.{views}
use Rattle.trace_fields.specs.Parts.{each}
use Rattle.trace_fields.specs.Values.{value_in}
use Rattle.trace_fields.proofs.Items.{with_items}
use Rattle.trace_fields.proofs.value.+values.Given as goal

abbrev pub decreases-value_within : goal.decreases-value_within
decreases-value_within l = 4 * l.levels

abbrev pub decreases-nested : goal.decreases-nested
decreases-nested l = 4 * l.levels + 3

abbrev pub decreases-listed_values : goal.decreases-listed_values
decreases-listed_values l = 4 * l.levels + 2

abbrev pub decreases-each_value : goal.decreases-each_value
decreases-each_value l = 4 * l.levels + 1

abbrev pub invariant-each_value-loop-i : goal.invariant-each_value-loop-i
invariant-each_value-loop-i l = each (value_in l.levels) (views l.pieces) ≡ with_items l.items (each (value_in l.levels) (drop l.i (views l.pieces)))
