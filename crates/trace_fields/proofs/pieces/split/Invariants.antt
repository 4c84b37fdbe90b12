use Rattle.std.proofs.Common.{◌≡◌, ◌≤◌, ◌-◌, ◌++◌, take, drop}
use Rattle.trace_fields.specs.declared.pieces.Scan.TheVariants as scan
use Rattle.trace_fields.specs.Splitting.{views, depth, with_front, split_from}
use Rattle.trace_fields.proofs.Cuts.{piece}
use Rattle.trace_fields.proofs.pieces.split.Given as goal

abbrev pub invariant-loop-i : goal.invariant-loop-i
invariant-loop-i l = record {
  low : l.from ≤ l.i;
  shallow : depth l.scan ≤ l.i;
  so_far : split_from l.separator (scan.Outside 0) l.text ≡ views l.pieces.items ++ with_front (piece l.from l.i l.text) (split_from l.separator l.scan (drop l.i l.text));
}
