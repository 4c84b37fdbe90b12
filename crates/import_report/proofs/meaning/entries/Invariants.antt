use Rattle.std.proofs.Common.{◌≡◌, take}
use Rattle.import_report.specs.Meanings.{entries}
use Rattle.import_report.proofs.meaning.entries.Given as goal

abbrev pub invariant-loop-entry : goal.invariant-loop-entry
invariant-loop-entry l = l.items ≡ entries (take l.entry-index l.entry-items)
