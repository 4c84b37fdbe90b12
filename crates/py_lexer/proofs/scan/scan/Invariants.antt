use Rattle.std.proofs.Common.{◌≡◌, ℕ, ◌+◌, ◌<◌, ◌^◌, length}
use Rattle.py_lexer.specs.Scanning.{state_of, depth_of}
use Rattle.py_lexer.specs.Reading as reading
use Rattle.py_lexer.proofs.scan.scan.Given as goal

abbrev pub invariant-pieces : goal.invariant-pieces
invariant-pieces l = record {
  reads : (n : ℕ) × (length l.rest < n) × (reading.scan n (state_of l.scanner) l.rest ≡ reading.scan_text l.chars);
  opened : 0 < length l.scanner.stack.items;
  lines : l.scanner.line + length l.rest < 2 ^ 31;
  depths : depth_of l.scanner.mode + length l.rest < 2 ^ 31;
}

abbrev pub decreases-pieces : goal.decreases-pieces
decreases-pieces l = length l.rest
