use Rattle.std.proofs.Common.{◌≡◌, ℕ, suc, [], ◌+◌, ◌<◌, ◌≤◌, length}
use Rattle.py_lexer.specs.Reading as reading
use Rattle.py_lexer.proofs.quoted.body.Given as goal

abbrev pub invariant-parts : goal.invariant-parts
invariant-parts l = record {
  reads : (n : ℕ) × (length l.rest < n) × (reading.body n l.quotes l.text.items l.lines l.rest ≡ reading.body (suc (length l.chars)) l.quotes [] 0 l.chars);
  within : l.lines + length l.rest ≤ length l.chars;
}

abbrev pub decreases-parts : goal.decreases-parts
decreases-parts l = length l.rest
