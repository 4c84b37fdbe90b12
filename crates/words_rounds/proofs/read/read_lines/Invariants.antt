use Rattle.std.proofs.Common.{◌≡◌, ◌+◌, [], ◌∷◌, ◌++◌, drop}
use Rattle.words_rounds.specs.Reading.{read_on, start}
use Rattle.words_rounds.proofs.Steps.{texts}
use Rattle.words_rounds.proofs.read.read_lines.Given as goal

abbrev pub invariant-loop-i : goal.invariant-loop-i
invariant-loop-i l = read_on 1 start (texts l.lines ++ l.rest ∷ []) ≡ read_on (l.i + 1) l.draft (drop l.i (texts l.lines) ++ l.rest ∷ [])
