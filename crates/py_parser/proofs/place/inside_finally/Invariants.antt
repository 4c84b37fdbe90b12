use Rattle.std.proofs.Common.{◌≡◌, length}
use Rattle.py_parser.specs.Places.{behind_all, start}
use Rattle.py_parser.proofs.place.inside_finally.Given as goal

abbrev pub invariant-tokens : goal.invariant-tokens
invariant-tokens l = behind_all l.place l.rest ≡ behind_all start l.front

abbrev pub decreases-tokens : goal.decreases-tokens
decreases-tokens l = length l.rest
