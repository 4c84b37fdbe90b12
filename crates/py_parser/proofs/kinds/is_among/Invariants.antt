use Rattle.std.proofs.Common.{◌≡◌, take, map, false}
use Rattle.py_parser.specs.Kinds.{is_among}
use Rattle.py_parser.proofs.kinds.is_among.Given as goal

abbrev pub invariant-loop-word : goal.invariant-loop-word
invariant-loop-word l = is_among (map (λ x. x.now) (take l.word-index l.words)) l.text ≡ false
