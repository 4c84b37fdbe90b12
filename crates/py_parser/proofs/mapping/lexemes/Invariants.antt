use Rattle.std.proofs.Common.{◌≡◌, take}
use Rattle.py_parser.specs.Words.{lexemes_of}
use Rattle.py_parser.proofs.mapping.lexemes.Given as goal

abbrev pub invariant-loop-token : goal.invariant-loop-token
invariant-loop-token l = l.found ≡ lexemes_of (take l.token-index l.tokens)
