use Rattle.std.proofs.Common.{sym}
use Rattle.std.specs.Str.{bytes_eq}
use Rattle.spec_core.proofs.Among.{among}
use Rattle.py_parser.proofs.kinds.is_among.Goals as goal

pub returns-then-eq : goal.returns-then-eq
returns-then-eq c =
    let found = c.if-eq.ensures in
    sym (among c.args.words.now (bytes_eq c.args.text.now) c.loop-word.word-index _ c.loop-word-test.true (sym found))
