use Rattle.std.proofs.Common.{◌≡◌, take}
use Rattle.import_words.proofs.run.copied.Given as goal

abbrev pub invariant-loop-word : goal.invariant-loop-word
invariant-loop-word l = l.texts ≡ take l.word-index l.words
