use Rattle.std.proofs.Common.{◌≡◌, take, map}
use Rattle.import_words.proofs.texts.owned.Given as goal

abbrev pub invariant-loop-word : goal.invariant-loop-word
invariant-loop-word l = l.texts ≡ map (λ word. word.now) (take l.word-index l.words)
