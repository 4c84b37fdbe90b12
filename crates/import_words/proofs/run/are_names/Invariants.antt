use Rattle.std.proofs.Common.{◌≡◌, take, true}
use Rattle.std.specs.List.{list_all}
use Rattle.spec_core.specs.Identifiers.{is_dotted}
use Rattle.import_words.proofs.run.are_names.Given as goal

abbrev pub invariant-loop-word : goal.invariant-loop-word
invariant-loop-word l = list_all is_dotted (take l.word-index l.words) ≡ true
