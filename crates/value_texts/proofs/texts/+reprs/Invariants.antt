use Rattle.std.proofs.Common.{◌≡◌, ◌++◌, map, take}
use Rattle.value_texts.specs.Texts.{put, with_commas, repr_text}
use Rattle.value_texts.proofs.texts.+reprs.Given as goal

abbrev pub invariant-put_items-loop-n : goal.invariant-put_items-loop-n
invariant-put_items-loop-n l = l.draft ≡ put l.fn.draft (l.opening ++ with_commas (map repr_text (take l.n l.items)))
