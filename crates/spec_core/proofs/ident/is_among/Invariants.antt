use Rattle.std.proofs.Common.{◌≡◌, take, map, false}
use Rattle.std.specs.List.{list_any}
use Rattle.std.specs.Str.{bytes_eq}
use Rattle.spec_core.proofs.ident.is_among.Given as goal

abbrev pub invariant-loop-word : goal.invariant-loop-word
invariant-loop-word l = list_any (bytes_eq l.text) (map (λ x. x.now) (take l.word-index l.words)) ≡ false
