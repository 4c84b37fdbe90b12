use Rattle.std.proofs.Common.{◌≡◌, take, map}
use Rattle.base_types.proofs.path.owned.Given as goal

abbrev pub invariant-loop-piece : goal.invariant-loop-piece
invariant-loop-piece l = l.texts ≡ map (λ x. x.now) (take l.piece-index l.pieces)
