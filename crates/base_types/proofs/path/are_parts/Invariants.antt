use Rattle.std.proofs.Common.{◌≡◌, take, map, true}
use Rattle.std.specs.List.{list_all}
use Rattle.base_types.specs.Path.{is_part}
use Rattle.base_types.proofs.path.are_parts.Given as goal

abbrev pub invariant-loop-piece : goal.invariant-loop-piece
invariant-loop-piece l = list_all is_part (map (λ x. x.now) (take l.piece-index l.pieces)) ≡ true
