use Rattle.std.proofs.Common.{sym, Bor, List, ℕ}
use Rattle.base_types.specs.Path.{is_part}
use Rattle.base_types.proofs.PathText.{list_all-fails}
use Rattle.base_types.proofs.path.are_parts.Goals as goal

pub returns-then-not-is_part : goal.returns-then-not-is_part
returns-then-not-is_part c =
    let low = c.loop-piece-test.true in
    let fails = c.if-not-is_part.ensures in
    sym (list_all-fails (λ (x : Bor (List ℕ)). x.now) is_part c.args.pieces.now _ _ low (sym fails))
