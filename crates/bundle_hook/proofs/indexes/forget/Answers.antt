use Rattle.std.proofs.Common.{sym, subst}
use Rattle.std.specs.List.{All}
use Rattle.bundle_hook.specs.Indexes.{IsRight, AreRight}
use Rattle.bundle_hook.proofs.Above.{all_removed}
use Rattle.bundle_hook.proofs.indexes.forget.Goals as goal

pub returns-in-Some : goal.returns-in-Some
unfolding AreRight
returns-in-Some c = record { right = λ told right f is. subst (All (IsRight f)) (sym c.remove.ensures.rest) (all_removed (IsRight f) c.args.kept.now c.in-Some.at (right f is)) }
