use Rattle.std.proofs.Common.{subst, MatchOption}
use Rattle.base_types.specs.Path.{Path, Spells}
use Rattle.tree_walk.proofs.Spelling.{child_later, child_unspelled}
use Rattle.tree_walk.proofs.names.child_of.Goals as goal

pub child_by-requires : goal.child_by-requires
child_by-requires c = (subst (λ o. MatchOption o ((p : Path) → Spells c.args.name.now p → ⊥) (Spells c.args.name.now)) c.in-Some.is c.in_ok-path.ensures).0

pub returns-in-Some : goal.returns-in-Some
returns-in-Some c =
    child_later c.args.dir.now c.args.name.now c.in-Some.path c.child_by.result
    (subst (λ o. MatchOption o ((p : Path) → Spells c.args.name.now p → ⊥) (Spells c.args.name.now)) c.in-Some.is c.in_ok-path.ensures) c.child_by.ensures

pub returns-in-None : goal.returns-in-None
returns-in-None c =
    child_unspelled c.args.dir.now c.args.name.now
    (subst (λ o. MatchOption o ((p : Path) → Spells c.args.name.now p → ⊥) (Spells c.args.name.now)) c.in-None.is c.in_ok-path.ensures)
