use Rattle.std.proofs.Common.{subst, MatchOption}
use Rattle.base_types.specs.Path.{Path, Spells}
use Rattle.tree_walk.proofs.Folders.{packed_at, packed_not}
use Rattle.tree_walk.proofs.pack.pack_folder.Goals as goal

pub returns-in-Some-clause-told : goal.returns-in-Some-clause-told
returns-in-Some-clause-told g c =
    packed_at (g.T.Tree.files c.args.tree.now) c.args.word.now c.in-Some.dir c.pack_at.result
    (subst (λ o. MatchOption o ((p : Path) → Spells c.args.word.now p → ⊥) (Spells c.args.word.now)) c.in-Some.is c.in_ok-dir.ensures) c.pack_at.ensures.told

pub returns-in-None-clause-told : goal.returns-in-None-clause-told
returns-in-None-clause-told g c =
    packed_not (g.T.Tree.files c.args.tree.now) c.args.word.now
    (subst (λ o. MatchOption o ((p : Path) → Spells c.args.word.now p → ⊥) (Spells c.args.word.now)) c.in-None.is c.in_ok-dir.ensures)
