use Rattle.std.proofs.Common.{subst, MatchOption}
use Rattle.base_types.specs.Path.{Path, Spells}
use Rattle.program_commands.proofs.FolderOpening.{names_by, names_none}
use Rattle.program_commands.proofs.folder_open.folder_of.Goals as goal

pub returns-in-Some-clause-names : goal.returns-in-Some-clause-names
returns-in-Some-clause-names g c =
    names_by (g.T.Tree.files c.args.tree.now) c.args.word.now c.in-Some.path c.folder_at.result
    (subst (λ o. MatchOption o ((p : Path) → Spells c.args.word.now p → ⊥) (Spells c.args.word.now)) c.in-Some.is c.in_ok-read.ensures) c.folder_at.ensures.told c.folder_at.ensures.same

pub returns-in-None-clause-names : goal.returns-in-None-clause-names
returns-in-None-clause-names g c =
    names_none (g.T.Tree.files c.args.tree.now) c.args.word.now
    (subst (λ o. MatchOption o ((p : Path) → Spells c.args.word.now p → ⊥) (Spells c.args.word.now)) c.in-None.is c.in_ok-read.ensures)
