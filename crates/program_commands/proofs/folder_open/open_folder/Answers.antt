use Rattle.std.proofs.Common.{◌≡◌, ◌++◌, ◌∷◌, [], List, ℕ, Option, IfOk, subst}
use Rattle.std.specs.Prelude.{codes}
use Rattle.base_types.specs.Path.{Path}
use Rattle.program_commands.specs.FolderOpening.{Names}
use Rattle.program_commands.proofs.FolderOpening.{refused_at}
use Rattle.program_commands.proofs.folder_open.open_folder.Goals as goal

pub returns-in-Ok-Some-clause-ok : goal.returns-in-Ok-Some-clause-ok
returns-in-Ok-Some-clause-ok g c = subst (λ (o : Option Path). Names (g.T.Tree.files c.args.tree.now) c.args.word.now o) c.in-Ok-Some.field-0-is c.in-Ok-Some.ensures.names

pub returns-in-Ok-None-clause-err : goal.returns-in-Ok-None-clause-err
returns-in-Ok-None-clause-err g c =
    let line = subst (λ (w : List ℕ). IfOk c.joined-line.result (λ it. it.items ≡ codes "pyimport: cannot open folder '" ++ w ++ codes "'" ++ 10 ∷ [])) c.as_str.ensures c.joined-line.ensures in
    refused_at (g.T.Tree.files c.args.tree.now) c.args.word.now _ _ c.refused.result
    (subst (λ (o : Option Path). Names (g.T.Tree.files c.args.tree.now) c.args.word.now o) c.in-Ok-None.field-0-is c.in-Ok-None.ensures.names) (c.refused.ensures _ line)
