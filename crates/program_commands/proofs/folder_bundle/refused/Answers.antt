use Rattle.std.proofs.Common.{List, ℕ, [], ◌∷◌, ◌++◌, subst, IfOk}
use Rattle.std.specs.Prelude.{◌≡◌, codes}
use Rattle.program_commands.proofs.folder_bundle.refused.Goals as goal

pub returns-clause-leaves : goal.returns-clause-leaves
returns-clause-leaves g c = λ old new out before after.
    let line = subst (λ (w : List ℕ). IfOk c.joined-line.result (λ it. it.items ≡ c.args.first.now ++ w ++ codes "'" ++ 10 ∷ [])) c.as_str.ensures c.joined-line.ensures in
    c.tell.ensures.leaves _ old new line out before after
