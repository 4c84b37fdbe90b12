use Rattle.std.proofs.Common.{◌≡◌, ℕ, List, [], ◌∷◌, ◌++◌, IfOk, subst}
use Rattle.import_report.proofs.seeking.first_file.Goals as goal

pub returns : goal.returns
returns c = subst (λ (part : List ℕ). IfOk c.child.result (λ it. it ≡ c.args.at.now ++ part ∷ [])) c.in_ok-first.ensures c.child.ensures
