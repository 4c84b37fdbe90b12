use Rattle.std.proofs.Common.{◌≡◌, ◌∙◌, ◌++◌, ◌∷◌, [], List, ℕ, IfOk, append-nil, subst}
use Rattle.program_commands.specs.Telling.{line_text}
use Rattle.program_commands.proofs.telling.tell_line.Goals as goal

pub returns-clause-gets : goal.returns-clause-gets
returns-clause-gets g c =
    let text = c.as_str.result.now in
    let same = append-nil (text ++ []) ∙ append-nil text ∙ c.as_str.ensures in
    let line = subst (λ (w : List ℕ). IfOk c.joined-line.result (λ it. it.items ≡ w ++ 10 ∷ [])) same c.joined-line.ensures in
    c.say_line.ensures.gets (line_text c.args.line.now) line
