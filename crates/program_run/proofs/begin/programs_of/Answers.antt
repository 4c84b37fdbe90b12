use Rattle.std.proofs.Common.{◌≡◌, ◌+◌, ◌++◌, ◌∷◌, [], List, ℕ, take, sym, ap, ◌∙◌, subst}
use Rattle.std.proofs.lemmas.List.{take_more}
use Rattle.program_run.specs.Together.{Mean}
use Rattle.program_run.proofs.Threads.{mean_more}
use Rattle.program_run.proofs.begin.programs_of.Goals as goal

pub loop-text-preserved : goal.loop-text-preserved
loop-text-preserved g c =
    let run = g.S.Program.run in
    let means = g.S.Scripts.means in
    let xs : List (List ℕ) = c.args.texts.now in
    let i = c.loop-text.text-index in
    let x : List ℕ = c.text-item.result in
    let more : take (i + 1) xs ≡ take i xs ++ x ∷ [] = take_more xs i x c.loop-text-test.true ∙ ap (λ z. take i xs ++ z ∷ []) (sym c.text-item.is) in
    subst (λ ps. Mean run means (take (i + 1) xs) ps) (sym c.in_ok-push.ensures.items)
    (subst (λ (ts : List (List ℕ)). Mean run means ts (c.loop-text.programs.items ++ c.of_text.result ∷ [])) (sym more)
    (mean_more run means (take i xs) c.loop-text.programs.items x c.of_text.result c.loop-text.invariant (λ t. c.of_text.ensures t ∙ ap (means t) c.in_ok-copy.ensures)))
