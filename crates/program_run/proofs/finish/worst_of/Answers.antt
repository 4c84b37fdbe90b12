use Rattle.std.proofs.Common.{◌≡◌, ◌+◌, ◌++◌, ◌∷◌, [], List, max, take, sym, ap, ◌∙◌, rules}
use Rattle.std.proofs.lemmas.List.{take_more}
use Rattle.program_run.specs.Results.{Came, number_by, worst_by}
use Rattle.program_run.proofs.Finishing.{worst_more}
use Rattle.program_run.proofs.finish.worst_of.Goals as goal

pub loop-came-preserved : goal.loop-came-preserved
loop-came-preserved c =
    let xs : List Came = c.args.results.now in
    let i = c.loop-came.came-index in
    let x : Came = c.came-item.result in
    let more : take (i + 1) xs ≡ take i xs ++ x ∷ [] = take_more xs i x c.loop-came-test.true ∙ ap (λ z. take i xs ++ z ∷ []) (sym c.came-item.is) in
    let worst : worst_by (take (i + 1) xs) ≡ max (number_by x) (worst_by (take i xs)) = ap worst_by more ∙ worst_more (take i xs) x in
    search rules
