use Rattle.std.proofs.Common.{◌≡◌, ◌+◌, ◌++◌, ◌∷◌, [], List, ℕ, take, sym, ap, ◌∙◌, rules}
use Rattle.std.proofs.lemmas.List.{take_more}
use Rattle.program_commands.specs.Modules.{no_texts}
use Rattle.program_commands.proofs.Naming.{no_texts_more}
use Rattle.program_commands.proofs.programs.no_texts.Goals as goal

pub loop-name-preserved : goal.loop-name-preserved
loop-name-preserved c =
    let xs : List (List ℕ) = c.args.names.now in
    let i = c.loop-name.name-index in
    let x : List ℕ = c.name-item.result in
    let more : take (i + 1) xs ≡ take i xs ++ x ∷ [] = take_more xs i x c.loop-name-test.true ∙ ap (λ z. take i xs ++ z ∷ []) (sym c.name-item.is) in
    let pushed : c.push.new.self ≡ c.loop-name.texts ++ [] ∷ [] = search rules in
    pushed ∙ (ap (λ (ts : List (List ℕ)). ts ++ [] ∷ []) c.loop-name.invariant ∙ (sym (no_texts_more (take i xs) x) ∙ ap no_texts (sym more)))
