use Rattle.std.proofs.Common.{◌≡◌, ◌+◌, ◌++◌, ◌∷◌, [], List, ℕ, take, sym, ap, ◌∙◌, subst}
use Rattle.std.proofs.lemmas.List.{take_more}
use Rattle.spec_core.specs.Identifiers.{is_dotted}
use Rattle.program_run.specs.Together.{Mean}
use Rattle.program_run.proofs.Threads.{mean_more}
use Rattle.program_commands.proofs.Naming.{name_is}
use Rattle.program_commands.proofs.programs.programs_of.Goals as goal

pub dotted_of-requires : goal.dotted_of-requires
dotted_of-requires g c = ap is_dotted c.name-item.is ∙ name_is c.args.names.now c.loop-name.name-index c.name-item.result c.requires c.loop-name-test.true

pub loop-name-preserved : goal.loop-name-preserved
loop-name-preserved g c =
    let run = g.N.Program.run in
    let means = g.N.Named.means in
    let xs : List (List ℕ) = c.args.names.now in
    let i = c.loop-name.name-index in
    let x : List ℕ = c.name-item.result in
    let more : take (i + 1) xs ≡ take i xs ++ x ∷ [] = take_more xs i x c.loop-name-test.true ∙ ap (λ z. take i xs ++ z ∷ []) (sym c.name-item.is) in
    subst (λ ps. Mean run means (take (i + 1) xs) ps) (sym c.in_ok-push.ensures.items)
    (subst (λ (ts : List (List ℕ)). Mean run means ts (c.loop-name.programs.items ++ c.of_name.result ∷ [])) (sym more)
    (mean_more run means (take i xs) c.loop-name.programs.items x c.of_name.result c.loop-name.invariant (λ t. c.of_name.ensures t ∙ ap (means t) c.in_ok-dotted_of.ensures)))
