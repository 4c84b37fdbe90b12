use Rattle.std.proofs.Common.{◌≡◌, ◌∙◌, subst, ap, IfOk, Option, Some, ℕ, List}
use Rattle.run_module.specs.Programs.{runs}
use Rattle.run_module.specs.Means.{Goes}
use Rattle.run_module.proofs.finds.run_main.Goals as goal

pub returns : goal.returns
returns c =
    let p = c.args.p.now in
    let main = c.replace-home.ensures.after ∙ c.in_ok-main.ensures in
    let home = c.replace-before.ensures.after ∙ ap Some c.replace-home.ensures.value in
    let Runs : Option (List ℕ) → List ℕ → Type 0 = λ home n. IfOk c.begin.result (Goes (λ inside. runs inside p.script home n) c.begin.new.p) in
    record { goes = subst (λ n. Runs (Some p.name) n) main (subst (λ h. Runs h c.replace-home.new.dest) home c.begin.ensures.goes) }
