use Rattle.std.proofs.Common.{◌≡◌, ◌∙◌, ℕ, List, length, sym, ap, subst}
use Rattle.program_run.specs.Sinks.{Moment, at, moment}
use Rattle.program_run.specs.Runs.{Gives}
use Rattle.program_run.specs.Together.{Mean, MeanFrom}
use Rattle.program_run.proofs.Threads.{many_mean}
use Rattle.program_commands.specs.Modules.{name_at, of_names, no_texts}
use Rattle.program_commands.proofs.Naming.{from_first, many_texts}
use Rattle.program_commands.proofs.modules.run_names.Goals as goal

pub run_programs-requires-clause-texts : goal.run_programs-requires-clause-texts
run_programs-requires-clause-texts g c = λ κs lives.
    let texts : c.in-Ok-no_texts.texts ≡ no_texts c.args.plan.now.scripts = c.in-Ok-no_texts.ensures ∙ ap no_texts c.as_slice-names.ensures in
    ap length texts ∙ many_texts c.args.plan.now.scripts

pub run_programs-requires-clause-programs : goal.run_programs-requires-clause-programs
run_programs-requires-clause-programs g c = λ κs lives.
    many_mean g.N.Program.run g.N.Named.means c.as_slice-names.result.now c.in-Ok.programs.items c.in-Ok.ensures ∙ ap length c.as_slice-names.ensures

pub returns-clause-run : goal.returns-clause-run
returns-clause-run g c =
    let run = g.N.Program.run in
    let means = g.N.Named.means in
    let names : List (List ℕ) = c.args.plan.now.scripts in
    let programs = c.in-Ok.programs.items in
    let texts : c.in-Ok-no_texts.texts ≡ no_texts names = c.in-Ok-no_texts.ensures ∙ ap no_texts c.as_slice-names.ensures in
    let named : Mean run means names programs = subst (λ (ns : List (List ℕ)). Mean run means ns programs) c.as_slice-names.ensures c.in-Ok.ensures in
    let mean : MeanFrom run (of_names means names) 0 c.in-Ok-no_texts.texts programs =
    subst (λ (ts : List (List ℕ)). MeanFrom run (of_names means names) 0 ts programs) (sym texts) (from_first run means names programs named) in
    let old : Moment = moment g.T.Tree g.K.Sink g.K.Sink c.args.tree.now c.args.out.now c.args.err.now in
    let new : Moment = moment g.T.Tree g.K.Sink g.K.Sink c.run_programs.new.tree c.run_programs.new.out c.run_programs.new.err in
    subst (λ (ts : List (List ℕ)). Gives (of_names means names) c.args.plan.now ts old new c.run_programs.result) texts
    (c.run_programs.ensures.run (of_names means names) (λ t text. c.names_are_safe.ensures t (name_at names t)) mean)
