use Rattle.std.proofs.Common.{◌≡◌, ℕ, refl, ap, sym, ◌∙◌, arith}
use Rattle.program_run.specs.Answers.{left_of}
use Rattle.program_run.specs.declared.report.Report.{Report}
use Rattle.program_commands.specs.Modules.{of_names, no_texts}
use Rattle.pyimport.proofs.Counted.{gives_from, none_listed, unbegun, unchanged}
use Rattle.pyimport.proofs.bundled_modules.run_modules_bundled.Goals as goal

pub returns-clause-run : goal.returns-clause-run
returns-clause-run g c =
    gives_from (of_names g.N.Named.means c.args.run.scripts) c.args.run (no_texts c.args.run.scripts) (left_of c.run_modules-report.result) _ _ _ _ _ _ _ _ _ _ _ _ _ _
    c.in-Ok.ensures.files c.in-Ok.ensures.faults c.in-Ok.ensures.lists refl refl refl refl
    c.fork_bundled.ensures.faults_stay c.fork_bundled.ensures.lists_stay c.take_in.ensures.faults c.take_in.ensures.lists c.take_in.ensures.faults_grow c.run_modules-report.ensures.run

pub returns-clause-lists : goal.returns-clause-lists
returns-clause-lists g c = λ none.
    let same = unbegun _ _ _ _ _ _ c.run_modules-report.ensures.run none in
    none_listed _ _ _ _ _ c.fork_bundled.ensures.lists_stay c.in-Ok.ensures.lists c.take_in.ensures.lists (omega (arith, same))

pub returns-in_default-clause-run : goal.returns-in_default-clause-run
returns-in_default-clause-run g c =
    let faults = c.fork_bundled.ensures.faults_stay in
    rw c.without_run.ensures (refl, faults, unchanged faults c.fork_bundled.ensures.lists_stay)
