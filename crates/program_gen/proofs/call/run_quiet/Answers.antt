use Rattle.std.proofs.Common.{◌≡◌, ◌≤◌, ◌∙◌, sym, ap, subst, length}
use Rattle.program_run.specs.Sinks.{at}
use Rattle.program_gen.proofs.Quieting.{files_length, texts_count, quiet}
use Rattle.program_gen.proofs.call.run_quiet.Goals as goal

pub run_scripts-requires-clause-few : goal.run_scripts-requires-clause-few
run_scripts-requires-clause-few g c κs within =
    let count : length c.in-Ok.it.plan.scripts ≡ c.args.scripts = ap (λ plan. length plan.scripts) c.in-Ok.ensures.plan ∙ files_length c.args.scripts in
    (subst (λ n. 1 ≤ n) (sym count) c.requires.scripts.0, subst (λ n. n ≤ 16) (sym count) c.requires.scripts.1)

pub run_scripts-requires-clause-texts : goal.run_scripts-requires-clause-texts
run_scripts-requires-clause-texts g c κs within =
    let count : length c.in-Ok.it.plan.scripts ≡ c.args.scripts = ap (λ plan. length plan.scripts) c.in-Ok.ensures.plan ∙ files_length c.args.scripts in
    texts_count c.in-Ok.it.texts c.args.seed c.args.modules c.args.scripts c.in-Ok.ensures.texts ∙ sym count

pub returns-clause-run : goal.returns-clause-run
returns-clause-run g c =
    quiet g.S.Scripts.means c.args.seed c.args.modules c.args.scripts c.in-Ok.it.plan c.in-Ok.it.texts _ _ _ _ (at g.K.Sink c.args.err.now)
    (at g.K.Sink c.run_scripts.new.err) c.run_scripts.result c.in-Ok.ensures.plan c.in-Ok.ensures.texts c.in-Ok.ensures.files c.run_scripts.ensures.run
