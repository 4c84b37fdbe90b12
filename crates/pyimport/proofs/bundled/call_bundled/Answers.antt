use Rattle.std.proofs.Common.{refl, ap, map}
use Rattle.std.specs.String.{string_bytes}
use Rattle.program_run.specs.declared.report.Report.{Report}
use Rattle.pyimport.proofs.Counted.{answers_from, ends_short, none_listed, unchanged}
use Rattle.pyimport.proofs.bundled.call_bundled.Goals as goal

pub returns-clause-answers : goal.returns-clause-answers
returns-clause-answers g c =
    answers_from g.S.Scripts.means (map string_bytes c.args.words.now) c.args.run c.call-report.result _ _ _ _ _ _ _ _ _ _ _ _ _ _ c.requires.plan
    c.in-Ok.ensures.files c.in-Ok.ensures.faults c.in-Ok.ensures.lists refl refl refl refl
    c.fork_bundled.ensures.faults_stay c.fork_bundled.ensures.lists_stay c.take_in.ensures.faults c.take_in.ensures.lists c.take_in.ensures.faults_grow c.call-report.ensures.answers

pub returns-clause-lists : goal.returns-clause-lists
returns-clause-lists g c = λ none.
    none_listed _ _ _ _ _ c.fork_bundled.ensures.lists_stay c.in-Ok.ensures.lists c.take_in.ensures.lists (c.call-report.ensures.lists none)

pub returns-in_default-clause-answers : goal.returns-in_default-clause-answers
returns-in_default-clause-answers g c =
    ends_short g.S.Scripts.means (map string_bytes c.args.words.now) c.args.run _ _ c.without_run.result c.requires.plan (ap (λ (r : Report). r.plan) c.without_run.ensures) (ap (λ (r : Report). r.history) c.without_run.ensures)
    (ap (λ (r : Report). r.status) c.without_run.ensures) (unchanged c.fork_bundled.ensures.faults_stay c.fork_bundled.ensures.lists_stay)
