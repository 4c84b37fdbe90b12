use Rattle.std.proofs.Common.{◌≡◌, ◌∙◌, refl, sym, ap, subst, map, arith, List, ℕ}
use Rattle.std.specs.String.{string_bytes}
use Rattle.import_words.specs.Plans.{plan_of}
use Rattle.program_run.specs.Sinks.{Moment}
use Rattle.program_rounds.specs.Answers.{rounds_plan}
use Rattle.pyimport.specs.Answers.{Answers, ReadsNoFolder}
use Rattle.pyimport.specs.Tasks.{task_of}
use Rattle.pyimport.proofs.Answering.{wordless_by, unbegun_same}
use Rattle.pyimport.proofs.Numbered.{direct_of, fits_of, no_rounds, plan_is}
use Rattle.pyimport.proofs.run.pyimport.Goals as goal

pub call_made-requires-clause-modules : goal.call_made-requires-clause-modules
call_made-requires-clause-modules g c κs within =
    (fits_of (map string_bytes c.args.words.now) c.in-Ok.plan c.in-Ok.ensures _ (sym c.task_of.ensures ∙ c.in-Make.is)).0

pub call_made-requires-clause-scripts : goal.call_made-requires-clause-scripts
call_made-requires-clause-scripts g c κs within =
    (fits_of (map string_bytes c.args.words.now) c.in-Ok.plan c.in-Ok.ensures _ (sym c.task_of.ensures ∙ c.in-Make.is)).1

pub check-requires-clause-few : goal.check-requires-clause-few
check-requires-clause-few g c κs within =
    fits_of (map string_bytes c.args.words.now) c.in-Ok.plan c.in-Ok.ensures _ (sym c.task_of.ensures ∙ c.in-Check.is)

pub run_modules-requires-clause-few : goal.run_modules-requires-clause-few
run_modules-requires-clause-few g c κs within =
    (fits_of (map string_bytes c.args.words.now) c.in-Ok.plan c.in-Ok.ensures _ (sym c.task_of.ensures ∙ c.in-Modules.is)).0

pub run_modules-requires-clause-names : goal.run_modules-requires-clause-names
run_modules-requires-clause-names g c κs within =
    (fits_of (map string_bytes c.args.words.now) c.in-Ok.plan c.in-Ok.ensures _ (sym c.task_of.ensures ∙ c.in-Modules.is)).1

pub run_modules_bundled-requires-clause-few : goal.run_modules_bundled-requires-clause-few
run_modules_bundled-requires-clause-few g c κs within =
    (fits_of (map string_bytes c.args.words.now) c.in-Ok.plan c.in-Ok.ensures _ (sym c.task_of.ensures ∙ c.in-ModulesInBundles.is)).0

pub run_modules_bundled-requires-clause-names : goal.run_modules_bundled-requires-clause-names
run_modules_bundled-requires-clause-names g c κs within =
    (fits_of (map string_bytes c.args.words.now) c.in-Ok.plan c.in-Ok.ensures _ (sym c.task_of.ensures ∙ c.in-ModulesInBundles.is)).1

pub call_bundled-requires-clause-plan : goal.call_bundled-requires-clause-plan
call_bundled-requires-clause-plan g c κs within = plan_is c.in-Ok.plan _ (sym c.task_of.ensures ∙ c.in-RunInBundles.is) ∙ c.in-Ok.ensures

pub call-requires-clause-plan : goal.call-requires-clause-plan
call-requires-clause-plan g c κs within = plan_is c.in-Ok.plan _ (sym c.task_of.ensures ∙ c.in-Run.is) ∙ c.in-Ok.ensures

-- ---- how each call answers

pub returns-in-Make-clause-answers : goal.returns-in-Make-clause-answers
returns-in-Make-clause-answers g c =
    let asked = ap task_of (sym c.in-Ok.ensures) ∙ (sym c.task_of.ensures ∙ c.in-Make.is) in
    Answers.made _ asked c.call_made.ensures.plan refl refl c.call_made.ensures.run

pub returns-in-Convert-clause-answers : goal.returns-in-Convert-clause-answers
returns-in-Convert-clause-answers g c =
    let asked = ap task_of (sym c.in-Ok.ensures) ∙ (sym c.task_of.ensures ∙ c.in-Convert.is) in
    Answers.converted c.in-Convert.file asked c.convert.ensures.plan c.convert.ensures.history c.convert.ensures.lists c.convert.ensures.answers

pub returns-in-Bundle-clause-answers : goal.returns-in-Bundle-clause-answers
returns-in-Bundle-clause-answers g c =
    let asked = ap task_of (sym c.in-Ok.ensures) ∙ (sym c.task_of.ensures ∙ c.in-Bundle.is) in
    Answers.bundled c.in-Bundle.dir asked c.bundle.ensures.plan c.bundle.ensures.history c.bundle.ensures.answers

pub returns-in-Report-clause-answers : goal.returns-in-Report-clause-answers
returns-in-Report-clause-answers g c =
    let asked = ap task_of (sym c.in-Ok.ensures) ∙ (sym c.task_of.ensures ∙ c.in-Report.is) in
    Answers.reported _ asked c.report_imports.ensures.plan c.report_imports.ensures.history c.report_imports.ensures.answers

pub returns-in-Check-clause-answers : goal.returns-in-Check-clause-answers
returns-in-Check-clause-answers g c =
    let asked = ap task_of (sym c.in-Ok.ensures) ∙ (sym c.task_of.ensures ∙ c.in-Check.is) in
    Answers.checked _ asked c.check.ensures.plan c.check.ensures.history c.check.ensures.answers

pub returns-in-Modules-clause-answers : goal.returns-in-Modules-clause-answers
returns-in-Modules-clause-answers g c =
    let asked = ap task_of (sym c.in-Ok.ensures) ∙ (sym c.task_of.ensures ∙ c.in-Modules.is) in
    Answers.modules c.in-Modules.run' asked c.run_modules.ensures.plan c.run_modules.ensures.run

pub returns-in-ModulesInBundles-clause-answers : goal.returns-in-ModulesInBundles-clause-answers
returns-in-ModulesInBundles-clause-answers g c =
    let asked = ap task_of (sym c.in-Ok.ensures) ∙ (sym c.task_of.ensures ∙ c.in-ModulesInBundles.is) in
    Answers.modules_in_bundles c.in-ModulesInBundles.run' asked c.run_modules_bundled.ensures.plan c.run_modules_bundled.ensures.run

pub returns-in-RunInBundles-clause-answers : goal.returns-in-RunInBundles-clause-answers
returns-in-RunInBundles-clause-answers g c =
    let asked = ap task_of (sym c.in-Ok.ensures) ∙ (sym c.task_of.ensures ∙ c.in-RunInBundles.is) in
    Answers.runs_in_bundles c.in-RunInBundles.run' asked c.call_bundled.ensures.answers

pub returns-in-Run-clause-answers : goal.returns-in-Run-clause-answers
returns-in-Run-clause-answers g c =
    let asked = ap task_of (sym c.in-Ok.ensures) ∙ (sym c.task_of.ensures ∙ c.in-Run.is) in
    Answers.runs c.in-Run.plan asked c.call.ensures.answers

pub returns-in-Err-clause-answers : goal.returns-in-Err-clause-answers
returns-in-Err-clause-answers g c = wordless_by _ _ c.without_run.result c.without_run.ensures

-- ---- what was listed

pub returns-in-Bundle-clause-lists : goal.returns-in-Bundle-clause-lists
returns-in-Bundle-clause-lists g c = λ none reads. absurd (subst ReadsNoFolder c.bundle.ensures.plan reads)

pub returns-in-Bundle-clause-lists_stay : goal.returns-in-Bundle-clause-lists_stay
returns-in-Bundle-clause-lists_stay g c = λ itself none reads. absurd (subst ReadsNoFolder c.bundle.ensures.plan reads)

pub returns-in-Report-clause-lists : goal.returns-in-Report-clause-lists
returns-in-Report-clause-lists g c = λ none reads. absurd (subst ReadsNoFolder c.report_imports.ensures.plan reads)

pub returns-in-Report-clause-lists_stay : goal.returns-in-Report-clause-lists_stay
returns-in-Report-clause-lists_stay g c = λ itself none reads. absurd (subst ReadsNoFolder c.report_imports.ensures.plan reads)

pub returns-in-Check-clause-lists : goal.returns-in-Check-clause-lists
returns-in-Check-clause-lists g c = λ none reads. absurd (subst ReadsNoFolder c.check.ensures.plan reads)

pub returns-in-Check-clause-lists_stay : goal.returns-in-Check-clause-lists_stay
returns-in-Check-clause-lists_stay g c = λ itself none reads. absurd (subst ReadsNoFolder c.check.ensures.plan reads)

pub returns-in-Modules-clause-lists : goal.returns-in-Modules-clause-lists
returns-in-Modules-clause-lists g c = λ none reads.
    let same = ap (λ (m : Moment). m.lists) (unbegun_same _ _ _ _ _ _ c.run_modules.ensures.run none) in
    omega (arith, same)

pub returns-in-Modules-clause-lists_stay : goal.returns-in-Modules-clause-lists_stay
returns-in-Modules-clause-lists_stay g c = λ itself none reads.
    ap (λ (m : Moment). m.lists) (unbegun_same _ _ _ _ _ _ c.run_modules.ensures.run none)

pub returns-in-ModulesInBundles-clause-lists : goal.returns-in-ModulesInBundles-clause-lists
returns-in-ModulesInBundles-clause-lists g c = λ none reads. c.run_modules_bundled.ensures.lists none

pub returns-in-ModulesInBundles-clause-lists_stay : goal.returns-in-ModulesInBundles-clause-lists_stay
returns-in-ModulesInBundles-clause-lists_stay g c = λ itself none reads.
    absurd (direct_of (map string_bytes c.args.words.now) c.in-Ok.plan c.in-Ok.ensures itself _ (sym c.task_of.ensures ∙ c.in-ModulesInBundles.is))

pub returns-in-RunInBundles-clause-lists : goal.returns-in-RunInBundles-clause-lists
returns-in-RunInBundles-clause-lists g c = λ none reads. c.call_bundled.ensures.lists none

pub returns-in-RunInBundles-clause-lists_stay : goal.returns-in-RunInBundles-clause-lists_stay
returns-in-RunInBundles-clause-lists_stay g c = λ itself none reads.
    absurd (direct_of (map string_bytes c.args.words.now) c.in-Ok.plan c.in-Ok.ensures itself _ (sym c.task_of.ensures ∙ c.in-RunInBundles.is))

pub returns-in-Run-clause-lists : goal.returns-in-Run-clause-lists
returns-in-Run-clause-lists g c = λ none reads. c.call.ensures.lists none

pub returns-in-Run-clause-lists_stay : goal.returns-in-Run-clause-lists_stay
returns-in-Run-clause-lists_stay g c = λ itself none reads.
    let same = plan_is c.in-Ok.plan _ (sym c.task_of.ensures ∙ c.in-Run.is) ∙ c.in-Ok.ensures in
    c.call.ensures.lists_stay (ap rounds_plan same ∙ no_rounds (plan_of (map string_bytes c.args.words.now)) itself) none
