-- How the call answers, by what was asked for.
use Rattle.std.proofs.Common.{◌≡◌, ℕ, List, Option, None, refl, ap, subst}
use Rattle.std.specs.Prelude.{MatchOption}
use Rattle.machine_events.specs.declared.event.Entry.{Entry}
use Rattle.import_words.specs.Words.{Word}
use Rattle.import_words.specs.declared.plan.RunPlan.{RunPlan}
use Rattle.program_run.specs.Alone.{Means}
use Rattle.program_run.specs.Runs.{Gives, HasRun, finished}
use Rattle.program_run.specs.Sinks.{Moment}
use Rattle.program_run.specs.Statuses.{want_of_memory}
use Rattle.program_run.specs.declared.report.Left.{Left}
use Rattle.program_run.specs.declared.report.Report.{Report}
use Rattle.pyimport.specs.Answers.{Answers}

-- memory was wanted before the words were read
pub wordless_by : (words : List Word) (old : Moment) (r : Report) → r ≡ record { status = want_of_memory; plan = None; history = None }
    → Answers words old old r
wordless_by words old r is = Answers.wordless refl (ap (λ (x : Report). x.plan) is) (ap (λ (x : Report). x.history) is) (ap (λ (x : Report). x.status) is)

-- modules whose run has no history left everything as it was
pub unbegun_same : (means : Means) (plan : RunPlan) (texts : List (List ℕ)) (old new : Moment) (left : Left) → Gives means plan texts old new left → left.history ≡ None → new ≡ old
unbegun_same means plan texts old new left gives none =
    (subst (λ (h : Option (List Entry)). MatchOption h ((left.status ≡ want_of_memory) × (new ≡ old)) (λ history. HasRun means plan texts old new (finished history left.status))) none gives).1
