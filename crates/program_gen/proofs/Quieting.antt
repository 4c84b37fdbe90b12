-- From a run whose prints go nowhere to the whole call.
use Rattle.std.proofs.Common.{◌≡◌, ◌⊎◌, ◌∙◌, refl, sym, ap, subst, ℕ, zero, suc, ◌+◌, ◌≤◌, List, [], ◌∷◌, false, Option, Some, None, inl, inr, IfSome, IfNone, length, length-append, arith}
use Rattle.tree_files.specs.Files.{Files}
use Rattle.tree_files.specs.Count.{raised, Rose}
use Rattle.machine_events.specs.declared.event.Entry.{Entry}
use Rattle.machine_desk.specs.declared.outlet.Flow.{Flow}
use Rattle.machine_desk.specs.declared.outlet.Flow.TheVariants.{Open, Failed, Short}
use Rattle.import_words.specs.declared.plan.RunPlan.{RunPlan}
use Rattle.program_run.specs.Alone.{Means, setting, whole as run_whole, part as run_part}
use Rattle.program_run.specs.Prints.{out_text}
use Rattle.program_run.specs.Counts.{reads_of}
use Rattle.program_run.specs.Ends.{status_of}
use Rattle.program_run.specs.Runs.{finished, RunOver, Gives}
use Rattle.program_run.specs.Sinks.{At, Moment, Gets, status_by}
use Rattle.program_run.specs.Statuses.{sink_fault, want_of_memory}
use Rattle.program_run.specs.declared.report.Left.{Left}
use Rattle.program_run.specs.Together.{AllAct, whole as acts_whole, part as acts_part}
use Rattle.program_gen.specs.Generator.{made_files, script_name, file_of, script_files}
use Rattle.program_gen.specs.Scripts.{text_at, script_texts}
use Rattle.program_gen.specs.MadeRuns.{workload_of, made_plan, made_summary, MadeRun, MadeGives, Quiet, QuietGives, sinks, status_after, Summed}

no_rise : Rose 0 0 → ⊥
no_rise h = omega (arith, h)

none_read : (n : ℕ) → raised 0 n ≤ 0 → n ≡ 0
none_read n h = omega (arith, h)

pub files_length : (n : ℕ) → length (script_files n) ≡ n
files_length zero = refl
files_length (suc n) =
    let whole : length (script_files (suc n)) ≡ length (script_files n) + 1 = length-append (script_files n) (file_of (script_name n) ∷ []) in
    let before : length (script_files n) ≡ n = files_length n in
    omega arith

texts_length : (seed modules n : ℕ) → length (script_texts seed modules n) ≡ n
texts_length seed modules zero = refl
texts_length seed modules (suc n) =
    let whole : length (script_texts seed modules (suc n)) ≡ length (script_texts seed modules n) + 1 = length-append (script_texts seed modules n) (text_at seed modules n ∷ []) in
    let before : length (script_texts seed modules n) ≡ n = texts_length seed modules n in
    omega arith

pub texts_count : (texts : List (List ℕ)) (seed modules scripts : ℕ) → texts ≡ script_texts seed modules scripts → length texts ≡ scripts
texts_count texts seed modules scripts is = ap length is ∙ texts_length seed modules scripts

-- a sink that keeps nothing
abbrev nothing : At
nothing = record { written = None; faults = 0 }

-- and a tree that never fails
abbrev quiet_at : Option Files → ℕ → At → Moment
quiet_at files lists err = record { files = files; faults = 0; lists = lists; out = nothing; err = err }

-- a sink that fails never is open, or memory was wanting
by_flow : (out err : Flow) (text : List ℕ) (good status : ℕ) → Gets nothing text nothing out → status ≡ status_by good sink_fault out err → (status ≡ want_of_memory) ⊎ (status ≡ status_by good sink_fault Open err)
by_flow Open err text good status gets is = inr is
by_flow Failed err text good status gets is = absurd (no_rise gets.1)
by_flow Short err text good status gets is = inl is

quiet_made : (means : Means) (seed modules scripts : ℕ) (after : Option Files) (lists_old lists_new : ℕ) (old new : At) (history : Option (List Entry)) (status : ℕ)
    → Gives means (made_plan (script_files scripts)) (script_texts seed modules scripts) (quiet_at (Some (made_files seed modules scripts)) lists_old old) (quiet_at after lists_new new) (record { status = status; history = history })
    → QuietGives means (workload_of seed modules scripts) old new (record { status = status; history = history })
quiet_made means seed modules scripts after lists_old lists_new old new None status gives = (gives.0, ap (λ m. m.err) gives.1)
quiet_made means seed modules scripts after lists_old lists_new old new (Some history) status gives = record {
  legal = gives.legal;
  runs = gives.runs;
  reads = subst (λ n. reads_of n history ≡ 0) (files_length scripts) (none_read (reads_of (length (script_files scripts)) history) gives.reads);
  flow = gives.leaves.err_flow;
  gets = gives.leaves.err_gets;
  is = subst (λ n. (status ≡ want_of_memory) ⊎ (status ≡ status_by (status_of n history) sink_fault Open gives.leaves.err_flow)) (files_length scripts) (
      by_flow gives.leaves.out_flow gives.leaves.err_flow (out_text false history) (status_of (length (script_files scripts)) history) status gives.leaves.out_gets gives.leaves.is);
}

-- what a run of made scripts leaves, with a sink that keeps nothing
pub quiet : (means : Means) (seed modules scripts : ℕ) (plan : RunPlan) (texts : List (List ℕ)) (tree after : Option Files) (lists_old lists_new : ℕ) (old new : At) (left : Left)
    → plan ≡ made_plan (script_files scripts) → texts ≡ script_texts seed modules scripts → tree ≡ Some (made_files seed modules scripts)
    → Gives means plan texts (quiet_at tree lists_old old) (quiet_at after lists_new new) left
    → QuietGives means (workload_of seed modules scripts) old new left
quiet means seed modules scripts plan texts tree after lists_old lists_new old new left p t f gives =
    quiet_made means seed modules scripts after lists_old lists_new old new left.history left.status (
    subst (λ it. Gives means (made_plan (script_files scripts)) (script_texts seed modules scripts) (quiet_at it lists_old old) (quiet_at after lists_new new) left) f (
    subst (λ it. Gives means (made_plan (script_files scripts)) it (quiet_at tree lists_old old) (quiet_at after lists_new new) left) t (
    subst (λ it. Gives means it texts (quiet_at tree lists_old old) (quiet_at after lists_new new) left) p gives)))

acts_more : (means : Means) (files : Files) (t : ℕ) (texts : List (List ℕ)) (fuel : ℕ) (history : List Entry) (status later : ℕ) → (status ≡ want_of_memory → later ≡ want_of_memory)
    → AllAct means (setting files fuel 0 0 status) t texts history → AllAct means (setting files fuel 0 0 later) t texts history
acts_more means files t [] fuel history status later more acts = acts
acts_more means files t (text ∷ texts) fuel history status later more acts = (
  elim acts.0 [
    | acts_whole outcome follows ↦ acts_whole outcome follows
    | acts_part wanting broken ↦ acts_part (more wanting) broken
  ],
  acts_more means files (suc t) texts fuel history status later more acts.1,
)

-- what scripts mean has to do with the status at want of memory alone
over_more : (means : Means) (files : Files) (plan : RunPlan) (texts : List (List ℕ)) (history : List Entry) (status later : ℕ) → (status ≡ want_of_memory → later ≡ want_of_memory)
    → RunOver means (setting files plan.fuel 0 0 status) plan texts history → RunOver means (setting files plan.fuel 0 0 later) plan texts history
over_more means files plan [] history status later more over = over
over_more means files plan (text ∷ []) history status later more over = elim over [
  | run_whole stop is cause ↦ run_whole stop is cause
  | run_part stop rest wanting is cause ↦ run_part stop rest (more wanting) is cause
]
over_more means files plan (text ∷ next ∷ texts) history status later more over = acts_more means files 0 (text ∷ next ∷ texts) plan.fuel history status later more over

both : (out err : Flow) (good status later : ℕ) → (status ≡ want_of_memory) ⊎ (status ≡ status_by good sink_fault Open err) → later ≡ status_after status out → (status ≡ want_of_memory → out ≡ Short) → later ≡ status_by good sink_fault out err
both Short err good status later is after short = after
both Open err good status later (inl wanting) after short = let no : Open ≡ Short = short wanting in cc
both Open err good status later (inr is) after short = after ∙ is
both Failed err good status later (inl wanting) after short = let no : Failed ≡ Short = short wanting in cc
both Failed Open good status later (inr is) after short = after
both Failed Failed good status later (inr is) after short = after
both Failed Short good status later (inr is) after short = let no : Failed ≡ Short = short is in cc

-- the run, and then the line about it
pub summed : (means : Means) (seed modules scripts : ℕ) (out_old out_new err_old err_new : At) (history : List Entry) (status later : ℕ) (out : Flow)
    → Quiet means (workload_of seed modules scripts) err_old err_new (finished history status) → Gets out_old (made_summary modules scripts history) out_new out
    → later ≡ status_after status out → (status ≡ want_of_memory → out ≡ Short)
    → MadeRun means (workload_of seed modules scripts) (sinks out_old err_old) (sinks out_new err_new) (finished history later)
summed means seed modules scripts out_old out_new err_old err_new history status later out run gets after short = record {
  legal = run.legal;
  runs = over_more means (made_files seed modules scripts) (made_plan (script_files scripts)) (script_texts seed modules scripts) history status later (
      λ wanting. after ∙ ap (status_after status) (short wanting)) run.runs;
  reads = run.reads;
  leaves = record {
    out_flow = out;
    err_flow = run.flow;
    out_gets = gets;
    err_gets = run.gets;
    is = both out run.flow (status_of scripts history) status later run.is after short;
  };
}

-- the whole call: nothing but the want of memory, or the run and the line about it
pub made : (means : Means) (seed modules scripts : ℕ) (out_old out_new err_old err_new : At) (before after : Left)
    → QuietGives means (workload_of seed modules scripts) err_old err_new before → after.history ≡ before.history
    → IfSome before.history (λ history. Summed modules scripts out_old out_new (finished history before.status) after.status)
    → IfNone before.history ((after.status ≡ before.status) × (out_new ≡ out_old))
    → MadeGives means (workload_of seed modules scripts) (sinks out_old err_old) (sinks out_new err_new) after
made means seed modules scripts out_old out_new err_old err_new before after run same told unbegun =
    subst (λ it. MadeGives means (workload_of seed modules scripts) (sinks out_old err_old) (sinks out_new err_new) (record { status = after.status; history = it })) (sym same) (by_history before.history run told unbegun) where
      by_history : (history : Option (List Entry)) → QuietGives means (workload_of seed modules scripts) err_old err_new (record { status = before.status; history = history })
          → IfSome history (λ it. Summed modules scripts out_old out_new (finished it before.status) after.status)
          → IfNone history ((after.status ≡ before.status) × (out_new ≡ out_old))
          → MadeGives means (workload_of seed modules scripts) (sinks out_old err_old) (sinks out_new err_new) (record { status = after.status; history = history })
      by_history None run told unbegun = (unbegun.0 ∙ run.0, ap (λ out. sinks out err_new) unbegun.1 ∙ ap (sinks out_old) run.1)
      by_history (Some history) run told unbegun =
          summed means seed modules scripts out_old out_new err_old err_new history before.status after.status told.0 run told.1 told.2 told.3
