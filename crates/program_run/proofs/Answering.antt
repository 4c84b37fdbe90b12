-- From what the parts of a call leave to how the call ends.
use Rattle.std.proofs.Common.{◌≡◌, ◌≤◌, ℕ, suc, ◌+◌, List, [], ◌∷◌, length, Option, Some, None, sym, subst, ◌∙◌, ap, arith}
use Rattle.std.specs.Prelude.{IfSome, replicate}
use Rattle.tree_files.specs.Files.{Files}
use Rattle.tree_files.specs.Count.{Rose}
use Rattle.machine_events.specs.declared.event.Event.{Event}
use Rattle.machine_events.specs.declared.event.Reply.{Reply}
use Rattle.machine_events.specs.declared.event.Entry.{Entry}
use Rattle.machine_spec.specs.declared.state.State.{State}
use Rattle.meaning_runs.specs.Runs.{Run}
use Rattle.drive_account.proofs.Meant.{broken_by}
use Rattle.import_words.specs.Words.{Word}
use Rattle.import_words.specs.Plans.{plan_of}
use Rattle.import_words.specs.declared.plan.Plan.TheVariants as plans
use Rattle.import_words.specs.declared.plan.RunPlan.{RunPlan}
use Rattle.program_run.specs.Statuses.{sink_fault, want_of_memory}
use Rattle.program_run.specs.Sinks.{At, Gets, Moment, IsSince, IsShort, Leaves, status_by}
use Rattle.program_run.specs.Scripts.{EachOpens, IsRefused, IsUnread, Stops}
use Rattle.program_run.specs.declared.open.Unopened.{Unopened}
use Rattle.program_run.specs.declared.open.Unopened.TheVariants as unopened
use Rattle.program_run.specs.Ends.{err_text, status_of}
use Rattle.program_run.specs.Prints.{out_text}
use Rattle.program_run.specs.Counts.{lists_of}
use Rattle.program_run.specs.Alone.{Means, setting, HasCause, IsRun, opening_of}
use Rattle.program_run.specs.Together.{Acts, AllAct, terms, AllActOn}
use Rattle.program_run.specs.Runs.{RunOver, HasRun, Gives, finished}
use Rattle.program_run.specs.Answers.{Answers, built}
use Rattle.program_run.specs.declared.report.Report.{Report}
use Rattle.program_run.specs.declared.report.Left.{Left}
use Rattle.program_run.proofs.Meaning.{acts_on_since}

-- a count that rose since a later moment
pub rose_since : (first old new : ℕ) → first ≤ old → Rose old new → Rose first new
rose_since first old new h r = omega (arith, h, r)

pub cause_since : (stop : Option ℕ) (first old new : ℕ) → first ≤ old → HasCause stop old new → HasCause stop first new
cause_since None first old new h c = tt
cause_since (Some k) first old new h c = rose_since first old new h c

run_since : (files : Files) (opened : State) (run : Run) (fuel first old new status : ℕ) (h : List Entry) → first ≤ old → IsRun (setting files fuel old new status) opened run h → IsRun (setting files fuel first new status) opened run h
run_since files opened run fuel first old new status h f (IsRun.whole stop solo cause) = IsRun.whole stop solo (cause_since stop first old new f cause)
run_since files opened run fuel first old new status h f (IsRun.part stop rest is whole cause) = IsRun.part stop rest is whole (cause_since stop first old new f cause)

pub act_since : {files : Files} {t : ℕ} {run : Run} {fuel : ℕ} {mine : List (Event × Reply)} {status : ℕ} (first old new : ℕ) → first ≤ old → Acts (setting files fuel old new status) t run mine → Acts (setting files fuel first new status) t run mine
act_since first old new f (Acts.whole outcome follows) = Acts.whole outcome follows
act_since first old new f (Acts.part six broken) = Acts.part six (broken_by (rose_since first old new f) broken)

acts_since : (means : Means) (files : Files) (t : ℕ) (texts : List (List ℕ)) (fuel first old new status : ℕ) (h : List Entry) → first ≤ old → AllAct means (setting files fuel old new status) t texts h → AllAct means (setting files fuel first new status) t texts h
acts_since means files t [] fuel first old new status h f acts = tt
acts_since means files t (text ∷ texts) fuel first old new status h f acts = (act_since first old new f acts.0, acts_since means files (suc t) texts fuel first old new status h f acts.1)

over_since : (means : Means) (files : Files) (plan : RunPlan) (texts : List (List ℕ)) (first old new status : ℕ) (h : List Entry) → first ≤ old → RunOver means (setting files plan.fuel old new status) plan texts h → RunOver means (setting files plan.fuel first new status) plan texts h
over_since means files plan [] first old new status h f over = tt
over_since means files plan (text ∷ []) first old new status h f over = run_since files (opening_of plan (text ∷ [])) (means 0 text) plan.fuel first old new status h f over
over_since means files plan (text ∷ other ∷ texts) first old new status h f over = acts_since means files 0 (text ∷ other ∷ texts) plan.fuel first old new status h f over

by_since : (means : Means) (tree : Option Files) (plan : RunPlan) (texts : List (List ℕ)) (first old new status : ℕ) (h : List Entry) → first ≤ old → IfSome tree (λ files. RunOver means (setting files plan.fuel old new status) plan texts h) → IfSome tree (λ files. RunOver means (setting files plan.fuel first new status) plan texts h)
by_since means None plan texts first old new status h f r = tt
by_since means (Some files) plan texts first old new status h f r = over_since means files plan texts first old new status h f r

-- a run since an earlier moment
run_from : (means : Means) (plan : RunPlan) (texts : List (List ℕ)) (first old new : Moment) (h : List Entry) (status : ℕ) → IsSince first old → HasRun means plan texts old new (finished h status) → HasRun means plan texts first new (finished h status)
run_from means plan texts first old new h status since run =
    let same = since.faults in
    let later : first.faults ≤ old.faults = omega (arith, same) in
    let reads = run.reads in
    record {
      legal = run.legal;
      runs = subst (λ (x : Option Files). IfSome x (λ files. RunOver means (setting files plan.fuel first.faults new.faults status) plan texts h)) since.files (by_since means old.files plan texts first.faults old.faults new.faults status h later run.runs);
      acts = subst (λ (x : Option Files). AllActOn means (terms plan.fuel first.faults new.faults status) 0 (replicate (length texts) x) texts h) since.files
          (acts_on_since means plan.fuel status old.faults new.faults first.faults new.faults 0 (replicate (length texts) old.files) texts h (rose_since first.faults old.faults new.faults later) run.acts);
      unfailed = λ unless none. (let stays = run.unfailed unless none in omega (arith, same, stays));
      reads = omega (arith, later, reads);
      lists = λ ended. subst (λ (n : ℕ). new.lists ≤ n + lists_of (length plan.scripts) h) since.lists (run.lists ended);
      ends = run.ends;
      leaves = leaves_from (status_of (length plan.scripts) h) (out_text plan.trace h) (err_text plan.scripts h) run.leaves;
    }
  where
    leaves_from : (good : ℕ) (out err : List ℕ) → Leaves (status_by good sink_fault) out err old new status → Leaves (status_by good sink_fault) out err first new status
    leaves_from good out err l = record {
      out_flow = l.out_flow;
      err_flow = l.err_flow;
      out_gets = subst (λ (a : At). Gets a out new.out l.out_flow) since.out l.out_gets;
      err_gets = subst (λ (a : At). Gets a err new.err l.err_flow) since.err l.err_gets;
      is = l.is;
    }

pub short_by : (means : Means) (words : List Word) (old new : Moment) (r : Report) (run : RunPlan) → built (plan_of words) ≡ Some run → r ≡ record { status = want_of_memory; plan = Some (plans.Run run); history = None } → IsShort old new
    → Answers means words old new r
short_by means words old new r run is e short = Answers.short run is (ap (λ (x : Report). x.plan) e) (ap (λ (x : Report). x.history) e) (ap (λ (x : Report). x.status) e) short

-- nothing has changed since a later moment
short_since : (first old new : Moment) → IsSince first old → new ≡ old → IsShort first new
short_since first old new since same =
    let faults = ap (λ (m : Moment). m.faults) same ∙ since.faults in
    let lists = ap (λ (m : Moment). m.lists) same ∙ since.lists in
    record { faults = omega (arith, faults); lists = omega (arith, lists); out = ap (λ (m : Moment). m.out) same ∙ since.out; err = ap (λ (m : Moment). m.err) same ∙ since.err }

-- the scripts were opened, and then run
module _ (means : Means) (words : List Word) (first old new : Moment) (run : RunPlan) (texts : List (List ℕ)) (since : IsSince first old) (is : built (plan_of words) ≡ Some run)
    (opens : EachOpens old.files run.scripts texts) (r : Report) (plan_is : r.plan ≡ Some (plans.Run run)) where
  played : (status : ℕ) (history : Option (List Entry)) → r.status ≡ status → r.history ≡ history → Gives means run texts old new (record { status = status; history = history }) → Answers means words first new r
  played status None s h gives =
      Answers.short run is plan_is h (s ∙ gives.0) (short_since first old new since gives.1)
  played status (Some history) s h gives =
      Answers.ran run texts history is plan_is h (subst (λ (x : Option Files). EachOpens x run.scripts texts) since.files opens)
      (run_from means run texts first old new history r.status since (subst (λ (n : ℕ). HasRun means run texts old new (finished history n)) (sym s) gives))

pub played_by : (means : Means) (words : List Word) (first old new : Moment) (run : RunPlan) (texts : List (List ℕ)) → IsSince first old → built (plan_of words) ≡ Some run → EachOpens old.files run.scripts texts
    → (ran : Left) (r : Report) → r ≡ record { status = ran.status; plan = Some (plans.Run run); history = ran.history } → Gives means run texts old new ran → Answers means words first new r
played_by means words first old new run texts since is opens ran r e gives =
    played means words first old new run texts since is opens r (ap (λ (x : Report). x.plan) e) ran.status ran.history (ap (λ (x : Report). x.status) e) (ap (λ (x : Report). x.history) e) gives

-- why the scripts were not opened
pub refused_by : (tree : Option Files) (names scripts : List Word) (old new : ℕ) (why : Unopened) → names ≡ scripts → Stops tree names old new why → (line : _) → why ≡ unopened.Refused line → IsRefused tree scripts line.items
refused_by tree names scripts old new why same stops line is =
    subst (λ (ws : List Word). IsRefused tree ws line.items) same (subst (λ (x : Unopened). Stops tree names old new x) is stops)

pub unread_by : (tree : Option Files) (names scripts : List Word) (old new : ℕ) (why : Unopened) → names ≡ scripts → Stops tree names old new why → why ≡ unopened.Unread → IsUnread tree scripts old new
unread_by tree names scripts old new why same stops is =
    subst (λ (ws : List Word). IsUnread tree ws old new) same (subst (λ (x : Unopened). Stops tree names old new x) is stops)
