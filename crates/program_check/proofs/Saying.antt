-- From one moment to a later one.
use Rattle.std.proofs.Common.{◌≡◌, ◌≤◌, ℕ, List, [], Option, Some, None, subst, refl, ◌∙◌, arith}
use Rattle.tree_files.specs.Count.{Rose}
use Rattle.tree_files.specs.Files.{Files}
use Rattle.machine_desk.specs.declared.outlet.Flow.{Flow}
use Rattle.words_rounds.specs.declared.rounds.Round.{Round}
use Rattle.import_words.specs.Words.{Word}
use Rattle.import_words.specs.declared.plan.RunPlan.{RunPlan}
use Rattle.program_run.specs.Alone.{Means}
use Rattle.program_run.specs.Scripts.{IsRefused, Stops}
use Rattle.program_run.specs.Sinks.{Moment, At, Gets, Leaves, status_by}
use Rattle.program_run.specs.Statuses.{refusal, tree_fault, sink_fault}
use Rattle.program_run.specs.declared.open.Unopened.{Unopened}
use Rattle.program_run.specs.declared.open.Unopened.TheVariants as unopened
use Rattle.program_rounds.specs.Opened.{HasRounds, IsRefusedIn, StopsIn, WantsRounds}
use Rattle.program_commands.specs.Opening.{Names, NoTrace}
use Rattle.tree_walk.specs.declared.open.Read.TheVariants as read
use Rattle.program_check.specs.Judge.{Judge}
use Rattle.program_check.specs.Opened.{Opens, IsUnopened, StopsFor}
use Rattle.program_check.specs.Checking.{Checks, ChecksText, Unmade, Lacks}

-- between these moments calls of the tree were made, and nothing was written
pub record IsSince (first now : Moment) : Type 0 where
  pub files : now.files ≡ first.files
  pub faults : first.faults ≤ now.faults
  pub out : now.out ≡ first.out
  pub err : now.err ≡ first.err

-- why the trace was not opened
pub no_trace : (means : Means) (word : Word) (plan : RunPlan) (old new : Moment) (status : ℕ) (why : Unopened) → NoTrace old.files word old.faults new.faults why → Unmade why old new status
    → Checks means word plan old new status
no_trace means word plan old new status (unopened.Refused line) none told = Checks.unopened none.0 line.items none.1 none.2 told
no_trace means word plan old new status unopened.Unread none told = Checks.unread none told
no_trace means word plan old new status unopened.NoMemory none told = Checks.short told

-- why not all scripts were opened
pub no_script : (means : Means) (bytes : List ℕ) (plan : RunPlan) (old new : Moment) (status : ℕ) (why : Unopened) → StopsFor old.files plan old.faults new.faults why → Unmade why old new status
    → ChecksText means bytes plan old new status
no_script means bytes plan old new status (unopened.Refused line) stops told = ChecksText.unopened line.items stops told
no_script means bytes plan old new status unopened.Unread stops told = ChecksText.unread stops told
no_script means bytes plan old new status unopened.NoMemory stops told = ChecksText.short told

-- those of a plan without a rounds file
pub plain_stops : (tree : Option Files) (plan : RunPlan) (names : List Word) (old new : ℕ) (why : Unopened) → plan.rounds ≡ None → names ≡ plan.scripts → Stops tree names old new why → StopsFor tree plan old new why
plain_stops tree plan names old new (unopened.Refused line) none same stops = IsUnopened.plain none (subst (λ (words : List Word). IsRefused tree words line.items) same stops)
plain_stops tree plan names old new unopened.Unread none same stops = stops.rose
plain_stops tree plan names old new unopened.NoMemory none same stops = tt

-- a rounds file that is none
pub file_stops : (tree : Option Files) (plan : RunPlan) (file : Word) (old new : ℕ) (why : Unopened) → plan.rounds ≡ Some file → WantsRounds tree file old new why → StopsFor tree plan old new why
file_stops tree plan file old new (unopened.Refused line) named stops = IsUnopened.no_rounds file named stops
file_stops tree plan file old new unopened.Unread named stops = stops
file_stops tree plan file old new unopened.NoMemory named stops = tt

-- the scripts of its rounds
pub round_stops : (tree now : Option Files) (plan : RunPlan) (file : Word) (list rounds : List Round) (old mid new : ℕ) (why : Unopened) → now ≡ tree → old ≤ mid → plan.rounds ≡ Some file → rounds ≡ list → HasRounds tree file list → StopsIn now rounds mid new why
    → StopsFor tree plan old new why
round_stops tree now plan file list rounds old mid new (unopened.Refused line) stays later named same has stops =
    IsUnopened.in_rounds file list named has
    (subst (λ (t : Option Files). IsRefusedIn t list line.items) stays (subst (λ (r : List Round). IsRefusedIn now r line.items) same stops))
round_stops tree now plan file list rounds old mid new unopened.Unread stays later named same has stops = omega (arith, later, stops)
round_stops tree now plan file list rounds old mid new unopened.NoMemory stays later named same has stops = tt

module _ (first old new : Moment) (since : IsSince first old) where
  leaves_since : (by : Flow → Flow → ℕ) (out err : List ℕ) (status : ℕ) → Leaves by out err old new status → Leaves by out err first new status
  leaves_since by out err status l = record {
    out_flow = l.out_flow;
    err_flow = l.err_flow;
    out_gets = subst (λ (a : At). Gets a out new.out l.out_flow) since.out l.out_gets;
    err_gets = subst (λ (a : At). Gets a err new.err l.err_flow) since.err l.err_gets;
    is = l.is;
  }

  lacks_since : (status : ℕ) → Lacks old new status → Lacks first new status
  lacks_since status l = record { is = l.is; out = l.out ∙ since.out; err = l.err ∙ since.err }

  rose_since : Rose old.faults new.faults → Rose first.faults new.faults
  rose_since rose = let later = since.faults in omega (arith, later, rose)

  -- a text that was judged since an earlier moment
  pub text_since : (means : Means) (bytes : List ℕ) (plan : RunPlan) (status : ℕ) → ChecksText means bytes plan old new status → ChecksText means bytes plan first new status
  text_since means bytes plan status (ChecksText.judged rounds texts entries verdict opens judge says) =
      ChecksText.judged rounds texts entries verdict (subst (λ (f : Option Files). Opens f plan rounds texts) since.files opens)
      (subst (λ (f : Option Files). Judge means f plan rounds texts bytes entries verdict) since.files judge) (leaves_since _ _ _ status says)
  text_since means bytes plan status (ChecksText.unopened line none told) =
      ChecksText.unopened line (subst (λ (f : Option Files). IsUnopened f plan line) since.files none) (leaves_since _ _ _ status told)
  text_since means bytes plan status (ChecksText.unread rose told) = ChecksText.unread (rose_since rose) (leaves_since _ _ _ status told)
  text_since means bytes plan status (ChecksText.short lacks) = ChecksText.short (lacks_since status lacks)
