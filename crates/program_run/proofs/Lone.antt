-- The history of one script that ran alone.
use Rattle.std.proofs.Common.{◌≡◌, ◌⊎◌, inl, ℕ, List, [], ◌∷◌, length, Option, Some, None, Result, Ok, Err, IfOk, OnErr, refl, sym, subst, ◌∙◌, ap, arith, inr}
use Rattle.std.specs.Prelude.{slice_get, replicate, IfSome}
use Rattle.std.specs.List.{AllByRecursion}
use Rattle.base_types.specs.declared.no_memory.NoMemory.{NoMemory}
use Rattle.tree_files.specs.Files.{Files}
use Rattle.tree_files.specs.Count.{Rose}
use Rattle.machine_events.specs.declared.event.Event.{Event}
use Rattle.machine_events.specs.declared.event.Reply.{Reply}
use Rattle.machine_events.specs.declared.event.Entry.{Entry}
use Rattle.machine_events.specs.declared.event.Outcome.TheVariants as o
use Rattle.machine_spec.specs.declared.state.State.{State}
use Rattle.machine_spec.specs.Legal.{IsLegal}
use Rattle.machine_spec.specs.Opening.{round_starts}
use Rattle.machine_laws.specs.Begun.{Begun, first}
use Rattle.machine_book.specs.Bound.{opened, CanOpen}
use Rattle.machine_book.specs.declared.opening.Opening.{Opening}
use Rattle.machine_shown.specs.Own.{own, Ready}
use Rattle.machine_shown.specs.Shown.{shown_first}
use Rattle.meaning_runs.specs.Runs.{Run, Safe}
use Rattle.meaning_runs.specs.Follows.{Follows}
use Rattle.meaning_runs.proofs.Stand.{part_given}
use Rattle.drive_account.specs.declared.end.Ending.{Ending}
use Rattle.drive_account.specs.declared.end.Ending.TheVariants as ending
use Rattle.drive_account.specs.Ending.{Broken, in_run, at_read, IsRead, outcome}
use Rattle.meaning_solo.specs.Made.{Turn}
use Rattle.meaning_solo.specs.Solo.{AreAlone, IsSolo, Plays, BreaksAt}
use Rattle.meaning_solo.proofs.On.{solo_on}
use Rattle.meaning_solo.proofs.Alone.{alone_by}
use Rattle.drive_round.specs.Ran.{Ran, Counts}
use Rattle.import_words.specs.declared.plan.RunPlan.{RunPlan}
use Rattle.program_run.specs.Statuses.{sink_fault, want_of_memory}
use Rattle.program_run.specs.Prints.{out_text}
use Rattle.program_run.specs.Ends.{err_text, status_of}
use Rattle.program_run.specs.Sinks.{Moment, Leaves, status_by}
use Rattle.program_run.specs.Counts.{reads_of, ReadsBy, ListsBy}
use Rattle.program_run.specs.Alone.{Means, AreSafe, setting, IsRun, HasCause, turn_of, opening_of}
use Rattle.program_run.specs.Results.{Came, AreWhole, AllEnded}
use Rattle.program_run.specs.Together.{MeanFrom, terms, AllActOn}
use Rattle.program_run.specs.Runs.{RunOver, HasRun, Gives, finished}
use Rattle.program_run.specs.declared.report.Left.{Left}
use Rattle.program_run.proofs.Counting.{tree_counts, reads_one, lists_one}
use Rattle.program_run.proofs.Endings.{if_ended}
use Rattle.program_run.proofs.Meaning.{act_on, one_unfailed}
use Rattle.program_run.proofs.Threads.{ends_by, one_mean}

-- what a machine of one script is begun with, and what the script means: its events show all that it asks for
record IsOne (b : Begun) (run : Run) : Type 0 where
  many : 1 ≡ length (first b).rounds
  alone : AreAlone (first b)
  safe : Safe (shown_first 0) run

abbrev pub begun_by : (opening : Opening) → CanOpen opening → Begun
begun_by opening can = record {
  scripts = opening.scripts;
  texts = opening.texts;
  path = opening.path;
  rounds = opening.rounds;
  some = can.some;
  few = can.few;
  as_many = can.texts;
  each = can.each;
  whole = can.rounds;
}

one_by : (opening : Opening) (can : CanOpen opening) (run : Run) → Safe (shown_first 0) run → opening.rounds ≡ 1 ∷ [] → IsOne (begun_by opening can) run
one_by opening can run safe one = record {
  many = ap (λ (rounds : List ℕ). length (round_starts 0 rounds)) (sym one);
  alone = alone_by (begun_by opening can) (subst (λ (rounds : List ℕ). AllByRecursion (λ size. size ≡ 1) rounds) (sym one) (refl, tt));
  safe = safe;
}

-- the one script has played
played : (b : Begun) (turn : Turn) (fuel : ℕ) (h : List Entry) → 1 ≡ length (first b).rounds → IsLegal (first b) h → Plays turn 0 fuel (own 0 h) → IsSolo (first b) (turn ∷ []) fuel h
played b turn fuel h many legal plays = record { many = many; legal = legal; each = (plays, tt) }

module _ (files : Files) (b : Begun) (run : Run) (fuel old new status : ℕ) (h : List Entry) (one : IsOne b run) (legal : IsLegal (first b) h) where
  run_by : (it : Ending) → Follows files 0 run fuel (own 0 h) (outcome it) → (IsRead it → Rose old new) → IsRun (setting files fuel old new status) (first b) run h
  run_by ending.Normal f r = IsRun.whole None (played b (turn_of files run None) fuel h one.many legal (record { outcome = o.Normal; follows = f; stops = tt })) tt
  run_by (ending.Raised e) f r = IsRun.whole None (played b (turn_of files run None) fuel h one.many legal (record { outcome = o.Raised e; follows = f; stops = tt })) tt
  run_by ending.Fuel f r = IsRun.whole None (played b (turn_of files run None) fuel h one.many legal (record { outcome = o.Fuel; follows = f; stops = tt })) tt
  run_by ending.Read f r = IsRun.whole (Some f.paid) (played b (turn_of files run (Some f.paid)) fuel h one.many legal (record { outcome = o.Read; follows = f; stops = refl })) (r tt)

  -- a history that was broken off begins a whole one
  part_by : (stop : Option ℕ) → status ≡ want_of_memory → BreaksAt stop (turn_of files run stop) 0 fuel (own 0 h) → HasCause stop old new → IsRun (setting files fuel old new status) (first b) run h
  part_by stop s breaks cause =
      let goes_on = solo_on b (turn_of files run stop ∷ []) fuel h one.alone (one.safe, tt) (record { many = one.many; legal = legal; each = inr (breaks, tt) }) in
      IsRun.part stop goes_on.0 s goes_on.1 cause

  broken_by : status ≡ want_of_memory → Broken (Some files) 0 run fuel (own 0 h) old new → IsRun (setting files fuel old new status) (first b) run h
  broken_by s (in_run rest reaches) = part_by None s (part_given files 0 run fuel reaches) tt
  broken_by s (at_read k fits rose given) = part_by (Some k) s (given, fits) rose

  -- the history is the run of the script, or a beginning of it
  run_is : (ran : Result Ending NoMemory) → IfOk ran (λ it. Follows files 0 run fuel (own 0 h) (outcome it)) → OnErr ran (Broken (Some files) 0 run fuel (own 0 h) old new)
      → IfOk ran (λ it. IsRead it → Rose old new) → OnErr ran (status ≡ want_of_memory) → IsRun (setting files fuel old new status) (first b) run h
  run_is (Ok it) f p r s = run_by it f r
  run_is (Err e) f p r s = broken_by s p

-- memory was wanted before a history was begun, and nothing has changed
pub unbegun_gives : (means : Means) (plan : RunPlan) (texts : List (List ℕ)) (m : Moment) (left : Left) → left ≡ record { status = want_of_memory; history = None } → Gives means plan texts m m left
unbegun_gives means plan texts m left is = subst (λ (x : Left). Gives means plan texts m m x) (sym is) (refl, refl)

-- of the program that ran
pub run_told : (files : Files) (tree : Option Files) → tree ≡ Some files → (opening : Opening) (opened' : State) (run run' : Run) (fuel status : ℕ) (old new : Counts) (h : List Entry) (came : Result Ending NoMemory)
    → CanOpen opening → opening.rounds ≡ 1 ∷ [] → opened opening ≡ opened' → Safe (shown_first 0) run' → run ≡ run' → IsLegal (opened opening) h
    → Ran tree 0 run fuel old new (own 0 h) came → OnErr came (status ≡ want_of_memory) → IsRun (setting files fuel old.faults new.faults status) opened' run' h
run_told files tree told opening opened' run run' fuel status old new h came can one p safe q legal ran short =
    subst (λ (x : State). IsRun (setting files fuel old.faults new.faults status) x run' h) p
    (subst (λ (x : Run). IsRun (setting files fuel old.faults new.faults status) (opened opening) x h) q
    (run_is files (begun_by opening can) run fuel old.faults new.faults status h (one_by opening can run (subst (λ (x : Run). Safe (shown_first 0) x) (sym q) safe) one) legal came (ran.follows files told) (subst (λ (o : Option Files). OnErr came (Broken o 0 run fuel (own 0 h) old.faults new.faults)) told ran.part) ran.read short))

-- the one script of a machine waits for no earlier round
pub ready_first : (rounds : List ℕ) (h : List Entry) → rounds ≡ 0 ∷ [] → Ready rounds h 0
ready_first rounds h is = record { first = 0; round = ap (λ (rs : List ℕ). slice_get rs 0) is; ended = λ u low. absurd (omega (arith, low)) }

-- of the script that ran, under the names of the book
pub ran_by : {P : Type 0} (run : P → ℕ → Run) (tree : Option Files) (fuel : ℕ) (old new : Counts) (p script : P) (mine mine' : List (Event × Reply)) (came : Came) → p ≡ script → mine ≡ mine' → Ran tree 0 (run p 0) fuel old new mine came
    → Ran tree 0 (run script 0) fuel old new mine' came
ran_by {P} run tree fuel old new p script mine mine' came same mine_is ran =
    subst (λ (m : List (Event × Reply)). Ran tree 0 (run script 0) fuel old new m came) mine_is
    (subst (λ (x : P). Ran tree 0 (run x 0) fuel old new mine came) same ran)

-- all that a run of one script leaves
module _ (means : Means) (safe : AreSafe means) (plan : RunPlan) (texts : List (List ℕ)) (old new : Moment) (h : List Entry) (status : ℕ)
    (one : length plan.scripts ≡ 1) (as_many : length texts ≡ 1) (opening : Opening) (can : CanOpen opening) (rounds : opening.rounds ≡ length plan.scripts ∷ []) (is : opened opening ≡ opening_of plan texts) (legal : IsLegal (opened opening) h)
    (leaves : Leaves (status_by (status_of (length plan.scripts) h) sink_fault) (out_text plan.trace h) (err_text plan.scripts h) old new status) where
  over_one : (files : Files) (text : List ℕ) → texts ≡ text ∷ [] → IsRun (setting files plan.fuel old.faults new.faults status) (opening_of plan texts) (means 0 text) h → RunOver means (setting files plan.fuel old.faults new.faults status) plan texts h
  over_one files text same =
      subst (λ (xs : List (List ℕ)). IsRun (setting files plan.fuel old.faults new.faults status) (opening_of plan xs) (means 0 text) h → RunOver means (setting files plan.fuel old.faults new.faults status) plan xs h) (sym same) (λ r. r)

  short_by : (came : Came) → (status ≡ want_of_memory) ⊎ AreWhole (came ∷ []) → OnErr came (status ≡ want_of_memory)
  short_by (Ok it) w = tt
  short_by (Err e) (inl six) = six
  short_by (Err e) (inr whole) = absurd whole

  runs_by : {P : Type 0} (run : P → ℕ → Run) (p : P) (came : Came) (text : List ℕ) → texts ≡ text ∷ [] → run p 0 ≡ means 0 text → Ran old.files 0 (run p 0) plan.fuel (tree_counts old) (tree_counts new) (own 0 h) came
      → (status ≡ want_of_memory) ⊎ AreWhole (came ∷ []) → (x : Option Files) → old.files ≡ x → IfSome x (λ files. RunOver means (setting files plan.fuel old.faults new.faults status) plan texts h)
  runs_by run p came text texts_are same ran w None told = tt
  runs_by run p came text texts_are same ran w (Some files) told =
      over_one files text texts_are
      (run_told files old.files told opening (opening_of plan texts) (run p 0) (means 0 text) plan.fuel status (tree_counts old) (tree_counts new) h came can (rounds ∙ ap (λ (n : ℕ). n ∷ []) one) is (safe 0 text) same legal ran (short_by came w))

  has_run_of : {P : Type 0} (run : P → ℕ → Run) (p : P) (came : Came) (text : List ℕ) → texts ≡ text ∷ [] → run p 0 ≡ means 0 text → Ran old.files 0 (run p 0) plan.fuel (tree_counts old) (tree_counts new) (own 0 h) came
      → (status ≡ want_of_memory) ⊎ AreWhole (came ∷ []) → HasRun means plan texts old new (finished h status)
  has_run_of run p came text texts_are same ran w = record {
    legal = subst (λ (s : State). IsLegal s h) is legal;
    runs = runs_by run p came text texts_are same ran w old.files refl;
    acts = subst (λ (xs : List (List ℕ)). AllActOn means (terms plan.fuel old.faults new.faults status) 0 (replicate (length xs) old.files) xs h) (sym texts_are)
        (act_on plan.fuel old.faults new.faults status old.files 0 (own 0 h) old.faults new.faults came [] same (λ rose. rose) ran.meant ran.part w, tt);
    unfailed = λ unless none. one_unfailed h came status ran w unless (subst (λ (n : ℕ). reads_of n h ≡ 0) one none);
    reads = subst (λ (n : ℕ). ReadsBy n h old.faults new.faults) (sym one) (reads_one old.files (run p 0) plan.fuel h came (tree_counts old) (tree_counts new) ran);
    lists = subst (λ (n : ℕ). ListsBy n h old.lists new.lists) (sym one) (lists_one old.files (run p 0) plan.fuel h came (tree_counts old) (tree_counts new) ran);
    ends = ends_by status (length plan.scripts) (came ∷ []) h (sym one) (if_ended old.files 0 (run p 0) plan.fuel (own 0 h) came ran.meant, tt) w;
    leaves = leaves;
  }

  pub has_run : {P : Type 0} (run : P → ℕ → Run) (programs : List P) (came : Came) → MeanFrom run means 0 texts programs
      → ((p : P) → programs ≡ p ∷ [] → Ran old.files 0 (run p 0) plan.fuel (tree_counts old) (tree_counts new) (own 0 h) came) → (status ≡ want_of_memory) ⊎ AreWhole (came ∷ []) → HasRun means plan texts old new (finished h status)
  has_run run programs came mean ran w =
      let the = one_mean run means texts programs as_many mean in
      has_run_of run the.0 came the.2.0 the.2.1 the.2.2 (ran the.0 the.1) w

-- its End, where it has one
pub ended_one : {P : Type 0} (run : P → ℕ → Run) (means : Means) (texts : List (List ℕ)) (programs : List P) (tree : Option Files) (fuel : ℕ) (old new : Counts) (h : List Entry) (came : Came) → length texts ≡ 1 → MeanFrom run means 0 texts programs
    → ((p : P) → programs ≡ p ∷ [] → Ran tree 0 (run p 0) fuel old new (own 0 h) came) → AllEnded 0 (came ∷ []) h
ended_one run means texts programs tree fuel old new h came as_many mean ran =
    let the = one_mean run means texts programs as_many mean in
    (if_ended tree 0 (run the.0 0) fuel (own 0 h) came (ran the.0 the.1).meant, tt)
