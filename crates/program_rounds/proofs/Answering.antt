-- From what the parts of a call leave to how the call ends.
use Rattle.std.proofs.Common.{◌≡◌, ◌≤◌, ◌&&◌, ℕ, suc, ◌+◌, Bool, true, false, not, List, [], ◌∷◌, ◌++◌, length, Option, Some, None, refl, sym, ap, subst, ◌∙◌, arith}
use Rattle.std.specs.Prelude.{◌==◌, IfSome}
use Rattle.std.specs.List.{list_all}
use Rattle.std.proofs.lemmas.Bool.{eqb-true, eqb-false, ne_eqb}
use Rattle.std.proofs.lemmas.List.{length-append}
use Rattle.base_types.specs.Path.{Path}
use Rattle.tree_files.specs.Files.{Files}
use Rattle.tree_files.specs.Count.{Rose}
use Rattle.tree_files.specs.declared.edit.Edit.{Edit}
use Rattle.tree_files.specs.declared.edit.Edit.TheVariants as edits
use Rattle.tree_overlay.specs.Kinds.{IsBelowRoot, is_below_root}
use Rattle.tree_overlay.specs.Told.{edited_told}
use Rattle.words_rounds.specs.Grammar.{IsFile, IsRound, IsEdit, OnLines, AreRounds, scripts_in}
use Rattle.words_rounds.specs.declared.rounds.Round.{Round}
use Rattle.machine_events.specs.declared.event.Entry.{Entry}
use Rattle.machine_laws.specs.Begun.{HaveScripts}
use Rattle.meaning_solo.specs.Made.{Turn}
use Rattle.import_words.specs.Words.{Word}
use Rattle.import_words.specs.Plans.{plan_of}
use Rattle.import_words.specs.declared.plan.Plan.{Plan}
use Rattle.import_words.specs.declared.plan.Plan.TheVariants as plans
use Rattle.import_words.specs.declared.plan.RunPlan.{RunPlan}
use Rattle.drive_round.specs.Solo.{HasCause, HaveCauses}
use Rattle.program_run.specs.Statuses.{sink_fault, want_of_memory}
use Rattle.program_run.specs.Answers.{run_if}
use Rattle.program_run.specs.Alone.{Means, setting}
use Rattle.program_run.specs.Counts.{lists_of}
use Rattle.program_run.specs.Ends.{err_text, status_of}
use Rattle.program_run.specs.Prints.{out_text}
use Rattle.program_run.specs.Runs.{finished}
use Rattle.program_run.specs.Together.{terms, AllActOn}
use Rattle.program_run.specs.Scripts.{EachOpens}
use Rattle.program_run.specs.Sinks.{At, Gets, Moment, IsShort, Leaves, status_by}
use Rattle.program_run.specs.declared.open.Unopened.{Unopened}
use Rattle.program_run.specs.declared.open.Unopened.TheVariants as unopened
use Rattle.program_run.specs.declared.report.Report.{Report}
use Rattle.program_run.specs.declared.report.Left.{Left}
use Rattle.program_run.proofs.Answering.{rose_since, cause_since, act_since}
use Rattle.program_run.proofs.Meaning.{acts_on_since}
use Rattle.program_rounds.specs.Answers.{Answers, Asks, IsLater, Tells, in_rounds, rounds_plan}
use Rattle.program_rounds.specs.Opened.{HasRounds, WantsRounds, EachRoundOpens, StopsIn}
use Rattle.program_rounds.specs.Rounds.{AreBelowRoot, AreSingle, CanRun, is_single, scripts_of, sizes_of, told_in, opening_in}
use Rattle.program_rounds.specs.Runs.{IsRun, EachActs, RunOver, HasRun, Gives}

-- ---- what the words ask for

if_in : (run other : RunPlan) (b : Bool) → in_rounds run ≡ b → run_if b run ≡ Some other → in_rounds other ≡ true
if_in run other true is same = let e : run ≡ other = cc same in subst (λ (r : RunPlan). in_rounds r ≡ true) e is
if_in run other false is same = absurd (cc same)

pub names_rounds : (plan : Option Plan) (run : RunPlan) → rounds_plan plan ≡ Some run → in_rounds run ≡ true
names_rounds None run is = absurd (cc is)
names_rounds (Some (plans.Run it)) run is = if_in it run (in_rounds it) refl is
names_rounds (Some plan) run is = absurd (cc is)

-- ---- what a rounds file says

below_edit : (edit : Edit) (line : List ℕ) → IsEdit edit line → is_below_root edit ≡ true
below_edit (edits.File path bytes) line is = by path is.2.some
  where
    by : (p : Path) → 1 ≤ length p → is_below_root (edits.File p bytes) ≡ true
    by [] some = absurd (omega (arith, some))
    by (x ∷ p) some = ap not (ne_eqb (length (x ∷ p)) 0 (λ e. omega (arith, e)))
below_edit (edits.Dir path time) line is = by path is.2.some
  where
    by : (p : Path) → 1 ≤ length p → is_below_root (edits.Dir p time) ≡ true
    by [] some = absurd (omega (arith, some))
    by (x ∷ p) some = ap not (ne_eqb (length (x ∷ p)) 0 (λ e. omega (arith, e)))
below_edit (edits.Remove path) line is = by path is.1.some
  where
    by : (p : Path) → 1 ≤ length p → is_below_root (edits.Remove p) ≡ true
    by [] some = absurd (omega (arith, some))
    by (x ∷ p) some = ap not (ne_eqb (length (x ∷ p)) 0 (λ e. omega (arith, e)))

below_lines : (list : List Edit) (text : List ℕ) → OnLines IsEdit list text → IsBelowRoot list
below_lines [] text are = refl
below_lines (edit ∷ list) text are = both (is_below_root edit) (below_edit edit are.0 are.2) (below_lines list are.1 are.3)
  where
    both : (b : Bool) → b ≡ true → IsBelowRoot list → (b && list_all is_below_root list) ≡ true
    both true is rest = rest
    both false is rest = absurd (cc is)

below_from : (rounds : List Round) (text : List ℕ) → AreRounds rounds text → AreBelowRoot rounds
below_from [] text are = tt
below_from (round ∷ rounds) text are = (below_lines round.edits are.2.edits are.2.are_edits, below_from rounds are.1 are.3)

pub below_by : {tree : Option Files} {file : Word} {rounds : List Round} → HasRounds tree file rounds → AreBelowRoot rounds
below_by {tree} {file} {rounds} has = below_from rounds has.spells.text has.spells.are_rounds

one_script : (n : ℕ) → (n == 1) ≡ true → n ≡ 1
one_script n is = omega (arith, eqb-true n 1 is)

pub single_by : (rounds : List Round) → list_all is_single rounds ≡ true → AreSingle rounds
single_by [] is = tt
single_by (round ∷ rounds) is = by (is_single round) refl is (λ rest. single_by rounds rest)
  where
    by : (b : Bool) → is_single round ≡ b → (b && list_all is_single rounds) ≡ true → (list_all is_single rounds ≡ true → AreSingle rounds) → AreSingle (round ∷ rounds)
    by true one rest behind = (one_script (length round.scripts) one, behind rest)
    by false one rest behind = absurd (cc rest)

pub several_by : (rounds : List Round) → list_all is_single rounds ≡ false → AreSingle rounds → ⊥
several_by [] is single = cc is
several_by (round ∷ rounds) is single = by (is_single round) refl is (λ rest. several_by rounds rest single.1)
  where
    by : (b : Bool) → is_single round ≡ b → (b && list_all is_single rounds) ≡ false → (list_all is_single rounds ≡ false → ⊥) → ⊥
    by true one rest behind = behind rest
    by false one rest behind = eqb-false (length round.scripts) 1 one single.0

scripts_all : (rounds : List Round) → scripts_in rounds ≡ length (scripts_of rounds)
scripts_all [] = refl
scripts_all (round ∷ rounds) = let rest = scripts_all rounds in let whole = length-append round.scripts (scripts_of rounds) in omega (arith, rest, whole)

each_some : (rounds : List Round) (text : List ℕ) → AreRounds rounds text → HaveScripts (sizes_of rounds)
each_some [] text are = tt
each_some (round ∷ rounds) text are = (are.2.some, each_some rounds are.1 are.3)

some_script : (rounds : List Round) → 1 ≤ length rounds → HaveScripts (sizes_of rounds) → 1 ≤ length (scripts_of rounds)
some_script [] some each = absurd (omega (arith, some))
some_script (round ∷ rounds) some each = let one = each.0 in let whole = length-append round.scripts (scripts_of rounds) in omega (arith, one, whole)

pub can_by : {tree : Option Files} {file : Word} {rounds : List Round} → HasRounds tree file rounds → CanRun rounds
can_by {tree} {file} {rounds} has =
    let few = has.spells.few in
    let all = scripts_all rounds in
    let each = each_some rounds has.spells.text has.spells.are_rounds in
    record { some = some_script rounds has.spells.some each; few = omega (arith, few, all); each = each }

-- as many texts as scripts
pub one_each : (tree : Option Files) (scripts : List Word) (texts : List (List ℕ)) → EachOpens tree scripts texts → length texts ≡ length scripts
one_each tree [] [] each = refl
one_each tree [] (x ∷ texts) each = absurd each
one_each tree (w ∷ scripts) [] each = absurd each
one_each tree (w ∷ scripts) (x ∷ texts) each = ap suc (one_each tree scripts texts each.1)

pub many_texts : (tree : Option Files) (rounds : List Round) (texts : List (List ℕ)) → EachRoundOpens tree rounds texts → length texts ≡ length (scripts_of rounds)
many_texts tree [] texts opens = ap length opens
many_texts tree (round ∷ rounds) texts opens =
    let here = one_each (edited_told round.edits tree) round.scripts opens.0 opens.2 in
    let rest = many_texts (edited_told round.edits tree) rounds opens.1 opens.3 in
    let all : length texts ≡ length (opens.0 ++ opens.1) = ap length opens.4 in
    let sum = length-append opens.0 opens.1 in
    let scripts = length-append round.scripts (scripts_of rounds) in
    omega (arith, here, rest, all, sum, scripts)

-- ---- since an earlier moment

causes_since : (turns : List Turn) (first old new : ℕ) → first ≤ old → HaveCauses turns old new → HaveCauses turns first new
causes_since [] first old new h c = tt
causes_since (turn ∷ turns) first old new h c = (cause_since turn.stop first old new h c.0, causes_since turns first old new h c.1)

module _ (means : Means) (plan : RunPlan) (rounds : List Round) (texts : List (List ℕ)) (h : List Entry) (status : ℕ) where
  run_since : (files : Files) (first old new : ℕ) → first ≤ old → IsRun means (setting files plan.fuel old new status) (opening_in plan rounds texts) rounds texts h → IsRun means (setting files plan.fuel first new status) (opening_in plan rounds texts) rounds texts h
  run_since files first old new f (IsRun.whole turns are causes solo) = IsRun.whole turns are (causes_since turns first old new f causes) solo
  run_since files first old new f (IsRun.part turns rest six are causes solo) = IsRun.part turns rest six are (causes_since turns first old new f causes) solo

  -- where each has several scripts too
  acts_since : (files : Files) (first old new : ℕ) → first ≤ old → {t : ℕ} {trees : List Files} {some : List (List ℕ)} → EachActs means (setting files plan.fuel old new status) h t trees some → EachActs means (setting files plan.fuel first new status) h t trees some
  acts_since files first old new f (EachActs.none t) = EachActs.none t
  acts_since files first old new f (EachActs.more t it trees text some act rest) = EachActs.more t it trees text some (act_since first old new f act) (acts_since files first old new f {t = suc t} rest)

  over_since : (files : Files) (first old new : ℕ) → first ≤ old → RunOver means (setting files plan.fuel old new status) (opening_in plan rounds texts) rounds texts h → RunOver means (setting files plan.fuel first new status) (opening_in plan rounds texts) rounds texts h
  over_since files first old new f (RunOver.alone single run) = RunOver.alone single (run_since files first old new f run)
  over_since files first old new f (RunOver.together several acts) = RunOver.together several (acts_since files first old new f acts)

  by_since : (tree : Option Files) (first old new : ℕ) → first ≤ old → IfSome tree (λ files. RunOver means (setting files plan.fuel old new status) (opening_in plan rounds texts) rounds texts h)
      → IfSome tree (λ files. RunOver means (setting files plan.fuel first new status) (opening_in plan rounds texts) rounds texts h)
  by_since None first old new f r = tt
  by_since (Some files) first old new f r = over_since files first old new f r

  run_from : (first old new : Moment) → IsLater first old → HasRun means plan rounds texts old new (finished h status) → HasRun means plan rounds texts first new (finished h status)
  run_from first old new since run =
      let same = since.faults in
      let later : first.faults ≤ old.faults = omega (arith, same) in
      let fewer = since.lists in
      let reads = run.reads in
      record {
        legal = run.legal;
        runs = subst (λ (x : Option Files). IfSome x (λ files. RunOver means (setting files plan.fuel first.faults new.faults status) (opening_in plan rounds texts) rounds texts h)) since.files (by_since old.files first.faults old.faults new.faults later run.runs);
        acts = subst (λ (x : Option Files). AllActOn means (terms plan.fuel first.faults new.faults status) 0 (told_in x rounds) texts h) since.files
            (acts_on_since means plan.fuel status old.faults new.faults first.faults new.faults 0 (told_in old.files rounds) texts h (rose_since first.faults old.faults new.faults later) run.acts);
        unfailed = λ unless none. (let stays = run.unfailed unless none in omega (arith, same, stays));
        reads = omega (arith, later, reads);
        lists = λ ended. (let bound = run.lists ended in omega (arith, bound, fewer));
        ends = run.ends;
        leaves = leaves_from (status_of (length (scripts_of rounds)) h) (out_text plan.trace h) (err_text (scripts_of rounds) h) run.leaves;
      }
    where
      leaves_from : (good : ℕ) (out err : List ℕ) → Leaves (status_by good sink_fault) out err old new status → Leaves (status_by good sink_fault) out err first new status
      leaves_from good out err l = record {
        out_flow = l.out_flow;
        err_flow = l.err_flow;
        out_gets = subst (λ (a : At). Gets a out new.out l.out_flow) since.out l.out_gets;
        err_gets = subst (λ (a : At). Gets a err new.err l.err_flow) since.err l.err_gets;
        is = l.is;
      }

-- a little later still
pub later_since : {first old new : Moment} → IsLater first old → new.files ≡ old.files → new.faults ≡ old.faults → new.lists ≤ old.lists → new.out ≡ old.out → new.err ≡ old.err → IsLater first new
later_since {first} {old} {new} since files faults lists out err =
    let fewer = since.lists in
    record {
      files = files ∙ since.files;
      faults = faults ∙ since.faults;
      lists = omega (arith, fewer, lists);
      out = out ∙ since.out;
      err = err ∙ since.err;
    }

-- nothing has changed since a later moment
short_since : (first old new : Moment) → IsLater first old → new ≡ old → IsShort first new
short_since first old new since same =
    let faults = ap (λ (m : Moment). m.faults) same ∙ since.faults in
    let lists = ap (λ (m : Moment). m.lists) same in
    let fewer = since.lists in
    record { faults = omega (arith, faults); lists = omega (arith, lists, fewer); out = ap (λ (m : Moment). m.out) same ∙ since.out; err = ap (λ (m : Moment). m.err) same ∙ since.err }

-- ---- how the call ends

-- there are no rounds
pub ends_without : (means : Means) (words : List Word) (old new : Moment) (report : Report) (run : RunPlan) (file : Word) (why : Unopened) → Asks words report run file → report.history ≡ None → WantsRounds old.files file old.faults new.faults why
    → Tells why old new report.status → old.faults ≤ new.faults → new.lists ≤ old.lists → Answers means words old new report
ends_without means words old new report run file (unopened.Refused line) asks none wants tells grown fewer = Answers.no_rounds run file line.items asks none wants tells
ends_without means words old new report run file unopened.Unread asks none wants tells grown fewer = Answers.unread run file asks none wants tells
ends_without means words old new report run file unopened.NoMemory asks none wants tells grown fewer =
    Answers.short run file asks none tells.0 (record { faults = grown; lists = fewer; out = tells.1; err = tells.2 })

-- there are not all texts
pub ends_unopened : (means : Means) (words : List Word) (first old new : Moment) (report : Report) (run : RunPlan) (file : Word) (rounds : List Round) (why : Unopened) → IsLater first old → Asks words report run file → report.history ≡ None
    → HasRounds first.files file rounds → StopsIn old.files rounds old.faults new.faults why → Tells why first new report.status → old.faults ≤ new.faults → new.lists ≤ old.lists → Answers means words first new report
ends_unopened means words first old new report run file rounds (unopened.Refused line) since asks none has stops tells grown fewer =
    Answers.unopened run file rounds line.items asks none has (subst (λ (t : Option Files). StopsIn t rounds old.faults new.faults (unopened.Refused line)) since.files stops) tells
ends_unopened means words first old new report run file rounds unopened.Unread since asks none has stops tells grown fewer = Answers.unread run file asks none (rose_since first.faults old.faults new.faults (let same = since.faults in omega (arith, same)) stops) tells
ends_unopened means words first old new report run file rounds unopened.NoMemory since asks none has stops tells grown fewer =
    let faults = since.faults in
    let lists = since.lists in
    Answers.short run file asks none tells.0 (record { faults = omega (arith, faults, grown); lists = omega (arith, lists, fewer); out = tells.1; err = tells.2 })

-- the scripts were opened, and then run
module _ (means : Means) (words : List Word) (first old new : Moment) (run : RunPlan) (file : Word) (rounds : List Round) (texts : List (List ℕ)) (since : IsLater first old) (report : Report) (asks : Asks words report run file)
    (has : HasRounds first.files file rounds) (opens : EachRoundOpens old.files rounds texts) where
  played : (status : ℕ) (history : Option (List Entry)) → report.status ≡ status → report.history ≡ history → Gives means run rounds texts old new (record { status = status; history = history }) → Answers means words first new report
  played status None s h gives =
      Answers.short run file asks h (s ∙ gives.0) (short_since first old new since gives.1)
  played status (Some history) s h gives =
      Answers.ran run file rounds texts history asks h has (subst (λ (x : Option Files). EachRoundOpens x rounds texts) since.files opens)
      (run_from means run rounds texts history report.status first old new since (subst (λ (n : ℕ). HasRun means run rounds texts old new (finished history n)) (sym s) gives))

pub played_by : (means : Means) (words : List Word) (first old new : Moment) (run : RunPlan) (file : Word) (rounds : List Round) (texts : List (List ℕ)) → IsLater first old → (ran : Left) (r : Report) → r ≡ record { status = ran.status; plan = Some (plans.Run run); history = ran.history }
    → rounds_plan (plan_of words) ≡ Some run → run.rounds ≡ Some file → HasRounds first.files file rounds → EachRoundOpens old.files rounds texts → Gives means run rounds texts old new ran → Answers means words first new r
played_by means words first old new run file rounds texts since ran r e is names has opens gives =
    let plan_is : r.plan ≡ Some (plans.Run run) = ap (λ (x : Report). x.plan) e in
    played means words first old new run file rounds texts since r (record { run_is = is; file_is = names; plan = plan_is }) has opens ran.status ran.history (ap (λ (x : Report). x.status) e) (ap (λ (x : Report). x.history) e) gives
