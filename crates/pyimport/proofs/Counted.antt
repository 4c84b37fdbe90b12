-- From the counts of a fork to those of the tree that has taken them in.
use Rattle.std.proofs.Common.{◌≡◌, ◌∙◌, refl, sym, ap, subst, ℕ, suc, ◌+◌, ◌-◌, ◌≤◌, ◌^◌, min, List, [], ◌∷◌, length, Option, Some, None, IfSome, true, false, Bool, not, is_some, arith}
use Rattle.std.specs.Prelude.{MatchOption, replicate}
use Rattle.tree_files.specs.Files.{Files}
use Rattle.tree_files.specs.Count.{Rose, raised}
use Rattle.words_rounds.specs.declared.rounds.Round.{Round}
use Rattle.machine_events.specs.declared.event.Event.{Event}
use Rattle.machine_events.specs.declared.event.Reply.{Reply}
use Rattle.machine_events.specs.declared.event.Entry.{Entry}
use Rattle.machine_spec.specs.declared.state.State.{State}
use Rattle.machine_shown.specs.Own.{own}
use Rattle.meaning_runs.specs.Runs.{Run}
use Rattle.meaning_solo.specs.Made.{Turn}
use Rattle.drive_account.proofs.Meant.{broken_by}
use Rattle.drive_round.specs.Solo.{HasCause, HaveCauses}
use Rattle.import_words.specs.Words.{Word}
use Rattle.import_words.specs.Plans.{plan_of}
use Rattle.import_words.specs.declared.plan.Plan.TheVariants as plans
use Rattle.import_words.specs.declared.plan.RunPlan.{RunPlan}
use Rattle.program_run.specs.Statuses.{want_of_memory}
use Rattle.program_run.specs.Sinks.{At, Moment, IsShort, Leaves}
use Rattle.program_run.specs.Scripts.{IsUnread}
use Rattle.program_run.specs.Counts.{reads_of, lists_of}
use Rattle.program_run.specs.Alone as alone
use Rattle.program_run.specs.Alone.{Means, Setting, setting, opening_of}
use Rattle.program_run.specs.Together.{Acts, AllAct}
use Rattle.program_run.specs.Runs as plain
use Rattle.program_run.specs.Runs.{finished}
use Rattle.program_run.specs.Answers as called
use Rattle.program_run.specs.Answers.{built, run_if}
use Rattle.program_run.specs.declared.report.Left.{Left}
use Rattle.program_run.proofs.Meaning.{acts_on_since}
use Rattle.program_run.specs.declared.report.Report.{Report}
use Rattle.program_rounds.specs.Rounds.{scripts_of, told_in, opening_in}
use Rattle.program_rounds.specs.Runs.{IsRun, EachActs, RunOver, HasRun}
use Rattle.program_rounds.specs.Answers.{Answers, rounds_plan}
use Rattle.pyimport.specs.Bundled.{GivesInBundles}

-- a plan that names no rounds file is one of scripts at once
plain_built : (words : List Word) (run : RunPlan) → Some (plans.Run run) ≡ plan_of words → rounds_plan (plan_of words) ≡ None → built (plan_of words) ≡ Some run
plain_built words run is none = ap built (sym is) ∙ by (is_some run.rounds) (ap rounds_plan is ∙ none)
  where
    by : (b : Bool) → run_if b run ≡ None → run_if (not b) run ≡ Some run
    by true e = absurd (cc e)
    by false e = refl

-- a fork began with no faults, and what it counted was added
rose_by : (faults f : ℕ) → Rose 0 f → Rose faults (raised faults f)
rose_by faults f h = omega (arith, h)

reads_by : (faults f n : ℕ) → raised 0 n ≤ f → raised faults n ≤ raised faults f
reads_by faults f n h = omega (arith, h)

-- ---- what scripts did

-- a script acts over the tree as over its fork, whatever its files are
act_by : (files : Files) (fuel faults f status t : ℕ) (run : Run) (mine : List (Event × Reply)) → Acts (setting files fuel 0 f status) t run mine → Acts (setting files fuel faults (raised faults f) status) t run mine
act_by files fuel faults f status t run mine (Acts.whole outcome follows) = Acts.whole outcome follows
act_by files fuel faults f status t run mine (Acts.part six broken) = Acts.part six (broken_by (rose_by faults f) broken)

module _ (files : Files) (fuel faults f status : ℕ) where
  abbrev forked : Setting
  forked = setting files fuel 0 f status

  abbrev whole : Setting
  whole = setting files fuel faults (raised faults f) status

  -- of one script, and of several at once

  cause_by : (stop : Option ℕ) → alone.HasCause stop 0 f → alone.HasCause stop faults (raised faults f)
  cause_by None c = tt
  cause_by (Some k) c = rose_by faults f c

  run_by : (opened : State) (run : Run) (h : List Entry) → alone.IsRun forked opened run h → alone.IsRun whole opened run h
  run_by opened run h (alone.IsRun.whole stop solo cause) = alone.IsRun.whole stop solo (cause_by stop cause)
  run_by opened run h (alone.IsRun.part stop rest is solo cause) = alone.IsRun.part stop rest is solo (cause_by stop cause)

  acts_by : (means : Means) (t : ℕ) (texts : List (List ℕ)) (h : List Entry) → AllAct means forked t texts h → AllAct means whole t texts h
  acts_by means t [] h acts = tt
  acts_by means t (text ∷ texts) h acts = (act_by files fuel faults f status t (means t text) (own t h) acts.0, acts_by means (suc t) texts h acts.1)

  over_by : (means : Means) (plan : RunPlan) (texts : List (List ℕ)) (h : List Entry) → plain.RunOver means forked plan texts h → plain.RunOver means whole plan texts h
  over_by means plan [] h over = tt
  over_by means plan (text ∷ []) h over = run_by (opening_of plan (text ∷ [])) (means 0 text) h over
  over_by means plan (text ∷ other ∷ texts) h over = acts_by means 0 (text ∷ other ∷ texts) h over

  -- of rounds

  causes_by : (turns : List Turn) → HaveCauses turns 0 f → HaveCauses turns faults (raised faults f)
  causes_by [] c = tt
  causes_by (turn ∷ turns) c = (stop_by turn.stop c.0, causes_by turns c.1)
    where
      stop_by : (stop : Option ℕ) → HasCause stop 0 f → HasCause stop faults (raised faults f)
      stop_by None c = tt
      stop_by (Some k) c = rose_by faults f c

  rounds_by : (means : Means) (opened : State) (rounds : List Round) (texts : List (List ℕ)) (h : List Entry) → IsRun means forked opened rounds texts h → IsRun means whole opened rounds texts h
  rounds_by means opened rounds texts h (IsRun.whole turns are causes solo) = IsRun.whole turns are (causes_by turns causes) solo
  rounds_by means opened rounds texts h (IsRun.part turns rest six are causes solo) = IsRun.part turns rest six are (causes_by turns causes) solo

  each_by : (means : Means) (h : List Entry) {t : ℕ} {trees : List Files} {texts : List (List ℕ)} → EachActs means forked h t trees texts → EachActs means whole h t trees texts
  each_by means h (EachActs.none t) = EachActs.none t
  each_by means h (EachActs.more t it trees text texts act rest) = EachActs.more t it trees text texts (act_by it fuel faults f status t (means t text) (own t h) act) (each_by means h {t = suc t} rest)

  all_by : (means : Means) (opened : State) (rounds : List Round) (texts : List (List ℕ)) (h : List Entry) → RunOver means forked opened rounds texts h → RunOver means whole opened rounds texts h
  all_by means opened rounds texts h (RunOver.alone single run) = RunOver.alone single (rounds_by means opened rounds texts h run)
  all_by means opened rounds texts h (RunOver.together several acts) = RunOver.together several (each_by means h acts)

-- the same where files are told
told_by : (told : Option Files) (a b : Files → Type 0) → ((files : Files) → a files → b files) → IfSome told a → IfSome told b
told_by None a b h it = tt
told_by (Some files) a b h it = h files it

-- ---- from the moments of a fork to those of the tree that it was made of and that has taken in what it counted; of the
-- fork's lists it has taken in no more than there were

module _ (files files' files'' : Option Files) (faults f lists l lists' : ℕ) (out out' err err' : At) (inside : lists' ≤ raised lists l) (grown : faults ≤ raised faults f) where
  abbrev first : Moment
  first = record { files = files; faults = 0; lists = 0; out = out; err = err }

  abbrev last : Moment
  last = record { files = files'; faults = f; lists = l; out = out'; err = err' }

  abbrev old : Moment
  old = record { files = files; faults = faults; lists = lists; out = out; err = err }

  abbrev new : Moment
  new = record { files = files''; faults = raised faults f; lists = lists'; out = out'; err = err' }

  lists_by : (n : ℕ) → l ≤ 0 + n → lists' ≤ lists + n
  lists_by n h = omega (arith, h, inside)

  leaves_by : {by : _} {a b : List ℕ} {status : ℕ} → Leaves by a b first last status → Leaves by a b old new status
  leaves_by l = record { out_flow = l.out_flow; err_flow = l.err_flow; out_gets = l.out_gets; err_gets = l.err_gets; is = l.is }

  unread_by : (scripts : List Word) → IsUnread files scripts 0 f → IsUnread files scripts faults (raised faults f)
  unread_by scripts u = record { script = u.script; reached = u.reached; rose = rose_by faults f u.rose }

  ran_by : (means : Means) (plan : RunPlan) (texts : List (List ℕ)) (h : List Entry) (status : ℕ) → plain.HasRun means plan texts first last (finished h status) → plain.HasRun means plan texts old new (finished h status)
  ran_by means plan texts h status run = record {
    legal = run.legal;
    runs = told_by files _ _ (λ told. over_by told plan.fuel faults f status means plan texts h) run.runs;
    acts = acts_on_since means plan.fuel status 0 f faults (raised faults f) 0 (replicate (length texts) files) texts h (rose_by faults f) run.acts;
    unfailed = λ unless none. (let stays = run.unfailed unless none in omega (arith, stays));
    reads = reads_by faults f (reads_of (length plan.scripts) h) run.reads;
    lists = λ ended. lists_by (lists_of (length plan.scripts) h) (run.lists ended);
    ends = run.ends;
    leaves = leaves_by run.leaves;
  }

  ran_in_rounds : (means : Means) (plan : RunPlan) (rounds : List Round) (texts : List (List ℕ)) (h : List Entry) (status : ℕ) → HasRun means plan rounds texts first last (finished h status) → HasRun means plan rounds texts old new (finished h status)
  ran_in_rounds means plan rounds texts h status run = record {
    legal = run.legal;
    runs = told_by files _ _ (λ told. all_by told plan.fuel faults f status means (opening_in plan rounds texts) rounds texts h) run.runs;
    acts = acts_on_since means plan.fuel status 0 f faults (raised faults f) 0 (told_in files rounds) texts h (rose_by faults f) run.acts;
    unfailed = λ unless none. (let stays = run.unfailed unless none in omega (arith, stays));
    reads = reads_by faults f (reads_of (length (scripts_of rounds)) h) run.reads;
    lists = λ ended. lists_by (lists_of (length (scripts_of rounds)) h) (run.lists ended);
    ends = run.ends;
    leaves = leaves_by run.leaves;
  }

  short_by : IsShort first last → IsShort old new
  short_by s = let none : l ≤ 0 = s.lists in record { faults = grown; lists = omega (arith, none, inside); out = s.out; err = s.err }

  plain_by : (means : Means) (words : List Word) (run : RunPlan) (report : Report) → built (plan_of words) ≡ Some run → called.Answers means words first last report → called.Answers means words old new report
  plain_by means words run report is (called.Answers.refused none plan history same lists' leaves) = absurd (let bad : ◌≡◌ {A = Option RunPlan} None (Some run) = sym none ∙ is in cc bad)
  plain_by means words run report is (called.Answers.unopened it line b plan history why leaves) = called.Answers.unopened it line b plan history why (leaves_by leaves)
  plain_by means words run report is (called.Answers.unread it b plan history why leaves) = called.Answers.unread it b plan history (unread_by it.scripts why) (leaves_by leaves)
  plain_by means words run report is (called.Answers.ran it texts history b plan h opens has) = called.Answers.ran it texts history b plan h opens (ran_by means it texts history report.status has)
  plain_by means words run report is (called.Answers.short it b plan history status short) = called.Answers.short it b plan history status (short_by short)

  -- so a call over the fork ends as one over the tree
  pub answers_by : (means : Means) (words : List Word) (run : RunPlan) (report : Report) → Some (plans.Run run) ≡ plan_of words → Answers means words first last report → Answers means words old new report
  answers_by means words run report is (Answers.plain none answers) = Answers.plain none (plain_by means words run report (plain_built words run is none) answers)
  answers_by means words run report is (Answers.no_rounds it file line asks none has leaves) = Answers.no_rounds it file line asks none has (leaves_by leaves)
  answers_by means words run report is (Answers.unopened it file rounds line asks none has why leaves) = Answers.unopened it file rounds line asks none has why (leaves_by leaves)
  answers_by means words run report is (Answers.unread it file asks none rose leaves) = Answers.unread it file asks none (rose_by faults f rose) (leaves_by leaves)
  answers_by means words run report is (Answers.ran it file rounds texts history asks h has opens ran) = Answers.ran it file rounds texts history asks h has opens (ran_in_rounds means it rounds texts history report.status ran)
  answers_by means words run report is (Answers.short it file asks none status short) = Answers.short it file asks none status (short_by short)

  match_by : (means : Means) (plan : RunPlan) (texts : List (List ℕ)) (status : ℕ) (h : Option (List Entry))
      → MatchOption h ((status ≡ want_of_memory) × (last ≡ first)) (λ history. plain.HasRun means plan texts first last (finished history status))
      → MatchOption h ((status ≡ want_of_memory) × (new.faults ≡ old.faults) × IsShort old new) (λ history. plain.HasRun means plan texts old new (finished history status))
  match_by means plan texts status None gives =
      let none : f ≡ 0 = ap (λ (m : Moment). m.faults) gives.1 in
      let unlisted : l ≡ 0 = ap (λ (m : Moment). m.lists) gives.1 in (
        gives.0,
        omega (arith, none, grown),
        short_by (record { faults = omega arith; lists = omega (arith, unlisted); out = ap (λ (m : Moment). m.out) gives.1; err = ap (λ (m : Moment). m.err) gives.1 }),
      )
  match_by means plan texts status (Some h) gives = ran_by means plan texts h status gives

  -- so programs over the fork leave what they leave over the tree
  pub gives_by : (means : Means) (plan : RunPlan) (texts : List (List ℕ)) (left : Left) → plain.Gives means plan texts first last left → GivesInBundles means plan texts old new left
  gives_by means plan texts left gives = match_by means plan texts left.status left.history gives

-- the tree inside counts no more than the tree around it
pub taken_in : (lists lists' l inner : ℕ) → lists' ≡ raised lists inner → raised inner 0 ≤ l → lists' ≤ raised lists l
taken_in lists lists' l inner is inside = omega (arith, is, inside)

-- no folder was listed in the fork
pub none_listed : (lists mid l first lists' : ℕ) → mid ≡ lists → first ≡ 0 → lists' ≤ raised mid l → l ≤ first → lists' ≤ lists
none_listed lists mid l first lists' same zero inside none = omega (arith, same, zero, inside, none)

-- the same by what the calls of both trees say: those of the tree had been `midf` and `midl` when it took in the fork's
pub answers_from : (means : Means) (words : List Word) (run : RunPlan) (report : Report) (m n : Moment) (files files' : Option Files) (faults midf faults' lists midl lists' : ℕ) (out out' err err' : At) → Some (plans.Run run) ≡ plan_of words
    → m.files ≡ files → m.faults ≡ 0 → m.lists ≡ 0 → m.out ≡ out → m.err ≡ err → n.out ≡ out' → n.err ≡ err' → midf ≡ faults → midl ≡ lists → faults' ≡ raised midf n.faults → lists' ≤ raised midl n.lists → midf ≤ faults'
    → Answers means words m n report
    → Answers means words (record { files = files; faults = faults; lists = lists; out = out; err = err }) (record { files = files'; faults = faults'; lists = lists'; out = out'; err = err' }) report
answers_from means words run report m n files files' faults midf faults' lists midl lists' out out' err err' is mf mz ml mo me no' ne' sf sl fs inside grows answers =
    let begins : m ≡ record { files = files; faults = 0; lists = 0; out = out; err = err } = λ i. record { files = mf i; faults = mz i; lists = ml i; out = mo i; err = me i } in
    let ends : n ≡ record { files = n.files; faults = n.faults; lists = n.lists; out = out'; err = err' } = λ i. record { files = n.files; faults = n.faults; lists = n.lists; out = no' i; err = ne' i } in
    let few : lists' ≤ raised lists n.lists = subst (λ (x : ℕ). lists' ≤ raised x n.lists) sl inside in
    let same : raised faults n.faults ≡ faults' = sym (fs ∙ ap (λ x. raised x n.faults) sf) in
    let grown : faults ≤ raised faults n.faults = omega (arith, sf, grows, same) in
    let counted : Answers means words (record { files = files; faults = faults; lists = lists; out = out; err = err }) (record { files = files'; faults = raised faults n.faults; lists = lists'; out = out'; err = err' }) report =
    answers_by files n.files files' faults n.faults lists n.lists lists' out out' err err' few grown means words run report is
    (subst (λ (x : Moment). Answers means words x (record { files = n.files; faults = n.faults; lists = n.lists; out = out'; err = err' }) report) begins (subst (λ (x : Moment). Answers means words m x report) ends answers)) in
    subst (λ (x : ℕ). Answers means words (record { files = files; faults = faults; lists = lists; out = out; err = err }) (record { files = files'; faults = x; lists = lists'; out = out'; err = err' }) report) same counted

-- the same of programs
pub gives_from : (means : Means) (plan : RunPlan) (texts : List (List ℕ)) (left : Left) (m n : Moment) (files files' : Option Files) (faults midf faults' lists midl lists' : ℕ) (out out' err err' : At)
    → m.files ≡ files → m.faults ≡ 0 → m.lists ≡ 0 → m.out ≡ out → m.err ≡ err → n.out ≡ out' → n.err ≡ err' → midf ≡ faults → midl ≡ lists → faults' ≡ raised midf n.faults → lists' ≤ raised midl n.lists → midf ≤ faults'
    → plain.Gives means plan texts m n left
    → GivesInBundles means plan texts (record { files = files; faults = faults; lists = lists; out = out; err = err }) (record { files = files'; faults = faults'; lists = lists'; out = out'; err = err' }) left
gives_from means plan texts left m n files files' faults midf faults' lists midl lists' out out' err err' mf mz ml mo me no' ne' sf sl fs inside grows gives =
    let begins : m ≡ record { files = files; faults = 0; lists = 0; out = out; err = err } = λ i. record { files = mf i; faults = mz i; lists = ml i; out = mo i; err = me i } in
    let ends : n ≡ record { files = n.files; faults = n.faults; lists = n.lists; out = out'; err = err' } = λ i. record { files = n.files; faults = n.faults; lists = n.lists; out = no' i; err = ne' i } in
    let few : lists' ≤ raised lists n.lists = subst (λ (x : ℕ). lists' ≤ raised x n.lists) sl inside in
    let same : raised faults n.faults ≡ faults' = sym (fs ∙ ap (λ x. raised x n.faults) sf) in
    let grown : faults ≤ raised faults n.faults = omega (arith, sf, grows, same) in
    let counted : GivesInBundles means plan texts (record { files = files; faults = faults; lists = lists; out = out; err = err }) (record { files = files'; faults = raised faults n.faults; lists = lists'; out = out'; err = err' }) left =
    gives_by files n.files files' faults n.faults lists n.lists lists' out out' err err' few grown means plan texts left
    (subst (λ (x : Moment). plain.Gives means plan texts x (record { files = n.files; faults = n.faults; lists = n.lists; out = out'; err = err' }) left) begins (subst (λ (x : Moment). plain.Gives means plan texts m x left) ends gives)) in
    subst (λ (x : ℕ). GivesInBundles means plan texts (record { files = files; faults = faults; lists = lists; out = out; err = err }) (record { files = files'; faults = x; lists = lists'; out = out'; err = err' }) left) same counted

-- nothing was written, and both counts are as they were
pub unchanged : {files files' : Option Files} {faults faults' lists lists' : ℕ} {out err : At} → faults' ≡ faults → lists' ≡ lists
    → IsShort (record { files = files; faults = faults; lists = lists; out = out; err = err }) (record { files = files'; faults = faults'; lists = lists'; out = out; err = err })
unchanged f l = record { faults = omega (arith, f); lists = omega (arith, l); out = refl; err = refl }

-- where no history was begun nothing changed
pub unbegun : (means : Means) (plan : RunPlan) (texts : List (List ℕ)) (m n : Moment) (left : Left) → plain.Gives means plan texts m n left → left.history ≡ None → n.lists ≡ m.lists
unbegun means plan texts m n left gives none =
    ap (λ (x : Moment). x.lists)
    (subst (λ (h : Option (List Entry)). MatchOption h ((left.status ≡ want_of_memory) × (n ≡ m)) (λ history. plain.HasRun means plan texts m n (finished history left.status))) none gives).1

-- memory was wanted before the words were followed
pub ends_short : (means : Means) (words : List Word) (run : RunPlan) (old new : Moment) (report : Report) → Some (plans.Run run) ≡ plan_of words → report.plan ≡ Some (plans.Run run) → report.history ≡ None → report.status ≡ want_of_memory
    → IsShort old new → Answers means words old new report
ends_short means words run old new report is plan none six short = by run.rounds refl
  where
    by : (o : Option Word) → run.rounds ≡ o → Answers means words old new report
    by None at =
        let plain : rounds_plan (plan_of words) ≡ None = ap rounds_plan (sym is) ∙ ap (λ (o : Option Word). run_if (is_some o) run) at in
        Answers.plain plain (called.Answers.short run (plain_built words run is plain) plan none six short)
    by (Some file) at =
        Answers.short run file (record { run_is = ap rounds_plan (sym is) ∙ ap (λ (o : Option Word). run_if (is_some o) run) at; file_is = at; plan = plan }) none six short
