-- From rounds that were played to what a run of them leaves.
use Rattle.std.proofs.Common.{◌≡◌, ◌≤◌, ◌⊎◌, inl, inr, ℕ, zero, suc, ◌+◌, List, [], ◌∷◌, ◌++◌, length, map, take, drop, Option, Some, None, Ok, Err, IfOk, OnOk, OnErr, refl, sym, ap, subst, ◌∙◌, arith}
use Rattle.std.specs.Prelude.{replicate, IfSome}
use Rattle.std.specs.List.{AllByRecursion, sum}
use Rattle.std.proofs.lemmas.List.{length-map}
use Rattle.std.proofs.lemmas.List.Sums.{sum_by-cons}
use Rattle.tree_files.specs.Files.{Files}
use Rattle.tree_files.specs.Count.{Rose, raised}
use Rattle.tree_files.specs.Edits.{edited}
use Rattle.tree_files.specs.declared.edit.Edit.{Edit}
use Rattle.tree_overlay.specs.Told.{edited_told}
use Rattle.tree_overlay.specs.Rounds as trees
use Rattle.tree_overlay.proofs.Rounds.{told_by}
use Rattle.machine_events.specs.declared.event.Entry.{Entry}
use Rattle.machine_spec.specs.declared.state.State.{State}
use Rattle.machine_spec.specs.Legal.{IsLegal}
use Rattle.machine_spec.specs.Opening.{round_starts}
use Rattle.machine_laws.specs.Begun.{first}
use Rattle.machine_book.specs.Bound.{opened, CanOpen}
use Rattle.machine_book.specs.declared.opening.Opening.{Opening}
use Rattle.machine_shown.specs.Own.{own}
use Rattle.machine_shown.specs.Shown.{shown_first}
use Rattle.meaning_runs.specs.Runs.{Run, Safe}
use Rattle.meaning_runs.specs.Lists.{lists_in}
use Rattle.meaning_solo.specs.Solo.{AreAlone}
use Rattle.meaning_solo.proofs.Alone.{alone_by}
use Rattle.drive_account.specs.Ending.{Broken, IsRead}
use Rattle.drive_account.proofs.Meant.{if_meant_none, if_broken_none}
use Rattle.drive_round.specs.Ran.{Ran, RanOver, Counts, counted, no_counts, Runs, AllRan}
use Rattle.drive_round.specs.Played.{AllPlayed, none, more}
use Rattle.drive_round.specs.Solo as drive
use Rattle.drive_round.proofs.Turning.{is_run}
use Rattle.words_rounds.specs.declared.rounds.Round.{Round}
use Rattle.import_words.specs.declared.plan.RunPlan.{RunPlan}
use Rattle.program_run.specs.Statuses.{sink_fault, want_of_memory}
use Rattle.program_run.specs.Prints.{out_text}
use Rattle.program_run.specs.Ends.{err_text, status_of}
use Rattle.program_run.specs.Sinks.{Moment, Leaves, status_by}
use Rattle.program_run.specs.Counts.{reads_of, lists_of, HaveEnds}
use Rattle.program_run.specs.Alone.{Means, setting}
use Rattle.program_run.specs.Results.{Came, AreWhole, AllEnded}
use Rattle.program_run.specs.Runs.{finished}
use Rattle.program_run.specs.Together.{Mean, terms, ActsOn, AllActOn}
use Rattle.program_run.proofs.Counting.{faults_in, lists_counted, reads_from, lists_from}
use Rattle.program_run.proofs.Lone.{begun_by}
use Rattle.program_run.proofs.Meaning.{act_on, whole_rest, all_unfailed}
use Rattle.program_run.proofs.Threads.{ends_by, many_mean, many_ran, ended_ran}
use Rattle.program_rounds.specs.Rounds.{AreSingle, scripts_of, sizes_of, edits_of, trees_of, told_in, opening_in}
use Rattle.program_rounds.specs.Runs.{IsRun, RunOver, HasRun, meanings}
use Rattle.program_rounds.proofs.Begun.{each_one, many_scripts, many_sizes}

-- ---- rounds of one script each

-- each script has the tree of its own round
trees_same : (files : Files) (rounds : List Round) → AreSingle rounds → trees_of files rounds ≡ trees.trees_of files (edits_of rounds)
trees_same files [] single = refl
trees_same files (round ∷ rounds) single =
    let here : Files = edited files round.edits in
    ap (λ (n : ℕ). replicate n here ++ trees_of here rounds) single.0 ∙ ap (λ (fs : List Files). here ∷ fs) (trees_same here rounds single.1)

many_trees : (files : Files) (edits : List (List Edit)) → length (trees.trees_of files edits) ≡ length edits
many_trees files [] = refl
many_trees files (es ∷ edits) = ap suc (many_trees (edited files es) edits)

pub many_edits : (rounds : List Round) → length (edits_of rounds) ≡ length rounds
many_edits [] = refl
many_edits (round ∷ rounds) = ap suc (many_edits rounds)

pub many_starts : (k : ℕ) (sizes : List ℕ) → AllByRecursion (λ size. size ≡ 1) sizes → length (round_starts k sizes) ≡ length sizes
many_starts k [] all = refl
many_starts k (size ∷ sizes) all = ap (λ (n : ℕ). length (replicate n k ++ round_starts (k + n) sizes)) all.0 ∙ ap suc (many_starts (k + 1) sizes all.1)

many_ones : (sizes : List ℕ) → AllByRecursion (λ size. size ≡ 1) sizes → sum sizes ≡ length sizes
many_ones [] all = refl
many_ones (size ∷ sizes) all =
    let here : size ≡ 1 = all.0 in
    let rest = many_ones sizes all.1 in
    let whole : sum (size ∷ sizes) ≡ size + sum sizes = sum_by-cons (λ x. x) size sizes in
    omega (arith, here, rest, whole)

pub few_rounds : (opening : Opening) → CanOpen opening → AllByRecursion (λ size. size ≡ 1) opening.rounds → length opening.rounds ≤ 16
few_rounds opening can single =
    let many = many_ones opening.rounds single in
    let whole = can.rounds in
    let few = can.few in
    omega (arith, many, whole, few)

-- the machine of such rounds
pub alone_in : (opening : Opening) → CanOpen opening → AllByRecursion (λ size. size ≡ 1) opening.rounds → AreAlone (opened opening)
alone_in opening can single = alone_by (begun_by opening can) single

-- ---- programs of texts

module _ {P : Type 0} (run : P → ℕ → Run) (means : Means) where
  means_same : (t : ℕ) (texts : List (List ℕ)) (programs : List P) → Mean run means texts programs → drive.means_of t (map run programs) ≡ drive.means_of t (meanings means texts)
  means_same t [] [] mean = refl
  means_same t [] (p ∷ programs) mean = absurd mean
  means_same t (x ∷ texts) [] mean = absurd mean
  means_same t (x ∷ texts) (p ∷ programs) mean =
      ap (λ (r : Run). r ∷ drive.means_of (t + 1) (map run programs)) (mean.0 t) ∙ ap (λ (rs : List Run). means t x ∷ rs) (means_same (t + 1) texts programs mean.1)

  safe_by : ((t : ℕ) (text : List ℕ) → Safe (shown_first t) (means t text)) → (texts : List (List ℕ)) (programs : List P) → Mean run means texts programs → drive.AreSafe (map run programs)
  safe_by safe [] [] mean = tt
  safe_by safe [] (p ∷ programs) mean = absurd mean
  safe_by safe (x ∷ texts) [] mean = absurd mean
  safe_by safe (x ∷ texts) (p ∷ programs) mean = (λ t. subst (Safe (shown_first t)) (sym (mean.0 t)) (safe t x), safe_by safe texts programs mean.1)

ended_by : (results : List Came) → AreWhole results → drive.HaveEnded results
ended_by [] whole = tt
ended_by (Ok it ∷ results) whole = ended_by results whole
ended_by (Err e ∷ results) whole = absurd whole

six_by : (status : ℕ) (results : List Came) → (status ≡ want_of_memory) ⊎ AreWhole results → (drive.HaveEnded results → ⊥) → status ≡ want_of_memory
six_by status results (inl six) never = six
six_by status results (inr whole) never = absurd (never (ended_by results whole))

-- ---- what the forks counted

module _ {F : Type 0} (told : F → Option Files) (faults lists : F → ℕ) where
  pub many_forks : (tree : Option Files) (edits : List (List Edit)) (forks : List F) → trees.AreForks told faults lists tree edits forks → length forks ≡ length edits
  many_forks tree [] [] are = refl
  many_forks tree [] (fork ∷ forks) are = absurd are
  many_forks tree (es ∷ edits) [] are = absurd are
  many_forks tree (es ∷ edits) (fork ∷ forks) are = ap suc (many_forks (edited_told es tree) edits forks are.3)

  -- these forks have counted nothing
  abbrev AreNew : List F → Type 0
  AreNew [] = Unit {0}
  AreNew (fork ∷ forks) = (faults fork ≡ 0) × (lists fork ≡ 0) × AreNew forks

  are_new : (tree : Option Files) (edits : List (List Edit)) (forks : List F) → trees.AreForks told faults lists tree edits forks → AreNew forks
  are_new tree [] [] are = tt
  are_new tree [] (fork ∷ forks) are = absurd are
  are_new tree (es ∷ edits) [] are = absurd are
  are_new tree (es ∷ edits) (fork ∷ forks) are = (are.1, are.2, are_new (edited_told es tree) edits forks are.3)

  counts_of : List F → List Counts
  counts_of [] = []
  counts_of (fork ∷ forks) = counted faults lists fork ∷ counts_of forks

  faults_total : (forks : List F) → faults_in (counts_of forks) ≡ trees.total faults forks
  unfolding counts_of
  faults_total [] = refl
  faults_total (fork ∷ forks) = ap (λ (n : ℕ). faults fork + n) (faults_total forks)

  lists_total : (forks : List F) → lists_counted (counts_of forks) ≡ trees.total lists forks
  unfolding counts_of
  lists_total [] = refl
  lists_total (fork ∷ forks) = ap (λ (n : ℕ). lists fork + n) (lists_total forks)

  module _ (fuel : ℕ) (h : List Entry) where
    ran_none : (t : ℕ) (run : Run) (old new : F) (came : Came) → faults old ≡ 0 → lists old ≡ 0 → RanOver told faults lists old new t run fuel (own t h) came → Ran None t run fuel no_counts (counted faults lists new) (own t h) came
    ran_none t run old new came f l ran = record {
      faults = omega arith;
      lists = subst (λ (n : ℕ). OnOk came (lists new ≤ n + lists_in (own t h))) l ran.lists;
      goes_on = ran.goes_on;
      meant = if_meant_none (told old) t run fuel (own t h) came ran.meant;
      follows = λ files is. absurd (cc is);
      part = if_broken_none (told old) t run fuel (own t h) 0 (faults new) came (subst (λ (n : ℕ). OnErr came (Broken (told old) t run fuel (own t h) n (faults new))) f ran.part);
      read = subst (λ (n : ℕ). IfOk came (λ e. IsRead e → Rose n (faults new))) f ran.read;
      unfailed = subst (λ (n : ℕ). IfOk came (λ e. (IsRead e → ⊥) → faults new ≡ n)) f ran.unfailed;
    }

    all_ran : {t : ℕ} {runs : Runs} {olds news : List F} {results : List Came} → AreNew olds → AllPlayed told faults lists fuel h t runs olds news results → AllRan None t runs fuel h (counts_of news) results
    unfolding counts_of
    all_ran new (none t) = tt
    all_ran new (more t run runs a b olds news came results ran stays later rest) =
        let next : t + 1 ≡ suc t = omega arith in
        (ran_none t (run t) a b came new.0 new.1 ran, subst (λ (n : ℕ). AllRan None n runs fuel h (counts_of news) results) next (all_ran {t = t + 1} new.2 rest))

    rises : {t : ℕ} {runs : Runs} {olds news : List F} {results : List Came} (old new total : ℕ) → AreNew olds → trees.total faults news ≤ total → raised old total ≤ new → AllPlayed told faults lists fuel h t runs olds news results
        → drive.Rises faults olds news old new
    rises old new total fresh some rise (none t) = tt
    rises old new total fresh some rise (more t run runs a b olds news came results ran stays later rest) =
        let none_yet : faults a ≡ 0 = fresh.0 in
        (λ rose. omega (arith, some, rise, rose, none_yet), rises {t = t + 1} old new total fresh.2 (omega (arith, some)) rise rest)

    -- no program is played without a fork
    none_played : {t : ℕ} {run : ℕ → Run} {runs : Runs} {olds news : List F} {results : List Came} (tree : Option Files) → AllPlayed told faults lists fuel h t (run ∷ runs) olds news results → trees.AreForks told faults lists tree [] olds → ⊥
    none_played tree (more t r runs a b olds news came results ran stays later rest) are = are

    -- each acts by its meaning on some answers of its fork
    acts_alone : (means : Means) {P : Type 0} (run : P → ℕ → Run) (old new status total : ℕ) → raised old total ≤ new → {t : ℕ} {olds news : List F} {results : List Came} (tree : Option Files) (rounds : List Round) → AreSingle rounds → (texts : List (List ℕ)) (programs : List P)
        → Mean run means texts programs → trees.AreForks told faults lists tree (edits_of rounds) olds → trees.total faults news ≤ total → AllPlayed told faults lists fuel h t (map run programs) olds news results → (status ≡ want_of_memory) ⊎ AreWhole results
        → AllActOn means (terms fuel old new status) t (told_in tree rounds) texts h
    acts_alone means run old new status total rise tree rounds single [] programs mean are some played w = tt
    acts_alone means run old new status total rise tree rounds single (x ∷ texts) [] mean are some played w = absurd mean
    acts_alone means run old new status total rise tree [] single (x ∷ texts) (p ∷ programs) mean are some played w = absurd (none_played tree played are)
    acts_alone means run old new status total rise tree (round ∷ rounds) single (x ∷ texts) (p ∷ programs) mean are some (more t r runs a b olds news came results ran stays later rest) w =
        let here : Option Files = edited_told round.edits tree in
        let next : t + 1 ≡ suc t = omega arith in
        let zero : faults a ≡ 0 = are.1 in
        let acts : ActsOn (terms fuel old new status) (told a) t (means t x) (own t h) = act_on fuel old new status (told a) t (own t h) (faults a) (faults b) came results (mean.0 t) (λ rose. omega (arith, some, rise, rose, zero)) ran.meant ran.part w in
        let behind : AllActOn means (terms fuel old new status) (suc t) (told_in here rounds) texts h =
        subst (λ (n : ℕ). AllActOn means (terms fuel old new status) n (told_in here rounds) texts h) next
        (acts_alone means run old new status total rise {t = t + 1} here rounds single.1 texts programs mean.1 are.3 (omega (arith, some)) rest (whole_rest status came results w)) in
        subst (λ (n : ℕ). AllActOn means (terms fuel old new status) t (replicate n here ++ told_in here rounds) (x ∷ texts) h) (sym single.0)
        (subst (λ (o : Option Files). ActsOn (terms fuel old new status) o t (means t x) (own t h)) are.0 acts, behind)

    pub ended_played : {runs : Runs} {news : List F} {results : List Came} (tree : Option Files) (edits : List (List Edit)) (olds : List F) → trees.AreForks told faults lists tree edits olds → AllPlayed told faults lists fuel h 0 runs olds news results → AllEnded 0 results h
    ended_played {runs} {news} {results} tree edits olds forks played = ended_ran None fuel h 0 runs (counts_of news) results (all_ran (are_new tree edits olds forks) played)

    pub many_left : {t : ℕ} {runs : Runs} {olds news : List F} {results : List Came} → AllPlayed told faults lists fuel h t runs olds news results → length news ≡ length olds
    many_left (none t) = refl
    many_left (more t run runs a b olds news came results ran stays later rest) = ap suc (many_left {t = t + 1} rest)

    pub many_played : {t : ℕ} {runs : Runs} {olds news : List F} {results : List Came} → AllPlayed told faults lists fuel h t runs olds news results → length results ≡ length runs
    many_played (none t) = refl
    many_played (more t run runs a b olds news came results ran stays later rest) = ap suc (many_played {t = t + 1} rest)

-- a vector whose whole slice was written back
pub written_back : {F : Type 0} (len : ℕ) (news items : List F) → length news ≡ length items → len ≡ length items → take len (news ++ drop (length news) items) ≡ news
written_back zero [] [] many long = refl
written_back zero [] (y ∷ items) many long = absurd (omega (arith, many))
written_back (suc n) [] [] many long = absurd (omega (arith, long))
written_back (suc n) [] (y ∷ items) many long = absurd (omega (arith, many))
written_back zero (x ∷ news) [] many long = absurd (omega (arith, many))
written_back zero (x ∷ news) (y ∷ items) many long = absurd (omega (arith, long))
written_back (suc n) (x ∷ news) [] many long = absurd (omega (arith, many))
written_back (suc n) (x ∷ news) (y ∷ items) many long = ap (λ (xs : List _). x ∷ xs) (written_back n news items (omega (arith, many)) (omega (arith, long)))

-- ---- all that a run of rounds leaves

module _ (means : Means) (safe : (t : ℕ) (text : List ℕ) → Safe (shown_first t) (means t text)) (plan : RunPlan) (rounds : List Round) (single : AreSingle rounds) (texts : List (List ℕ)) (old new : Moment) (h : List Entry) (status : ℕ)
    (opening : Opening) (can : CanOpen opening) (sizes : opening.rounds ≡ sizes_of rounds) (is : opened opening ≡ opening_in plan rounds texts) (legal : IsLegal (opened opening) h)
    {F P : Type 0} (told : F → Option Files) (faults lists : F → ℕ) (run : P → ℕ → Run) (programs : List P) (mean : Mean run means texts programs) (as_many : length texts ≡ length rounds)
    (olds news : List F) (results : List Came) (played : AllPlayed told faults lists plan.fuel h 0 (map run programs) olds news results)
    (took : trees.Absorbed old.faults (trees.total faults news) new.faults) (listed : new.lists ≤ old.lists + trees.total lists news) (w : (status ≡ want_of_memory) ⊎ AreWhole results) where
  run_of : (files : Files) → drive.IsRun (trees.trees_of files (edits_of rounds)) (map run programs) plan.fuel (opened opening) h results old.faults new.faults
      → IsRun means (setting files plan.fuel old.faults new.faults status) (opened opening) rounds texts h
  run_of files (drive.IsRun.whole turns are causes ended solo) =
      IsRun.whole turns (record { trees_are = are.trees_are ∙ sym (trees_same files rounds single); means_are = are.means_are ∙ means_same run means 0 texts programs mean }) causes solo
  run_of files (drive.IsRun.part turns rest are causes never solo) =
      IsRun.part turns rest (six_by status results w never) (record { trees_are = are.trees_are ∙ sym (trees_same files rounds single); means_are = are.means_are ∙ means_same run means 0 texts programs mean }) causes solo

  over : (files : Files) → trees.AreForks told faults lists (Some files) (edits_of rounds) olds → IsRun means (setting files plan.fuel old.faults new.faults status) (opening_in plan rounds texts) rounds texts h
  over files forks =
      let all : AllByRecursion (λ size. size ≡ 1) opening.rounds = subst (λ (ns : List ℕ). AllByRecursion (λ size. size ≡ 1) ns) (sym sizes) (each_one rounds single) in
      let many : length (trees.trees_of files (edits_of rounds)) ≡ length (round_starts 0 opening.rounds) =
      many_trees files (edits_of rounds) ∙ (many_edits rounds ∙ sym (many_starts 0 opening.rounds all ∙ (ap length sizes ∙ many_sizes rounds))) in
      subst (λ (s : State). IsRun means (setting files plan.fuel old.faults new.faults status) s rounds texts h) is
      (run_of files
      (is_run told faults lists (begun_by opening can) (trees.trees_of files (edits_of rounds)) (map run programs) plan.fuel h olds news results old.faults new.faults (alone_in opening can all) many
      (told_by told faults lists files (edits_of rounds) olds forks) (safe_by run means safe texts programs mean) legal
      (rises told faults lists plan.fuel h old.faults new.faults (trees.total faults news) (are_new told faults lists (Some files) (edits_of rounds) olds forks) (omega arith) took.least played) played))

  by_told : (tree : Option Files) → trees.AreForks told faults lists tree (edits_of rounds) olds → IfSome tree (λ files. RunOver means (setting files plan.fuel old.faults new.faults status) (opening_in plan rounds texts) rounds texts h)
  by_told None forks = tt
  by_told (Some files) forks = RunOver.alone single (over files forks)

  pub has_run : trees.AreForks told faults lists old.files (edits_of rounds) olds → Leaves (status_by (status_of (length (scripts_of rounds)) h) sink_fault) (out_text plan.trace h) (err_text (scripts_of rounds) h) old new status
      → HasRun means plan rounds texts old new (finished h status)
  has_run forks leaves =
      let all = all_ran told faults lists plan.fuel h (are_new told faults lists old.files (edits_of rounds) olds forks) played in
      let many : 0 + length results ≡ length (scripts_of rounds) =
      (let a = many_played told faults lists plan.fuel h played in let b = length-map programs run in let c = many_mean run means texts programs mean in let d = many_scripts rounds single in omega (arith, a, b, c, d, as_many)) in
      let fsum = faults_total told faults lists news in
      let least = took.least in
      let lsum = lists_total told faults lists news in
      record {
        legal = subst (λ (s : State). IsLegal s h) is legal;
        runs = by_told old.files forks;
        acts = acts_alone told faults lists plan.fuel h means run old.faults new.faults status (trees.total faults news) took.least old.files rounds single texts programs mean forks (omega arith) played w;
        unfailed = λ unless none.
            let zero = all_unfailed None plan.fuel h (map run programs) (counts_of told faults lists news) results status (length (scripts_of rounds)) all (omega (arith, many)) w unless none in
            took.none (omega (arith, zero, fsum));
        reads =
            let same : reads_of (0 + length results) h ≡ reads_of (length (scripts_of rounds)) h = ap (λ (n : ℕ). reads_of n h) many in
            let read = reads_from None plan.fuel h 0 (map run programs) (counts_of told faults lists news) results all in
            omega (arith, same, read, fsum, least);
        lists = λ ended.
            let same : lists_of (0 + length results) h ≡ lists_of (length (scripts_of rounds)) h = ap (λ (n : ℕ). lists_of n h) many in
            let bound = (lists_from None plan.fuel h 0 (map run programs) (counts_of told faults lists news) results all (subst (λ (n : ℕ). HaveEnds n h) (sym many) ended)).0 in
            omega (arith, same, bound, lsum, listed);
        ends = ends_by status (length (scripts_of rounds)) results h (omega (arith, many)) (ended_ran None plan.fuel h 0 (map run programs) (counts_of told faults lists news) results all) w;
        leaves = leaves;
      }
