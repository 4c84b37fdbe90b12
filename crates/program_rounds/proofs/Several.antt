-- What a run of rounds of several scripts leaves.
use Rattle.std.proofs.Common.{◌≡◌, ◌≤◌, ◌⊎◌, inl, inr, ℕ, zero, suc, ◌+◌, List, [], ◌∷◌, ◌++◌, length, map, take, Option, Some, None, Ok, Err, OnErr, refl, sym, ap, subst, ◌∙◌, arith}
use Rattle.std.specs.Prelude.{replicate, IfSome, IsSomeAnd}
use Rattle.std.proofs.lemmas.List.{map-append}
use Rattle.std.proofs.Math.Seq.{take-length}
use Rattle.tree_files.specs.Files.{Files}
use Rattle.tree_files.specs.Count.{raised}
use Rattle.tree_files.specs.Edits.{edited}
use Rattle.tree_files.specs.declared.edit.Edit.{Edit}
use Rattle.tree_overlay.specs.Kinds.{IsBelowRoot}
use Rattle.tree_overlay.specs.Told.{edited_told}
use Rattle.tree_overlay.specs.Rounds.{total}
use Rattle.words_rounds.specs.declared.rounds.Round.{Round}
use Rattle.machine_events.specs.declared.event.Entry.{Entry}
use Rattle.machine_spec.specs.declared.state.State.{State}
use Rattle.machine_spec.specs.Legal.{IsLegal}
use Rattle.machine_book.specs.Bound.{BoundTo}
use Rattle.machine_desk.specs.Outgo.{Outgo, Pieces, Kept}
use Rattle.meaning_runs.specs.Runs.{Run}
use Rattle.machine_shown.specs.Own.{own}
use Rattle.drive_account.specs.Ending.{Broken}
use Rattle.drive_round.specs.Ran.{Counts, Results, Runs}
use Rattle.import_words.specs.declared.plan.RunPlan.{RunPlan}
use Rattle.program_run.specs.Statuses.{sink_fault, want_of_memory}
use Rattle.program_run.specs.Prints.{out_text}
use Rattle.program_run.specs.Ends.{err_text, status_of}
use Rattle.program_run.specs.Sinks.{Moment, Leaves, status_by}
use Rattle.program_run.specs.Counts.{reads_of, lists_of, HaveEnds}
use Rattle.program_run.specs.Alone.{Means, setting}
use Rattle.program_run.specs.Results.{AllEnded, AreWhole}
use Rattle.program_run.specs.Runs.{finished}
use Rattle.program_run.specs.Together.{terms, AllActOn}
use Rattle.program_run.proofs.Counting.{tree_counts, faults_in, lists_counted, reads_from, lists_from}
use Rattle.program_run.proofs.Meaning.{act_on, all_unfailed, rose_up, whole_rest}
use Rattle.program_run.proofs.Threads.{act_of, ended_ran, ends_by}
use Rattle.program_rounds.specs.Rounds.{AreSingle, scripts_of, trees_of, told_in, opening_in}
use Rattle.program_rounds.specs.Opened.{files_after}
use Rattle.program_rounds.specs.Runs.{EachActs, RunOver, HasRun, meanings}
use Rattle.program_rounds.specs.Course.{EachRan, HasCome, HasLeft, Under}
use Rattle.program_rounds.proofs.Coursing.{all_none, each_many, many_told}

faults_same : (counts : List Counts) → faults_in counts ≡ total (λ (c : Counts). c.faults) counts
faults_same [] = refl
faults_same (c ∷ counts) = ap (λ (n : ℕ). c.faults + n) (faults_same counts)

lists_same : (counts : List Counts) → lists_counted counts ≡ total (λ (c : Counts). c.lists) counts
lists_same [] = refl
lists_same (c ∷ counts) = ap (λ (n : ℕ). c.lists + n) (lists_same counts)

-- each script has the files of its own round
pub told_some : (files : Files) (rounds : List Round) → told_in (Some files) rounds ≡ map (λ (f : Files). Some f) (trees_of files rounds)
told_some files [] = refl
told_some files (round ∷ rounds) =
    let here : Files = edited files round.edits in
    ap (λ (x : List (Option Files)). replicate (length round.scripts) (Some here) ++ x) (told_some here rounds)
    ∙ (ap (λ (x : List (Option Files)). x ++ map (λ (f : Files). Some f) (trees_of here rounds)) (same here (length round.scripts)) ∙ sym (map-append (λ (f : Files). Some f) (replicate (length round.scripts) here) (trees_of here rounds)))
  where
    same : (f : Files) (n : ℕ) → replicate n (Some f) ≡ map (λ (g : Files). Some g) (replicate n f)
    same f zero = refl
    same f (suc n) = ap (λ (x : List (Option Files)). Some f ∷ x) (same f n)

module _ (means : Means) (files : Files) (fuel old new status : ℕ) (h : List Entry) (all : ℕ) (rise : raised old all ≤ new) where
  acts_each : {t : ℕ} {told : List (Option Files)} {runs : Runs} {counts : List Counts} {came : Results} → EachRan fuel h t told runs counts came → (trees : List Files) (texts : List (List ℕ)) → told ≡ map (λ (f : Files). Some f) trees
      → runs ≡ meanings means texts → faults_in counts ≤ all → (status ≡ want_of_memory) ⊎ AreWhole came → EachActs means (setting files fuel old new status) h t trees texts
  acts_each (EachRan.none t) [] [] is runs_are some w = EachActs.none t
  acts_each (EachRan.none t) (f ∷ trees) texts is runs_are some w = absurd (cc is)
  acts_each (EachRan.none t) [] (x ∷ texts) is runs_are some w = absurd (cc runs_are)
  acts_each (EachRan.more t tree told run runs c counts r came ran rest) [] texts is runs_are some w = absurd (cc is)
  acts_each (EachRan.more t tree told run runs c counts r came ran rest) (f ∷ trees) [] is runs_are some w = absurd (cc runs_are)
  acts_each (EachRan.more t tree told run runs c counts r came ran rest) (f ∷ trees) (x ∷ texts) is runs_are some w =
      let tree_is : tree ≡ Some f = cc is in
      let behind : told ≡ map (λ (g : Files). Some g) trees = cc is in
      let run_is : run t ≡ means t x = ap (λ (k : ℕ → Run). k t) (heads_same run (λ u. means u x) runs (meanings means texts) runs_are) in
      EachActs.more t f trees x texts (act_of f means fuel old new status h t (run t) (means t x) r came c.faults all run_is (omega (arith, some)) rise (ran.follows f tree_is) (subst (λ (o : Option Files). OnErr r (Broken o t (run t) fuel (own t h) 0 c.faults)) tree_is ran.part) w)
      (acts_each {t = suc t} rest trees texts behind (cc runs_are) (omega (arith, some)) (whole_rest status r came w))
    where
      heads_same : (a b : ℕ → Run) (one other : Runs) → a ∷ one ≡ b ∷ other → a ≡ b
      heads_same a b one other e = cc e

module _ (means : Means) (fuel old new status : ℕ) (h : List Entry) (all : ℕ) (rise : raised old all ≤ new) where
  -- whatever the trees tell
  acts_told : {t : ℕ} {told : List (Option Files)} {runs : Runs} {counts : List Counts} {came : Results} → EachRan fuel h t told runs counts came → (texts : List (List ℕ)) → runs ≡ meanings means texts → faults_in counts ≤ all → (status ≡ want_of_memory) ⊎ AreWhole came
      → AllActOn means (terms fuel old new status) t told texts h
  acts_told (EachRan.none t) [] runs_are some w = tt
  acts_told (EachRan.none t) (x ∷ texts) runs_are some w = absurd (cc runs_are)
  acts_told (EachRan.more t tree told run runs c counts r came ran rest) [] runs_are some w = tt
  acts_told (EachRan.more t tree told run runs c counts r came ran rest) (x ∷ texts) runs_are some w =
      let run_is : run t ≡ means t x = ap (λ (k : ℕ → Run). k t) (heads_same run (λ u. means u x) runs (meanings means texts) runs_are) in
      (act_on fuel old new status tree t (own t h) 0 c.faults r came run_is (rose_up old new c.faults all (omega (arith, some)) rise) ran.meant ran.part w, acts_told {t = suc t} rest texts (cc runs_are) (omega (arith, some)) (whole_rest status r came w))
    where
      heads_same : (a b : ℕ → Run) (one other : Runs) → a ∷ one ≡ b ∷ other → a ≡ b
      heads_same a b one other e = cc e

-- what a course left, once it is over
module _ {O V : Type 0} (means : Means) (piece : Pieces) (out : O → Outgo) (under : Under) (rounds : List Round) (new : Counts) (book : BoundTo O) (results : Option V) (items : V → Results) {edits : List Edit} where
  pub left_by : (history : List Entry) → length under.texts ≡ length (scripts_of rounds) → history ≡ book.history → HasCome piece out means under rounds new book edits results items → HasLeft means under.tree under.fuel rounds under.texts under.old new history results items
  left_by history many same come =
      let whole : take (length (scripts_of rounds)) under.texts ≡ under.texts = ap (λ (n : ℕ). take n under.texts) (sym many) ∙ take-length under.texts in
      record {
        counts = come.counts;
        came = come.came;
        threads = subst (λ (h : List Entry). EachRan under.fuel h 0 (told_in under.tree rounds) (meanings means under.texts) come.counts come.came) (sym same)
            (subst (λ (ts : List (List ℕ)). EachRan under.fuel book.history 0 (told_in under.tree rounds) (meanings means ts) come.counts come.came) whole come.threads);
        took = come.took;
        whole = by results come.whole;
      }
    where
      by : (results : Option V) → IfSome results (λ r. (items r ≡ come.came) × AreWhole come.came × (edited_told edits under.tree ≡ files_after under.tree rounds) × IsBelowRoot edits) → IfSome results (λ r. (items r ≡ come.came) × AreWhole come.came)
      by None w = tt
      by (Some r) w = (w.0, w.1)

-- the book went on from a new one
module _ {O V : Type 0} (piece : Pieces) (out : O → Outgo) (means : Means) {under : Under} {rounds : List Round} {new : Counts} (before after : BoundTo O) {edits : List Edit} {results : Option V} {items : V → Results} where
  pub legal_by : {opened : State} {outlet : O} (history : List Entry) → before ≡ record { opening = opened; history = []; outlet = outlet } → HasCome piece out means under rounds new after edits results items → under.opened ≡ before.opening → IsLegal after.opening history → IsLegal opened history
  legal_by history made come from legal = subst (λ (s : State). IsLegal s history) (come.opening ∙ (from ∙ ap (λ (b : BoundTo O). b.opening) made)) legal

  pub kept_by : {opened : State} {outlet : O} (history : List Entry) (left : O) → before ≡ record { opening = opened; history = []; outlet = outlet } → HasCome piece out means under rounds new after edits results items → under.start ≡ out before.outlet → history ≡ after.history → left ≡ after.outlet
      → Kept piece (out outlet) (out left) history
  kept_by {opened} {outlet} history left made come from same_history same_outlet =
      subst (λ (h : List Entry). Kept piece (out outlet) (out left) h) (sym same_history)
      (subst (λ (o : O). Kept piece (out outlet) (out o) after.history) (sym same_outlet) (subst (λ (s : Outgo). Kept piece s (out after.outlet) after.history) (from ∙ ap (λ (b : BoundTo O). out b.outlet) made) come.kept))

pub many_names : {V : Type 0} (items : V → Results) (results : Option V) (n k : ℕ) → k ≡ n → IfSome results (λ r. length (items r) ≡ n) → IfSome results (λ r. length (items r) ≡ k)
many_names items None n k same many = tt
many_names items (Some r) n k same many = many ∙ sym same

module _ {V : Type 0} (means : Means) (tree : Option Files) (fuel : ℕ) (rounds : List Round) (texts : List (List ℕ)) (old new : Counts) (h : List Entry) (results : Option V) (items : V → Results) (left : HasLeft means tree fuel rounds texts old new h results items) where
  -- as many results as scripts, and each has its End in the history
  pub many_left : IfSome results (λ r. length (items r) ≡ length (scripts_of rounds))
  many_left = by results left.whole
    where
      by : (results : Option V) → IfSome results (λ r. (items r ≡ left.came) × AreWhole left.came) → IfSome results (λ r. length (items r) ≡ length (scripts_of rounds))
      by None w = tt
      by (Some r) w = ap length w.0 ∙ (each_many fuel h left.threads ∙ many_told tree rounds)

  pub ended_left : IfSome results (λ r. AllEnded 0 (items r) h)
  ended_left = by results left.whole
    where
      by : (results : Option V) → IfSome results (λ r. (items r ≡ left.came) × AreWhole left.came) → IfSome results (λ r. AllEnded 0 (items r) h)
      by None w = tt
      by (Some r) w = subst (λ (rs : Results). AllEnded 0 rs h) (sym w.0) (ended_ran None fuel h 0 (meanings means texts) left.counts left.came (all_none fuel h left.threads))

  whole_left : (status : ℕ) → (status ≡ want_of_memory) ⊎ IsSomeAnd results (λ r. AreWhole (items r)) → (status ≡ want_of_memory) ⊎ AreWhole left.came
  whole_left status (inl six) = inl six
  whole_left status (inr some) = by results left.whole some
    where
      by : (results : Option V) → IfSome results (λ r. (items r ≡ left.came) × AreWhole left.came) → IsSomeAnd results (λ r. AreWhole (items r)) → (status ≡ want_of_memory) ⊎ AreWhole left.came
      by None w some = absurd some
      by (Some r) w some = inr w.1

-- all that such a run leaves
pub has_run_together : {V : Type 0} (means : Means) (plan : RunPlan) (rounds : List Round) (texts : List (List ℕ)) (old new : Moment) (h : List Entry) (status : ℕ) (results : Option V) (items : V → Results) → (AreSingle rounds → ⊥) → IsLegal (opening_in plan rounds texts) h
    → HasLeft means old.files plan.fuel rounds texts (tree_counts old) (tree_counts new) h results items → (status ≡ want_of_memory) ⊎ IsSomeAnd results (λ r. AreWhole (items r))
    → Leaves (status_by (status_of (length (scripts_of rounds)) h) sink_fault) (out_text plan.trace h) (err_text (scripts_of rounds) h) old new status → HasRun means plan rounds texts old new (finished h status)
has_run_together means plan rounds texts old new h status results items several legal left w leaves =
    let all = all_none plan.fuel h left.threads in
    let many : 0 + length left.came ≡ length (scripts_of rounds) = (let a = each_many plan.fuel h left.threads in let b = many_told old.files rounds in omega (arith, a, b)) in
    let fsum = faults_same left.counts in
    let lsum = lists_same left.counts in
    let took = left.took.faults.least in
    let listed = left.took.lists in
    record {
      legal = legal;
      runs = by_told old.files refl;
      acts = acts_told means plan.fuel old.faults new.faults status h (faults_in left.counts) (omega (arith, fsum, took)) left.threads texts refl (omega arith)
          (whole_left means old.files plan.fuel rounds texts (tree_counts old) (tree_counts new) h results items left status w);
      unfailed = λ unless none.
          let zero = all_unfailed None plan.fuel h (meanings means texts) left.counts left.came status (length (scripts_of rounds)) all (omega (arith, many))
          (whole_left means old.files plan.fuel rounds texts (tree_counts old) (tree_counts new) h results items left status w) unless none in
          left.took.faults.none (omega (arith, zero, fsum));
      reads =
          let same : reads_of (0 + length left.came) h ≡ reads_of (length (scripts_of rounds)) h = ap (λ (n : ℕ). reads_of n h) many in
          let read = reads_from None plan.fuel h 0 (meanings means texts) left.counts left.came all in
          omega (arith, same, read, fsum, took);
      lists = λ ended.
          let same : lists_of (0 + length left.came) h ≡ lists_of (length (scripts_of rounds)) h = ap (λ (n : ℕ). lists_of n h) many in
          let bound = (lists_from None plan.fuel h 0 (meanings means texts) left.counts left.came all (subst (λ (n : ℕ). HaveEnds n h) (sym many) ended)).0 in
          omega (arith, same, bound, lsum, listed);
      ends = ends_by status (length (scripts_of rounds)) left.came h (omega (arith, many)) (ended_ran None plan.fuel h 0 (meanings means texts) left.counts left.came all) (whole_left means old.files plan.fuel rounds texts (tree_counts old) (tree_counts new) h results items left status w);
      leaves = leaves;
    }
  where
    by_told : (tree : Option Files) → old.files ≡ tree → IfSome tree (λ files. RunOver means (setting files plan.fuel old.faults new.faults status) (opening_in plan rounds texts) rounds texts h)
    by_told None is = tt
    by_told (Some files) is =
        let sum = faults_same left.counts in
        let took = left.took.faults.least in
        let told : told_in old.files rounds ≡ map (λ (f : Files). Some f) (trees_of files rounds) = ap (λ (t : Option Files). told_in t rounds) is ∙ told_some files rounds in
        RunOver.together several (acts_each means files plan.fuel old.faults new.faults status h (faults_in left.counts) (omega (arith, sum, took)) left.threads (trees_of files rounds) texts told refl (omega arith)
        (whole_left means old.files plan.fuel rounds texts (tree_counts old) (tree_counts new) h results items left status w))
