-- From the threads of a round to what each script did.
use Rattle.std.proofs.Common.{◌≡◌, ◌≤◌, ◌<◌, ◌⊎◌, inl, inr, ℕ, zero, suc, ◌+◌, List, [], ◌∷◌, ◌++◌, length, map, Option, Some, None, Ok, Err, IfOk, OnErr, refl, sym, subst, ◌∙◌, ap, arith}
use Rattle.std.specs.Prelude.{slice_get, replicate, IfSome, IfNone, IsSomeAnd}
use Rattle.std.proofs.lemmas.List.{append-nil, length-map, length-replicate, get_or-replicate}
use Rattle.std.proofs.lemmas.Option.{slice_get_read}
use Rattle.tree_files.specs.Files.{Files}
use Rattle.tree_files.specs.Count.{raised}
use Rattle.machine_events.specs.declared.event.Event.{Event}
use Rattle.machine_events.specs.declared.event.Reply.{Reply}
use Rattle.machine_events.specs.declared.event.Entry.{Entry}
use Rattle.machine_spec.specs.declared.state.State.{State}
use Rattle.machine_spec.specs.Legal.{IsLegal}
use Rattle.machine_spec.specs.Opening.{round_starts}
use Rattle.machine_book.specs.Bound.{BoundTo}
use Rattle.machine_desk.specs.Outgo.{Outgo, Pieces, Kept}
use Rattle.machine_shown.specs.Own.{own}
use Rattle.meaning_runs.specs.Runs.{Run}
use Rattle.meaning_runs.specs.Follows.{Follows}
use Rattle.drive_account.specs.Ending.{Broken, outcome}
use Rattle.drive_account.proofs.Meant.{broken_by, broken_first}
use Rattle.drive_round.specs.Ran.{Counts, Runs, AllRan, MayBegin, RoundRan}
use Rattle.import_words.specs.declared.plan.RunPlan.{RunPlan}
use Rattle.program_run.specs.Statuses.{sink_fault, want_of_memory}
use Rattle.program_run.specs.Prints.{out_text}
use Rattle.program_run.specs.Ends.{err_text, status_of}
use Rattle.program_run.specs.Sinks.{Moment, Leaves, status_by}
use Rattle.program_run.specs.Counts.{reads_of}
use Rattle.program_run.specs.Alone.{Means, setting, opening_of}
use Rattle.program_run.specs.Results.{Came, AreWhole, AllEnded, EachHasEnd}
use Rattle.program_run.specs.Runs.{RunOver, HasRun, finished}
use Rattle.program_run.specs.Together.{Mean, MeanFrom, Acts, AllAct, terms, AllActOn, RanTogether}
use Rattle.program_run.proofs.Endings.{if_ended}
use Rattle.program_run.proofs.Counting.{tree_counts, faults_in, faults_rise, reads_by, lists_by, reads_none}
use Rattle.program_run.proofs.Meaning.{rose_up, whole_rest, acts_on, none_act_on, all_unfailed, fold_unfailed}

-- one program more
pub mean_more : {P : Type 0} (run : P → ℕ → Run) (means : Means) (texts : List (List ℕ)) (programs : List P) (text : List ℕ) (program : P) → Mean run means texts programs → ((t : ℕ) → run program t ≡ means t text)
    → Mean run means (texts ++ text ∷ []) (programs ++ program ∷ [])
mean_more run means [] [] text program mean here = (here, tt)
mean_more run means [] (p ∷ programs) text program mean here = absurd mean
mean_more run means (x ∷ texts) [] text program mean here = absurd mean
mean_more run means (x ∷ texts) (p ∷ programs) text program mean here = (mean.0, mean_more run means texts programs text program mean.1 here)

-- the programs mean what the texts do as threads of any number, and so as those of theirs
pub mean_from : {P : Type 0} (run : P → ℕ → Run) (means : Means) (t : ℕ) (texts : List (List ℕ)) (programs : List P) → Mean run means texts programs → MeanFrom run means t texts programs
mean_from run means t [] [] mean = tt
mean_from run means t [] (p ∷ programs) mean = absurd mean
mean_from run means t (x ∷ texts) [] mean = absurd mean
mean_from run means t (x ∷ texts) (p ∷ programs) mean = (mean.0 t, mean_from run means (suc t) texts programs mean.1)

pub many_from : {P : Type 0} (run : P → ℕ → Run) (means : Means) (t : ℕ) (texts : List (List ℕ)) (programs : List P) → MeanFrom run means t texts programs → length programs ≡ length texts
many_from run means t [] [] mean = refl
many_from run means t [] (p ∷ programs) mean = absurd mean
many_from run means t (x ∷ texts) [] mean = absurd mean
many_from run means t (x ∷ texts) (p ∷ programs) mean = ap suc (many_from run means (suc t) texts programs mean.1)

pub many_mean : {P : Type 0} (run : P → ℕ → Run) (means : Means) (texts : List (List ℕ)) (programs : List P) → Mean run means texts programs → length programs ≡ length texts
many_mean run means texts programs mean = many_from run means 0 texts programs (mean_from run means 0 texts programs mean)

-- the one program of one text
pub one_mean : {P : Type 0} (run : P → ℕ → Run) (means : Means) (texts : List (List ℕ)) (programs : List P) → length texts ≡ 1 → MeanFrom run means 0 texts programs
    → (p : P) × (programs ≡ p ∷ []) × ((text : List ℕ) × (texts ≡ text ∷ []) × (run p 0 ≡ means 0 text))
one_mean run means [] programs one mean = absurd (omega (arith, one))
one_mean run means (text ∷ []) [] one mean = absurd mean
one_mean run means (text ∷ []) (p ∷ []) one mean = (p, refl, (text, refl, mean.0))
one_mean run means (text ∷ []) (p ∷ q ∷ programs) one mean = absurd mean.1
one_mean run means (text ∷ other ∷ texts) programs one mean = absurd (omega (arith, one))

module _ (files : Files) (means : Means) (fuel old new status : ℕ) (h : List Entry) where
  pub act_of : (t : ℕ) (run run' : Run) (came : Came) (results : List Came) (n total : ℕ) → run ≡ run' → n ≤ total → raised old total ≤ new → IfOk came (λ it. Follows files t run fuel (own t h) (outcome it))
      → OnErr came (Broken (Some files) t run fuel (own t h) 0 n) → (status ≡ want_of_memory) ⊎ AreWhole (came ∷ results) → Acts (setting files fuel old new status) t run' (own t h)
  act_of t run run' (Ok it) results n total same some rise follows broken w = subst (λ (x : Run). Acts (setting files fuel old new status) t x (own t h)) same (Acts.whole (outcome it) follows)
  act_of t run run' (Err e) results n total same some rise follows broken (inl six) =
      subst (λ (x : Run). Acts (setting files fuel old new status) t x (own t h)) same (Acts.part six (broken_by (rose_up old new n total some rise) broken))
  act_of t run run' (Err e) results n total same some rise follows broken (inr w) = absurd w

  module _ {P : Type 0} (run : P → ℕ → Run) (total : ℕ) (rise : raised old total ≤ new) where
    acts_from : (t : ℕ) (texts : List (List ℕ)) (programs : List P) (counts : List Counts) (results : List Came) → MeanFrom run means t texts programs → faults_in counts ≤ total
        → AllRan (Some files) t (map run programs) fuel h counts results → (status ≡ want_of_memory) ⊎ AreWhole results → AllAct means (setting files fuel old new status) t texts h
    acts_from t [] programs counts results mean some all w = tt
    acts_from t (text ∷ texts) [] counts results mean some all w = absurd mean
    acts_from t (text ∷ texts) (p ∷ programs) [] results mean some all w = absurd all
    acts_from t (text ∷ texts) (p ∷ programs) (c ∷ counts) [] mean some all w = absurd all
    acts_from t (text ∷ texts) (p ∷ programs) (c ∷ counts) (r ∷ results) mean some all w = (
      act_of t (run p t) (means t text) r results c.faults total mean.0 (omega (arith, some)) rise (all.0.follows files refl) all.0.part w,
      acts_from (suc t) texts programs counts results mean.1 (omega (arith, some)) all.1 (whole_rest status r results w),
    )

-- of two scripts or more
over_by : (means : Means) (files : Files) (plan : RunPlan) (texts : List (List ℕ)) (old new status : ℕ) (h : List Entry) → 2 ≤ length texts → AllAct means (setting files plan.fuel old new status) 0 texts h → RunOver means (setting files plan.fuel old new status) plan texts h
over_by means files plan [] old new status h two acts = acts
over_by means files plan (text ∷ []) old new status h two acts = absurd (omega (arith, two))
over_by means files plan (text ∷ other ∷ texts) old new status h two acts = acts

pub over_ran : (means : Means) (tree : Option Files) (files : Files) → tree ≡ Some files → (plan : RunPlan) (texts : List (List ℕ)) → 2 ≤ length texts → (old new : Counts) (status : ℕ) (h : List Entry) {P : Type 0} (run : P → ℕ → Run) (programs : List P) (results : List Came)
    → MeanFrom run means 0 texts programs → RanTogether tree (map run programs) plan.fuel old new h results → (status ≡ want_of_memory) ⊎ AreWhole results → RunOver means (setting files plan.fuel old.faults new.faults status) plan texts h
over_ran means tree files told plan texts two old new status h run programs results mean ran w =
    let rise : raised old.faults (faults_in ran.counts) ≤ new.faults = subst (λ (c : Counts). raised old.faults (faults_in ran.counts) ≤ c.faults) (sym ran.absorbs) (faults_rise old ran.counts) in
    let all = subst (λ (x : Option Files). AllRan x 0 (map run programs) plan.fuel h ran.counts results) told ran.threads in
    over_by means files plan texts old.faults new.faults status h two (acts_from files means plan.fuel old.faults new.faults status h run (faults_in ran.counts) rise 0 texts programs ran.counts results mean (omega arith) all w)

-- no script has begun
module _ (files : Files) (means : Means) (fuel old new status : ℕ) (six : status ≡ want_of_memory) where
  none_from : (t : ℕ) (texts : List (List ℕ)) → AllAct means (setting files fuel old new status) t texts []
  none_from t [] = tt
  none_from t (text ∷ texts) =
      (Acts.part six (broken_first old new refl), none_from (suc t) texts)

pub over_none : (means : Means) (files : Files) (plan : RunPlan) (texts : List (List ℕ)) (old new status : ℕ) → 2 ≤ length texts → status ≡ want_of_memory → RunOver means (setting files plan.fuel old new status) plan texts []
over_none means files plan texts old new status two six = over_by means files plan texts old new status [] two (none_from files means plan.fuel old new status six 0 texts)

-- as many results as programs, and each has its End in the history
pub many_ran : (tree : Option Files) (fuel : ℕ) (h : List Entry) (t : ℕ) (runs : Runs) (counts : List Counts) (results : List Came) → AllRan tree t runs fuel h counts results → length results ≡ length runs
many_ran tree fuel h t [] [] [] all = refl
many_ran tree fuel h t [] (c ∷ counts) results all = absurd all
many_ran tree fuel h t [] [] (r ∷ results) all = absurd all
many_ran tree fuel h t (run ∷ runs) [] results all = absurd all
many_ran tree fuel h t (run ∷ runs) (c ∷ counts) [] all = absurd all
many_ran tree fuel h t (run ∷ runs) (c ∷ counts) (r ∷ results) all = ap suc (many_ran tree fuel h (suc t) runs counts results all.1)

pub ended_ran : (tree : Option Files) (fuel : ℕ) (h : List Entry) (t : ℕ) (runs : Runs) (counts : List Counts) (results : List Came) → AllRan tree t runs fuel h counts results → AllEnded t results h
ended_ran tree fuel h t [] [] [] all = tt
ended_ran tree fuel h t [] (c ∷ counts) results all = absurd all
ended_ran tree fuel h t [] [] (r ∷ results) all = absurd all
ended_ran tree fuel h t (run ∷ runs) [] results all = absurd all
ended_ran tree fuel h t (run ∷ runs) (c ∷ counts) [] all = absurd all
ended_ran tree fuel h t (run ∷ runs) (c ∷ counts) (r ∷ results) all = (if_ended tree t (run t) fuel (own t h) r all.0.meant, ended_ran tree fuel h (suc t) runs counts results all.1)

-- so each came to its End, unless memory was wanted
each_has_end : (t : ℕ) (results : List Came) (h : List Entry) → AreWhole results → AllEnded t results h → EachHasEnd t (length results) h
each_has_end t [] h whole ended = tt
each_has_end t (Ok ending ∷ results) h whole ended = ((outcome ending, ended.0), each_has_end (suc t) results h whole ended.1)
each_has_end t (Err e ∷ results) h whole ended = absurd whole

pub ends_by : (status n : ℕ) (results : List Came) (h : List Entry) → length results ≡ n → AllEnded 0 results h → (status ≡ want_of_memory) ⊎ AreWhole results → (status ≡ want_of_memory → ⊥) → EachHasEnd 0 n h
ends_by status n results h many ended (inl six) unless = absurd (unless six)
ends_by status n results h many ended (inr whole) unless = subst (λ (k : ℕ). EachHasEnd 0 k h) many (each_has_end 0 results h whole ended)

-- on a new book all scripts of its one round may begin
at_zero : (size t : ℕ) → t < size → slice_get (round_starts 0 (size ∷ [])) t ≡ Some 0
at_zero size t low =
    ap (λ (rs : List ℕ). slice_get rs t) (append-nil (replicate size 0))
    ∙ slice_get_read (replicate size 0) size t 0 (sym (length-replicate size 0)) low (sym (get_or-replicate size t 0 0 low))

module _ {O : Type 0} (book : BoundTo O) (size : ℕ) (empty : book.history ≡ []) (rounds : book.opening.rounds ≡ round_starts 0 (size ∷ [])) where
  may_from : (t n : ℕ) → t + n ≡ size → MayBegin book t n
  may_from t zero all = tt
  may_from t (suc n) all = (
    record { first = 0; round = ap (λ (rs : List ℕ). slice_get rs t) rounds ∙ at_zero size t (omega (arith, all)); ended = λ u low. absurd (omega (arith, low)) },
    ap (own t) empty,
    may_from (suc t) n (omega (arith, all)),
  )

  pub may_all : MayBegin book 0 size
  may_all = may_from 0 size (omega arith)

-- all that a run of several scripts leaves
module _ (means : Means) (plan : RunPlan) (texts : List (List ℕ)) (old new : Moment) (h : List Entry) (status : ℕ)
    (two : 2 ≤ length texts) (as_many : length texts ≡ length plan.scripts) (legal : IsLegal (opening_of plan texts) h)
    (leaves : Leaves (status_by (status_of (length plan.scripts) h) sink_fault) (out_text plan.trace h) (err_text plan.scripts h) old new status) where
  ran_by : {P : Type 0} (run : P → ℕ → Run) (programs : List P) (results : List Came) → MeanFrom run means 0 texts programs → RanTogether old.files (map run programs) plan.fuel (tree_counts old) (tree_counts new) h results → (status ≡ want_of_memory) ⊎ AreWhole results
      → HasRun means plan texts old new (finished h status)
  ran_by run programs results mean ran w =
      let rise : raised old.faults (faults_in ran.counts) ≤ new.faults = subst (λ (c : Counts). raised old.faults (faults_in ran.counts) ≤ c.faults) (sym ran.absorbs) (faults_rise (tree_counts old) ran.counts) in
      let many : length results ≡ length plan.scripts = many_ran old.files plan.fuel h 0 (map run programs) ran.counts results ran.threads ∙ (length-map programs run ∙ (many_from run means 0 texts programs mean ∙ as_many)) in
      record {
        legal = legal;
        runs = by_told old.files (λ files told. over_ran means old.files files told plan texts two (tree_counts old) (tree_counts new) status h run programs results mean ran w);
        acts = acts_on plan.fuel old.faults new.faults status means h run (faults_in ran.counts) rise old.files 0 texts programs ran.counts results mean (omega arith) ran.threads w;
        unfailed = λ unless none.
            let zero = all_unfailed old.files plan.fuel h (map run programs) ran.counts results status (length plan.scripts) ran.threads many w unless none in
            subst (λ (c : Counts). c.faults ≤ old.faults) (sym ran.absorbs) (fold_unfailed (tree_counts old) ran.counts zero);
        reads = reads_by old.files plan.fuel h (map run programs) ran.counts results (tree_counts old) (tree_counts new) ran.threads ran.absorbs (length plan.scripts) many;
        lists = lists_by old.files plan.fuel h (map run programs) ran.counts results (tree_counts old) (tree_counts new) ran.threads ran.absorbs (length plan.scripts) many;
        ends = ends_by status (length plan.scripts) results h many (ended_ran old.files plan.fuel h 0 (map run programs) ran.counts results ran.threads) w;
        leaves = leaves;
      }
    where
      by_told : (tree : Option Files) → ((files : Files) → tree ≡ Some files → RunOver means (setting files plan.fuel old.faults new.faults status) plan texts h) → IfSome tree (λ files. RunOver means (setting files plan.fuel old.faults new.faults status) plan texts h)
      by_told None f = tt
      by_told (Some files) f = f files refl

  none_by : h ≡ [] → new.faults ≡ old.faults → new.lists ≡ old.lists → status ≡ want_of_memory → HasRun means plan texts old new (finished h status)
  none_by empty faults lists six = record {
    legal = legal;
    runs = by_told old.files;
    acts = subst (λ (x : List Entry). AllActOn means (terms plan.fuel old.faults new.faults status) 0 (replicate (length texts) old.files) texts x) (sym empty) (none_act_on plan.fuel old.faults new.faults status means six old.files 0 texts);
    unfailed = λ unless none. omega (arith, faults);
    reads = let none : reads_of (length plan.scripts) h ≡ 0 = ap (reads_of (length plan.scripts)) empty ∙ reads_none (length plan.scripts) in omega (arith, none, faults);
    lists = λ ended. omega (arith, lists);
    ends = λ unless. absurd (unless six);
    leaves = leaves;
  }
    where
      by_told : (tree : Option Files) → IfSome tree (λ files. RunOver means (setting files plan.fuel old.faults new.faults status) plan texts h)
      by_told None = tt
      by_told (Some files) = subst (λ (x : List Entry). RunOver means (setting files plan.fuel old.faults new.faults status) plan texts x) (sym empty) (over_none means files plan texts old.faults new.faults status two six)

  -- whether they began or not
  pub has_run : {P V : Type 0} (run : P → ℕ → Run) (programs : List P) (items : V → List Came) (results : Option V) → MeanFrom run means 0 texts programs
      → IfSome results (λ v. RanTogether old.files (map run programs) plan.fuel (tree_counts old) (tree_counts new) h (items v)) → IfNone results ((h ≡ []) × (new.faults ≡ old.faults) × (new.lists ≡ old.lists))
      → (status ≡ want_of_memory) ⊎ IsSomeAnd results (λ v. AreWhole (items v)) → HasRun means plan texts old new (finished h status)
  has_run run programs items None mean ran none (inl six) = none_by none.0 none.1 none.2 six
  has_run run programs items None mean ran none (inr whole) = absurd whole
  has_run run programs items (Some v) mean ran none w = ran_by run programs (items v) mean ran w

-- the ends of results that there are
pub ended_some : {V : Type 0} (items : V → List Came) (results : Option V) (tree : Option Files) (runs : Runs) (fuel : ℕ) (old new : Counts) (h : List Entry) → IfSome results (λ v. RanTogether tree runs fuel old new h (items v))
    → IfSome results (λ v. AllEnded 0 (items v) h)
ended_some items None tree runs fuel old new h ran = tt
ended_some items (Some v) tree runs fuel old new h ran = ended_ran tree fuel h 0 runs ran.counts (items v) ran.threads

pub many_some : {P V : Type 0} (items : V → List Came) (results : Option V) (tree : Option Files) (run : P → ℕ → Run) (programs : List P) (fuel : ℕ) (old new : Counts) (h : List Entry) (n : ℕ) → length programs ≡ n
    → IfSome results (λ v. RanTogether tree (map run programs) fuel old new h (items v)) → IfSome results (λ v. length (items v) ≡ n)
many_some items None tree run programs fuel old new h n many ran = tt
many_some items (Some v) tree run programs fuel old new h n many ran = many_ran tree fuel h 0 (map run programs) ran.counts (items v) ran.threads ∙ (length-map programs run ∙ many)

-- what a round left on a new book
module _ {O : Type 0} (piece : Pieces) (out : O → Outgo) (tree : Option Files) (runs : Runs) (fuel : ℕ) (before after : BoundTo O) (old new : Counts) (results : List Came)
    (empty : before.history ≡ []) (ran : RoundRan piece out tree 0 runs fuel before after old new results) where
  pub round_kept : Kept piece (out before.outlet) (out after.outlet) after.history
  round_kept =
      let since : ran.written.round.since ≡ after.history = sym (ap (λ (f : List Entry). f ++ ran.written.round.since) empty) ∙ ran.written.round.joined in
      subst (λ (l : List Entry). Kept piece (out before.outlet) (out after.outlet) l) since ran.written.kept

  pub round_ran : RanTogether tree runs fuel old new after.history results
  round_ran = record { counts = ran.counts; threads = ran.threads; absorbs = ran.absorbs }

  pub round_legal : IsLegal before.opening after.history
  round_legal = subst (λ (s : State). IsLegal s after.history) ran.written.opening ran.legal
