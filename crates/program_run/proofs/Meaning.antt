-- From how scripts ran to what their own events are, whatever their trees tell.
use Rattle.std.proofs.Common.{◌≡◌, ◌≤◌, ◌⊎◌, inl, inr, ℕ, zero, suc, ◌+◌, List, [], ◌∷◌, length, map, Option, Some, Ok, Err, IfOk, OnErr, refl, sym, subst, ap, arith}
use Rattle.std.specs.Prelude.{fold, replicate}
use Rattle.tree_files.specs.Files.{Files}
use Rattle.tree_files.specs.Count.{Rose, raised}
use Rattle.machine_events.specs.declared.event.Event.{Event}
use Rattle.machine_events.specs.declared.event.Reply.{Reply}
use Rattle.machine_events.specs.declared.event.Entry.{Entry}
use Rattle.machine_events.specs.declared.event.Outcome.{Outcome}
use Rattle.machine_shown.specs.Own.{own}
use Rattle.meaning_runs.specs.Runs.{Run}
use Rattle.drive_account.specs.declared.end.Ending.{Ending}
use Rattle.drive_account.specs.declared.end.Ending.TheVariants as ending
use Rattle.drive_account.specs.Ending.{Ended, IsMeant, Broken, IsRead, outcome}
use Rattle.drive_account.proofs.Meant.{ended_of, broken_by, broken_first}
use Rattle.drive_round.specs.Ran.{Counts, absorbed, Ran, Runs, AllRan}
use Rattle.program_run.specs.Statuses.{want_of_memory}
use Rattle.program_run.specs.Ends.{end_of}
use Rattle.program_run.specs.Counts.{read_at, reads_of}
use Rattle.program_run.specs.Alone.{Means}
use Rattle.program_run.specs.Results.{Came, AreWhole}
use Rattle.program_run.specs.Together.{terms, MeanFrom, ActsOn, AllActOn}
use Rattle.program_run.proofs.Endings.{end_is}
use Rattle.program_run.proofs.Counting.{faults_in}

-- the tree's count rose where that of a fork did
pub rose_up : (old new n total : ℕ) → n ≤ total → raised old total ≤ new → Rose 0 n → Rose old new
rose_up old new n total some rise rose = omega (arith, some, rise, rose)

pub whole_rest : (status : ℕ) (came : Came) (results : List Came) → (status ≡ want_of_memory) ⊎ AreWhole (came ∷ results) → (status ≡ want_of_memory) ⊎ AreWhole results
whole_rest status came results (inl six) = inl six
whole_rest status (Ok it) results (inr w) = inr w
whole_rest status (Err e) results (inr w) = absurd w

-- ---- what they do

module _ (fuel old new status : ℕ) where
  -- of a script whose tree counted from a to b
  pub act_on : (told : Option Files) (t : ℕ) {run run' : Run} (mine : List (Event × Reply)) (a b : ℕ) (came : Came) (results : List Came) → run ≡ run' → (Rose a b → Rose old new) → IfOk came (λ it. IsMeant told t run fuel mine (outcome it))
      → OnErr came (Broken told t run fuel mine a b) → (status ≡ want_of_memory) ⊎ AreWhole (came ∷ results) → ActsOn (terms fuel old new status) told t run' mine
  act_on told t {run} {run'} mine a b (Ok it) results same up meant broken w = subst (λ (x : Run). ActsOn (terms fuel old new status) told t x mine) same (ActsOn.whole (outcome it) meant)
  act_on told t {run} {run'} mine a b (Err e) results same up meant broken (inl six) = subst (λ (x : Run). ActsOn (terms fuel old new status) told t x mine) same (ActsOn.part six (broken_by up broken))
  act_on told t {run} {run'} mine a b (Err e) results same up meant broken (inr w) = absurd w

  module _ (means : Means) (h : List Entry) where
    -- each over a fork of a tree that tells this
    pub acts_on : {P : Type 0} (run : P → ℕ → Run) (total : ℕ) → raised old total ≤ new → (tree : Option Files) (t : ℕ) (texts : List (List ℕ)) (programs : List P) (counts : List Counts) (results : List Came) → MeanFrom run means t texts programs
        → faults_in counts ≤ total → AllRan tree t (map run programs) fuel h counts results → (status ≡ want_of_memory) ⊎ AreWhole results → AllActOn means (terms fuel old new status) t (replicate (length texts) tree) texts h
    acts_on run total rise tree t [] programs counts results mean some all w = tt
    acts_on run total rise tree t (text ∷ texts) [] counts results mean some all w = absurd mean
    acts_on run total rise tree t (text ∷ texts) (p ∷ programs) [] results mean some all w = absurd all
    acts_on run total rise tree t (text ∷ texts) (p ∷ programs) (c ∷ counts) [] mean some all w = absurd all
    acts_on run total rise tree t (text ∷ texts) (p ∷ programs) (c ∷ counts) (r ∷ results) mean some all w = (
      act_on tree t (own t h) 0 c.faults r results mean.0 (rose_up old new c.faults total (omega (arith, some)) rise) all.0.meant all.0.part w,
      acts_on run total rise tree (suc t) texts programs counts results mean.1 (omega (arith, some)) all.1 (whole_rest status r results w),
    )

  -- no script has begun
  pub none_act_on : (means : Means) → status ≡ want_of_memory → (tree : Option Files) (t : ℕ) (texts : List (List ℕ)) → AllActOn means (terms fuel old new status) t (replicate (length texts) tree) texts []
  none_act_on means six tree t [] = tt
  none_act_on means six tree t (text ∷ texts) = (ActsOn.part six (broken_first old new refl), none_act_on means six tree (suc t) texts)

-- since an earlier moment
pub act_on_since : {fuel status : ℕ} {told : Option Files} {t : ℕ} {run : Run} {mine : List (Event × Reply)} {a b old new : ℕ} → (Rose a b → Rose old new) → ActsOn (terms fuel a b status) told t run mine → ActsOn (terms fuel old new status) told t run mine
act_on_since up (ActsOn.whole how meant) = ActsOn.whole how meant
act_on_since up (ActsOn.part six broken) = ActsOn.part six (broken_by up broken)

pub acts_on_since : (means : Means) (fuel status a b old new : ℕ) (t : ℕ) (told : List (Option Files)) (texts : List (List ℕ)) (h : List Entry) → (Rose a b → Rose old new) → AllActOn means (terms fuel a b status) t told texts h → AllActOn means (terms fuel old new status) t told texts h
acts_on_since means fuel status a b old new t told [] h up acts = tt
acts_on_since means fuel status a b old new t [] (text ∷ texts) h up acts = absurd acts
acts_on_since means fuel status a b old new t (files ∷ told) (text ∷ texts) h up acts = (act_on_since up acts.0, acts_on_since means fuel status a b old new (suc t) told texts h up acts.1)

-- ---- where no call of the tree failed

read_none : (it : Ending) → read_at (Some (outcome it)) ≡ 0 → IsRead it → ⊥
read_none ending.Normal none read = read
read_none (ending.Raised e) none read = read
read_none ending.Fuel none read = read
read_none ending.Read none read = absurd (omega (arith, none))

-- a script whose End is no Read
pub no_read : (mine : List (Event × Reply)) (it : Ending) → Ended mine (outcome it) → read_at (end_of mine) ≡ 0 → IsRead it → ⊥
no_read mine it ended none = read_none it (subst (λ (e : Option Outcome). read_at e ≡ 0) (end_is mine (outcome it) ended) none)

reads_more : (t n : ℕ) (h : List Entry) → reads_of t h ≤ reads_of (t + n) h
reads_more t zero h =
    let same : t + 0 ≡ t = omega arith in
    let is : reads_of (t + 0) h ≡ reads_of t h = ap (λ (n : ℕ). reads_of n h) same in
    omega (arith, is)
reads_more t (suc n) h =
    let behind : t + suc n ≡ suc (t + n) = omega arith in
    let is : reads_of (t + suc n) h ≡ reads_of (suc (t + n)) h = ap (λ (n : ℕ). reads_of n h) behind in
    let rest = reads_more t n h in
    omega (arith, is, rest)

module _ (tree : Option Files) (fuel : ℕ) (h : List Entry) where
  -- forks whose scripts all ended, none by a failed call, have counted none
  pub forks_unfailed : (t : ℕ) (runs : Runs) (counts : List Counts) (results : List Came) → AllRan tree t runs fuel h counts results → AreWhole results → reads_of (t + length results) h ≡ 0 → faults_in counts ≡ 0
  forks_unfailed t [] [] [] all whole none = refl
  forks_unfailed t [] (c ∷ counts) results all whole none = absurd all
  forks_unfailed t [] [] (r ∷ results) all whole none = absurd all
  forks_unfailed t (run ∷ runs) [] results all whole none = absurd all
  forks_unfailed t (run ∷ runs) (c ∷ counts) [] all whole none = absurd all
  forks_unfailed t (run ∷ runs) (c ∷ counts) (Err e ∷ results) all whole none = absurd whole
  forks_unfailed t (run ∷ runs) (c ∷ counts) (Ok it ∷ results) all whole none =
      let behind : t + suc (length results) ≡ suc t + length results = omega arith in
      let is : reads_of (t + suc (length results)) h ≡ reads_of (suc t + length results) h = ap (λ (n : ℕ). reads_of n h) behind in
      let more = reads_more (suc t) (length results) h in
      let rest = forks_unfailed (suc t) runs counts results all.1 whole (omega (arith, none, is)) in
      let here : c.faults ≡ 0 = all.0.unfailed (no_read (own t h) it (ended_of all.0.meant) (omega (arith, none, is, more))) in
      omega (arith, here, rest)

-- a tree that took in forks that counted nothing
pub fold_unfailed : (old : Counts) (counts : List Counts) → faults_in counts ≡ 0 → (fold absorbed old counts).faults ≤ old.faults
fold_unfailed old [] none = omega arith
fold_unfailed old (c ∷ counts) none =
    let rest : (fold absorbed old (c ∷ counts)).faults ≤ raised old.faults c.faults = fold_unfailed (absorbed old c) counts (omega (arith, none)) in
    omega (arith, none, rest)

-- so several scripts left it
pub all_unfailed : (tree : Option Files) (fuel : ℕ) (h : List Entry) (runs : Runs) (counts : List Counts) (results : List Came) (status scripts : ℕ) → AllRan tree 0 runs fuel h counts results → length results ≡ scripts → (status ≡ want_of_memory) ⊎ AreWhole results
    → (status ≡ want_of_memory → ⊥) → reads_of scripts h ≡ 0 → faults_in counts ≡ 0
all_unfailed tree fuel h runs counts results status scripts all many (inl six) unless none = absurd (unless six)
all_unfailed tree fuel h runs counts results status scripts all many (inr whole) unless none =
    let same : 0 + length results ≡ scripts = omega (arith, many) in
    let is : reads_of (0 + length results) h ≡ reads_of scripts h = ap (λ (n : ℕ). reads_of n h) same in
    forks_unfailed tree fuel h 0 runs counts results all whole (omega (arith, is, none))

-- and one over the tree itself
pub one_unfailed : {tree : Option Files} {run : Run} {fuel : ℕ} (h : List Entry) (came : Came) {old new : Counts} (status : ℕ) → Ran tree 0 run fuel old new (own 0 h) came → (status ≡ want_of_memory) ⊎ AreWhole (came ∷ [])
    → (status ≡ want_of_memory → ⊥) → reads_of 1 h ≡ 0 → new.faults ≤ old.faults
one_unfailed h came status ran (inl six) unless none = absurd (unless six)
one_unfailed h (Ok it) status ran (inr whole) unless none = let same = ran.unfailed (no_read (own 0 h) it (ended_of ran.meant) (omega (arith, none))) in omega (arith, same)
one_unfailed h (Err e) status ran (inr whole) unless none = absurd whole
