-- From what the forks of a tree have counted to what the tree has.
use Rattle.std.proofs.Common.{◌≡◌, ◌≤◌, ℕ, zero, suc, ◌+◌, List, [], ◌∷◌, length, Option, Some, Ok, Err, IfOk, OnOk, OnErr, refl, sym, subst, ap, arith}
use Rattle.std.specs.Prelude.{fold}
use Rattle.tree_files.specs.Files.{Files}
use Rattle.tree_files.specs.Count.{Rose, raised}
use Rattle.machine_events.specs.declared.event.Entry.{Entry}
use Rattle.machine_events.specs.declared.event.Event.{Event}
use Rattle.machine_events.specs.declared.event.Reply.{Reply}
use Rattle.machine_events.specs.declared.event.Outcome.{Outcome}
use Rattle.machine_shown.specs.Own.{own}
use Rattle.meaning_runs.specs.Runs.{Run}
use Rattle.meaning_runs.specs.Lists.{lists_in, ends_in}
use Rattle.drive_account.specs.declared.end.Ending.{Ending}
use Rattle.drive_account.specs.declared.end.Ending.TheVariants as ending
use Rattle.drive_account.specs.Ending.{Ended, IsRead, outcome}
use Rattle.drive_round.specs.Ran.{Counts, absorbed, Ran, Runs, AllRan}
use Rattle.program_run.specs.Ends.{end_of}
use Rattle.program_run.specs.Results.{Came}
use Rattle.program_run.specs.Sinks.{Moment}
use Rattle.program_run.specs.Counts.{read_at, reads_of, lists_of, HaveEnds, ReadsBy, ListsBy}
use Rattle.program_run.proofs.Endings.{end_is, if_ended, no_end}

-- the tree's counts at a moment
abbrev pub tree_counts : Moment → Counts
tree_counts m = record { faults = m.faults; lists = m.lists }

abbrev pub faults_in : List Counts → ℕ
faults_in [] = 0
faults_in (c ∷ counts) = c.faults + faults_in counts

abbrev pub lists_counted : List Counts → ℕ
lists_counted [] = 0
lists_counted (c ∷ counts) = c.lists + lists_counted counts

-- a tree that took in all forks has counted as much as they, or stands at the end
pub faults_rise : (old : Counts) (counts : List Counts) → raised old.faults (faults_in counts) ≤ (fold absorbed old counts).faults
faults_rise old [] = omega arith
faults_rise old (c ∷ counts) =
    let rest : raised (raised old.faults c.faults) (faults_in counts) ≤ (fold absorbed old (c ∷ counts)).faults = faults_rise (absorbed old c) counts in
    omega (arith, rest)

lists_rise : (old : Counts) (counts : List Counts) → (fold absorbed old counts).lists ≤ old.lists + lists_counted counts
lists_rise old [] = omega arith
lists_rise old (c ∷ counts) =
    let rest : (fold absorbed old (c ∷ counts)).lists ≤ raised old.lists c.lists + lists_counted counts = lists_rise (absorbed old c) counts in
    omega (arith, rest)

read_here : (it : Ending) (n : ℕ) → (IsRead it → Rose 0 n) → read_at (Some (outcome it)) ≤ n
read_here ending.Normal n r = omega arith
read_here (ending.Raised e) n r = omega arith
read_here ending.Fuel n r = omega arith
read_here ending.Read n r = let rose = r tt in omega (arith, rose)

-- a script that ended by a failed call has counted one
read_of : (mine : List (Event × Reply)) (came : Came) (n : ℕ) → IfOk came (λ it. Ended mine (outcome it)) → OnErr came (ends_in mine ≡ 0) → IfOk came (λ it. IsRead it → Rose 0 n) → read_at (end_of mine) ≤ n
read_of mine (Ok it) n ended none read = subst (λ (e : Option Outcome). read_at e ≤ n) (sym (end_is mine (outcome it) ended)) (read_here it n read)
read_of mine (Err e) n ended none read = subst (λ (e : Option Outcome). read_at e ≤ n) (sym (no_end mine none)) (omega arith)

lists_here : (came : Came) (new kept ends : ℕ) → OnOk came (new ≤ 0 + kept) → OnErr came (ends ≡ 0) → ends ≡ 1 → new ≤ kept
lists_here (Ok it) new kept ends l none one = omega (arith, l)
lists_here (Err e) new kept ends l none one = absurd (omega (arith, none, one))

module _ (tree : Option Files) (fuel : ℕ) (h : List Entry) where
  -- behind the first t scripts
  pub reads_from : (t : ℕ) (runs : Runs) (counts : List Counts) (results : List Came) → AllRan tree t runs fuel h counts results → reads_of (t + length results) h ≤ reads_of t h + faults_in counts
  reads_from t [] [] [] all = let same : t + 0 ≡ t = omega arith in let is : reads_of (t + 0) h ≡ reads_of t h = ap (λ (n : ℕ). reads_of n h) same in omega (arith, is)
  reads_from t [] (c ∷ counts) results all = absurd all
  reads_from t [] [] (r ∷ results) all = absurd all
  reads_from t (run ∷ runs) [] results all = absurd all
  reads_from t (run ∷ runs) (c ∷ counts) [] all = absurd all
  reads_from t (run ∷ runs) (c ∷ counts) (r ∷ results) all =
      let rest = reads_from (suc t) runs counts results all.1 in
      let here = read_of (own t h) r c.faults (if_ended tree t (run t) fuel (own t h) r all.0.meant) all.0.goes_on all.0.read in
      let behind : t + suc (length results) ≡ suc t + length results = omega arith in
      let is : reads_of (t + suc (length results)) h ≡ reads_of (suc t + length results) h = ap (λ (n : ℕ). reads_of n h) behind in
      omega (arith, rest, here, is)

  pub lists_from : (t : ℕ) (runs : Runs) (counts : List Counts) (results : List Came) → AllRan tree t runs fuel h counts results → HaveEnds (t + length results) h
      → (lists_counted counts + lists_of t h ≤ lists_of (t + length results) h) × HaveEnds t h
  lists_from t [] [] [] all ended =
      let same : t + 0 ≡ t = omega arith in
      let is : lists_of (t + 0) h ≡ lists_of t h = ap (λ (n : ℕ). lists_of n h) same in
      (omega (arith, is), subst (λ (n : ℕ). HaveEnds n h) same ended)
  lists_from t [] (c ∷ counts) results all ended = absurd all
  lists_from t [] [] (r ∷ results) all ended = absurd all
  lists_from t (run ∷ runs) [] results all ended = absurd all
  lists_from t (run ∷ runs) (c ∷ counts) [] all ended = absurd all
  lists_from t (run ∷ runs) (c ∷ counts) (r ∷ results) all ended =
      let behind : t + suc (length results) ≡ suc t + length results = omega arith in
      let is : lists_of (t + suc (length results)) h ≡ lists_of (suc t + length results) h = ap (λ (n : ℕ). lists_of n h) behind in
      let rest = lists_from (suc t) runs counts results all.1 (subst (λ (n : ℕ). HaveEnds n h) behind ended) in
      let here = lists_here r c.lists (lists_in (own t h)) (ends_in (own t h)) all.0.lists all.0.goes_on rest.1.1 in
      let bound = rest.0 in
      (omega (arith, bound, here, is), rest.1.0)

  module _ (runs : Runs) (counts : List Counts) (results : List Came) (old new : Counts) (all : AllRan tree 0 runs fuel h counts results) (absorbs : new ≡ fold absorbed old counts) where
    pub reads_by : (scripts : ℕ) → length results ≡ scripts → ReadsBy scripts h old.faults new.faults
    reads_by scripts many =
        let same : 0 + length results ≡ scripts = omega (arith, many) in
        let is : reads_of (0 + length results) h ≡ reads_of scripts h = ap (λ (n : ℕ). reads_of n h) same in
        let read = reads_from 0 runs counts results all in
        let rise = faults_rise old counts in
        let new_is : new.faults ≡ (fold absorbed old counts).faults = ap (λ (c : Counts). c.faults) absorbs in
        omega (arith, is, read, rise, new_is)

    pub lists_by : (scripts : ℕ) → length results ≡ scripts → ListsBy scripts h old.lists new.lists
    lists_by scripts many = λ ended.
        let same : 0 + length results ≡ scripts = omega (arith, many) in
        let is : lists_of (0 + length results) h ≡ lists_of scripts h = ap (λ (n : ℕ). lists_of n h) same in
        let listed = (lists_from 0 runs counts results all (subst (λ (n : ℕ). HaveEnds n h) (sym same) ended)).0 in
        let rise = lists_rise old counts in
        let new_is : new.lists ≡ (fold absorbed old counts).lists = ap (λ (c : Counts). c.lists) absorbs in
        omega (arith, is, listed, rise, new_is)

-- one script over the tree itself
pub reads_one : (tree : Option Files) (run : Run) (fuel : ℕ) (h : List Entry) (came : Came) (old new : Counts) → Ran tree 0 run fuel old new (own 0 h) came → ReadsBy 1 h old.faults new.faults
reads_one tree run fuel h came old new ran = by came (if_ended tree 0 run fuel (own 0 h) came ran.meant) ran.goes_on ran.read
  where
    of_end : (it : Ending) → (IsRead it → Rose old.faults new.faults) → raised old.faults (0 + read_at (Some (outcome it))) ≤ new.faults
    of_end ending.Normal r = let grows = ran.faults in omega (arith, grows)
    of_end (ending.Raised e) r = let grows = ran.faults in omega (arith, grows)
    of_end ending.Fuel r = let grows = ran.faults in omega (arith, grows)
    of_end ending.Read r = r tt

    by : (came : Came) → IfOk came (λ it. Ended (own 0 h) (outcome it)) → OnErr came (ends_in (own 0 h) ≡ 0) → IfOk came (λ it. IsRead it → Rose old.faults new.faults) → ReadsBy 1 h old.faults new.faults
    by (Ok it) ended none read = subst (λ (e : Option Outcome). raised old.faults (0 + read_at e) ≤ new.faults) (sym (end_is (own 0 h) (outcome it) ended)) (of_end it read)
    by (Err e) ended none read = let grows = ran.faults in subst (λ (e : Option Outcome). raised old.faults (0 + read_at e) ≤ new.faults) (sym (no_end (own 0 h) none)) (omega (arith, grows))

pub lists_one : (tree : Option Files) (run : Run) (fuel : ℕ) (h : List Entry) (came : Came) (old new : Counts) → Ran tree 0 run fuel old new (own 0 h) came → ListsBy 1 h old.lists new.lists
lists_one tree run fuel h came old new ran = λ ended. by came ran.lists ran.goes_on ended.1
  where
    by : (came : Came) → OnOk came (new.lists ≤ old.lists + lists_in (own 0 h)) → OnErr came (ends_in (own 0 h) ≡ 0) → ends_in (own 0 h) ≡ 1 → new.lists ≤ old.lists + (0 + lists_in (own 0 h))
    by (Ok it) l none one = omega (arith, l)
    by (Err e) l none one = absurd (omega (arith, none, one))

-- nothing has begun
pub reads_none : (scripts : ℕ) → reads_of scripts [] ≡ 0
reads_none zero = refl
reads_none (suc t) = let rest = reads_none t in omega (arith, rest)
