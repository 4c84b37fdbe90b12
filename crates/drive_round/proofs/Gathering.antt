-- Passes gathered one after another, in the order of the threads.
use Rattle.std.proofs.Common.{◌≡◌, ◌⊎◌, ⊎_elim, inl, inr, ◌<◌, ◌≤◌, ◌+◌, ◌∙◌, ℕ, zero, suc, List, [], ◌∷◌, ◌++◌, length, length-append, append-nil, take, map, refl, sym, ap, subst, arith, Some, Option}
use Rattle.std.specs.Prelude.{slice_get, is_some, IsTrue}
use mathlib.Core.List.{IsPrefix}
use Rattle.tree_files.specs.Files.{Files}
use Rattle.machine_shown.specs.Own.{own}
use Rattle.trace_book.specs.Told.{TableId, Told}
use Rattle.machine_events.specs.declared.event.Entry.{Entry}
use Rattle.machine_spec.specs.Legal.{IsLegal}
use Rattle.machine_book.specs.Bound.{BoundTo}
use Rattle.machine_desk.specs.Outgo.{Outgo, Pieces}
use Rattle.trace_book.specs.Rule.{Written}
use Rattle.trace_book.specs.Views.{Has, Within, numbers_from, base_of}
use Rattle.trace_book.specs.declared.view.Base.{Base}
use Rattle.drive_round.specs.Ran.{Results, Counts, no_counts, Ran, Runs, AllRan, ThreadsRan}
use Rattle.drive_round.specs.declared.worker.Worker.{Worker}
use Rattle.drive_round.specs.Workers.{Facts, IsSeated, Descends, RanAt, Gathered}
use Rattle.drive_round.proofs.Places.{at-front, take-all, descends-at}
use Rattle.drive_round.proofs.Threads.{ran-push, ran-moved}

-- what stands last in three fronts is seated at the place behind the rest
pub is-seated : {T P : Type 0} (passes front : List Told) (pass : Told) (programs programs' : List P) (forks forks' : List T) (from : ℕ) (w : Worker T P)
    → IsPrefix (front ++ pass ∷ []) passes → IsPrefix (programs' ++ w.program ∷ []) programs → IsPrefix (forks' ++ w.tree ∷ []) forks
    → length programs' ≡ length front → length forks' ≡ length front → w.pass ≡ Some pass → w.script ≡ from + length front
    → IsSeated passes programs forks from (length front) w
is-seated passes front pass programs programs' forks forks' from w a b c same same' here is = record {
  numbered = is;
  passes_at = at-front passes front pass a ∙ sym here;
  is_some = subst (λ o. IsTrue (is_some o)) (sym here) refl;
  programs_at = subst (λ k. slice_get programs k ≡ Some w.program) same (at-front programs programs' w.program b);
  forks_at = subst (λ k. slice_get forks k ≡ Some w.tree) same' (at-front forks forks' w.tree c);
}

pub numbers-push : (from k : ℕ) → numbers_from from k ++ (from + k) ∷ [] ≡ numbers_from from (suc k)
numbers-push from zero = let here : from + 0 ≡ from = omega arith in ap (λ n. n ∷ []) here
numbers-push from (suc k) = let here : from + suc k ≡ suc from + k = omega arith in ap (λ l. from ∷ l) (ap (λ n. numbers_from (suc from) k ++ n ∷ []) here ∙ numbers-push (suc from) k)

pub has-number : (from k i : ℕ) → from ≤ i → i < from + k → Has i (numbers_from from k)
has-number from zero i low high = absurd (omega (arith, low, high))
has-number from (suc k) i low high = ⊎_elim (λ (same : i ≡ from). inl same) (λ (above : suc from ≤ i). inr (has-number (suc from) k i above (omega (arith, high)))) (here from i low)
  where
    here : (from i : ℕ) → from ≤ i → (i ≡ from) ⊎ (suc from ≤ i)
    here zero zero low = inl refl
    here zero (suc i) low = inr (omega arith)
    here (suc from) zero low = absurd (omega (arith, low))
    here (suc from) (suc i) low = ⊎_elim (λ e. inl (ap suc e)) (λ less. inr (omega (arith, less))) (here from i (omega (arith, low)))

take-at : {A : Type 0} (xs : List A) (k : ℕ) (x : A) → slice_get xs k ≡ Some x → take (suc k) xs ≡ take k xs ++ x ∷ []
take-at [] k x e = cc
take-at (y ∷ xs) zero x e = cc
take-at (y ∷ xs) (suc k) x e = ap (λ l. y ∷ l) (take-at xs k x e)

take-long : {A : Type 0} (xs : List A) (k : ℕ) (x : A) → slice_get xs k ≡ Some x → length (take k xs) ≡ k
take-long [] k x e = cc
take-long (y ∷ xs) zero x e = refl
take-long (y ∷ xs) (suc k) x e = ap suc (take-long xs k x e)

module _ (table : TableId) (base : Base) (files : Option Files) (from : ℕ) (runs : Runs) (fuel : ℕ) where
  -- the first worker
  pub gathers-first : (w : Facts) (pass : Told) (counts : List Counts) (results : Results) → RanAt table base files from runs fuel 0 w → w.pass ≡ Some pass
      → counts ≡ w.counts ∷ [] → results ≡ w.ran ∷ [] → Gathered table base files from runs fuel 1 pass counts results
  gathers-first w pass counts results ran is counted result =
      let same : ran.told ≡ pass = some-inj _ _ (sym ran.pass ∙ is) in
      let here : from + 0 ≡ from = omega arith in
      let all = ran-push files from [] ran.means fuel ran.told.seen [] w.counts [] w.ran tt ran.ran in
      record {
        of_table = ap (λ (p : Told). p.table) (sym same) ∙ ran.of_table;
        of_base = ap (λ (p : Told). p.base) (sym same) ∙ ran.of_base;
        numbers = ap (λ (p : Told). p.numbers) (sym same) ∙ (ran.numbers ∙ ap (λ n. n ∷ []) here);
        threads = subst (λ (p : Runs × Results × Told × List Counts). AllRan files from p.0 fuel p.2.seen p.3 p.1) (λ i. (sym (take-at runs 0 ran.means ran.place) i, sym result i, same i, sym counted i)) all;
      }
    where
      some-inj : {A : Type 0} (x y : A) → Some x ≡ Some y → x ≡ y
      some-inj x y e = cc

  -- one worker more
  pub gathers-next : (k : ℕ) (w : Facts) (pass other next : Told) (before counts : List Counts) (results more : Results)
      → Gathered table base files from runs fuel k pass before results → RanAt table base files from runs fuel k w → w.pass ≡ Some other
      → next.table ≡ pass.table → next.base ≡ pass.base → next.numbers ≡ pass.numbers ++ other.numbers
      → ((i : ℕ) → Has i pass.numbers → own i next.seen ≡ own i pass.seen) → ((i : ℕ) → Has i other.numbers → own i next.seen ≡ own i other.seen)
      → counts ≡ before ++ w.counts ∷ [] → more ≡ results ++ w.ran ∷ [] → Gathered table base files from runs fuel (suc k) next counts more
  gathers-next k w pass other next before counts results more all ran is tables bases numbers into others counted result =
      let same : ran.told ≡ other = some-inj _ _ (sym ran.pass ∙ is) in
      let others-are : other.numbers ≡ (from + k) ∷ [] = ap (λ (p : Told). p.numbers) (sym same) ∙ ran.numbers in
      let size : length (take k runs) ≡ k = take-long runs k ran.means ran.place in
      let moved = ran-moved files from (take k runs) fuel pass.seen next.seen before results
      (λ i low high. into i (subst (Has i) (sym all.numbers) (has-number from k i low (omega (arith, high, size))))) all.threads in
      let mine : own (from + k) next.seen ≡ own (from + k) ran.told.seen =
      others (from + k) (subst (Has (from + k)) (sym others-are) (inl refl)) ∙ ap (λ (p : Told). own (from + k) p.seen) (sym same) in
      let one = subst (λ l. Ran files (from + k) (ran.means (from + k)) fuel no_counts w.counts l w.ran) (sym mine) ran.ran in
      let pushed = ran-push files from (take k runs) ran.means fuel next.seen before w.counts results w.ran moved
      (subst (λ j. Ran files (from + j) (ran.means (from + j)) fuel no_counts w.counts (own (from + j) next.seen) w.ran) (sym size) one) in
      record {
        of_table = tables ∙ all.of_table;
        of_base = bases ∙ all.of_base;
        numbers = numbers ∙ (ap (λ l. l ++ other.numbers) all.numbers ∙ (ap (λ l. numbers_from from k ++ l) others-are ∙ numbers-push from k));
        threads = subst (λ (p : Runs × Results × List Counts). AllRan files from p.0 fuel next.seen p.2 p.1) (λ i. (sym (take-at runs k ran.means ran.place) i, sym result i, sym counted i)) pushed;
      }
    where
      some-inj : {A : Type 0} (x y : A) → Some x ≡ Some y → x ≡ y
      some-inj x y e = cc

-- the first worker that is popped
pub gather-starts : {W T : Type 0} (seen : W → Facts) (tally : T → Counts) (table : TableId) (ws left : List W) (w : W) (pass : Told) (trees : List T) (results : Results)
    → ws ≡ left ++ w ∷ [] → (seen w).pass ≡ Some pass → map tally trees ≡ (seen w).counts ∷ [] → results ≡ (seen w).ran ∷ []
    → (base : Base) (files : Option Files) (from : ℕ) (runs : Runs) (fuel : ℕ) → Descends (λ k v. RanAt table base files from runs fuel k (seen v)) (length ws) ws
    → Gathered table base files from runs fuel (length results) pass (map tally trees) results
gather-starts seen tally table ws left w pass trees results popped is counts ran base files from runs fuel d =
    let size : 0 + suc (length left) ≡ length ws = let all = ap length popped ∙ length-append left (w ∷ []) in omega (arith, all) in
    let it = descends-at (λ k v. RanAt table base files from runs fuel k (seen v)) ws left w 0 ([], append-nil _ ∙ sym popped) size d in
    subst (λ n. Gathered table base files from runs fuel n pass (map tally trees) results) (sym (ap length ran))
    (gathers-first table base files from runs fuel (seen w) pass (map tally trees) results it is counts ran)

-- the next one
pub gather-goes-on : {W T : Type 0} (seen : W → Facts) (tally : T → Counts) (table : TableId) (ws left : List W) (w : W) (pass other next : Told) (before trees : List T) (results more : Results)
    → IsPrefix (left ++ w ∷ []) ws → length results + suc (length left) ≡ length ws → (seen w).pass ≡ Some other
    → next.table ≡ pass.table → next.base ≡ pass.base → next.numbers ≡ pass.numbers ++ other.numbers
    → ((i : ℕ) → Has i pass.numbers → own i next.seen ≡ own i pass.seen) → ((i : ℕ) → Has i other.numbers → own i next.seen ≡ own i other.seen)
    → map tally trees ≡ map tally before ++ (seen w).counts ∷ [] → more ≡ results ++ (seen w).ran ∷ []
    → (base : Base) (files : Option Files) (from : ℕ) (runs : Runs) (fuel : ℕ) → Descends (λ k v. RanAt table base files from runs fuel k (seen v)) (length ws) ws
    → Gathered table base files from runs fuel (length results) pass (map tally before) results
    → Gathered table base files from runs fuel (length more) next (map tally trees) more
gather-goes-on seen tally table ws left w pass other next before trees results more pre size is tables bases numbers into others counts ran base files from runs fuel d all =
    let it = descends-at (λ k v. RanAt table base files from runs fuel k (seen v)) ws left w (length results) pre size d in
    let longer : suc (length results) ≡ length more = let all = ap length ran ∙ length-append results ((seen w).ran ∷ []) in omega (arith, all) in
    subst (λ n. Gathered table base files from runs fuel n next (map tally trees) more) longer
    (gathers-next table base files from runs fuel (length results) (seen w) pass other next (map tally before) (map tally trees) results more all it is tables bases numbers into others counts ran)

-- the pass speaks for all numbers of the round
pub speaks-for-all : {O : Type 0} (out : O → Outgo) (book : BoundTo O) (table : TableId) (files : Option Files) (from n : ℕ) (runs : Runs) (fuel : ℕ) (pass : Told) (counts : List Counts) (results : Results)
    → Gathered table (base_of out (book, from, n)) files from runs fuel n pass counts results → (i : ℕ) → Within pass.base i → Has i pass.numbers
speaks-for-all out book table files from n runs fuel pass counts results all i within =
    let here : Within (base_of out (book, from, n)) i = subst (λ b. Within b i) all.of_base within in
    subst (Has i) (sym all.numbers) (has-number from n i here.0 here.1)

-- the whole round, once the shared book is closed
pub threads-have-run : {O : Type 0} (piece : Pieces) (out : O → Outgo) (table : TableId) (files : Option Files) (from n : ℕ) (runs : Runs) (fuel : ℕ) (before after : BoundTo O) (pass : Told) (counts : List Counts) (results : Results)
    → n ≡ length runs → Gathered table (base_of out (before, from, n)) files from runs fuel n pass counts results
    → Written piece out pass.base pass.seen after → IsLegal after.opening after.history → ThreadsRan piece out files from runs fuel before after counts results
threads-have-run piece out table files from n runs fuel before after pass counts results size all wrote legal =
    let base-is : pass.base ≡ base_of out (before, from, length runs) = all.of_base ∙ ap (λ k. base_of out (before, from, k)) size in
    let runs-are : take n runs ≡ runs = ap (λ k. take k runs) size ∙ take-all runs in
    record {
      written = subst (λ (p : Base × List Entry). Written piece out p.0 p.1 after) (λ i. (base-is i, sym wrote.history i)) wrote;
      legal = legal;
      threads = subst (λ (p : Runs × List Entry). AllRan files from p.0 fuel p.1 counts results) (λ i. (runs-are i, sym wrote.history i)) all.threads;
    }
