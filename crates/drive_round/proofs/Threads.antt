-- Threads that have run, one more at a time.
use Rattle.std.proofs.Common.{◌≡◌, ◌<◌, ◌≤◌, ◌+◌, ℕ, suc, List, [], ◌∷◌, ◌++◌, length, refl, sym, subst, arith, Result, Option}
use Rattle.std.specs.Prelude.{fold}
use Rattle.base_types.specs.declared.no_memory.NoMemory.{NoMemory}
use Rattle.tree_files.specs.Files.{Files}
use Rattle.machine_events.specs.declared.event.Entry.{Entry}
use Rattle.machine_shown.specs.Own.{own}
use Rattle.meaning_runs.specs.Runs.{Run}
use Rattle.drive_account.specs.declared.end.Ending.{Ending}
use Rattle.drive_round.specs.Ran.{Counts, no_counts, Ran, Runs, AllRan}

pub ran-push : (tree : Option Files) (t : ℕ) (runs : Runs) (run : ℕ → Run) (fuel : ℕ) (history : List Entry) (counts : List Counts) (new : Counts) (results : List (Result Ending NoMemory)) (result : Result Ending NoMemory)
    → AllRan tree t runs fuel history counts results → Ran tree (t + length runs) (run (t + length runs)) fuel no_counts new (own (t + length runs) history) result
    → AllRan tree t (runs ++ run ∷ []) fuel history (counts ++ new ∷ []) (results ++ result ∷ [])
ran-push tree t [] run fuel history [] new [] result all one =
    let here : t + 0 ≡ t = omega arith in
    (subst (λ k. Ran tree k (run k) fuel no_counts new (own k history) result) here one, tt)
ran-push tree t [] run fuel history [] new (r ∷ results) result all one = absurd all
ran-push tree t [] run fuel history (c ∷ counts) new results result all one = absurd all
ran-push tree t (r ∷ runs) run fuel history [] new results result all one = absurd all
ran-push tree t (r ∷ runs) run fuel history (c ∷ counts) new [] result all one = absurd all
ran-push tree t (r ∷ runs) run fuel history (c ∷ counts) new (x ∷ results) result all one =
    let here : t + suc (length runs) ≡ suc t + length runs = omega arith in
    (all.0, ran-push tree (suc t) runs run fuel history counts new results result all.1 (subst (λ k. Ran tree k (run k) fuel no_counts new (own k history) result) here one))

-- in another history with the same events of these threads
pub ran-moved : (tree : Option Files) (t : ℕ) (runs : Runs) (fuel : ℕ) (old new : List Entry) (counts : List Counts) (results : List (Result Ending NoMemory))
    → ((i : ℕ) → t ≤ i → i < t + length runs → own i new ≡ own i old) → AllRan tree t runs fuel old counts results → AllRan tree t runs fuel new counts results
ran-moved tree t [] fuel old new [] [] same all = tt
ran-moved tree t [] fuel old new [] (x ∷ results) same all = absurd all
ran-moved tree t [] fuel old new (c ∷ counts) results same all = absurd all
ran-moved tree t (r ∷ runs) fuel old new [] results same all = absurd all
ran-moved tree t (r ∷ runs) fuel old new (c ∷ counts) [] same all = absurd all
ran-moved tree t (r ∷ runs) fuel old new (c ∷ counts) (x ∷ results) same all = (
  subst (λ mine. Ran tree t (r t) fuel no_counts c mine x) (sym (same t (omega arith) (omega arith))) all.0,
  ran-moved tree (suc t) runs fuel old new counts results (λ i low high. same i (omega (arith, low)) (omega (arith, high))) all.1,
)

pub fold-push : {A B : Type 0} (f : B → A → B) (b : B) (xs : List A) (x : A) → fold f b (xs ++ x ∷ []) ≡ f (fold f b xs) x
fold-push f b [] x = refl
fold-push f b (y ∷ xs) x = fold-push f (f b y) xs x
