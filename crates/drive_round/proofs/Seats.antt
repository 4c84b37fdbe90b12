-- The worker of a place, from its seat to what it did.
use Rattle.std.proofs.Common.{◌≡◌, ◌<◌, ◌+◌, ◌∙◌, ℕ, zero, suc, List, [], ◌∷◌, length, map, refl, sym, ap, subst, arith, Some, Option}
use Rattle.std.specs.Prelude.{slice_get, IsSomeAnd}
use Rattle.std.specs.List.{All}
use Rattle.std.proofs.lemmas.List.Elements.{recursion_from_All}
use Rattle.tree_files.specs.Files.{Files}
use Rattle.machine_shown.specs.Own.{own, Ready}
use Rattle.machine_book.specs.Bound.{BoundTo}
use Rattle.machine_desk.specs.Outgo.{Outgo}
use Rattle.trace_book.specs.Told.{TableId, Told, new_pass, new_passes, sight_of, mine_of}
use Rattle.trace_book.specs.Views.{base_of}
use Rattle.trace_book.specs.declared.view.Base.{Base}
use Rattle.trace_book.specs.declared.place.Place.{Place}
use Rattle.drive_round.specs.Ran.{Results, counted, no_counts, IsNewTree, Ran, Runs, MayBegin}
use Rattle.drive_round.specs.declared.worker.Worker.{Worker}
use Rattle.drive_round.specs.Workers.{Facts, facts, IsNew, AllNew, HasWorked, AllWork, Descends, IsSeated, AllSeated, SeatedAt, RanAt, Works, Gathers, Gathered}
use Rattle.meaning_runs.specs.Runs.{Run}
use Rattle.drive_round.proofs.Places.{all-at, zip-length, descends-below, descends-all, descends-zip}

-- the n-th of the threads that may begin
pub may-begin : {O : Type 0} (book : BoundTo O) (t n k : ℕ) → MayBegin book t n → k < n → Ready book.opening.rounds book.history (t + k) × (own (t + k) book.history ≡ [])
may-begin book t zero k may lt = absurd (omega (arith, lt))
may-begin book t (suc n) zero may lt = let here : t ≡ t + 0 = omega arith in subst (λ j. Ready book.opening.rounds book.history j × (own j book.history ≡ [])) here (may.0, may.1)
may-begin book t (suc n) (suc k) may lt =
    let here : suc t + k ≡ t + suc k = omega arith in
    subst (λ j. Ready book.opening.rounds book.history j × (own j book.history ≡ [])) here (may-begin book (suc t) n k may.2 (omega (arith, lt)))

some-inj : {A : Type 0} (x y : A) → Some x ≡ Some y → x ≡ y
some-inj x y e = cc

pub passes-at : (table : TableId) (base : Base) (t n k : ℕ) → k < n → slice_get (new_passes table base t n) k ≡ Some (new_pass table base (t + k))
passes-at table base t zero k lt = absurd (omega (arith, lt))
passes-at table base t (suc n) zero lt = let here : t ≡ t + 0 = omega arith in ap (λ j. Some (new_pass table base j)) here
passes-at table base t (suc n) (suc k) lt = let here : suc t + k ≡ t + suc k = omega arith in passes-at table base (suc t) n k (omega (arith, lt)) ∙ ap (λ j. Some (new_pass table base j)) here

pub mapped-at : {A B : Type 0} (f : A → B) (xs : List A) (k : ℕ) (x : A) → slice_get xs k ≡ Some x → slice_get (map f xs) k ≡ Some (f x)
mapped-at f [] k x e = cc
mapped-at f (y ∷ xs) zero x e = ap (λ z. Some (f z)) (some-inj y x e)
mapped-at f (y ∷ xs) (suc k) x e = mapped-at f xs k x e

-- a worker that was seated over new passes and new forks
pub seated-at : {T P : Type 0} (run : P → ℕ → Run) (files : T → Option Files) (faults lists : T → ℕ) (table : TableId) (base : Base) (from n : ℕ) (programs : List P) (forks : List T) (all_told : Option Files)
    → All (IsNewTree files faults lists all_told) forks → (k : ℕ) (w : Worker T P) → k < n → IsSeated (new_passes table base from n) programs forks from k w
    → SeatedAt table base all_told from (map run programs) k (facts run files faults lists w)
seated-at run files faults lists table base from n programs forks all_told all k w lt seat =
    let fork = all-at (IsNewTree files faults lists all_told) forks k w.tree (recursion_from_All _ forks all) seat.forks_at in
    record {
      pass = sym seat.passes_at ∙ passes-at table base from n k lt;
      number = seat.numbered;
      means = run w.program;
      place = mapped-at run programs k w.program seat.programs_at;
      run = ap (run w.program) seat.numbered;
      files_are = fork.0;
      counts = λ i. record { faults = fork.1 i; lists = fork.2 i };
    }

pub seat-is-new : {O : Type 0} (out : O → Outgo) (book : BoundTo O) (table : TableId) (files : Option Files) (from n : ℕ) (runs : Runs) (k : ℕ) (w : Facts)
    → MayBegin book from n → k < n → SeatedAt table (base_of out (book, from, n)) files from runs k w → IsNew table w
seat-is-new out book table files from n runs k w may lt seat =
    let may-now = may-begin book from n k may lt in
    record {
      pass = new_pass table (base_of out (book, from, n)) (from + k);
      is = seat.pass;
      of_table = refl;
      number = sym seat.number;
      ready = may-now.0;
      first = may-now.1;
    }

pub seat-has-run : (table : TableId) (base : Base) (files : Option Files) (from : ℕ) (runs : Runs) (fuel k : ℕ) (old new : Facts)
    → SeatedAt table base files from runs k old → HasWorked fuel old new → RanAt table base files from runs fuel k new
seat-has-run table base files from runs fuel k old new seat works =
    let begun : works.before ≡ new_pass table base (from + k) = some-inj _ _ (sym works.was ∙ seat.pass) in
    let place : (sight_of works.after).place ≡ (sight_of (new_pass table base (from + k))).place = works.continues.place ∙ ap (λ p. (sight_of p).place) begun in
    let number : works.after.number ≡ from + k = works.continues.number ∙ ap (λ (p : Told). p.number) begun in
    record {
      told = works.after;
      pass = works.is;
      of_table = ap (λ (p : Place). p.table) place;
      of_base = ap (λ (p : Place). p.base) place;
      number = number;
      numbers = ap (λ (p : Place). p.numbers) place;
      means = seat.means;
      place = seat.place;
      ran = subst (λ t. Ran files (from + k) (seat.means (from + k)) fuel no_counts new.counts (own t works.after.seen) new.ran) number
          (subst (λ c. Ran files (from + k) (seat.means (from + k)) fuel c new.counts (mine_of works.after) new.ran) seat.counts
          (subst (λ r. Ran files (from + k) r fuel old.counts new.counts (mine_of works.after) new.ran) seat.run
          (subst (λ t. Ran files t old.run fuel old.counts new.counts (mine_of works.after) new.ran) seat.number
          (subst (λ f. Ran f old.number old.run fuel old.counts new.counts (mine_of works.after) new.ran) seat.files_are works.ran))));
    }

pub length-new : (table : TableId) (base : Base) (t n : ℕ) → length (new_passes table base t n) ≡ n
length-new table base t zero = refl
length-new table base t (suc n) = ap suc (length-new table base (suc t) n)

module _ {O T P : Type 0} (out : O → Outgo) (run : P → ℕ → Run) (files : T → Option Files) (faults lists : T → ℕ)
    (book : BoundTo O) (table : TableId) (from n : ℕ) (programs : List P) (forks : List T) (all_told : Option Files) where
  abbrev pub start : Base
  start = base_of out (book, from, n)

  abbrev pub seen : Worker T P → Facts
  seen = facts run files faults lists

  -- all workers, seated over new passes and new forks
  pub seats : (passes : List Told) (ws : List (Worker T P)) → All (IsNewTree files faults lists all_told) forks → passes ≡ new_passes table start from n
      → AllSeated passes programs forks from ws → Descends (λ k w. SeatedAt table start all_told from (map run programs) k (seen w)) n ws
  seats passes ws all is seated =
      let size : length passes ≡ n = ap length is ∙ length-new table start from n in
      let new : Descends (IsSeated (new_passes table start from n) programs forks from) n ws =
      subst (λ (p : List Told × ℕ). Descends (IsSeated p.0 programs forks from) p.1 ws) (λ i. (is i, size i)) seated in
      descends-below _ _ n ws (λ k w lt seat. seated-at run files faults lists table start from n programs forks all_told all k w lt seat) new

  pub seats-are-new : (passes : List Told) (ws : List (Worker T P)) → All (IsNewTree files faults lists all_told) forks → passes ≡ new_passes table start from n
      → AllSeated passes programs forks from ws → MayBegin book from n → AllNew table seen ws
  seats-are-new passes ws all is seated may =
      descends-all _ (λ w. IsNew table (seen w)) n (λ k w lt seat. seat-is-new out book table all_told from n (map run programs) k (seen w) may lt seat) ws (seats passes ws all is seated)

  pub seats-have-run : (fuel : ℕ) (passes : List Told) (olds news : List (Worker T P)) → All (IsNewTree files faults lists all_told) forks → passes ≡ new_passes table start from n
      → AllSeated passes programs forks from olds → AllWork fuel seen olds news
      → Descends (λ k w. RanAt table start all_told from (map run programs) fuel k (seen w)) n news
  seats-have-run fuel passes olds news all is seated work =
      descends-zip _ _ _ (λ k old new seat works. seat-has-run table start all_told from (map run programs) fuel k (seen old) (seen new) seat works) n olds news (seats passes olds all is seated) work

  pub as-many : (fuel : ℕ) (passes : List Told) (olds news : List (Worker T P)) → passes ≡ new_passes table start from n → length olds ≡ length passes
      → AllWork fuel seen olds news → length news ≡ n
  as-many fuel passes olds news is size work = zip-length (Works fuel seen) olds news work ∙ (size ∙ (ap length is ∙ length-new table start from n))

  -- their passes are gathered to what they are of this round
  pub seats-are-gathered : (fuel : ℕ) (passes : List Told) (olds news : List (Worker T P)) (pass : Told) (trees : List T) (results : Results) → All (IsNewTree files faults lists all_told) forks
      → passes ≡ new_passes table start from n → AllSeated passes programs forks from olds → length olds ≡ length passes → AllWork fuel seen olds news
      → Gathers table seen (counted faults lists) news pass trees results
      → Gathered table start all_told from (map run programs) fuel n pass (map (counted faults lists) trees) results
  seats-are-gathered fuel passes olds news pass trees results all is seated size work gathers =
      let many : length news ≡ n = as-many fuel passes olds news is size work in
      let ran = seats-have-run fuel passes olds news all is seated work in
      let Ran : ℕ → Worker T P → Type 0 = λ k w. RanAt table start all_told from (map run programs) fuel k (seen w) in
      let it = gathers start all_told from (map run programs) fuel (subst (λ m. Descends Ran m news) (sym many) ran) in
      subst (λ (m : ℕ). Gathered table start all_told from (map run programs) fuel m pass (map (counted faults lists) trees) results) many it

-- what has run has its pass
pub passes-are-there : {W : Type 0} (seen : W → Facts) (table : TableId) (base : Base) (files : Option Files) (from : ℕ) (runs : Runs) (fuel n : ℕ) (ws : List W)
    → Descends (λ k w. RanAt table base files from runs fuel k (seen w)) n ws → All (λ w. IsSomeAnd (seen w).pass (λ pass. pass.table ≡ table)) ws
passes-are-there seen table base files from runs fuel n ws d =
    descends-all _ _ n (λ k w lt ran. subst (λ o. IsSomeAnd o (λ (pass : Told). pass.table ≡ table)) (sym ran.pass) ran.of_table) ws d
