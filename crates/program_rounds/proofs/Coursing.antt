-- Rounds of several scripts, one after another.
use Rattle.std.proofs.Common.{◌≡◌, ◌≢◌, ◌<◌, ◌≤◌, ◌⊎◌, ⊎_elim, inl, inr, ℕ, zero, suc, ◌+◌, Bool, true, false, List, [], ◌∷◌, ◌++◌, length, map, take, drop, get_or, Option, Some, None, Ok, Err, Result, refl, sym, ap, subst, ◌∙◌, arith}
use Rattle.std.specs.Prelude.{replicate, slice_get, IfSome, ◌&&◌}
use Rattle.std.specs.List.{All, list_all}
use Rattle.std.specs.Result.{is_ok}
use Rattle.std.proofs.lemmas.List.{append-nil, append_assoc, length-append, length-map, length-replicate, length-take-le, map-append, take-append-drop}
use Rattle.std.proofs.lemmas.List.Elements.{All-push}
use Rattle.std.proofs.lemmas.List.Folds.{list_all-append}
use Rattle.std.proofs.Math.Seq.{take-add}
use Rattle.base_types.specs.declared.no_memory.NoMemory.{NoMemory}
use Rattle.tree_files.specs.Files.{Files}
use Rattle.tree_files.specs.Count.{Rose}
use Rattle.tree_files.specs.declared.edit.Edit.{Edit}
use Rattle.tree_overlay.specs.Kinds.{IsBelowRoot, is_below_root}
use Rattle.tree_overlay.specs.Told.{edited_told}
use Rattle.tree_overlay.proofs.Overlaid.{told_append}
use Rattle.tree_overlay.specs.Rounds.{Absorbed, total}
use Rattle.words_rounds.specs.declared.rounds.Round.{Round}
use Rattle.machine_events.specs.declared.event.Event.{Event}
use Rattle.machine_events.specs.declared.event.Reply.{Reply}
use Rattle.machine_events.specs.declared.event.Entry.{Entry}
use Rattle.machine_spec.specs.declared.state.State.{State}
use Rattle.machine_spec.specs.Opening.{round_starts}
use Rattle.machine_laws.specs.Begun.{HaveScripts}
use Rattle.machine_book.specs.Bound.{BoundTo}
use Rattle.machine_desk.specs.Outgo.{Outgo, Pieces, Kept}
use Rattle.machine_desk.proofs.Keeping.{kept_none, kept_then}
use Rattle.machine_shown.specs.Own.{own, HasEnded, Ready}
use Rattle.meaning_runs.specs.Runs.{Run}
use Rattle.meaning_runs.specs.Lists.{ends_in}
use Rattle.meaning_solo.proofs.Parts.{own_append, own_other}
use Rattle.drive_account.specs.declared.end.Ending.{Ending}
use Rattle.drive_account.specs.Ending.{outcome}
use Rattle.drive_account.proofs.Meant.{if_meant_none, if_broken_none, broken_first}
use Rattle.drive_round.specs.Ran.{Counts, counted, no_counts, IsNewTree, Pairs, Ran, Results, Runs, AllRan, MayBegin, ThreadsRan}
use Rattle.drive_round.specs.Played.{NoneBegan}
use Rattle.drive_round.proofs.Playing.{has_ended}
use Rattle.trace_book.specs.Views.{AllWithin, Within, base_of}
use Rattle.trace_book.specs.declared.view.Base.{Base}
use Rattle.import_words.specs.Words.{Word}
use Rattle.program_run.specs.Alone.{Means}
use Rattle.program_run.specs.Results.{AreWhole}
use Rattle.program_run.specs.Together.{Mean}
use Rattle.program_run.proofs.Threads.{many_mean}
use Rattle.program_rounds.specs.Rounds.{CanRun, scripts_of, sizes_of, told_in}
use Rattle.program_rounds.specs.Opened.{files_after}
use Rattle.program_rounds.specs.Runs.{meanings}
use Rattle.program_rounds.specs.Course.{EachRan, TookIn, RoundRanOver, Under, texts_of, HasCome, MayGoOn}
use Rattle.program_rounds.proofs.Begun.{next_round, scripts_more}
use Rattle.program_rounds.proofs.Opening.{after_more, told_same}

-- ---- threads that have run, each over files of its own

heads_same : {A : Type 0} (x y : A) (xs ys : List A) → x ∷ xs ≡ y ∷ ys → x ≡ y
heads_same x y xs ys is = cc is

tails_same : {A : Type 0} (x y : A) (xs ys : List A) → x ∷ xs ≡ y ∷ ys → xs ≡ ys
tails_same x y xs ys is = cc is

module _ (fuel : ℕ) where
  module _ (h : List Entry) where
    pub each_many : {t : ℕ} {trees : List (Option Files)} {runs : Runs} {counts : List Counts} {came : Results} → EachRan fuel h t trees runs counts came → length came ≡ length trees
    each_many (EachRan.none t) = refl
    each_many (EachRan.more t tree trees run runs new counts it came ran rest) = ap suc (each_many {t = suc t} rest)

    pub each_append : {t : ℕ} {trees trees' : List (Option Files)} {runs runs' : Runs} {counts counts' : List Counts} {came came' : Results} (n : ℕ) → n ≡ t + length came → EachRan fuel h t trees runs counts came → EachRan fuel h n trees' runs' counts' came'
        → EachRan fuel h t (trees ++ trees') (runs ++ runs') (counts ++ counts') (came ++ came')
    each_append {t} {trees} {trees'} {runs} {runs'} {counts} {counts'} {came} {came'} n is (EachRan.none k) b = let here : n ≡ k = omega (arith, is) in subst (λ (j : ℕ). EachRan fuel h j trees' runs' counts' came') here b
    each_append {t} {trees} {trees'} {runs} {runs'} {counts} {counts'} {came} {came'} n is (EachRan.more k tree trees1 run runs1 new counts1 it came1 ran rest) b =
        EachRan.more k tree (trees1 ++ trees') run (runs1 ++ runs') new (counts1 ++ counts') it (came1 ++ came') ran (each_append {t = suc k} n (omega (arith, is)) rest b)

    -- of a round
    pub each_all : (tree : Option Files) (t : ℕ) (runs : Runs) (counts : List Counts) (came : Results) → AllRan tree t runs fuel h counts came → EachRan fuel h t (replicate (length runs) tree) runs counts came
    each_all tree t [] [] [] all = EachRan.none t
    each_all tree t [] (c ∷ counts) came all = absurd all
    each_all tree t [] [] (r ∷ came) all = absurd all
    each_all tree t (run ∷ runs) [] came all = absurd all
    each_all tree t (run ∷ runs) (c ∷ counts) [] all = absurd all
    each_all tree t (run ∷ runs) (c ∷ counts) (r ∷ came) all = EachRan.more t tree (replicate (length runs) tree) run runs c counts r came all.0 (each_all tree (suc t) runs counts came all.1)

    ran_none : (tree : Option Files) (t : ℕ) (run : Run) (new : Counts) (mine : Pairs) (came : Result Ending NoMemory) → Ran tree t run fuel no_counts new mine came → Ran None t run fuel no_counts new mine came
    ran_none tree t run new mine came ran = record {
      faults = ran.faults;
      lists = ran.lists;
      goes_on = ran.goes_on;
      meant = if_meant_none tree t run fuel mine came ran.meant;
      follows = λ files is. absurd (cc is);
      part = if_broken_none tree t run fuel mine 0 new.faults came ran.part;
      read = ran.read;
      unfailed = ran.unfailed;
    }

    -- whatever their files are
    pub all_none : {t : ℕ} {trees : List (Option Files)} {runs : Runs} {counts : List Counts} {came : Results} → EachRan fuel h t trees runs counts came → AllRan None t runs fuel h counts came
    all_none (EachRan.none t) = tt
    all_none (EachRan.more t tree trees run runs new counts it came ran rest) = (ran_none tree t (run t) new (own t h) it ran, all_none {t = suc t} rest)

    -- threads that have not begun
    pub each_idle : (t : ℕ) (trees : List (Option Files)) (runs : Runs) → length runs ≡ length trees → NoneBegan t h → EachRan fuel h t trees runs (replicate (length trees) no_counts) (replicate (length trees) (Err (record {})))
    each_idle t [] [] many later = EachRan.none t
    each_idle t [] (run ∷ runs) many later = absurd (omega (arith, many))
    each_idle t (tree ∷ trees) [] many later = absurd (omega (arith, many))
    each_idle t (tree ∷ trees) (run ∷ runs) many later =
        let quiet : own t h ≡ [] = later t (omega arith) in
        let here : Ran tree t (run t) fuel no_counts no_counts (own t h) (Err (record {})) = record {
          faults = omega arith;
          lists = tt;
          goes_on = ap ends_in quiet;
          meant = tt;
          follows = λ files is. tt;
          part = broken_first 0 0 quiet;
          read = tt;
          unfailed = tt;
        } in
        EachRan.more t tree trees run runs no_counts (replicate (length trees) no_counts) (Err (record {})) (replicate (length trees) (Err (record {}))) here
        (each_idle (suc t) trees runs (omega (arith, many)) (λ u le. later u (omega (arith, le))))

    -- who has ended has its End
    pub each_ended : {t : ℕ} {trees : List (Option Files)} {runs : Runs} {counts : List Counts} {came : Results} → EachRan fuel h t trees runs counts came → AreWhole came → (u : ℕ) → t ≤ u → u < t + length came → HasEnded h u
    each_ended (EachRan.none t) whole u low high = absurd (omega (arith, low, high))
    each_ended (EachRan.more t tree trees run runs new counts (Err e) came ran rest) whole u low high = absurd whole
    each_ended (EachRan.more t tree trees run runs new counts (Ok it) came ran rest) whole u low high =
        ⊎_elim (λ (same : t ≡ u). subst (HasEnded h) same (has_ended t h ran.meant.before (outcome it) ran.meant.paid ran.meant.whole)) (λ (above : suc t ≤ u). each_ended {t = suc t} rest whole u above (omega (arith, high))) (here t u low)
      where
        here : (t u : ℕ) → t ≤ u → (t ≡ u) ⊎ (suc t ≤ u)
        here zero zero le = inl refl
        here zero (suc u) le = inr (omega arith)
        here (suc t) zero le = absurd (omega (arith, le))
        here (suc t) (suc u) le = ⊎_elim (λ (e : t ≡ u). inl (ap suc e)) (λ (less : suc t ≤ u). inr (omega (arith, less))) (here t u (omega (arith, le)))

  -- in another history with the same events of these threads
  pub each_moved : (h h' : List Entry) {t : ℕ} {trees : List (Option Files)} {runs : Runs} {counts : List Counts} {came : Results} → ((u : ℕ) → u < t + length came → own u h' ≡ own u h) → EachRan fuel h t trees runs counts came
      → EachRan fuel h' t trees runs counts came
  each_moved h h' same (EachRan.none t) = EachRan.none t
  each_moved h h' same (EachRan.more t tree trees run runs new counts it came ran rest) =
      EachRan.more t tree trees run runs new counts it came (subst (λ (mine : Pairs). Ran tree t (run t) fuel no_counts new mine it) (sym (same t (omega arith))) ran) (each_moved h h' {t = suc t} (λ u less. same u (omega (arith, less))) rest)

  -- programs mean what their texts mean
  pub each_means : (h : List Entry) {P : Type 0} (run : P → ℕ → Run) (means : Means) {t : ℕ} {trees : List (Option Files)} {runs : Runs} {counts : List Counts} {came : Results} → EachRan fuel h t trees runs counts came
      → (texts : List (List ℕ)) (programs : List P) → runs ≡ map run programs → Mean run means texts programs → EachRan fuel h t trees (meanings means texts) counts came
  each_means h run means (EachRan.none t) [] [] is mean = EachRan.none t
  each_means h run means (EachRan.none t) (x ∷ texts) [] is mean = absurd mean
  each_means h run means (EachRan.none t) texts (p ∷ programs) is mean = absurd (cc is)
  each_means h run means (EachRan.more t tree trees r runs new counts it came ran rest) texts [] is mean = absurd (cc is)
  each_means h run means (EachRan.more t tree trees r runs new counts it came ran rest) [] (p ∷ programs) is mean = absurd mean
  each_means h run means (EachRan.more t tree trees r runs new counts it came ran rest) (x ∷ texts) (p ∷ programs) is mean =
      let here : r t ≡ means t x = ap (λ (f : ℕ → Run). f t) (heads_same r (run p) runs (map run programs) is) ∙ mean.0 t in
      EachRan.more t tree trees (λ u. means u x) (meanings means texts) new counts it came (subst (λ (k : Run). Ran tree t k fuel no_counts new (own t h) it) here ran)
      (each_means h run means {t = suc t} rest texts programs (tails_same r (run p) runs (map run programs) is) mean.1)

both_true : (b : Bool) {c : Bool} → b ≡ true → c ≡ true → (b && c) ≡ true
both_true true is other = other
both_true false is other = absurd (cc is)

-- edits and more, all below the root
pub below_joined : (edits more all : List Edit) → all ≡ edits ++ more → IsBelowRoot edits → IsBelowRoot more → IsBelowRoot all
below_joined edits more all joined below low = ap (list_all is_below_root) joined ∙ (list_all-append is_below_root edits more ∙ both_true (list_all is_below_root edits) below low)

pub whole_append : (came came' : Results) → AreWhole came → AreWhole came' → AreWhole (came ++ came')
whole_append [] came' a b = b
whole_append (Ok it ∷ came) came' a b = whole_append came came' a b
whole_append (Err e ∷ came) came' a b = absurd a

pub whole_by : (came : Results) → list_all is_ok came ≡ true → AreWhole came
whole_by [] is = tt
whole_by (Ok it ∷ came) is = whole_by came is
whole_by (Err e ∷ came) is = absurd (cc is)

pub joined_by : {V : Type 0} (items : V → Results) (came more seen : Results) (results : Option V) → seen ≡ more → list_all is_ok seen ≡ true → IfSome results (λ r. items r ≡ came ++ more) → IfSome results (λ r. (items r ≡ came ++ more) × AreWhole more)
joined_by items came more seen None same is joined = tt
joined_by items came more seen (Some r) same is joined = (joined, whole_by more (ap (list_all is_ok) (sym same) ∙ is))

-- one fork more that has counted nothing
pub fork_more : {F : Type 0} (files : F → Option Files) (faults lists : F → ℕ) (told : Option Files) (forks new : List F) (fork : F) → new ≡ forks ++ fork ∷ [] → All (IsNewTree files faults lists told) forks → files fork ≡ told → faults fork ≡ 0 → lists fork ≡ 0
    → All (IsNewTree files faults lists told) new
fork_more files faults lists told forks new fork is all tells none_failed none_listed =
    subst (All (IsNewTree files faults lists told)) (sym is) (All-push (IsNewTree files faults lists told) forks fork all (tells, none_failed, none_listed))

-- ---- what was counted

total_append : (count : Counts → ℕ) (xs ys : List Counts) → total count (xs ++ ys) ≡ total count xs + total count ys
total_append count [] ys = omega arith
total_append count (x ∷ xs) ys = let rest = total_append count xs ys in omega (arith, rest)

total_none : (count : Counts → ℕ) → count no_counts ≡ 0 → (n : ℕ) → total count (replicate n no_counts) ≡ 0
total_none count is zero = refl
total_none count is (suc n) = let rest = total_none count is n in omega (arith, is, rest)

total_map : {F : Type 0} (count : Counts → ℕ) (tally : F → Counts) (xs : List F) → total count (map tally xs) ≡ total (λ x. count (tally x)) xs
total_map count tally [] = refl
total_map count tally (x ∷ xs) = ap (λ (n : ℕ). count (tally x) + n) (total_map count tally xs)

-- the tree took in what forks counted
pub took_by : {F : Type 0} (faults lists : F → ℕ) (old new : Counts) (forks : List F) → Absorbed old.faults (total faults forks) new.faults → new.lists ≤ old.lists + total lists forks → TookIn old new (map (counted faults lists) forks)
took_by faults lists old new forks took listed = record {
  faults = subst (λ (n : ℕ). Absorbed old.faults n new.faults) (sym (total_map (λ (c : Counts). c.faults) (counted faults lists) forks)) took;
  lists = subst (λ (n : ℕ). new.lists ≤ old.lists + n) (sym (total_map (λ (c : Counts). c.lists) (counted faults lists) forks)) listed;
}

pub took_more : (old mid new : Counts) (counts counts' : List Counts) → TookIn old mid counts → TookIn mid new counts' → TookIn old new (counts ++ counts')
took_more old mid new counts counts' a b =
    let faults = total_append (λ (c : Counts). c.faults) counts counts' in
    let lists = total_append (λ (c : Counts). c.lists) counts counts' in
    let a1 = a.faults.least in
    let a2 = a.lists in
    let b1 = b.faults.least in
    let b2 = b.lists in
    record {
      faults = record {
        least = omega (arith, faults, a1, b1);
        none = λ none.
            let first = a.faults.none (omega (arith, faults, none)) in
            let rest = b.faults.none (omega (arith, faults, none)) in
            omega (arith, first, rest);
      };
      lists = omega (arith, lists, a2, b2);
    }

pub took_none : (old : Counts) (n : ℕ) → TookIn old old (replicate n no_counts)
took_none old n =
    let faults = total_none (λ (c : Counts). c.faults) refl n in
    let lists = total_none (λ (c : Counts). c.lists) refl n in
    record { faults = record { least = omega (arith, faults); none = λ none. omega arith }; lists = omega (arith, lists) }

-- ---- one round more

pub told_more : (tree : Option Files) (rounds : List Round) (round : Round) → told_in tree (rounds ++ round ∷ []) ≡ told_in tree rounds ++ replicate (length round.scripts) (edited_told round.edits (files_after tree rounds))
told_more tree [] round = append-nil _
told_more tree (r ∷ rounds) round =
    ap (λ (x : List (Option Files)). replicate (length r.scripts) (edited_told r.edits tree) ++ x) (told_more (edited_told r.edits tree) rounds round)
    ∙ sym (append_assoc (replicate (length r.scripts) (edited_told r.edits tree)) (told_in (edited_told r.edits tree) rounds) (replicate (length round.scripts) (edited_told round.edits (files_after (edited_told r.edits tree) rounds))))

pub many_told : (tree : Option Files) (rounds : List Round) → length (told_in tree rounds) ≡ length (scripts_of rounds)
many_told tree [] = refl
many_told tree (round ∷ rounds) =
    let here : Option Files = edited_told round.edits tree in
    let a = length-append (replicate (length round.scripts) here) (told_in here rounds) in
    let b = length-replicate (length round.scripts) here in
    let c = length-append round.scripts (scripts_of rounds) in
    let rest = many_told here rounds in
    omega (arith, a, b, c, rest)

pub many_more : (rounds : List Round) (round : Round) → length (scripts_of (rounds ++ round ∷ [])) ≡ length (scripts_of rounds) + length round.scripts
many_more rounds round = ap length (scripts_more rounds round) ∙ length-append (scripts_of rounds) round.scripts

module _ (means : Means) (under : Under) (rounds : List Round) (round : Round) where
  -- the texts of the round
  abbrev pub texts_here : List (List ℕ)
  texts_here = take (length round.scripts) (drop (length (scripts_of rounds)) under.texts)

  pub meanings_more : meanings means (texts_of under (rounds ++ round ∷ [])) ≡ meanings means (texts_of under rounds) ++ meanings means texts_here
  meanings_more =
      ap (λ (n : ℕ). meanings means (take n under.texts)) (many_more rounds round)
      ∙ (ap (meanings means) (take-add (length (scripts_of rounds)) (length round.scripts) under.texts) ∙ map-append {B = ℕ → Run} (λ (text : List ℕ) (t : ℕ). means t text) (texts_of under rounds) texts_here)

  pub many_here : length (scripts_of rounds) + length round.scripts ≤ length under.texts → length texts_here ≡ length round.scripts
  many_here fits =
      let n = length (scripts_of rounds) in
      let whole : length (take n under.texts ++ drop n under.texts) ≡ length under.texts = ap length (take-append-drop n under.texts) in
      let parts = length-append (take n under.texts) (drop n under.texts) in
      let front = length-take-le n under.texts (omega (arith, fits)) in
      length-take-le (length round.scripts) (drop n under.texts) (omega (arith, fits, whole, parts, front))

  -- where memory was wanted nothing of it begins
  module _ {O V : Type 0} (piece : Pieces) (out : O → Outgo) (items : V → Results) where
    pub come_short : (new : Counts) (book : BoundTo O) (edits edits' : List Edit) (results : Option V) → length (scripts_of rounds) + length round.scripts ≤ length under.texts → HasCome piece out means under rounds new book edits results items
        → HasCome piece out means under (rounds ++ round ∷ []) new book edits' None items
    come_short new book edits edits' results fits come =
        let n = length (scripts_of rounds) in
        let m = length round.scripts in
        let here : Option Files = edited_told round.edits (files_after under.tree rounds) in
        let trees : List (Option Files) = replicate m here in
        let long : length trees ≡ m = length-replicate m here in
        let runs : Runs = meanings means texts_here in
        let many : length runs ≡ length trees = length-map texts_here (λ (text : List ℕ) (t : ℕ). means t text) ∙ (many_here fits ∙ sym long) in
        let came_many : n ≡ 0 + length come.came = (let a = each_many under.fuel book.history come.threads in let b = many_told under.tree rounds in omega (arith, a, b)) in
        let both = each_append under.fuel book.history n came_many come.threads (each_idle under.fuel book.history n trees runs many come.later) in
        let counts : List Counts = come.counts ++ replicate (length trees) no_counts in
        let came : Results = come.came ++ replicate (length trees) (Err (record {})) in
        record {
          opening = come.opening;
          kept = come.kept;
          later = λ u le. come.later u (let a = many_more rounds round in omega (arith, le, a));
          counts = counts;
          came = came;
          threads = subst (λ (ts : List (Option Files)). EachRan under.fuel book.history 0 ts (meanings means (texts_of under (rounds ++ round ∷ []))) counts came) (sym (told_more under.tree rounds round))
              (subst (λ (rs : Runs). EachRan under.fuel book.history 0 (told_in under.tree rounds ++ trees) rs counts came) (sym meanings_more) both);
          took = took_more under.old new new come.counts (replicate (length trees) no_counts) come.took (took_none new (length trees));
          whole = tt;
        }

    pub come_stopped : (new new' : Counts) (book book' : BoundTo O) (edits edits' : List Edit) (results results' : Option V) → length (scripts_of rounds) + length round.scripts ≤ length under.texts → HasCome piece out means under rounds new book edits results items
        → new' ≡ new → book' ≡ book → results' ≡ None → HasCome piece out means under (rounds ++ round ∷ []) new' book' edits' results' items
    come_stopped new new' book book' edits edits' results results' fits come same same_book none_left =
        subst (λ (n : Counts). HasCome piece out means under (rounds ++ round ∷ []) n book' edits' results' items) (sym same)
        (subst (λ (b : BoundTo O). HasCome piece out means under (rounds ++ round ∷ []) new b edits' results' items) (sym same_book)
        (subst (λ (r : Option V). HasCome piece out means under (rounds ++ round ∷ []) new book edits' r items) (sym none_left) (come_short new book edits edits' results fits come)))

-- ---- a round that ran

own_beyond : (o : Base) (u : ℕ) (es : List Entry) → AllWithin o es → (Within o u → ⊥) → own u es ≡ []
own_beyond o u [] all not = refl
own_beyond o u (e ∷ es) all not = own_other u e es (λ same. not (subst (Within o) same all.0)) ∙ own_beyond o u es all.1 not

module _ {O : Type 0} (piece : Pieces) (out : O → Outgo) (tree : Option Files) (from : ℕ) (runs : Runs) (fuel : ℕ) (before after : BoundTo O) (counts : List Counts) (came : Results)
    (ran : ThreadsRan piece out tree from runs fuel before after counts came) where
  abbrev since : List Entry
  since = ran.written.round.since

  pub round_own : (u : ℕ) → (u < from) ⊎ (from + length runs ≤ u) → own u after.history ≡ own u before.history
  round_own u side =
      ap (own u) (sym ran.written.round.joined)
      ∙ (own_append u before.history since ∙ (ap (λ (w : Pairs). own u before.history ++ w) (own_beyond (base_of out (before, from, length runs)) u since ran.written.round.each (apart side)) ∙ append-nil (own u before.history)))
    where
      apart : (u < from) ⊎ (from + length runs ≤ u) → Within (base_of out (before, from, length runs)) u → ⊥
      apart (inl low) within = let a = within.0 in omega (arith, low, a)
      apart (inr high) within = let b = within.1 in omega (arith, high, b)

  pub round_on : (start : Outgo) → Kept piece start (out before.outlet) before.history → Kept piece start (out after.outlet) after.history
  round_on start kept =
      subst (λ (h : List Entry). Kept piece start (out after.outlet) h) ran.written.round.joined (kept_then piece start (out before.outlet) (out after.outlet) before.history since kept ran.written.kept)

module _ (means : Means) (under : Under) (rounds : List Round) (round : Round) {O V P : Type 0} (piece : Pieces) (out : O → Outgo) (items : V → Results) (run : P → ℕ → Run) where
  -- one that ran over the files after its edits
  pub come_ran : (old new : Counts) (before after : BoundTo O) (edits edits' : List Edit) (done : V) (results : Option V) (programs : List P) (more : Results)
      → length (scripts_of rounds) + length round.scripts ≤ length under.texts → HasCome piece out means under rounds old before edits (Some done) items → edits' ≡ edits ++ round.edits → IsBelowRoot round.edits
      → Mean run means (take (length round.scripts) (drop (length (items done)) under.texts)) programs → RoundRanOver piece out (edited_told edits' under.tree) (length (items done)) (map run programs) under.fuel before after old new more
      → IfSome results (λ r. (items r ≡ items done ++ more) × AreWhole more) → HasCome piece out means under (rounds ++ round ∷ []) new after edits' results items
  come_ran old new before after edits edits' done results programs more fits come joined below mean round_ran ends =
      let n = length (scripts_of rounds) in
      let m = length round.scripts in
      let here : Option Files = edited_told round.edits (files_after under.tree rounds) in
      let many : length come.came ≡ n = each_many under.fuel before.history come.threads ∙ many_told under.tree rounds in
      let from : length (items done) ≡ n = ap length come.whole.0 ∙ many in
      let means_here : Mean run means (texts_here means under rounds round) programs = subst (λ (k : ℕ). Mean run means (take m (drop k under.texts)) programs) from mean in
      let files : edited_told edits' under.tree ≡ here = told_append under.tree edits round.edits edits' joined ∙ ap (edited_told round.edits) come.whole.2 in
      let ran : ThreadsRan piece out here n (map run programs) under.fuel before after round_ran.counts more =
      subst (λ (k : ℕ). ThreadsRan piece out here k (map run programs) under.fuel before after round_ran.counts more) from
      (subst (λ (x : Option Files). ThreadsRan piece out x (length (items done)) (map run programs) under.fuel before after round_ran.counts more) files round_ran.ran) in
      let programs_many : length (map run programs) ≡ m = length-map programs run ∙ (many_mean run means (texts_here means under rounds round) programs means_here ∙ many_here means under rounds round fits) in
      let own_same = round_own piece out here n (map run programs) under.fuel before after round_ran.counts more ran in
      let moved = each_moved under.fuel before.history after.history {t = 0} {came = come.came} (λ u less. own_same u (inl (omega (arith, less, many)))) come.threads in
      let gained : EachRan under.fuel after.history n (replicate m here) (meanings means (texts_here means under rounds round)) round_ran.counts more =
      subst (λ (k : ℕ). EachRan under.fuel after.history n (replicate k here) (meanings means (texts_here means under rounds round)) round_ran.counts more) programs_many
      (each_means under.fuel after.history run means (each_all under.fuel after.history here n (map run programs) round_ran.counts more ran.threads) (texts_here means under rounds round) programs refl means_here) in
      let both = each_append under.fuel after.history n (omega (arith, many)) moved gained in
      let counts : List Counts = come.counts ++ round_ran.counts in
      let came : Results = come.came ++ more in
      record {
        opening = ran.written.opening ∙ come.opening;
        kept = round_on piece out here n (map run programs) under.fuel before after round_ran.counts more ran under.start come.kept;
        later = λ u le. (let a = many_more rounds round in own_same u (inr (omega (arith, le, a, programs_many))) ∙ come.later u (omega (arith, le, a)));
        counts = counts;
        came = came;
        threads = subst (λ (ts : List (Option Files)). EachRan under.fuel after.history 0 ts (meanings means (texts_of under (rounds ++ round ∷ []))) counts came) (sym (told_more under.tree rounds round))
            (subst (λ (rs : Runs). EachRan under.fuel after.history 0 (told_in under.tree rounds ++ replicate m here) rs counts came) (sym (meanings_more means under rounds round)) both);
        took = took_more under.old old new come.counts round_ran.counts come.took round_ran.took;
        whole = by results ends (files ∙ sym (after_more under.tree rounds round)) (below_joined edits round.edits edits' joined come.whole.3 below);
      }
    where
      by : (results : Option V) → IfSome results (λ r. (items r ≡ items done ++ more) × AreWhole more) → edited_told edits' under.tree ≡ files_after under.tree (rounds ++ round ∷ []) → IsBelowRoot edits'
          → IfSome results (λ r. (items r ≡ come.came ++ more) × AreWhole (come.came ++ more) × (edited_told edits' under.tree ≡ files_after under.tree (rounds ++ round ∷ [])) × IsBelowRoot edits')
      by None ends over low = tt
      by (Some r) ends over low = (ends.0 ∙ ap (λ (x : Results). x ++ more) come.whole.0, whole_append come.came more come.whole.1 ends.1, over, low)

  -- the same, where its parts are known by equations
  pub come_over : (old new : Counts) (before after : BoundTo O) (edits added edits' seen : List Edit) (results results' : Option V) (done : V) (programs : List P) (more : Results) (from count : ℕ)
      → length (scripts_of rounds) + length round.scripts ≤ length under.texts → HasCome piece out means under rounds old before edits results items → results ≡ Some done → added ≡ round.edits → edits' ≡ edits ++ added → seen ≡ edits' → IsBelowRoot round.edits
      → from ≡ length (items done) → count ≡ length round.scripts → Mean run means (take count (drop from under.texts)) programs → RoundRanOver piece out (edited_told seen under.tree) from (map run programs) under.fuel before after old new more
      → IfSome results' (λ r. (items r ≡ items done ++ more) × AreWhole more) → HasCome piece out means under (rounds ++ round ∷ []) new after edits' results' items
  come_over old new before after edits added edits' seen results results' done programs more from count fits come is added_is joined seen_is below from_is count_is mean round_ran ends =
      let come_done : HasCome piece out means under rounds old before edits (Some done) items = subst (λ (r : Option V). HasCome piece out means under rounds old before edits r items) is come in
      let mean_here : Mean run means (take (length round.scripts) (drop (length (items done)) under.texts)) programs =
      subst (λ (n : ℕ). Mean run means (take n (drop (length (items done)) under.texts)) programs) count_is (subst (λ (k : ℕ). Mean run means (take count (drop k under.texts)) programs) from_is mean) in
      let ran_here : RoundRanOver piece out (edited_told edits' under.tree) (length (items done)) (map run programs) under.fuel before after old new more =
      subst (λ (es : List Edit). RoundRanOver piece out (edited_told es under.tree) (length (items done)) (map run programs) under.fuel before after old new more) seen_is
      (subst (λ (k : ℕ). RoundRanOver piece out (edited_told seen under.tree) k (map run programs) under.fuel before after old new more) from_is round_ran) in
      come_ran old new before after edits edits' done results' programs more fits come_done (joined ∙ ap (λ (es : List Edit). edits ++ es) added_is) below mean_here ran_here ends

-- the next round may begin
pub go_on_at : {O V : Type 0} (items : V → Results) (book : BoundTo O) (results : Option V) (done : V) (round : Round) (texts : List (List ℕ)) → results ≡ Some done → IfSome results (λ r. MayGoOn book (length (items r)) round texts) → MayGoOn book (length (items done)) round texts
go_on_at {O} {V} items book results done round texts is may = subst (λ (r : Option V). IfSome r (λ r. MayGoOn book (length (items r)) round texts)) is may

-- it has as many programs as scripts
pub many_programs : {P : Type 0} (run : P → ℕ → Run) (means : Means) (round : Round) (texts : List (List ℕ)) (programs : List P) (from count done : ℕ) → from ≡ done → count ≡ length round.scripts → done + length round.scripts ≤ length texts
    → Mean run means (take count (drop from texts)) programs → length programs ≡ length round.scripts
many_programs run means round texts programs from count done from_is count_is fits mean =
    let whole : length (take from texts ++ drop from texts) ≡ length texts = ap length (take-append-drop from texts) in
    let parts = length-append (take from texts) (drop from texts) in
    let front = length-take-le from texts (omega (arith, fits, from_is)) in
    let here = length-take-le count (drop from texts) (omega (arith, fits, whole, parts, front, from_is, count_is)) in
    many_mean run means (take count (drop from texts)) programs mean ∙ (here ∙ count_is)

-- ---- whose turn it is

starts_at : (rounds : List Round) (i f k : ℕ) (round : Round) → i < length rounds → round ≡ get_or rounds i round → k < length round.scripts → slice_get (round_starts f (sizes_of rounds)) (length (scripts_of (take i rounds)) + k) ≡ Some (f + length (scripts_of (take i rounds)))
starts_at [] i f k round low is less = absurd (omega (arith, low))
starts_at (r ∷ rounds) zero f k round low is less =
    let here : f ≡ f + 0 = omega arith in
    let place : 0 + k ≡ k = omega arith in
    ap (slice_get (replicate (length r.scripts) f ++ round_starts (f + length r.scripts) (sizes_of rounds))) place
    ∙ (at_front f (length r.scripts) (round_starts (f + length r.scripts) (sizes_of rounds)) k (subst (λ (x : Round). k < length x.scripts) is less) ∙ ap Some here)
  where
    at_front : (f n : ℕ) (rest : List ℕ) (k : ℕ) → k < n → slice_get (replicate n f ++ rest) k ≡ Some f
    at_front f zero rest k less = absurd (omega (arith, less))
    at_front f (suc n) rest zero less = refl
    at_front f (suc n) rest (suc k) less = at_front f n rest k (omega (arith, less))
starts_at (r ∷ rounds) (suc i) f k round low is less =
    let size = length r.scripts in
    let before : length (r.scripts ++ scripts_of (take i rounds)) ≡ size + length (scripts_of (take i rounds)) = length-append r.scripts (scripts_of (take i rounds)) in
    let place : length (r.scripts ++ scripts_of (take i rounds)) + k ≡ size + (length (scripts_of (take i rounds)) + k) = omega (arith, before) in
    let start : (f + size) + length (scripts_of (take i rounds)) ≡ f + length (r.scripts ++ scripts_of (take i rounds)) = omega (arith, before) in
    ap (slice_get (replicate size f ++ round_starts (f + size) (sizes_of rounds))) place
    ∙ (behind f size (round_starts (f + size) (sizes_of rounds)) (length (scripts_of (take i rounds)) + k) ∙ (starts_at rounds i (f + size) k round (omega (arith, low)) is less ∙ ap Some start))
  where
    behind : (f n : ℕ) (rest : List ℕ) (j : ℕ) → slice_get (replicate n f ++ rest) (n + j) ≡ slice_get rest j
    behind f zero rest j = let place : 0 + j ≡ j = omega arith in ap (slice_get rest) place
    behind f (suc n) rest j = let place : suc n + j ≡ suc (n + j) = omega arith in ap (slice_get (f ∷ replicate n f ++ rest)) place ∙ behind f n rest j

some_at : (rounds : List Round) (i : ℕ) (round : Round) → HaveScripts (sizes_of rounds) → i < length rounds → round ≡ get_or rounds i round → 1 ≤ length round.scripts
some_at [] i round each low is = absurd (omega (arith, low))
some_at (r ∷ rounds) zero round each low is = subst (λ (x : Round). 1 ≤ length x.scripts) (sym is) each.0
some_at (r ∷ rounds) (suc i) round each low is = some_at rounds i round each.1 (omega (arith, low)) is

-- the scripts of the first rounds are among all
pub fits_at : (rounds : List Round) (i : ℕ) (round : Round) → i < length rounds → round ≡ get_or rounds i round → length (scripts_of (take i rounds)) + length round.scripts ≤ length (scripts_of rounds)
fits_at [] i round low is = absurd (omega (arith, low))
fits_at (r ∷ rounds) zero round low is =
    let same : length round.scripts ≡ length r.scripts = ap (λ (x : Round). length x.scripts) is in
    let whole = length-append r.scripts (scripts_of rounds) in
    omega (arith, same, whole)
fits_at (r ∷ rounds) (suc i) round low is =
    let rest = fits_at rounds i round (omega (arith, low)) is in
    let whole = length-append r.scripts (scripts_of rounds) in
    let front : length (r.scripts ++ scripts_of (take i rounds)) ≡ length r.scripts + length (scripts_of (take i rounds)) = length-append r.scripts (scripts_of (take i rounds)) in
    omega (arith, rest, whole, front)

pub fits_next : (rounds : List Round) (texts : List (List ℕ)) → length texts ≡ length (scripts_of rounds) → (i : ℕ) (round : Round) → i < length rounds → round ≡ get_or rounds i round → length (scripts_of (take i rounds)) + length round.scripts ≤ length texts
fits_next rounds texts all i round low is = let fits = fits_at rounds i round low is in omega (arith, fits, all)

may_from : {O : Type 0} (book : BoundTo O) (first t n : ℕ) → ((k : ℕ) → k < n → slice_get book.opening.rounds (t + k) ≡ Some first) → ((u : ℕ) → u < first → HasEnded book.history u) → NoneBegan t book.history → MayBegin book t n
may_from book first t zero starts ended later = tt
may_from book first t (suc n) starts ended later = (
  record { first = first; round = (let here : t ≡ t + 0 = omega arith in ap (slice_get book.opening.rounds) here) ∙ starts 0 (omega arith); ended = ended },
  later t (omega arith),
  may_from book first (suc t) n (λ k less. (let here : suc t + k ≡ t + suc k = omega arith in ap (slice_get book.opening.rounds) here) ∙ starts (suc k) (omega (arith, less))) ended (λ u le. later u (omega (arith, le))),
)

module _ (means : Means) (under : Under) {O V : Type 0} (piece : Pieces) (out : O → Outgo) (items : V → Results) (rounds : List Round) (can : CanRun rounds) (starts : under.opened.rounds ≡ round_starts 0 (sizes_of rounds))
    (all : length under.texts ≡ length (scripts_of rounds)) (i : ℕ) (round : Round) (low : i < length rounds) (is : round ≡ get_or rounds i round) (new : Counts) (book : BoundTo O) (edits : List Edit) where
  pub may_go : (results : Option V) → HasCome piece out means under (take i rounds) new book edits results items → IfSome results (λ r. MayGoOn book (length (items r)) round under.texts)
  may_go None come = tt
  may_go (Some r) come =
      let n = length (scripts_of (take i rounds)) in
      let many : length come.came ≡ n = each_many under.fuel book.history come.threads ∙ many_told under.tree (take i rounds) in
      let from : n ≡ length (items r) = sym (ap length come.whole.0 ∙ many) in
      let few = can.few in
      let start : 0 + n ≡ n = omega arith in
      subst (λ (k : ℕ). MayGoOn book k round under.texts) from (record {
        some = some_at rounds i round can.each low is;
        fits = fits_next rounds under.texts all i round low is;
        few = omega (arith, few, all);
        may = may_from book n n (length round.scripts) (λ k less. ap (λ (rs : List ℕ). slice_get rs (n + k)) (ap (λ (s : State). s.rounds) come.opening ∙ starts) ∙ (starts_at rounds i 0 k round low is less ∙ ap Some start))
            (λ u less. each_ended under.fuel book.history come.threads come.whole.1 u (omega arith) (omega (arith, less, many))) come.later;
      })

  pub below_so_far : (results : Option V) → HasCome piece out means under (take i rounds) new book edits results items → IfSome results (λ _. IsBelowRoot edits)
  below_so_far None come = tt
  below_so_far (Some r) come = come.whole.3

  -- the rounds so far and one more
  pub come_next : (after : BoundTo O) (edits' : List Edit) (results : Option V) → HasCome piece out means under (take i rounds ++ round ∷ []) new after edits' results items → HasCome piece out means under (take (i + 1) rounds) new after edits' results items
  come_next after edits' results come = subst (λ (rs : List Round). HasCome piece out means under rs new after edits' results items) (sym (next_round rounds i round low is)) come

-- nothing has begun
pub come_start : (means : Means) {O V : Type 0} (piece : Pieces) (out : O → Outgo) (items : V → Results) (under : Under) (book : BoundTo O) (edits : List Edit) (v : V) → book.history ≡ [] → book.opening ≡ under.opened → under.start ≡ out book.outlet → edits ≡ [] → items v ≡ []
    → HasCome piece out means under [] under.old book edits (Some v) items
come_start means piece out items under book edits v empty opening start unedited nothing = record {
  opening = opening;
  kept = subst (λ (h : List Entry). Kept piece under.start (out book.outlet) h) (sym empty) (subst (λ (s : Outgo). Kept piece under.start s []) start (kept_none piece under.start));
  later = λ u le. ap (own u) empty;
  counts = [];
  came = [];
  threads = EachRan.none 0;
  took = took_none under.old 0;
  whole = (nothing, tt, ap (λ (es : List Edit). edited_told es under.tree) unedited ∙ told_same under.tree, subst IsBelowRoot (sym unedited) refl);
}
