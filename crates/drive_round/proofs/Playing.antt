-- Rounds that are played one after another.
use Rattle.std.proofs.Common.{◌≡◌, ◌≢◌, ◌<◌, ◌≤◌, inl, inr, ℕ, ◌+◌, Bool, true, false, eqb, nat_lt, List, [], ◌∷◌, ◌++◌, length, map, take, drop, get_or, set, Option, Some, Ok, Err, Result, refl, sym, subst, ◌∙◌, ap, arith}
use Rattle.std.proofs.lemmas.Bool.{eqb-true, eqb-false, ltb-true, ltb-false}
use Rattle.std.proofs.lemmas.List.{append-nil, append_assoc, drop-map, drop_more, drop-drop, drop_all, drop-set-lt, take_all, take_more_set, take-append-drop, length-drop}
use Rattle.std.proofs.lemmas.Grind.{drop_more_same}
use Rattle.std.proofs.Math.Seq.{drop-append_seam}
use Rattle.base_types.specs.declared.no_memory.NoMemory.{NoMemory}
use Rattle.tree_files.specs.Files.{Files}
use Rattle.machine_events.specs.declared.event.Event.{Event}
use Rattle.machine_events.specs.declared.event.Event.TheVariants.{End}
use Rattle.machine_events.specs.declared.event.Reply.{Reply}
use Rattle.machine_events.specs.declared.event.Reply.TheVariants.{Done}
use Rattle.machine_events.specs.declared.event.Outcome.{Outcome}
use Rattle.machine_events.specs.declared.event.Entry.{Entry}
use Rattle.machine_shown.specs.Own.{own, HasEnded, IsEnd}
use Rattle.machine_book.specs.Bound.{BoundTo}
use Rattle.machine_desk.specs.Histories.{OnlyOf}
use Rattle.machine_desk.specs.Outgo.{Outgo, Pieces, Kept}
use Rattle.machine_desk.specs.Sight.{Sight, Telling, KeepsUp, Continues}
use Rattle.machine_desk.proofs.Keeping.{kept_then}
use Rattle.meaning_runs.specs.Runs.{Run}
use Rattle.meaning_runs.specs.Lists.{ends_in}
use Rattle.meaning_solo.proofs.Parts.{own_append, own_cons, own_other, ended_front}
use Rattle.drive_account.specs.declared.end.Ending.{Ending}
use Rattle.drive_account.specs.Ending.{Ended, outcome}
use Rattle.drive_account.proofs.Meant.{broken_first}
use Rattle.drive_round.specs.Ran.{Pairs, RanOver, Results, Runs}
use Rattle.drive_round.specs.Played.{AllPlayed, none, more, AreShort, NoneBegan, GoesOn}

-- ---- what a thread leaves

own_only : (t u : ℕ) (es : List Entry) → OnlyOf t es → t ≢ u → own u es ≡ []
own_only t u [] only apart = refl
own_only t u (e ∷ es) only apart = own_other u e es (λ same. apart (sym only.0 ∙ same)) ∙ own_only t u es only.1 apart

-- what a desk left of its book
pub goes_by : {O P : Type 0} (piece : Pieces) (out : O → Outgo) (t n k : ℕ) (before after : BoundTo O) (s0 s1 : Sight P) → Continues s0 s1 → s0.opening ≡ before.opening → s0.seen ≡ before.history → s0.telling ≡ Some (record { piece = piece; out = out before.outlet })
    → s1.opening ≡ after.opening → s1.seen ≡ after.history → s1.telling ≡ Some (record { piece = piece; out = out after.outlet }) → n ≡ t → k ≡ length before.history → OnlyOf n (drop k s1.seen) → GoesOn piece out t before after
goes_by piece out t n k before after s0 s1 on o s w o' s' w' n_is k_is only =
    let joined : before.history ++ on.seen.rest ≡ after.history = ap (λ (h : List Entry). h ++ on.seen.rest) (sym s) ∙ (on.seen.joined ∙ s') in
    let told : Telling = record { piece = piece; out = out before.outlet } in
    let first : KeepsUp (Some told) s1.telling on.seen.rest = subst (λ (x : Option Telling). KeepsUp x s1.telling on.seen.rest) w on.keeps in
    let keeps : KeepsUp (Some told) (Some (record { piece = piece; out = out after.outlet })) on.seen.rest = subst (λ (x : Option Telling). KeepsUp (Some told) x on.seen.rest) w' first in
    let rest : drop k s1.seen ≡ on.seen.rest = ap (drop k) s' ∙ (ap (λ (m : ℕ). drop m after.history) k_is ∙ (ap (drop (length before.history)) (sym joined) ∙ drop-append_seam before.history on.seen.rest)) in
    record {
      opening = sym o' ∙ (on.opening ∙ o);
      gained = record { rest = on.seen.rest; joined = joined };
      only = subst (OnlyOf t) rest (subst (λ (m : ℕ). OnlyOf m (drop k s1.seen)) n_is only);
      kept = keeps.1;
    }

pub kept_on : {O : Type 0} (piece : Pieces) (out : O → Outgo) (t : ℕ) (start : O) (before after : BoundTo O) → GoesOn piece out t before after → Kept piece (out start) (out before.outlet) before.history → Kept piece (out start) (out after.outlet) after.history
kept_on piece out t start before after on kept =
    subst (λ (h : List Entry). Kept piece (out start) (out after.outlet) h) on.gained.joined (kept_then piece (out start) (out before.outlet) (out after.outlet) before.history on.gained.rest kept on.kept)

-- the others have made what they had made
pub own_stays : (t u : ℕ) (h rest h' : List Entry) → h ++ rest ≡ h' → OnlyOf t rest → t ≢ u → own u h' ≡ own u h
own_stays t u h rest h' joined only apart = ap (own u) (sym joined) ∙ (own_append u h rest ∙ (ap (λ w. own u h ++ w) (own_only t u rest only apart) ∙ append-nil (own u h)))

heads_same : (p q : Event × Reply) (ps qs : Pairs) → p ∷ ps ≡ q ∷ qs → p ≡ q
heads_same p q ps qs is = cc is

-- who has an End in its own pairs has ended
pub has_ended : (t : ℕ) (h : List Entry) (before : Pairs) (o : Outcome) (k : ℕ) → own t h ≡ before ++ (End o k, Done) ∷ [] → HasEnded h t
has_ended t [] [] o k is = absurd (cc is)
has_ended t [] (p ∷ before) o k is = absurd (cc is)
has_ended t (e ∷ es) before o k is = at (eqb e.thread t) refl before is (λ front whole. has_ended t es front o k whole)
  where
    at : (c : Bool) → eqb e.thread t ≡ c → (before : Pairs) → own t (e ∷ es) ≡ before ++ (End o k, Done) ∷ [] → ((front : Pairs) → own t es ≡ front ++ (End o k, Done) ∷ [] → HasEnded es t) → HasEnded (e ∷ es) t
    at false differs before is behind = inr (behind before (sym (own_other t e es (eqb-false e.thread t differs)) ∙ is))
    at true same_thread [] is behind =
        let same : e.thread ≡ t = eqb-true e.thread t same_thread in
        let event : End o k ≡ e.event = ap (λ (p : Event × Reply). p.0) (heads_same (End o k, Done) (e.event, e.reply) [] (own t es) (sym is ∙ own_cons t e es same)) in
        inl (same, subst IsEnd event tt)
    at true same_thread (p ∷ before) is behind =
        let same : e.thread ≡ t = eqb-true e.thread t same_thread in
        inr (behind before (cc (own_cons t e es same, is)))

pub ended_next : (t : ℕ) (h h' rest : List Entry) (it : Ending) → h ++ rest ≡ h' → Ended (own t h') (outcome it) → ((u : ℕ) → u < t → HasEnded h u) → (u : ℕ) → u < t + 1 → HasEnded h' u
ended_next t h h' rest it joined ended earlier u less = at (nat_lt u t) refl
  where
    at : (c : Bool) → nat_lt u t ≡ c → HasEnded h' u
    at true is = subst (λ (x : List Entry). HasEnded x u) joined (ended_front h rest u (earlier u (ltb-true u t is)))
    at false is = let same : t ≡ u = (let le = ltb-false u t is in omega (arith, le, less)) in subst (HasEnded h') same (has_ended t h' ended.before (outcome it) ended.paid ended.whole)

pub none_next : (t : ℕ) (h rest h' : List Entry) → h ++ rest ≡ h' → OnlyOf t rest → NoneBegan t h → NoneBegan (t + 1) h'
none_next t h rest h' joined only quiet u le = own_stays t u h rest h' joined only (λ same. omega (arith, same, le)) ∙ quiet u (omega (arith, le))

pub short_next : (results : Results) (i : ℕ) → AreShort (drop i results) → AreShort (drop (i + 1) results)
short_next results i short = subst AreShort (drop-drop 1 i results) (by (drop i results) short)
  where
    by : (l : Results) → AreShort l → AreShort (drop 1 l)
    by [] s = tt
    by (Ok it ∷ l) s = absurd s
    by (Err e ∷ l) s = s

pub runs_from : {P : Type 0} (run : P → ℕ → Run) (programs : List P) (i : ℕ) (p : P) → i < length programs → p ≡ get_or programs i p → drop i (map run programs) ≡ run p ∷ drop (i + 1) (map run programs)
runs_from run programs i p low is =
    drop-map run i programs ∙ (ap (map run) (drop_more programs i p low ∙ ap (λ (x : _). x ∷ drop (i + 1) programs) (sym is)) ∙ ap (λ (rs : Runs). run p ∷ rs) (sym (drop-map run (i + 1) programs)))

module _ {T : Type 0} (files : T → Option Files) (faults lists : T → ℕ) (fuel : ℕ) where
  pub ran_mine : (t : ℕ) (run : Run) (old new : T) (mine mine' : Pairs) (came : Result Ending NoMemory) → mine ≡ mine' → RanOver files faults lists old new t run fuel mine came → RanOver files faults lists old new t run fuel mine' came
  ran_mine t run old new mine mine' came same ran = subst (λ (m : Pairs). RanOver files faults lists old new t run fuel m came) same ran

  ran_err : (t : ℕ) (run : Run) (old new : T) (mine : Pairs) (e e' : NoMemory) → RanOver files faults lists old new t run fuel mine (Err e) → RanOver files faults lists old new t run fuel mine (Err e')
  ran_err t run old new mine e e' ran = record { faults = ran.faults; lists = tt; goes_on = ran.goes_on; meant = tt; follows = λ fs told. tt; part = ran.part; read = tt; unfailed = tt }

  -- threads that have not begun
  idle : (h : List Entry) (t : ℕ) (runs : Runs) (olds : List T) (results : Results) → length runs ≡ length olds → length results ≡ length olds → AreShort results → NoneBegan t h → AllPlayed files faults lists fuel h t runs olds olds results
  idle h t [] [] [] a b short q = none t
  idle h t [] [] (r ∷ results) a b short q = absurd (omega (arith, b))
  idle h t [] (x ∷ olds) results a b short q = absurd (omega (arith, a))
  idle h t (run ∷ runs) [] results a b short q = absurd (omega (arith, a))
  idle h t (run ∷ runs) (x ∷ olds) [] a b short q = absurd (omega (arith, b))
  idle h t (run ∷ runs) (x ∷ olds) (Ok it ∷ results) a b short q = absurd short
  idle h t (run ∷ runs) (x ∷ olds) (Err e ∷ results) a b short q =
      let here : RanOver files faults lists x x t (run t) fuel (own t h) (Err e) = record {
        faults = omega arith;
        lists = tt;
        goes_on = ap ends_in (q t (omega arith));
        meant = tt;
        follows = λ fs told. tt;
        part = broken_first _ _ (q t (omega arith));
        read = tt;
        unfailed = tt;
      } in
      more t run runs x x olds olds (Err e) results here refl (λ u le. q u (omega (arith, le))) (idle h (t + 1) runs olds results (omega (arith, a)) (omega (arith, b)) short (λ u le. q u (omega (arith, le))))

  module _ (runs : Runs) (olds : List T) where
    -- the threads before number i were played, whatever comes of the others
    abbrev pub Goes : ℕ → List Entry → List T → Results → Type 0
    Goes i h news done = (h' : List Entry) (later : List T) (rest : Results) → ((u : ℕ) → u < i → own u h' ≡ own u h)
        → AllPlayed files faults lists fuel h' i (drop i runs) (drop i olds) later rest → AllPlayed files faults lists fuel h' 0 runs olds (news ++ later) (done ++ rest)

    pub goes_start : (h : List Entry) → Goes 0 h [] []
    goes_start h = λ h' later rest agree p. p

    module _ (i : ℕ) (h h1 : List Entry) (news : List T) (done : Results) (goes : Goes i h news done) (agree : (u : ℕ) → u < i → own u h1 ≡ own u h)
        (run : ℕ → Run) (old new : T) (runs_are : drop i runs ≡ run ∷ drop (i + 1) runs) (olds_are : drop i olds ≡ old ∷ drop (i + 1) olds) (stays : files new ≡ files old) where
      pub goes_on : (it : Ending) → RanOver files faults lists old new i (run i) fuel (own i h1) (Ok it) → Goes (i + 1) h1 (news ++ new ∷ []) (done ++ Ok it ∷ [])
      goes_on it ran = λ h' later rest same p.
          let here : RanOver files faults lists old new i (run i) fuel (own i h') (Ok it) = subst (λ (mine : Pairs). RanOver files faults lists old new i (run i) fuel mine (Ok it)) (sym (same i (omega arith))) ran in
          let whole = goes h' (new ∷ later) (Ok it ∷ rest) (λ u less. same u (omega (arith, less)) ∙ agree u less)
          (subst (λ (rs : Runs). AllPlayed files faults lists fuel h' i rs (drop i olds) (new ∷ later) (Ok it ∷ rest)) (sym runs_are)
          (subst (λ (xs : List T). AllPlayed files faults lists fuel h' i (run ∷ drop (i + 1) runs) xs (new ∷ later) (Ok it ∷ rest)) (sym olds_are)
          (more i run (drop (i + 1) runs) old new (drop (i + 1) olds) later (Ok it) rest here stays tt p))) in
          subst (λ (xs : List T). AllPlayed files faults lists fuel h' 0 runs olds xs ((done ++ Ok it ∷ []) ++ rest)) (sym (append_assoc news (new ∷ []) later))
          (subst (λ (rs : Results). AllPlayed files faults lists fuel h' 0 runs olds (news ++ new ∷ later) rs) (sym (append_assoc done (Ok it ∷ []) rest)) whole)

      pub goes_stop : (e : NoMemory) (shorts : Results) → RanOver files faults lists old new i (run i) fuel (own i h1) (Err e) → NoneBegan (i + 1) h1 → length (drop (i + 1) runs) ≡ length (drop (i + 1) olds) → length shorts ≡ length (drop (i + 1) olds)
          → AreShort shorts → AllPlayed files faults lists fuel h1 0 runs olds (news ++ new ∷ drop (i + 1) olds) (done ++ Err e ∷ shorts)
      goes_stop e shorts ran later a b short =
          goes h1 (new ∷ drop (i + 1) olds) (Err e ∷ shorts) agree
          (subst (λ (rs : Runs). AllPlayed files faults lists fuel h1 i rs (drop i olds) (new ∷ drop (i + 1) olds) (Err e ∷ shorts)) (sym runs_are)
          (subst (λ (xs : List T). AllPlayed files faults lists fuel h1 i (run ∷ drop (i + 1) runs) xs (new ∷ drop (i + 1) olds) (Err e ∷ shorts)) (sym olds_are)
          (more i run (drop (i + 1) runs) old new (drop (i + 1) olds) (drop (i + 1) olds) (Err e) shorts ran stays later
          (idle h1 (i + 1) (drop (i + 1) runs) (drop (i + 1) olds) shorts a b short later))))

    heads : (i : ℕ) (xs : List T) (old : T) → i < length xs → drop i xs ≡ drop i olds → old ≡ get_or xs i old → drop i olds ≡ old ∷ drop (i + 1) olds
    heads i xs old low same is = sym same ∙ (drop_more xs i old low ∙ (ap (λ (x : T). x ∷ drop (i + 1) xs) (sym is) ∙ ap (λ (ys : List T). old ∷ ys) (drop_more_same xs olds i same)))

    -- one more has ended
    pub next : (i : ℕ) (h h1 : List Entry) (xs xs' : List T) (rs rs' : Results) (run : ℕ → Run) (old new : T) (it : Ending) → i < length xs → i < length rs → drop i xs ≡ drop i olds → old ≡ get_or xs i old → drop i runs ≡ run ∷ drop (i + 1) runs
        → xs' ≡ set xs i new → rs' ≡ set rs i (Ok it) → files new ≡ files old → ((u : ℕ) → u < i → own u h1 ≡ own u h) → RanOver files faults lists old new i (run i) fuel (own i h1) (Ok it) → Goes i h (take i xs) (take i rs)
        → Goes (i + 1) h1 (take (i + 1) xs') (take (i + 1) rs')
    next i h h1 xs xs' rs rs' run old new it low lowr same is runs_are xs_are rs_are stays agree ran goes =
        let front : take (i + 1) xs' ≡ take i xs ++ new ∷ [] = ap (take (i + 1)) xs_are ∙ take_more_set xs i new low in
        let came : take (i + 1) rs' ≡ take i rs ++ Ok it ∷ [] = ap (take (i + 1)) rs_are ∙ take_more_set rs i (Ok it) lowr in
        subst (λ (ys : List T). Goes (i + 1) h1 ys (take (i + 1) rs')) (sym front)
        (subst (λ (zs : Results). Goes (i + 1) h1 (take i xs ++ new ∷ []) zs) (sym came)
        (goes_on i h h1 (take i xs) (take i rs) goes agree run old new runs_are (heads i xs old low same is) stays it ran))

    -- one wanted memory
    pub stop_at : (i : ℕ) (h h1 : List Entry) (xs xs' : List T) (rs : Results) (run : ℕ → Run) (old new : T) (e : NoMemory) → i < length xs → i < length rs → drop i xs ≡ drop i olds → old ≡ get_or xs i old → drop i runs ≡ run ∷ drop (i + 1) runs
        → xs' ≡ set xs i new → files new ≡ files old → ((u : ℕ) → u < i → own u h1 ≡ own u h) → RanOver files faults lists old new i (run i) fuel (own i h1) (Err e) → NoneBegan (i + 1) h1
        → length runs ≡ length olds → length rs ≡ length olds → AreShort (drop i rs) → Goes i h (take i xs) (take i rs) → AllPlayed files faults lists fuel h1 0 runs olds xs' rs
    stop_at i h h1 xs xs' rs run old new e low lowr same is runs_are xs_are stays agree ran later many long short goes = by (drop i rs) refl short
      where
        behind : drop (i + 1) xs' ≡ drop (i + 1) olds
        behind = ap (drop (i + 1)) xs_are ∙ (drop-set-lt (i + 1) xs i new (omega arith) ∙ drop_more_same xs olds i same)

        xs_whole : take i xs ++ new ∷ drop (i + 1) olds ≡ xs'
        xs_whole =
            sym (append_assoc (take i xs) (new ∷ []) (drop (i + 1) olds))
            ∙ (ap (λ (ys : List T). ys ++ drop (i + 1) olds) (sym (ap (take (i + 1)) xs_are ∙ take_more_set xs i new low))
            ∙ (ap (λ (ys : List T). take (i + 1) xs' ++ ys) (sym behind) ∙ take-append-drop (i + 1) xs'))

        by : (l : Results) → drop i rs ≡ l → AreShort l → AllPlayed files faults lists fuel h1 0 runs olds xs' rs
        by [] rest s = let a = length-drop i rs in let b = ap length rest in absurd (omega (arith, a, b, lowr))
        by (Ok it ∷ l) rest s = absurd s
        by (Err e' ∷ l) rest s =
            let tail : drop (i + 1) rs ≡ l = sym (drop-drop 1 i rs) ∙ ap (drop 1) rest in
            let a = length-drop (i + 1) rs in
            let b = length-drop (i + 1) olds in
            let c = length-drop (i + 1) runs in
            let d : length (drop (i + 1) rs) ≡ length l = ap length tail in
            let played = goes_stop i h h1 (take i xs) (take i rs) goes agree run old new runs_are (heads i xs old low same is) stays e' l (ran_err i (run i) old new (own i h1) e e' ran) later (omega (arith, b, c, many)) (omega (arith, a, b, d, long)) s in
            subst (λ (zs : Results). AllPlayed files faults lists fuel h1 0 runs olds xs' zs) (ap (λ (zs : Results). take i rs ++ zs) (sym rest) ∙ take-append-drop i rs)
            (subst (λ (ys : List T). AllPlayed files faults lists fuel h1 0 runs olds ys (take i rs ++ Err e' ∷ l)) xs_whole played)

    -- all have
    pub all_ended : (i : ℕ) (h : List Entry) (xs : List T) (rs : Results) → length xs ≤ i → length rs ≤ i → length runs ≤ i → length olds ≤ i → Goes i h (take i xs) (take i rs) → AllPlayed files faults lists fuel h 0 runs olds xs rs
    all_ended i h xs rs a b c d goes =
        let last : AllPlayed files faults lists fuel h i (drop i runs) (drop i olds) [] [] =
        subst (λ (ws : Runs). AllPlayed files faults lists fuel h i ws (drop i olds) [] []) (sym (drop_all i runs c))
        (subst (λ (ys : List T). AllPlayed files faults lists fuel h i [] ys [] []) (sym (drop_all i olds d)) (none i)) in
        subst (λ (ys : List T). AllPlayed files faults lists fuel h 0 runs olds ys rs) (append-nil (take i xs) ∙ take_all i xs a)
        (subst (λ (zs : Results). AllPlayed files faults lists fuel h 0 runs olds (take i xs ++ []) zs) (append-nil (take i rs) ∙ take_all i rs b) (goes h [] [] (λ u less. refl) last))
