-- Where a recorded list parts.
use Rattle.std.proofs.Common.{◌≡◌, ◌≤◌, ◌<◌, inl, inr, ℕ, zero, suc, ◌+◌, List, [], ◌∷◌, ◌++◌, Some, length, take, drop, slice_get, refl, sym, ◌∙◌, ap, subst, arith}
use Rattle.std.proofs.lemmas.Bool.{cases_lt}
use Rattle.std.proofs.lemmas.List.{take-take, take_all}
use Rattle.std.proofs.lemmas.Option.{slice_get_within}
use Rattle.tree_files.specs.Files.{Files}
use Rattle.machine_events.specs.Fitting.{Fits}
use Rattle.machine_events.specs.declared.event.Event.{Event}
use Rattle.machine_events.specs.declared.event.Event.TheVariants as e
use Rattle.machine_events.specs.declared.event.Reply.{Reply}
use Rattle.machine_events.specs.declared.event.Reply.TheVariants.{Done}
use Rattle.machine_events.specs.declared.event.Outcome.{Outcome}
use Rattle.machine_events.specs.declared.event.Outcome.TheVariants as o
use Rattle.machine_shown.specs.Shown.{shown_first}
use Rattle.meaning_runs.specs.Lists.{ends, ends_in}
use Rattle.meaning_runs.specs.Follows.{Ends}
use Rattle.meaning_runs.specs.Runs.{Run, Stop, Cut, Came, How, Ending, on_budget, replies_of, spend, Safe}
use Rattle.drive_account.specs.Replay.{AllFit}
use Rattle.drive_account.specs.Following.{budget_of, budget_or, budget_by, StopsBy, IsDue, IsRightAt, IsWhole, IsPart}
use Rattle.drive_account.proofs.Playing.{play_cut, ends_more, budget_no_end}

-- Lists up to a place.

take_there : (own : List (Event × Reply)) (i : ℕ) (p : Event × Reply) → slice_get own i ≡ Some p → own ≡ take i own ++ p ∷ drop (suc i) own
take_there [] zero p h = absurd (cc h)
take_there [] (suc i) p h = absurd (cc h)
take_there (x ∷ own) zero p h = let same : x ≡ p = cc h in ap (λ (q : Event × Reply). q ∷ own) same
take_there (x ∷ own) (suc i) p h = ap (λ (ps : List (Event × Reply)). x ∷ ps) (take_there own i p h)

pub some_there : (own : List (Event × Reply)) (i : ℕ) → i < length own → (p : Event × Reply) × (slice_get own i ≡ Some p)
some_there [] i less = absurd (omega (arith, less))
some_there (x ∷ own) zero less = (x, refl)
some_there (x ∷ own) (suc i) less = some_there own i (omega (arith, less))

pub take_one_more : (own : List (Event × Reply)) (i : ℕ) (p : Event × Reply) → slice_get own i ≡ Some p → take (suc i) own ≡ take i own ++ p ∷ []
take_one_more [] zero p h = absurd (cc h)
take_one_more [] (suc i) p h = absurd (cc h)
take_one_more (x ∷ own) zero p h = let same : x ≡ p = cc h in ap (λ (q : Event × Reply). q ∷ []) same
take_one_more (x ∷ own) (suc i) p h = ap (λ (ps : List (Event × Reply)). x ∷ ps) (take_one_more own i p h)

-- a pair of the front of a list stands in the list
front_there : (own : List (Event × Reply)) (n i : ℕ) (p : Event × Reply) → slice_get own i ≡ Some p → i < n → slice_get (take n own) i ≡ Some p
front_there [] zero i p h less = absurd (omega (arith, less))
front_there [] (suc n) i p h less = h
front_there (x ∷ own) zero i p h less = absurd (omega (arith, less))
front_there (x ∷ own) (suc n) zero p h less = h
front_there (x ∷ own) (suc n) (suc i) p h less = front_there own n i p h (omega (arith, less))

-- Replies that fit.

pub fit_front : (own : List (Event × Reply)) (n : ℕ) → AllFit own → AllFit (take n own)
fit_front [] zero all = tt
fit_front [] (suc n) all = tt
fit_front (x ∷ own) zero all = tt
fit_front (x ∷ own) (suc n) all = (all.0, fit_front own n all.1)

fit_there : (own : List (Event × Reply)) (i : ℕ) (p : Event × Reply) → slice_get own i ≡ Some p → AllFit own → Fits p.0 p.1
fit_there [] zero p h all = absurd (cc h)
fit_there [] (suc i) p h all = absurd (cc h)
fit_there (x ∷ own) zero p h all = let same : x ≡ p = cc h in subst (λ (q : Event × Reply). Fits q.0 q.1) same all.0
fit_there (x ∷ own) (suc i) p h all = fit_there own i p h all.1

-- What is due.

-- a run stops in one way
pub one_stop : {x : Ending} {before : List (Event × Reply)} {a b : Stop} → x ≡ record { pairs = before; stop = a; left = [] } → x ≡ record { pairs = before; stop = b; left = [] } → a ≡ b
one_stop p q = ap (λ (e : Ending). e.stop) (sym p ∙ q)

pub cut_came : (event : Event) (how : How) → Cut event ≡ Came how → ⊥
cut_came event how is = cc is

pub one_cut : (a b : Event) → Cut a ≡ Cut b → a ≡ b
one_cut a b is = cc is

pub one_came : (a b : How) → Came a ≡ Came b → a ≡ b
one_came a b is = cc is

-- up to where a run stops on the pairs of a list, each is the one that is due
pub right_before : (f : Files) (t : ℕ) (run : Run) (fuel : ℕ) (own : List (Event × Reply)) (at : ℕ) (stop : Stop) → at ≤ length own → AllFit (take at own)
    → StopsBy f t run (budget_by fuel own) (take at own) stop → (i : ℕ) → i < at → IsRightAt f t run fuel own i
right_before f t run fuel own at stop within fit stops i less =
    let here = some_there own i (omega (arith, within, less)) in
    let front : List (Event × Reply) = take at own in
    let parts : front ≡ take i front ++ here.0 ∷ drop (suc i) front = take_there front i here.0 (front_there own at i here.0 here.1 less) in
    let begins : take i front ≡ take i own = take-take i at own (omega (arith, less)) in
    let cut : StopsBy f t run (budget_by fuel own) (take i front) (Cut here.0.0) =
    play_cut f (spend (budget_by fuel own) (shown_first t) run) [] (take i front) (drop (suc i) front) here.0 stop
    (subst (λ (x : List (Event × Reply)). on_budget f t run (budget_by fuel own) (replies_of x) ≡ record { pairs = x; stop = stop; left = [] }) parts stops) in
    record {
      pair = here.0;
      there = here.1;
      fit = subst AllFit begins (fit_front front i fit);
      due = inl (subst (λ (x : List (Event × Reply)). StopsBy f t run (budget_by fuel own) x (Cut here.0.0)) begins cut);
    }

-- The budget.

-- an event that is no End tells no budget
budget_other : (fuel : ℕ) (event : Event) (other : ℕ) → ends event ≡ 0 → budget_or fuel event other ≡ other
budget_other fuel e.Wake other none = refl
budget_other fuel (e.Ask n) other none = refl
budget_other fuel (e.Take n) other none = refl
budget_other fuel (e.Add spec text) other none = refl
budget_other fuel (e.Finish load good) other none = refl
budget_other fuel (e.Release n) other none = refl
budget_other fuel (e.GetVar mid x raw) other none = refl
budget_other fuel (e.SetVar raw mid x v) other none = refl
budget_other fuel (e.DelVar mid x raw) other none = refl
budget_other fuel (e.Names mid) other none = refl
budget_other fuel (e.Source load) other none = refl
budget_other fuel (e.Print text) other none = refl
budget_other fuel e.PathGet other none = refl
budget_other fuel (e.PathAdd at v) other none = refl
budget_other fuel (e.DirGet dir part) other none = refl
budget_other fuel (e.DirSet dir listing) other none = refl
budget_other fuel e.Invalidate other none = refl
budget_other fuel (e.NsGet mid) other none = refl
budget_other fuel (e.NsSet mid state) other none = refl
budget_other fuel (e.TabGet n) other none = refl
budget_other fuel (e.TabSet n slot) other none = refl
budget_other fuel (e.TabDel n) other none = refl
budget_other fuel (e.ReloadBegin mid raw) other none = refl
budget_other fuel (e.ReloadTake mid spec text) other none = refl
budget_other fuel (e.ReloadEnd mid load) other none = refl
budget_other fuel (e.AddLazy spec text) other none = refl
budget_other fuel (e.Rouse mid) other none = refl
budget_other fuel (e.Main spec text) other none = refl
budget_other fuel (e.End outcome paid) other none = absurd (cc none)

-- before the first End the budget is that of the rest
budget_behind : (fuel : ℕ) (before : List (Event × Reply)) (outcome : Outcome) (paid : ℕ) (r : Reply) (more : List (Event × Reply)) → ends_in before ≡ 0
    → budget_by fuel (before ++ (e.End outcome paid, r) ∷ more) ≡ budget_of fuel outcome paid
budget_behind fuel [] outcome paid r more none = refl
budget_behind fuel (pair ∷ before) outcome paid r more none =
    budget_other fuel pair.0 (budget_by fuel (before ++ (e.End outcome paid, r) ∷ more)) (omega (arith, none)) ∙ budget_behind fuel before outcome paid r more (omega (arith, none))

pub budget_ends : (fuel : ℕ) (outcome : Outcome) (paid : ℕ) (how : How) → Ends fuel outcome paid how → budget_of fuel outcome paid ≡ paid
budget_ends fuel o.Normal paid how ends = sym ends.1
budget_ends fuel (o.Raised error) paid how ends = sym ends.1
budget_ends fuel o.Fuel paid how ends = sym ends.1
budget_ends fuel o.Read paid how ends = refl

-- the budget of a list with one End, its last event, is what that tells
budget_of_whole : (fuel : ℕ) (own before : List (Event × Reply)) (outcome : Outcome) (paid : ℕ) (how : How) → own ≡ before ++ (e.End outcome paid, Done) ∷ [] → ends_in own ≡ 1 → Ends fuel outcome paid how → budget_by fuel own ≡ paid
budget_of_whole fuel own before outcome paid how is once ends =
    let one : ends_in own ≡ ends_in before + 1 = ap ends_in is ∙ ends_more before (e.End outcome paid, Done) in
    ap (budget_by fuel) is ∙ (budget_behind fuel before outcome paid Done [] (omega (arith, one, once)) ∙ budget_ends fuel outcome paid how ends)

-- Lists that are whole.

pub take_front : (before : List (Event × Reply)) (p : Event × Reply) (more : List (Event × Reply)) → take (length before) (before ++ p ∷ more) ≡ before
take_front [] p more = refl
take_front (x ∷ before) p more = ap (λ (ps : List (Event × Reply)). x ∷ ps) (take_front before p more)

there_behind : (before : List (Event × Reply)) (p : Event × Reply) → slice_get (before ++ p ∷ []) (length before) ≡ Some p
there_behind [] p = refl
there_behind (x ∷ before) p = there_behind before p

pub length_more : (before : List (Event × Reply)) (p : Event × Reply) → length (before ++ p ∷ []) ≡ length before + 1
length_more [] p = refl
length_more (x ∷ before) p = let more = length_more before p in omega (arith, more)

-- where a run is over after these pairs, the event behind them is the End, and all before it are right
right_end : (f : Files) (t : ℕ) (run : Run) (fuel : ℕ) (own : List (Event × Reply)) (at : ℕ) (how : How) (outcome : Outcome) (paid : ℕ) (r : Reply) → AllFit (take at own)
    → StopsBy f t run (budget_by fuel own) (take at own) (Came how) → slice_get own at ≡ Some (e.End outcome paid, r) → budget_by fuel own ≡ budget_of fuel outcome paid → Ends fuel outcome paid how
    → IsRightAt f t run fuel own at
right_end f t run fuel own at how outcome paid r fit stops there within ends = record {
  pair = (e.End outcome paid, r);
  there = there;
  fit = fit;
  due = inr (record { how = how; outcome = outcome; paid = paid; is = refl; within = within; ends = ends; over = stops });
}

-- each event of a list that is whole is right
pub whole_right : (f : Files) (t : ℕ) (run : Run) (fuel : ℕ) (own : List (Event × Reply)) → IsWhole f t run fuel own → (i : ℕ) → i < length own → IsRightAt f t run fuel own i
whole_right f t run fuel own whole i less =
    let it = whole.follows in
    let last : Event × Reply = (e.End whole.outcome it.paid, Done) in
    let at = length it.before in
    let many : length own ≡ at + 1 = ap length it.whole ∙ length_more it.before last in
    let front : take at own ≡ it.before = ap (take at) it.whole ∙ take_front it.before last [] in
    let budget : budget_by fuel own ≡ it.paid = budget_of_whole fuel own it.before whole.outcome it.paid it.how it.whole it.once it.ends in
    let stops : StopsBy f t run (budget_by fuel own) (take at own) (Came it.how) =
    subst (λ (b : ℕ). StopsBy f t run b (take at own) (Came it.how)) (sym budget) (subst (λ (x : List (Event × Reply)). StopsBy f t run it.paid x (Came it.how)) (sym front) it.eval) in
    let there : slice_get own at ≡ Some last = ap (λ (x : List (Event × Reply)). slice_get x at) it.whole ∙ there_behind it.before last in
    let fit : AllFit (take at own) = fit_front own at whole.fit in
    elim (cases_lt i at) [
      | inl before ↦ right_before f t run fuel own at (Came it.how) (omega (arith, many)) fit stops i before
      | inr behind ↦
          let same : i ≡ at = omega (arith, behind, less, many) in
          subst (λ (n : ℕ). IsRightAt f t run fuel own n) (sym same)
          (right_end f t run fuel own at it.how whole.outcome it.paid Done fit stops there (budget ∙ sym (budget_ends fuel whole.outcome it.paid it.how it.ends)) it.ends)
    ]

-- where a run stops on all pairs of a list, the list has no End, so it is not whole
not_whole : (f : Files) (t : ℕ) (run : Run) (fuel : ℕ) (own : List (Event × Reply)) (stop : Stop) → Safe (shown_first t) run → StopsBy f t run (budget_by fuel own) own stop → IsWhole f t run fuel own → ⊥
not_whole f t run fuel own stop safe stops whole =
    let none : ends_in own ≡ 0 = sym (ap (λ (x : Ending). ends_in x.pairs) stops) ∙ budget_no_end f t run (budget_by fuel own) (replies_of own) safe in
    absurd (omega (arith, none, whole.follows.once))

-- The places that part.

-- the run stops on the pairs before a place where not the event stands that is due
pub parts_at : (f : Files) (t : ℕ) (run : Run) (fuel : ℕ) (own : List (Event × Reply)) (at : ℕ) (stop : Stop) → Safe (shown_first t) run → at ≤ length own → AllFit (take at own)
    → StopsBy f t run (budget_by fuel own) (take at own) stop → (IsRightAt f t run fuel own at → ⊥) → IsPart f t run fuel own at
parts_at f t run fuel own at stop safe within fit stops wrong = record {
  before = right_before f t run fuel own at stop within fit stops;
  here = wrong;
  broken = λ whole. elim (cases_lt at (length own)) [
    | inl less ↦ wrong (whole_right f t run fuel own whole at less)
    | inr all ↦ not_whole f t run fuel own stop safe (subst (λ (x : List (Event × Reply)). StopsBy f t run (budget_by fuel own) x stop) (take_all at own all) stops) whole
  ];
}

-- the event that is due stands there, with a reply of no kind for it: the next place parts
pub parts_behind : (f : Files) (t : ℕ) (run : Run) (fuel : ℕ) (own : List (Event × Reply)) (at : ℕ) (stop : Stop) (p : Event × Reply) → AllFit (take at own) → StopsBy f t run (budget_by fuel own) (take at own) stop
    → slice_get own at ≡ Some p → IsDue f t run fuel (budget_by fuel own) (take at own) p.0 → (Fits p.0 p.1 → ⊥) → IsPart f t run fuel own (at + 1)
parts_behind f t run fuel own at stop p fit stops there due unfit =
    let inside = slice_get_within own at p there in
    let right : IsRightAt f t run fuel own at = record { pair = p; there = there; fit = fit; due = due } in
    let never : AllFit (take (suc at) own) → ⊥ = λ all. unfit (fit_there (take (suc at) own) at p (front_there own (suc at) at p there (omega arith)) all) in
    let next : at + 1 ≡ suc at = omega arith in
    record {
      before = λ i less. elim (cases_lt i at) [
        | inl before ↦ right_before f t run fuel own at stop (omega (arith, inside)) fit stops i before
        | inr behind ↦ subst (λ (n : ℕ). IsRightAt f t run fuel own n) (omega (arith, behind, less)) right
      ];
      here = λ r. never (subst (λ (n : ℕ). AllFit (take n own)) next r.fit);
      broken = λ whole. never (fit_front own (suc at) whole.fit);
    }

-- something stands behind the End
pub parts_after_end : (f : Files) (t : ℕ) (run : Run) (fuel : ℕ) (own : List (Event × Reply)) (at : ℕ) (how : How) (outcome : Outcome) (paid : ℕ) (r : Reply) → Safe (shown_first t) run → AllFit (take at own)
    → StopsBy f t run (budget_by fuel own) (take at own) (Came how) → slice_get own at ≡ Some (e.End outcome paid, r) → budget_by fuel own ≡ budget_of fuel outcome paid → Ends fuel outcome paid how
    → at + 1 < length own → IsPart f t run fuel own (at + 1)
parts_after_end f t run fuel own at how outcome paid r safe fit stops there budget ends more =
    let right = right_end f t run fuel own at how outcome paid r fit stops there budget ends in
    let none : (ends_in (take at own) ≡ 0) = sym (ap (λ (x : Ending). ends_in x.pairs) stops) ∙ budget_no_end f t run (budget_by fuel own) (replies_of (take at own)) safe in
    let next : at + 1 ≡ suc at = omega arith in
    let front : take (at + 1) own ≡ take at own ++ (e.End outcome paid, r) ∷ [] = ap (λ (n : ℕ). take n own) next ∙ take_one_more own at (e.End outcome paid, r) there in
    let one : ends_in (take (at + 1) own) ≡ 1 = ap ends_in front ∙ (ends_more (take at own) (e.End outcome paid, r) ∙ omega (arith, none)) in
    let no_stop : (stop : Stop) → StopsBy f t run (budget_by fuel own) (take (at + 1) own) stop → ⊥ = λ stop s.
    (let zero_ends : ends_in (take (at + 1) own) ≡ 0 = sym (ap (λ (x : Ending). ends_in x.pairs) s) ∙ budget_no_end f t run (budget_by fuel own) (replies_of (take (at + 1) own)) safe in
    absurd (omega (arith, one, zero_ends))) in
    let wrong : IsRightAt f t run fuel own (at + 1) → ⊥ = λ w. elim w.due [
      | inl cut ↦ no_stop (Cut w.pair.0) cut
      | inr over ↦ no_stop (Came over.how) over.over
    ] in
    record {
      before = λ i less. elim (cases_lt i at) [
        | inl before ↦ right_before f t run fuel own at (Came how) (omega (arith, more)) fit stops i before
        | inr behind ↦ subst (λ (n : ℕ). IsRightAt f t run fuel own n) (omega (arith, behind, less)) right
      ];
      here = wrong;
      broken = λ whole. wrong (whole_right f t run fuel own whole (at + 1) more);
    }
