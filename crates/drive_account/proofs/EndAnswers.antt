-- What a recorded list that was followed answers.
use Rattle.std.proofs.Common.{◌≡◌, ◌≤◌, inl, inr, ℕ, zero, suc, ◌+◌, Bool, true, false, cond, List, [], ◌∷◌, ◌++◌, Option, Some, None, length, take, slice_get, refl, sym, ◌∙◌, ap, subst, arith}
use Rattle.std.proofs.lemmas.Bool.{cases_lt, eq-eqb, ne_eqb}
use Rattle.std.proofs.lemmas.List.{append-nil, append_cancel_left, length-map, take-map, length-take-le, take_all}
use Rattle.tree_files.specs.Files.{Files}
use Rattle.machine_events.specs.Fitting.{Fits}
use Rattle.machine_events.specs.declared.event.Event.{Event}
use Rattle.machine_events.specs.declared.event.Event.TheVariants as e
use Rattle.machine_events.specs.declared.event.Reply.{Reply}
use Rattle.machine_events.specs.declared.event.Reply.TheVariants.{Done}
use Rattle.machine_events.specs.declared.event.Outcome.{Outcome}
use Rattle.machine_events.specs.declared.event.Pair.{Pair}
use Rattle.machine_events.specs.declared.event.Follow.{Follow}
use Rattle.machine_events.specs.declared.event.Follow.TheVariants as ways
use Rattle.machine_shown.specs.Shown.{shown_first}
use Rattle.meaning_runs.specs.Follows.{Ends}
use Rattle.meaning_runs.specs.Runs.{Run, Over, Makes, Stop, Cut, Came, How, on_budget, replies_of, spend, Reaches, Safe}
use Rattle.meaning_runs.proofs.Spends.{played}
use Rattle.meaning_runs.proofs.Stand.{came, whole_of}
use Rattle.drive_account.specs.Replay.{pairs_of, AllFit, Met, IsOther}
use Rattle.drive_account.specs.Following.{budget_of, budget_by, StopsBy, IsDue, IsRightAt, IsPart, Answers, part_of, answer_behind}
use Rattle.drive_account.proofs.Parting.{parts_at, parts_behind, parts_after_end, take_one_more, some_there, budget_ends, length_more}
use Rattle.drive_account.proofs.Due.{IsOnlyDue}

-- the pairs up to a place
front : (own : List Pair) (at : ℕ) → take at (pairs_of own) ≡ pairs_of (take at own)
front own at = take-map (λ (p : Pair). (p.event, p.reply)) at own

many : (own : List Pair) → length (pairs_of own) ≡ length own
many own = length-map own (λ (p : Pair). (p.event, p.reply))

pair_there : (own : List Pair) (i : ℕ) (p : Event × Reply) → slice_get (pairs_of own) i ≡ Some p → (it : Pair) × ((slice_get own i ≡ Some it) × ((it.event, it.reply) ≡ p))
pair_there [] i p h = absurd (cc h)
pair_there (x ∷ own) zero p h = (x, (refl, cc h))
pair_there (x ∷ own) (suc i) p h = pair_there own i p h

there_pair : (own : List Pair) (i : ℕ) (it : Pair) → slice_get own i ≡ Some it → slice_get (pairs_of own) i ≡ Some (it.event, it.reply)
there_pair [] i it h = absurd (cc h)
there_pair (x ∷ own) zero it h = let same : x ≡ it = cc h in ap (λ (q : Pair). Some (q.event, q.reply)) same
there_pair (x ∷ own) (suc i) it h = there_pair own i it h

-- an event that is due is cut
pub cut_here : (f : Files) (t : ℕ) (run : Run) (budget : ℕ) (mine : List (Event × Reply)) (event : Event) (next : Reply → Run) → Reaches (Some f) (spend budget (shown_first t) run) 0 mine (Makes event next)
    → StopsBy f t run budget mine (Cut event)
cut_here f t run budget mine event next r = ap (on_budget f t run budget) (sym (append-nil (replies_of mine))) ∙ played f r []

module _ (f : Files) (t : ℕ) (run : Run) (fuel : ℕ) (own : List Pair) (at : ℕ) (safe : Safe (shown_first t) run) (met : Met own at) where
  within : at ≤ length (pairs_of own)
  within = let all = many own in let inside = met.within in omega (arith, all, inside)

  fit : AllFit (take at (pairs_of own))
  fit = subst AllFit (sym (front own at)) met.fit

  -- no event is due where the run stops
  pub answers_none : (stop : Stop) → StopsBy f t run (budget_by fuel (pairs_of own)) (pairs_of (take at own)) stop
      → ((other : Event) → IsDue f t run fuel (budget_by fuel (pairs_of own)) (pairs_of (take at own)) other → ⊥) → Answers f t run fuel (pairs_of own) (ways.Parts at)
  answers_none stop stops none =
      parts_at f t run fuel (pairs_of own) at stop safe within fit (subst (λ (x : List (Event × Reply)). StopsBy f t run (budget_by fuel (pairs_of own)) x stop) (sym (front own at)) stops)
      (λ right. none right.pair.0 (subst (λ (x : List (Event × Reply)). IsDue f t run fuel (budget_by fuel (pairs_of own)) x right.pair.0) (front own at) right.due))

  -- the one event that is due was refused
  pub answers_refused : (event : Event) (misfit : Bool) → IsOnlyDue f t run fuel (budget_by fuel (pairs_of own)) (pairs_of (take at own)) event → IsOther misfit (slice_get own at) event
      → Answers f t run fuel (pairs_of own) (ways.Parts (part_of misfit at))
  answers_refused event misfit due other = go misfit (slice_get own at) refl other
    where
      budget : ℕ
      budget = budget_by fuel (pairs_of own)

      stops : StopsBy f t run (budget_by fuel (pairs_of own)) (take at (pairs_of own)) due.stop
      stops = subst (λ (x : List (Event × Reply)). StopsBy f t run (budget_by fuel (pairs_of own)) x due.stop) (sym (front own at)) due.stops

      same : (right : IsRightAt f t run fuel (pairs_of own) at) → right.pair.0 ≡ event
      same right = due.only right.pair.0 (subst (λ (x : List (Event × Reply)). IsDue f t run fuel (budget_by fuel (pairs_of own)) x right.pair.0) (front own at) right.due)

      go : (misfit : Bool) (it : Option Pair) → slice_get own at ≡ it → IsOther misfit it event → IsPart f t run fuel (pairs_of own) (part_of misfit at)
      go false None is other =
          parts_at f t run fuel (pairs_of own) at due.stop safe within fit stops
          (λ right. (let here = pair_there own at right.pair right.there in absurd (cc (sym is ∙ here.1.0))))
      go false (Some p) is other =
          parts_at f t run fuel (pairs_of own) at due.stop safe within fit stops
          (λ right. (let here = pair_there own at right.pair right.there in
          let one : p ≡ here.0 = cc (sym is ∙ here.1.0) in
          other (ap (λ (q : Pair). q.event) one ∙ (ap (λ (q : Event × Reply). q.0) here.1.1 ∙ same right))))
      go true None is other = absurd other
      go true (Some p) is other =
          parts_behind f t run fuel (pairs_of own) at due.stop (p.event, p.reply) fit stops (there_pair own at p is)
          (subst (λ (x : List (Event × Reply)). IsDue f t run fuel (budget_by fuel (pairs_of own)) x p.event) (sym (front own at)) (subst (λ (x : Event). IsDue f t run fuel (budget_by fuel (pairs_of own)) (pairs_of (take at own)) x) (sym other.0) due.due))
          (λ fits. other.1 (subst (λ (x : Event). Fits x p.reply) other.0 fits))

  -- the End was made
  pub answers_ended : (own' : List Pair) (at' : ℕ) (how : How) (outcome : Outcome) (paid : ℕ) → own' ≡ own → Met own' at' → pairs_of (take at' own') ≡ pairs_of (take at own) ++ (e.End outcome paid, Done) ∷ []
      → Reaches (Some f) (spend (budget_by fuel (pairs_of own)) (shown_first t) run) 0 (pairs_of (take at own)) (Over how) → budget_by fuel (pairs_of own) ≡ budget_of fuel outcome paid → Ends fuel outcome paid how
      → Answers f t run fuel (pairs_of own) (answer_behind at' (length own'))
  answers_ended own' at' how outcome paid same met' made reached budget ends =
      elim (cases_lt at' (length own)) [
        | inl less ↦ subst (λ (x : Follow). Answers f t run fuel (pairs_of own) x) (sym (ap (answer_behind at') (ap length same) ∙ ap (λ (b : Bool). cond b ways.Yes (ways.Parts at')) (ne_eqb at' (length own) (λ is. omega (arith, is, less)))))
            (subst (λ (n : ℕ). Answers f t run fuel (pairs_of own) (ways.Parts n)) (sym next) (parts_after_end f t run fuel (pairs_of own) at how outcome paid Done safe fit stops there budget ends (let all = many own in omega (arith, all, next, less))))
        | inr more ↦
            let all : at' ≡ length own = omega (arith, more, inside) in
            let whole : pairs_of own ≡ pairs_of (take at own) ++ (e.End outcome paid, Done) ∷ [] = sym (ap pairs_of (ap (take at') same ∙ take_all at' own more)) ∙ made in
            subst (λ (x : Follow). Answers f t run fuel (pairs_of own) x) (sym (ap (answer_behind at') (ap length same) ∙ ap (λ (b : Bool). cond b ways.Yes (ways.Parts at')) (eq-eqb at' (length own) all)))
            (record {
              outcome = outcome;
              follows = whole_of f t paid whole refl (subst (λ (b : ℕ). Reaches (Some f) (spend b (shown_first t) run) 0 (pairs_of (take at own)) (Over how)) (budget ∙ budget_ends fuel outcome paid how ends) reached) ends safe;
              fit = subst AllFit (ap pairs_of (ap (take at') same ∙ take_all at' own more)) met'.fit;
            })
      ]
    where
      inside : at' ≤ length own
      inside = subst (λ (x : List Pair). at' ≤ length x) same met'.within

      before : length (pairs_of (take at own)) ≡ at
      before = many (take at own) ∙ length-take-le at own met.within

      after : length (pairs_of (take at' own')) ≡ at'
      after = many (take at' own') ∙ length-take-le at' own' met'.within

      next : at' ≡ at + 1
      next = sym after ∙ (ap length made ∙ (length_more (pairs_of (take at own)) (e.End outcome paid, Done) ∙ ap (λ (n : ℕ). n + 1) before))

      stops : StopsBy f t run (budget_by fuel (pairs_of own)) (take at (pairs_of own)) (Came how)
      stops = subst (λ (x : List (Event × Reply)). StopsBy f t run (budget_by fuel (pairs_of own)) x (Came how)) (sym (front own at)) (came f t run (budget_by fuel (pairs_of own)) reached)

      there : slice_get (pairs_of own) at ≡ Some (e.End outcome paid, Done)
      there =
          let here = some_there (pairs_of own) at (let all = many own in omega (arith, all, next, inside)) in
          let longer : take at (pairs_of own) ++ here.0 ∷ [] ≡ take at (pairs_of own) ++ (e.End outcome paid, Done) ∷ [] =
          sym (take_one_more (pairs_of own) at here.0 here.1) ∙ (ap (λ (n : ℕ). take n (pairs_of own)) (let up : suc at ≡ at' = omega (arith, next) in up) ∙ (front own at' ∙ (sym (ap (λ (x : List Pair). pairs_of (take at' x)) same) ∙ (made ∙ ap (λ (x : List (Event × Reply)). x ++ (e.End outcome paid, Done) ∷ []) (sym (front own at)))))) in
          let one : here.0 ∷ [] ≡ (e.End outcome paid, Done) ∷ [] = append_cancel_left (take at (pairs_of own)) _ _ longer in
          let last : here.0 ≡ (e.End outcome paid, Done) = cc one in
          here.1 ∙ ap Some last
