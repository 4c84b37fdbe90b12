-- What the last events of a script answer.
use Rattle.std.proofs.Common.{◌≡◌, ◌≤◌, inl, inr, ℕ, ◌+◌, Bool, List, [], ◌∷◌, ◌++◌, Some, Result, Ok, Err, IfOk, OnErr, IsErrOf, take, length, slice_get, refl, sym, ◌∙◌, ap, subst, arith}
use Rattle.std.proofs.lemmas.List.{length-map, length-take-le, take-map, take-take}
use Rattle.tree_files.specs.Files.{Files}
use Rattle.tree_files.specs.declared.tree.TreeFault.{TreeFault}
use Rattle.machine_events.specs.declared.event.Event.{Event}
use Rattle.machine_events.specs.declared.event.Event.TheVariants as e
use Rattle.machine_events.specs.declared.event.Reply.{Reply}
use Rattle.machine_events.specs.declared.event.Reply.TheVariants.{Done}
use Rattle.machine_events.specs.declared.event.Outcome.{Outcome}
use Rattle.machine_events.specs.declared.event.Pair.{Pair}
use Rattle.machine_events.specs.declared.event.Follow.{Follow}
use Rattle.machine_events.specs.declared.event.Follow.TheVariants as ways
use Rattle.machine_shown.specs.Shown.{shown, shown_first}
use Rattle.meaning_runs.specs.Follows.{Ends}
use Rattle.meaning_runs.specs.Runs.{Run, Over, Came, Ended, Spent, spend, Reaches, GivesUp, Safe}
use Rattle.meaning_runs.proofs.Stand.{came, all_given}
use Rattle.meaning_state.specs.declared.flow.Leave.TheVariants.{Raised, Return, Break, Continue}
use Rattle.meaning_state.specs.declared.flow.Flow.{Flow}
use Rattle.meaning_state.specs.declared.flow.Flow.TheVariants.{Went, Left}
use Rattle.meaning_script.specs.Meaning.{outcome_of}
use Rattle.drive_account.specs.View.{View}
use Rattle.drive_account.specs.Replay.{pairs_of, AllFit, Met, IsOther}
use Rattle.drive_account.specs.declared.port.Halt.{Halt}
use Rattle.drive_account.specs.declared.port.Halt.TheVariants as halts
use Rattle.drive_account.specs.declared.end.Ending.{Ending}
use Rattle.drive_account.specs.Ending.{outcome, Gave, GaveAll, RefusedGiving, RefusedLast}
use Rattle.drive_account.specs.Following.{budget_of, budget_by, StopsBy, Answers, NoEnd, part_of, answer_behind}
use Rattle.drive_account.specs.Stages.{IsAt, IsGiving, Told}
use Rattle.drive_account.proofs.Parting.{budget_ends, fit_front, length_more, take_front}
use Rattle.drive_account.proofs.Due.{IsOnlyDue, OnlyEnd, only_cut, only_end, only_ended, none_due, none_ended}
use Rattle.drive_account.proofs.EndAnswers.{cut_here, answers_none, answers_refused, answers_ended}

-- the port refused the one event that was due
pub refused_at : (f : Files) (t : ℕ) (run : Run) (fuel : ℕ) (own own' : List Pair) (at' : ℕ) (misfit : Bool) (event : Event) → Safe (shown_first t) run → own' ≡ own → Met own' at'
    → IsOnlyDue f t run fuel (budget_by fuel (pairs_of own)) (pairs_of (take at' own')) event → IsOther misfit (slice_get own' at') event → Answers f t run fuel (pairs_of own) (ways.Parts (part_of misfit at'))
refused_at f t run fuel own own' at' misfit event safe same met due other =
    subst (λ (x : List Pair). IsOnlyDue f t run fuel (budget_by fuel (pairs_of x)) (pairs_of (take at' own')) event → Answers f t run fuel (pairs_of x) (ways.Parts (part_of misfit at'))) same
    (λ due'. answers_refused f t run fuel own' at' safe met event misfit due' other) due

-- an End is due that the run tells, and the port refused the one event that was due, or made the End. `mine` and `new`
-- are the pairs before and after the last events
pub told_answers : (f : Files) (t : ℕ) (run : Run) (fuel : ℕ) (own own' : List Pair) (at at' : ℕ) (misfit : Bool) (r : Result Ending Halt) (it : Result Follow TreeFault)
    → Safe (shown_first t) run → own' ≡ own → Met own' at'
    → ((ending : Ending) → r ≡ Ok ending → Answers f t run fuel (pairs_of own) (answer_behind at' (length own')))
    → (r ≡ Err halts.Refused → (event : Event) × IsOnlyDue f t run fuel (budget_by fuel (pairs_of own)) (pairs_of (take at' own')) event × IsOther misfit (slice_get own' at') event)
    → IfOk it (Told r misfit at' (length own')) → IfOk it (Answers f t run fuel (pairs_of own))
told_answers f t run fuel own own' at at' misfit r (Err fault) safe same met made refused told = tt
told_answers f t run fuel own own' at at' misfit (Ok ending) (Ok it) safe same met made refused told = subst (λ (x : Follow). Answers f t run fuel (pairs_of own) x) (sym told) (made ending refl)
told_answers f t run fuel own own' at at' misfit (Err halts.Refused) (Ok it) safe same met made refused told =
    let it' = refused refl in
    subst (λ (x : Follow). Answers f t run fuel (pairs_of own) x) (sym told) (refused_at f t run fuel own own' at' misfit it'.0 safe same met it'.1 it'.2)
told_answers f t run fuel own own' at at' misfit (Err halts.NoMemory) (Ok it) safe same met made refused told = absurd told

-- The work of the script is done.

flow_ends : (flow : Flow) (fuel : ℕ) → Ends fuel (outcome_of flow) fuel (Ended (outcome_of flow))
flow_ends (Went v) fuel = (refl, refl)
flow_ends (Left (Raised error)) fuel = (refl, refl)
flow_ends (Left (Return v)) fuel = (refl, refl)
flow_ends (Left Break) fuel = (refl, refl)
flow_ends (Left Continue) fuel = (refl, refl)

-- with the fuel as its budget
pub answers_came : (f : Files) (t : ℕ) (run : Run) (fuel budget : ℕ) (own own' : List Pair) (at at' : ℕ) (misfit : Bool) (flow : Flow) (r : Result Ending Halt) (it : Result Follow TreeFault)
    → budget ≡ fuel → IsAt f t run fuel budget own at (Over (Ended (outcome_of flow))) → own' ≡ own → (Met own at → Met own' at')
    → IfOk r (λ ending. (outcome ending ≡ outcome_of flow) × (pairs_of (take at' own') ≡ pairs_of (take at own) ++ (e.End (outcome_of flow) fuel, Done) ∷ []))
    → OnErr r (pairs_of (take at' own') ≡ pairs_of (take at own)) → (IsErrOf r halts.Refused → IsOther misfit (slice_get own' at') (e.End (outcome_of flow) fuel))
    → IfOk it (Told r misfit at' (length own')) → IfOk it (Answers f t run fuel (pairs_of own))
answers_came f t run fuel budget own own' at at' misfit flow r it full here same later ends err refused told =
    let x = outcome_of flow in
    let by : budget_by fuel (pairs_of own) ≡ fuel = sym here.budget_is ∙ full in
    let within : budget_by fuel (pairs_of own) ≡ budget_of fuel x fuel = by ∙ sym (budget_ends fuel x fuel (Ended x) (flow_ends flow fuel)) in
    let reached : Reaches (Some f) (spend (budget_by fuel (pairs_of own)) (shown_first t) run) 0 (pairs_of (take at own)) (Over (Ended x)) =
    subst (λ (b : ℕ). Reaches (Some f) (spend b (shown_first t) run) 0 (pairs_of (take at own)) (Over (Ended x))) here.budget_is here.reaches in
    let stops : StopsBy f t run (budget_by fuel (pairs_of own)) (pairs_of (take at own)) (Came (Ended x)) = came f t run (budget_by fuel (pairs_of own)) reached in
    let due : IsOnlyDue f t run fuel (budget_by fuel (pairs_of own)) (pairs_of (take at own)) (e.End x fuel) =
    only_end f t run fuel (budget_by fuel (pairs_of own)) (pairs_of (take at own)) (Ended x) x fuel stops within (flow_ends flow fuel) (subst (λ (b : ℕ). OnlyEnd fuel b (Ended x) (e.End x fuel)) (sym by) (only_ended fuel x)) in
    told_answers f t run fuel own own' at at' misfit r it here.safe same (later here.met)
    (λ ending is. answers_ended f t run fuel own at here.safe here.met own' at' (Ended x) x fuel same (later here.met)
    (subst (λ (y : Result Ending Halt). IfOk y (λ ending. (outcome ending ≡ x) × (pairs_of (take at' own') ≡ pairs_of (take at own) ++ (e.End x fuel, Done) ∷ []))) is ends).1 reached within (flow_ends flow fuel))
    (λ is. (
      e.End x fuel,
      subst (λ (m : List (Event × Reply)). IsOnlyDue f t run fuel (budget_by fuel (pairs_of own)) m (e.End x fuel))
          (sym (subst (λ (y : Result Ending Halt). OnErr y (pairs_of (take at' own') ≡ pairs_of (take at own))) is err)) due,
      refused is,
    ))
    told

-- with another one no End is due
pub answers_no_end : (f : Files) (t : ℕ) (run : Run) (fuel budget : ℕ) (own : List Pair) (at : ℕ) (flow : Flow) (it : Result Follow TreeFault) → (budget ≡ fuel → ⊥)
    → IsAt f t run fuel budget own at (Over (Ended (outcome_of flow))) → IfOk it (λ follow. follow ≡ ways.Parts at) → IfOk it (Answers f t run fuel (pairs_of own))
answers_no_end f t run fuel budget own at flow (Err fault) other here told = tt
answers_no_end f t run fuel budget own at flow (Ok it) other here told =
    let x = outcome_of flow in
    let reached : Reaches (Some f) (spend (budget_by fuel (pairs_of own)) (shown_first t) run) 0 (pairs_of (take at own)) (Over (Ended x)) =
    subst (λ (b : ℕ). Reaches (Some f) (spend b (shown_first t) run) 0 (pairs_of (take at own)) (Over (Ended x))) here.budget_is here.reaches in
    let stops : StopsBy f t run (budget_by fuel (pairs_of own)) (pairs_of (take at own)) (Came (Ended x)) = came f t run (budget_by fuel (pairs_of own)) reached in
    subst (λ (y : Follow). Answers f t run fuel (pairs_of own) y) (sym told)
    (answers_none f t run fuel own at here.safe here.met (Came (Ended x)) stops
    (none_due f t run fuel (budget_by fuel (pairs_of own)) (pairs_of (take at own)) (Ended x) stops (none_ended fuel (budget_by fuel (pairs_of own)) x (λ is. other (here.budget_is ∙ is)))))

-- What the script holds is given up.

-- the one event that was due where one of its last events was refused
last_due : {S : Type 0} (v : View S) (f : Files) (t : ℕ) (run : Run) (fuel budget : ℕ) (mine : List (Event × Reply)) (of_tree : Bool) (x : Outcome) (paid : ℕ) → GivesUp (Some f) t run budget mine of_tree → budget ≡ budget_of fuel x paid
    → Ends fuel x paid (Spent of_tree) → OnlyEnd fuel budget (Spent of_tree) (e.End x paid) → RefusedLast v t mine x paid → (event : Event) × IsOnlyDue f t run fuel budget v.mine event × v.refuses event
last_due v f t run fuel budget mine of_tree x paid up within ends one (inl giving) =
    let due = giving.due (Some f) run budget of_tree up in
    (giving.event, only_cut f t run fuel budget v.mine giving.event (cut_here f t run budget v.mine giving.event due.0 due.1), giving.refuses)
last_due v f t run fuel budget mine of_tree x paid up within ends one (inr last) =
    let stops : StopsBy f t run budget v.mine (Came (Spent of_tree)) = came f t run budget (all_given t run budget v.mine of_tree last.free (last.gave (Some f) run budget of_tree up)) in
    (e.End x paid, only_end f t run fuel budget v.mine (Spent of_tree) x paid stops within ends one, last.refuses)

-- fewer pairs are met too
met_front : (own : List Pair) (n at : ℕ) → n ≤ at → Met own at → Met own n
met_front own n at less met = record {
  within = (let inside = met.within in omega (arith, less, inside));
  fit = subst AllFit (ap pairs_of (take-take n at own less)) (subst AllFit (take-map (λ (p : Pair). (p.event, p.reply)) n (take at own)) (fit_front (pairs_of (take at own)) n met.fit));
}

-- all was given up and the End was made
out_ended : (f : Files) (t : ℕ) (run : Run) (fuel : ℕ) (own own' : List Pair) (at' : ℕ) (of_tree : Bool) (mine : List (Event × Reply)) (x : Outcome) (paid : ℕ) → Safe (shown_first t) run → own' ≡ own → Met own' at'
    → GivesUp (Some f) t run (budget_by fuel (pairs_of own)) mine of_tree → budget_by fuel (pairs_of own) ≡ budget_of fuel x paid → Ends fuel x paid (Spent of_tree) → GaveAll t mine (pairs_of (take at' own')) x paid
    → Answers f t run fuel (pairs_of own) (answer_behind at' (length own'))
out_ended f t run fuel own own' at' of_tree mine x paid safe same met' up within ends gave =
    let n = length gave.before in
    let last : Event × Reply = (e.End x paid, Done) in
    let many : length (pairs_of (take at' own')) ≡ at' = length-map (take at' own') (λ (p : Pair). (p.event, p.reply)) ∙ length-take-le at' own' met'.within in
    let next : at' ≡ n + 1 = sym many ∙ (ap length gave.whole ∙ length_more gave.before last) in
    let met : Met own n = met_front own n at' (omega (arith, next)) (subst (λ (ps : List Pair). Met ps at') same met') in
    let begins : pairs_of (take n own) ≡ gave.before =
    sym (ap pairs_of (take-take n at' own (omega (arith, next)))) ∙ (sym (take-map (λ (p : Pair). (p.event, p.reply)) n (take at' own)) ∙ (ap (take n) (ap (λ (ps : List Pair). pairs_of (take at' ps)) (sym same) ∙ gave.whole) ∙ take_front gave.before last [])) in
    let reached : Reaches (Some f) (spend (budget_by fuel (pairs_of own)) (shown_first t) run) 0 gave.before (Over (Spent of_tree)) =
    all_given t run (budget_by fuel (pairs_of own)) gave.before of_tree gave.free (gave.gave (Some f) run (budget_by fuel (pairs_of own)) of_tree up) in
    answers_ended f t run fuel own n safe met own' at' (Spent of_tree) x paid same met'
    (gave.whole ∙ ap (λ (ps : List (Event × Reply)). ps ++ last ∷ []) (sym begins))
    (subst (λ (ps : List (Event × Reply)). Reaches (Some f) (spend (budget_by fuel (pairs_of own)) (shown_first t) run) 0 ps (Over (Spent of_tree))) (sym begins) reached) within ends

-- an End is due behind that
pub answers_out : {S : Type 0} (v : View S) (f : Files) (t : ℕ) (run : Run) (fuel budget : ℕ) (own own' : List Pair) (at at' : ℕ) (misfit of_tree : Bool) (x : Outcome) (paid : ℕ) (r : Result Ending Halt) (it : Result Follow TreeFault)
    → IsGiving f t run fuel budget own at of_tree → own' ≡ own → (Met own at → Met own' at') → v.mine ≡ pairs_of (take at' own') → ((event : Event) → v.refuses event → IsOther misfit (slice_get own' at') event)
    → budget ≡ budget_of fuel x paid → Ends fuel x paid (Spent of_tree) → OnlyEnd fuel budget (Spent of_tree) (e.End x paid)
    → IfOk r (λ ending. (outcome ending ≡ x) × GaveAll t (pairs_of (take at own)) (pairs_of (take at' own')) x paid) → (IsErrOf r halts.Refused → RefusedLast v t (pairs_of (take at own)) x paid)
    → IfOk it (Told r misfit at' (length own')) → IfOk it (Answers f t run fuel (pairs_of own))
answers_out v f t run fuel budget own own' at at' misfit of_tree x paid r it here same later mine_is refuses within ends one made refused told =
    let up : GivesUp (Some f) t run (budget_by fuel (pairs_of own)) (pairs_of (take at own)) of_tree = subst (λ (b : ℕ). GivesUp (Some f) t run b (pairs_of (take at own)) of_tree) here.budget_is here.reaches in
    let within' : budget_by fuel (pairs_of own) ≡ budget_of fuel x paid = sym here.budget_is ∙ within in
    told_answers f t run fuel own own' at at' misfit r it here.safe same (later here.met)
    (λ ending is. out_ended f t run fuel own own' at' of_tree (pairs_of (take at own)) x paid here.safe same (later here.met) up within' ends
    (subst (λ (y : Result Ending Halt). IfOk y (λ ending. (outcome ending ≡ x) × GaveAll t (pairs_of (take at own)) (pairs_of (take at' own')) x paid)) is made).1)
    (λ is. (let due = last_due v f t run fuel (budget_by fuel (pairs_of own)) (pairs_of (take at own)) of_tree x paid up within' ends (subst (λ (b : ℕ). OnlyEnd fuel b (Spent of_tree) (e.End x paid)) here.budget_is one) (refused is) in
    (due.0, subst (λ (m : List (Event × Reply)). IsOnlyDue f t run fuel (budget_by fuel (pairs_of own)) m due.0) mine_is due.1, refuses due.0 due.2)))
    told

-- no End is due behind that
pub answers_nowhere : (f : Files) (t : ℕ) (run : Run) (fuel budget : ℕ) (own own' : List Pair) (at at' : ℕ) (of_tree : Bool) (it : Result Follow TreeFault) → NoEnd fuel budget (Spent of_tree) → IsGiving f t run fuel budget own at of_tree → own' ≡ own
    → (Met own at → Met own' at') → Gave t (pairs_of (take at own)) (pairs_of (take at' own')) → (shown t (pairs_of (take at' own'))).held ≡ [] → IfOk it (λ follow. follow ≡ ways.Parts at') → IfOk it (Answers f t run fuel (pairs_of own))
answers_nowhere f t run fuel budget own own' at at' of_tree (Err fault) none here same later gave free told = tt
answers_nowhere f t run fuel budget own own' at at' of_tree (Ok it) none here same later gave free told =
    let mine' = pairs_of (take at' own) in
    let up : GivesUp (Some f) t run (budget_by fuel (pairs_of own)) (pairs_of (take at own)) of_tree = subst (λ (b : ℕ). GivesUp (Some f) t run b (pairs_of (take at own)) of_tree) here.budget_is here.reaches in
    let stops' : StopsBy f t run (budget_by fuel (pairs_of own)) (pairs_of (take at' own')) (Came (Spent of_tree)) =
    came f t run (budget_by fuel (pairs_of own)) (all_given t run (budget_by fuel (pairs_of own)) (pairs_of (take at' own')) of_tree free (gave (Some f) run (budget_by fuel (pairs_of own)) of_tree up)) in
    let stops : StopsBy f t run (budget_by fuel (pairs_of own)) mine' (Came (Spent of_tree)) = subst (λ (ps : List Pair). StopsBy f t run (budget_by fuel (pairs_of own)) (pairs_of (take at' ps)) (Came (Spent of_tree))) same stops' in
    subst (λ (y : Follow). Answers f t run fuel (pairs_of own) y) (sym told)
    (answers_none f t run fuel own at' here.safe (subst (λ (ps : List Pair). Met ps at') same (later here.met)) (Came (Spent of_tree)) stops
    (none_due f t run fuel (budget_by fuel (pairs_of own)) mine' (Spent of_tree) stops (subst (λ (b : ℕ). NoEnd fuel b (Spent of_tree)) here.budget_is none)))

-- an event by which something is given up was refused
pub answers_giving : {S : Type 0} (v : View S) (f : Files) (t : ℕ) (run : Run) (fuel budget : ℕ) (own own' : List Pair) (at at' : ℕ) (misfit of_tree : Bool) (it : Result Follow TreeFault) → IsGiving f t run fuel budget own at of_tree → own' ≡ own
    → (Met own at → Met own' at') → v.mine ≡ pairs_of (take at' own') → ((event : Event) → v.refuses event → IsOther misfit (slice_get own' at') event) → RefusedGiving v t (pairs_of (take at own)) → IfOk it (λ follow. follow ≡ ways.Parts (part_of misfit at'))
    → IfOk it (Answers f t run fuel (pairs_of own))
answers_giving v f t run fuel budget own own' at at' misfit of_tree (Err fault) here same later mine_is refuses giving told = tt
answers_giving v f t run fuel budget own own' at at' misfit of_tree (Ok it) here same later mine_is refuses giving told =
    let up : GivesUp (Some f) t run (budget_by fuel (pairs_of own)) (pairs_of (take at own)) of_tree = subst (λ (b : ℕ). GivesUp (Some f) t run b (pairs_of (take at own)) of_tree) here.budget_is here.reaches in
    let due = giving.due (Some f) run (budget_by fuel (pairs_of own)) of_tree up in
    let one = only_cut f t run fuel (budget_by fuel (pairs_of own)) v.mine giving.event (cut_here f t run (budget_by fuel (pairs_of own)) v.mine giving.event due.0 due.1) in
    subst (λ (y : Follow). Answers f t run fuel (pairs_of own) y) (sym told)
    (refused_at f t run fuel own own' at' misfit giving.event here.safe same (later here.met) (subst (λ (m : List (Event × Reply)). IsOnlyDue f t run fuel (budget_by fuel (pairs_of own)) m giving.event) mine_is one) (refuses giving.event giving.refuses))
