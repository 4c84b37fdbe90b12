-- From where the driver leaves a script, over a recorded list, to where the list parts.
use Rattle.std.proofs.Common.{◌≡◌, ℕ, List, Bool, Option, Some, Result, IfOk, take, slice_get, sym, subst}
use Rattle.std.proofs.lemmas.Result.{IfOk-weaker}
use Rattle.tree_files.specs.Files.{Files}
use Rattle.tree_files.specs.declared.tree.TreeFault.{TreeFault}
use Rattle.machine_events.specs.declared.event.Event.{Event}
use Rattle.machine_events.specs.declared.event.Event.TheVariants as ev
use Rattle.machine_events.specs.declared.event.Reply.{Reply}
use Rattle.machine_events.specs.declared.event.Pair.{Pair}
use Rattle.machine_events.specs.declared.event.Follow.{Follow}
use Rattle.machine_events.specs.declared.event.Follow.TheVariants as ways
use Rattle.machine_shown.specs.Shown.{shown, shown_first, Running}
use Rattle.machine_shown.specs.Knowing.{IsShown}
use Rattle.meaning_runs.specs.Runs.{Run, Over, Ended, Makes, Stands, Safe}
use Rattle.meaning_runs.proofs.Stand.{safe_stands}
use Rattle.meaning_state.specs.declared.flow.Flow.{Flow}
use Rattle.meaning_script.specs.Meaning.{outcome_of}
use Rattle.drive_account.specs.Replay.{pairs_of, Met, IsOther}
use Rattle.drive_account.specs.At.{IsShort}
use Rattle.drive_account.specs.Following.{budget_by, part_of, Answers}
use Rattle.drive_account.specs.Stages.{IsAt, IsGiving}
use Rattle.drive_account.proofs.Standing.{at_over, at_giving, answers_at_event}

-- where the work is done, the End may be made
pub end_shown : {files : Option Files} (number t : ℕ) {whole : Run} {budget left : ℕ} {mine : List (Event × Reply)} (fuel : ℕ) (flow : Flow) → number ≡ t → Safe (shown_first t) whole
    → Stands files whole budget mine left (Over (Ended (outcome_of flow))) → IsShown (shown number mine) (ev.End (outcome_of flow) fuel)
end_shown number t fuel flow same safe stands = rw same (safe_stands t stands safe).1

-- a script that is spent still runs
pub still_runs : {files : Option Files} (number t : ℕ) {whole : Run} {budget left : ℕ} {mine : List (Event × Reply)} {of_tree : Bool} → number ≡ t → Safe (shown_first t) whole → IsShort files whole budget mine left of_tree
    → (shown number mine).doing ≡ Running
still_runs number t same safe short = rw same (safe_stands t short.stands safe).0

-- the port is over the list that was given, for the script of the number that was given
module _ (f : Files) (t : ℕ) (whole : Run) (fuel budget : ℕ) (own : List Pair) (safe : Safe (shown_first t) whole) (is : budget ≡ budget_by fuel (pairs_of own))
    (number : ℕ) (own' : List Pair) (at : ℕ) (number_is : number ≡ t) (own_is : own' ≡ own) (met : Met own' at) where
  safe_here : Safe (shown_first number) whole
  safe_here = subst (λ (n : ℕ). Safe (shown_first n) whole) (sym number_is) safe

  is_here : budget ≡ budget_by fuel (pairs_of own')
  is_here = subst (λ (ps : List Pair). budget ≡ budget_by fuel (pairs_of ps)) (sym own_is) is

  answers_back : (it : Result Follow TreeFault) → IfOk it (Answers f number whole fuel (pairs_of own')) → IfOk it (Answers f t whole fuel (pairs_of own))
  answers_back it answers =
      subst (λ (n : ℕ). IfOk it (Answers f n whole fuel (pairs_of own))) number_is (subst (λ (ps : List Pair). IfOk it (Answers f number whole fuel (pairs_of ps))) own_is answers)

  pub follow_came : (tree : Option Files) (flow : Flow) (left : ℕ) (it : Result Follow TreeFault) → tree ≡ Some f → Stands tree whole budget (pairs_of (take at own')) left (Over (Ended (outcome_of flow)))
      → ((files : Files) (run : Run) → IsAt files number run fuel budget own' at (Over (Ended (outcome_of flow))) → IfOk it (Answers files number run fuel (pairs_of own')))
      → IfOk it (Answers f t whole fuel (pairs_of own))
  follow_came tree flow left it told stands answers =
      let here = subst (λ (o : Option Files). Stands o whole budget (pairs_of (take at own')) left (Over (Ended (outcome_of flow)))) told stands in
      answers_back it (answers f whole (at_over f number whole fuel budget own' at safe_here met is_here left (Ended (outcome_of flow)) here))

  pub follow_out : (tree : Option Files) (of_tree : Bool) (left : ℕ) (it : Result Follow TreeFault) → tree ≡ Some f → IsShort tree whole budget (pairs_of (take at own')) left of_tree
      → ((files : Files) (run : Run) → IsGiving files number run fuel budget own' at of_tree → IfOk it (Answers files number run fuel (pairs_of own')))
      → IfOk it (Answers f t whole fuel (pairs_of own))
  follow_out tree of_tree left it told short answers =
      let here = subst (λ (o : Option Files). IsShort o whole budget (pairs_of (take at own')) left of_tree) told short in
      answers_back it (answers f whole (at_giving f number whole fuel budget own' at safe_here met is_here left of_tree here))

  pub follow_refused : (tree : Option Files) (misfit : Bool) (event : Event) (left : ℕ) (next : Reply → Run) (it : Result Follow TreeFault) → tree ≡ Some f → IsOther misfit (slice_get own' at) event
      → Stands tree whole budget (pairs_of (take at own')) left (Makes event next) → IfOk it (λ way. way ≡ ways.Parts (part_of misfit at)) → IfOk it (Answers f t whole fuel (pairs_of own))
  follow_refused tree misfit event left next it told other stands parts =
      let here = subst (λ (o : Option Files). Stands o whole budget (pairs_of (take at own')) left (Makes event next)) told stands in
      let there = answers_at_event f number whole fuel budget own' at safe_here met is_here left misfit event next other here in
      answers_back it (IfOk-weaker it _ _ (λ way same. subst (λ (w : Follow). Answers f number whole fuel (pairs_of own') w) (sym same) there) parts)
