-- From where the driver leaves a script, over a recorded list, to where it stands in the list.
use Rattle.std.proofs.Common.{◌≡◌, ℕ, List, Bool, Option, Some, take, slice_get, subst}
use Rattle.tree_files.specs.Files.{Files}
use Rattle.machine_events.specs.declared.event.Event.{Event}
use Rattle.machine_events.specs.declared.event.Reply.{Reply}
use Rattle.machine_events.specs.declared.event.Pair.{Pair}
use Rattle.machine_events.specs.declared.event.Follow.TheVariants as ways
use Rattle.machine_shown.specs.Shown.{shown, shown_first, shown_more}
use Rattle.meaning_runs.specs.Runs.{Run, Over, Makes, Cut, How, Stands, Reaches, spend, IsSpent, GivesUp, Safe}
use Rattle.meaning_runs.proofs.Spends.{spend_reaches}
use Rattle.meaning_runs.proofs.Stand.{over_reached, spent_gives_up}
use Rattle.drive_account.specs.Replay.{pairs_of, Met, IsOther}
use Rattle.drive_account.specs.At.{IsShort}
use Rattle.drive_account.specs.Following.{budget_by, part_of, StopsBy, Answers}
use Rattle.drive_account.specs.Stages.{IsAt, IsGiving}
use Rattle.drive_account.proofs.Due.{only_cut}
use Rattle.drive_account.proofs.EndAnswers.{cut_here, answers_refused}

-- a script that stands at a payment that it cannot make gives up what it holds
short_gives_up : {files : Option Files} (t : ℕ) {whole : Run} {fuel : ℕ} {mine : List (Event × Reply)} {budget : ℕ} {of_tree : Bool} → IsShort files whole fuel mine budget of_tree → GivesUp files t whole fuel mine of_tree
short_gives_up {files} t {whole} {fuel} {mine} {budget} {of_tree} s =
    let spent : IsSpent files whole fuel mine budget = record { of_tree = of_tree; units = s.units; next = s.next; stands = s.stands; short = s.short } in
    spent_gives_up t spent

module _ (f : Files) (t : ℕ) (run : Run) (fuel budget : ℕ) (own : List Pair) (at : ℕ) (safe : Safe (shown_first t) run) (met : Met own at) (budget_is : budget ≡ budget_by fuel (pairs_of own)) (left : ℕ) where
  -- its work is done
  pub at_over : (how : How) → Stands (Some f) run budget (pairs_of (take at own)) left (Over how) → IsAt f t run fuel budget own at (Over how)
  at_over how s = record { safe = safe; met = met; budget_is = budget_is; reaches = over_reached t s }

  -- it is spent
  pub at_giving : (of_tree : Bool) → IsShort (Some f) run budget (pairs_of (take at own)) left of_tree → IsGiving f t run fuel budget own at of_tree
  at_giving of_tree s = record { safe = safe; met = met; budget_is = budget_is; reaches = short_gives_up t s }

  -- the port refused the event that is due
  pub answers_at_event : (misfit : Bool) (event : Event) (next : Reply → Run) → IsOther misfit (slice_get own at) event → Stands (Some f) run budget (pairs_of (take at own)) left (Makes event next)
      → Answers f t run fuel (pairs_of own) (ways.Parts (part_of misfit at))
  answers_at_event misfit event next other s =
      let mine : List (Event × Reply) = pairs_of (take at own) in
      let goes : Reply → Run = λ r. spend left (shown_more (shown t mine) (event, r)) (next r) in
      let reached : Reaches (Some f) (spend budget (shown_first t) run) 0 mine (Makes event goes) =
      subst (λ (b : ℕ). Reaches (Some f) (spend b (shown_first t) run) 0 mine (Makes event goes)) s.sum (spend_reaches t s.reaches left) in
      let stops : StopsBy f t run (budget_by fuel (pairs_of own)) mine (Cut event) = subst (λ (b : ℕ). StopsBy f t run b mine (Cut event)) budget_is (cut_here f t run budget mine event goes reached) in
      answers_refused f t run fuel own at safe met event misfit (only_cut f t run fuel (budget_by fuel (pairs_of own)) mine event stops) other
