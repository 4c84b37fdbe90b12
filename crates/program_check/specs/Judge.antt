-- The verdict on the text of a stored trace. The rules are this project's own.
use Rattle.std.specs.Prelude.{◌≡◌, ℕ, suc, List, [], ◌∷◌, Option, Some, IfSome, Ok, Err, length}
use Rattle.tree_files.specs.Files.{Files}
use Rattle.words_rounds.specs.declared.rounds.Round.{Round}
use Rattle.machine_events.specs.declared.event.Event.{Event}
use Rattle.machine_events.specs.declared.event.Reply.{Reply}
use Rattle.machine_events.specs.declared.event.Entry.{Entry}
use Rattle.machine_events.specs.declared.event.Follow.{Follow}
use Rattle.machine_spec.specs.Legal.{IsLegal}
use Rattle.machine_shown.specs.Own.{own}
use Rattle.drive_account.specs.Following.{Answers, IsWhole}
use Rattle.import_words.specs.declared.plan.RunPlan.{RunPlan}
use Rattle.program_run.specs.Alone.{Means}
use Rattle.program_rounds.specs.Rounds.{trees_of, told_in, opening_in}
use Rattle.trace_fields.specs.declared.refusal.Cause.{Cause}
use Rattle.trace_read.specs.Reading.{trace_in}
use Rattle.trace_text.specs.Trace.{trace}
use Rattle.trace_check.specs.declared.answers.Counts.{Counts}
use Rattle.trace_check.specs.declared.answers.Replayed.{Replayed}
use Rattle.trace_check.specs.declared.answers.Verdict.{Verdict}
use Rattle.trace_check.specs.declared.answers.Verdict.TheVariants as verdicts
use Rattle.trace_check.specs.declared.answers.Why.TheVariants as cause
use Rattle.trace_check.specs.Replays.{Replays, counts_of}
use Rattle.trace_check.specs.Judge.{Judges}

-- without a rounds file there is one round, with the scripts of the plan and no edit
abbrev pub one_round : RunPlan → List Round
one_round plan = record { edits = []; scripts = plan.scripts } ∷ []

-- where what each script made parts from what its text means, with this fuel over the files of its own round; the
-- first of these scripts has the number t. Over a tree that does not tell its files the answer may be any
pub data AreFollows (means : Means) (fuel : ℕ) (made : ℕ → List (Event × Reply))
    : ℕ → List (Option Files) → List (List ℕ) → List Follow → Type 0 where
  none : (t : ℕ) → AreFollows means fuel made t [] [] []
  more : (t : ℕ) (tree : Option Files) (trees : List (Option Files)) (text : List ℕ) (texts : List (List ℕ))
      (follow : Follow) (follows : List Follow)
      → IfSome tree (λ files. Answers files t (means t text) fuel (made t) follow)
      → AreFollows means fuel made (suc t) trees texts follows
      → AreFollows means fuel made t (tree ∷ trees) (text ∷ texts) (follow ∷ follows)

-- the entries are replayed from the opening of the plan and its rounds, each script is compared with its own over the
-- files of its round, and the first fault of all decides
pub record JudgesEntries (means : Means) (tree : Option Files) (plan : RunPlan) (rounds : List Round)
    (texts : List (List ℕ)) (history : List Entry) (verdict : Verdict) : Type 0 where
  pub replayed : Replayed
  pub replays : Replays (opening_in plan rounds texts) history replayed
  pub follows : List Follow
  pub are : AreFollows means plan.fuel (λ t. own t history) 0 (told_in tree rounds) texts follows
  pub judges : Judges history replayed follows verdict

-- the verdict on a text, with the number of the entries that were judged
pub data Judge (means : Means) (tree : Option Files) (plan : RunPlan) (rounds : List Round) (texts : List (List ℕ))
    (bytes : List ℕ) (entries : ℕ) (verdict : Verdict) : Type 0 where
  -- it is no trace: no, at its first line that is none
  refused : (line : ℕ) (why : Cause) → trace_in bytes ≡ Err (line, why) → entries ≡ 0
      → verdict ≡ verdicts.No line cause.Text → Judge means tree plan rounds texts bytes entries verdict
  -- it is a trace of another format than 2: no, at the line that tells the format
  other : (format : ℕ) (history : List Entry) → trace_in bytes ≡ Ok (format, history) → (format ≡ 2 → ⊥) → entries ≡ 0
      → verdict ≡ verdicts.No 1 cause.Text → Judge means tree plan rounds texts bytes entries verdict
  -- the entries of a trace of format 2 are judged
  judged : (history : List Entry) → trace_in bytes ≡ Ok (2, history) → entries ≡ length history
      → JudgesEntries means tree plan rounds texts history verdict
      → Judge means tree plan rounds texts bytes entries verdict

-- each script makes just these entries of it over the files of its own round, and each reply is of a kind for its
-- event; the first has the number t
pub data AllWhole (means : Means) (fuel : ℕ) (history : List Entry) : ℕ → List Files → List (List ℕ) → Type 0 where
  none : (t : ℕ) → AllWhole means fuel history t [] []
  more : (t : ℕ) (files : Files) (trees : List Files) (text : List ℕ) (texts : List (List ℕ))
      → IsWhole files t (means t text) fuel (own t history) → AllWhole means fuel history (suc t) trees texts
      → AllWhole means fuel history t (files ∷ trees) (text ∷ texts)

-- the text is the trace of a history that the machine allows from the opening of the plan and its rounds, and of which
-- each script makes just its own part
pub record IsAccepted (means : Means) (files : Files) (plan : RunPlan) (rounds : List Round) (texts : List (List ℕ))
    (bytes : List ℕ) (entries : ℕ) (counts : Counts) : Type 0 where
  pub history : List Entry
  pub text : bytes ≡ trace history
  pub count : entries ≡ length history
  pub counted : counts ≡ counts_of history
  pub legal : IsLegal (opening_in plan rounds texts) history
  pub scripts : AllWhole means plan.fuel history 0 (trees_of files rounds) texts
