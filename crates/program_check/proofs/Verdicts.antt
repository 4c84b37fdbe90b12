-- What verdicts on a text say.
use Rattle.std.proofs.Common.{◌≡◌, ◌↔◌, ◌<◌, ◌≤◌, ℕ, zero, suc, Bool, true, false, List, [], ◌∷◌, length, map, Option, Some, IfSome, Ok, Err, refl, sym, ap, subst, ◌∙◌, arith, inl, inr}
use Rattle.std.specs.Prelude.{slice_get}
use Rattle.std.proofs.lemmas.Bool.{cases_lt}
use Rattle.tree_files.specs.Files.{Files}
use Rattle.machine_events.specs.declared.event.Event.{Event}
use Rattle.machine_events.specs.declared.event.Reply.{Reply}
use Rattle.machine_events.specs.declared.event.Entry.{Entry}
use Rattle.machine_events.specs.declared.event.Follow.{Follow}
use Rattle.machine_events.specs.declared.event.Follow.TheVariants as ways
use Rattle.machine_spec.specs.declared.state.State.{State}
use Rattle.machine_spec.specs.Legal.{IsLegal}
use Rattle.machine_shown.specs.Own.{own}
use Rattle.meaning_runs.specs.Runs.{Run}
use Rattle.drive_account.specs.Following.{Answers, IsPart}
use Rattle.import_words.specs.declared.plan.RunPlan.{RunPlan}
use Rattle.words_rounds.specs.declared.rounds.Round.{Round}
use Rattle.program_run.specs.Alone.{Means}
use Rattle.program_rounds.specs.Rounds.{opening_in, trees_of}
use Rattle.program_rounds.proofs.Several.{told_some}
use Rattle.trace_check.specs.declared.answers.Counts.{Counts}
use Rattle.trace_check.specs.declared.answers.Replayed.{Replayed}
use Rattle.trace_check.specs.declared.answers.Replayed.TheVariants as replays
use Rattle.trace_check.specs.declared.answers.Verdict.{Verdict}
use Rattle.trace_check.specs.declared.answers.Verdict.TheVariants as verdicts
use Rattle.trace_check.specs.declared.answers.Why.TheVariants as cause
use Rattle.trace_fields.specs.declared.refusal.Cause.{Cause}
use Rattle.trace_check.specs.Replays.{Replays, counts_of}
use Rattle.trace_check.specs.Judge.{Judges, AllFollow}
use Rattle.trace_text.specs.Trace.{trace}
use Rattle.trace_read.specs.Reading.{trace_in, format_of}
use Rattle.trace_read.specs.Fitting.{entries_fit, entries_bytes}
use Rattle.trace_read.specs.Text.{text_of}
use Rattle.trace_read.proofs.Lines.{trace_again, trace_told}
use Rattle.program_check.specs.Judge.{AreFollows, AllWhole, JudgesEntries, Judge, IsAccepted}

-- a list parts from a run at one place
part_one : {files : Files} {t : ℕ} {run : Run} {fuel : ℕ} {mine : List (Event × Reply)} (at at' : ℕ) → IsPart files t run fuel mine at → IsPart files t run fuel mine at' → at ≡ at'
part_one at at' a b = elim (cases_lt at at') [
  | inl less ↦ absurd (a.here (b.before at less))
  | inr most ↦ elim (cases_lt at' at) [
    | inl less ↦ absurd (b.here (a.before at' less))
    | inr least ↦ omega (arith, most, least)
  ]
]

answer_one : (files : Files) (t : ℕ) (run : Run) (fuel : ℕ) (mine : List (Event × Reply)) (f g : Follow) → Answers files t run fuel mine f → Answers files t run fuel mine g → f ≡ g
answer_one files t run fuel mine ways.Yes ways.Yes a b = refl
answer_one files t run fuel mine ways.Yes (ways.Parts at) a b = absurd (b.broken a)
answer_one files t run fuel mine (ways.Parts at) ways.Yes a b = absurd (a.broken b)
answer_one files t run fuel mine (ways.Parts at) (ways.Parts at') a b = ap ways.Parts (part_one at at' a b)

yes_whole : (files : Files) (t : ℕ) (run : Run) (fuel : ℕ) (mine : List (Event × Reply)) (f : Follow) → Answers files t run fuel mine f → Answers files t run fuel mine ways.Yes → f ≡ ways.Yes
yes_whole files t run fuel mine f a whole = answer_one files t run fuel mine f ways.Yes a whole

-- one that follows, before others that do
follow_cons : (g : Follow) (gs : List Follow) → g ≡ ways.Yes → AllFollow gs → (u : ℕ) (f : Follow) → slice_get (g ∷ gs) u ≡ Some f → f ≡ ways.Yes
follow_cons g gs here rest zero f there = let first : Some g ≡ Some f = there in let same : g ≡ f = cc first in sym same ∙ here
follow_cons g gs here rest (suc u) f there = rest u f there

abbrev Tells : List Files → List (Option Files) → Type 0
Tells trees told = told ≡ map (λ (f : Files). Some f) trees

module _ (means : Means) (fuel : ℕ) (history : List Entry) where
  -- each script has one answer where its tree tells its files
  answers_one : {t : ℕ} {told : List (Option Files)} {texts : List (List ℕ)} {fs gs : List Follow} (trees : List Files) → Tells trees told → AreFollows means fuel (λ u. own u history) t told texts fs → AreFollows means fuel (λ u. own u history) t told texts gs → fs ≡ gs
  answers_one trees is (AreFollows.none t) (AreFollows.none _) = refl
  answers_one [] is (AreFollows.more t x told text texts f fs a rest) (AreFollows.more _ _ _ _ _ g gs b bs) = absurd (cc is)
  answers_one (files ∷ trees) is (AreFollows.more t x told text texts f fs a rest) (AreFollows.more _ _ _ _ _ g gs b bs) =
      let here : x ≡ Some files = cc is in
      let behind : Tells trees told = cc is in
      let one : f ≡ g = answer_one files t (means t text) fuel (own t history) f g (subst (λ (o : Option Files). IfSome o (λ fls. Answers fls t (means t text) fuel (own t history) f)) here a)
      (subst (λ (o : Option Files). IfSome o (λ fls. Answers fls t (means t text) fuel (own t history) g)) here b) in
      ap (λ (y : Follow). y ∷ fs) one ∙ ap (λ (ys : List Follow). g ∷ ys) (answers_one {t = suc t} trees behind rest bs)

  -- each script follows where each list is all that its script makes
  all_whole : {t : ℕ} {told : List (Option Files)} {texts : List (List ℕ)} {fs : List Follow} (trees : List Files) → Tells trees told → AreFollows means fuel (λ u. own u history) t told texts fs → AllFollow fs → AllWhole means fuel history t trees texts
  all_whole [] is (AreFollows.none t) all = AllWhole.none t
  all_whole (files ∷ trees) is (AreFollows.none t) all = absurd (cc is)
  all_whole [] is (AreFollows.more t x told text texts f fs a rest) all = absurd (cc is)
  all_whole (files ∷ trees) is (AreFollows.more t x told text texts f fs a rest) all =
      let here : x ≡ Some files = cc is in
      let behind : Tells trees told = cc is in
      let answer : Answers files t (means t text) fuel (own t history) f = subst (λ (o : Option Files). IfSome o (λ fls. Answers fls t (means t text) fuel (own t history) f)) here a in
      AllWhole.more t files trees text texts (subst (λ (y : Follow). Answers files t (means t text) fuel (own t history) y) (all 0 f refl) answer)
      (all_whole {t = suc t} trees behind rest (λ u g there. all (suc u) g there))

  all_follow : {t : ℕ} {told : List (Option Files)} {texts : List (List ℕ)} {fs : List Follow} {trees : List Files} → Tells trees told → AreFollows means fuel (λ u. own u history) t told texts fs → AllWhole means fuel history t trees texts → AllFollow fs
  all_follow is (AreFollows.none t) whole = λ u f there. absurd (cc there)
  all_follow is (AreFollows.more t x told text texts f fs a rest) (AllWhole.more _ files trees _ _ w ws) =
      let here : x ≡ Some files = cc is in
      let behind : Tells trees told = cc is in
      let answer : Answers files t (means t text) fuel (own t history) f = subst (λ (o : Option Files). IfSome o (λ fls. Answers fls t (means t text) fuel (own t history) f)) here a in
      follow_cons f fs (yes_whole files t (means t text) fuel (own t history) f answer w) (all_follow {t = suc t} behind rest ws)

-- what the laws of the checker say
abbrev pub YesThere : Type 0
YesThere = (s : State) (h : List Entry) (a : Replayed) (follows : List Follow) (v : Verdict) → Replays s h a → Judges h a follows v → ((v ≡ verdicts.Yes (counts_of h)) ↔ (IsLegal s h × AllFollow follows))

abbrev pub OneReplay : Type 0
OneReplay = (s : State) (h : List Entry) (a b : Replayed) → Replays s h a → Replays s h b → a ≡ b

abbrev pub OneVerdict : Type 0
OneVerdict = (h : List Entry) (a : Replayed) (follows : List Follow) (v w : Verdict) → Judges h a follows v → Judges h a follows w → v ≡ w

-- the verdict on entries
entries_yes : YesThere → (means : Means) (files : Files) (plan : RunPlan) (rounds : List Round) (texts : List (List ℕ)) (history : List Entry) (v : Verdict) → JudgesEntries means (Some files) plan rounds texts history v
    → ((v ≡ verdicts.Yes (counts_of history)) ↔ (IsLegal (opening_in plan rounds texts) history × AllWhole means plan.fuel history 0 (trees_of files rounds) texts))
entries_yes yes_there means files plan rounds texts history v j =
    let both = yes_there (opening_in plan rounds texts) history j.replayed j.follows v j.replays j.judges in (
      λ is. let said = both.0 is in (said.0, all_whole means plan.fuel history (trees_of files rounds) (told_some files rounds) j.are said.1),
      λ right. both.1 (right.0, all_follow means plan.fuel history (told_some files rounds) j.are right.1),
    )

entries_one : OneReplay → OneVerdict → (means : Means) (files : Files) (plan : RunPlan) (rounds : List Round) (texts : List (List ℕ)) (history : List Entry) (v w : Verdict) → JudgesEntries means (Some files) plan rounds texts history v
    → JudgesEntries means (Some files) plan rounds texts history w → v ≡ w
entries_one one_replay one_verdict means files plan rounds texts history v w a b =
    let replayed : b.replayed ≡ a.replayed = one_replay (opening_in plan rounds texts) history b.replayed a.replayed b.replays a.replays in
    let follows : b.follows ≡ a.follows = answers_one means plan.fuel history (trees_of files rounds) (told_some files rounds) b.are a.are in
    one_verdict history a.replayed a.follows v w a.judges
    (subst (λ (r : Replayed). Judges history r a.follows w) replayed (subst (λ (fs : List Follow). Judges history b.replayed fs w) follows b.judges))

-- a text is read in one way
one_read : (bytes : List ℕ) (a b : ℕ × List Entry) → trace_in bytes ≡ Ok a → trace_in bytes ≡ Ok b → a ≡ b
one_read bytes a b x y = cc (x, y)

one_refusal : (bytes : List ℕ) (a b : ℕ × Cause) → trace_in bytes ≡ Err a → trace_in bytes ≡ Err b → a ≡ b
one_refusal bytes a b x y = cc (x, y)

not_both : (bytes : List ℕ) (a : ℕ × List Entry) (b : ℕ × Cause) → trace_in bytes ≡ Ok a → trace_in bytes ≡ Err b → ⊥
not_both bytes a b x y = cc (x, y)

one_format : (bytes : List ℕ) (m n : ℕ) (g h : List Entry) → trace_in bytes ≡ Ok (m, g) → trace_in bytes ≡ Ok (n, h) → m ≡ n
one_format bytes m n g h x y = ap (λ (t : ℕ × List Entry). t.0) (one_read bytes (m, g) (n, h) x y)

one_history : (bytes : List ℕ) (m n : ℕ) (g h : List Entry) → trace_in bytes ≡ Ok (m, g) → trace_in bytes ≡ Ok (n, h) → g ≡ h
one_history bytes m n g h x y = ap (λ (t : ℕ × List Entry). t.1) (one_read bytes (m, g) (n, h) x y)

one_line : (bytes : List ℕ) (m n : ℕ) (g h : Cause) → trace_in bytes ≡ Err (m, g) → trace_in bytes ≡ Err (n, h) → m ≡ n
one_line bytes m n g h x y = ap (λ (t : ℕ × Cause). t.0) (one_refusal bytes (m, g) (n, h) x y)

-- the verdict on a text that is read as a history in format 2
read_yes : YesThere → (means : Means) (files : Files) (plan : RunPlan) (rounds : List Round) (texts : List (List ℕ)) (bytes : List ℕ) (history : List Entry) (entries : ℕ) (v : Verdict) → trace_in bytes ≡ Ok (2, history)
    → Judge means (Some files) plan rounds texts bytes entries v
    → ((v ≡ verdicts.Yes (counts_of history)) ↔ (IsLegal (opening_in plan rounds texts) history × AllWhole means plan.fuel history 0 (trees_of files rounds) texts))
read_yes law means files plan rounds texts bytes history entries v is (Judge.refused line why read n said) = absurd (not_both bytes _ _ is read)
read_yes law means files plan rounds texts bytes history entries v is (Judge.other format h read apart n said) = absurd (apart (one_format bytes format 2 h history read is))
read_yes law means files plan rounds texts bytes history entries v is (Judge.judged h read n j) =
    entries_yes law means files plan rounds texts history v (subst (λ (x : List Entry). JudgesEntries means (Some files) plan rounds texts x v) (one_history bytes 2 2 h history read is) j)

-- the verdict on the trace of a history
pub text_yes : YesThere → (means : Means) (files : Files) (plan : RunPlan) (rounds : List Round) (texts : List (List ℕ)) (bytes : List ℕ) (history : List Entry) (entries : ℕ) (v : Verdict) → entries_fit false history ≡ true
    → entries_bytes history ≡ true → bytes ≡ trace history → Judge means (Some files) plan rounds texts bytes entries v
    → ((v ≡ verdicts.Yes (counts_of history)) ↔ (IsLegal (opening_in plan rounds texts) history × AllWhole means plan.fuel history 0 (trees_of files rounds) texts))
text_yes law means files plan rounds texts bytes history entries v fit are is judge =
    read_yes law means files plan rounds texts bytes history entries v (ap trace_in is ∙ trace_again false history fit are) judge

-- a text that is read in format 2 is the trace of what is read
trace_by : (bytes : List ℕ) (history : List Entry) (old : Bool) → 2 ≡ format_of old → bytes ≡ text_of old history → bytes ≡ trace history
trace_by bytes history true format text = absurd (cc format)
trace_by bytes history false format text = text

pub text_says : YesThere → (means : Means) (files : Files) (plan : RunPlan) (rounds : List Round) (texts : List (List ℕ)) (bytes : List ℕ) (entries : ℕ) (counts : Counts) → Judge means (Some files) plan rounds texts bytes entries (verdicts.Yes counts)
    → IsAccepted means files plan rounds texts bytes entries counts
text_says law means files plan rounds texts bytes entries counts (Judge.refused line why read n said) = absurd (cc said)
text_says law means files plan rounds texts bytes entries counts (Judge.other format h read apart n said) = absurd (cc said)
text_says law means files plan rounds texts bytes entries counts (Judge.judged h read n j) =
    let spelled = trace_told bytes (2, h) read in
    let legal : Replays (opening_in plan rounds texts) h (replays.Legal counts) = subst (λ (a : Replayed). Replays (opening_in plan rounds texts) h a) j.judges.0 j.replays in
    let said = (entries_yes law means files plan rounds texts h (verdicts.Yes counts) j).0 (ap (λ (c : Counts). verdicts.Yes c) legal.1) in
    record {
      history = h;
      text = trace_by bytes h spelled.old spelled.format spelled.text;
      count = n;
      counted = legal.1;
      legal = said.0;
      scripts = said.1;
    }

-- a text has one verdict
pub text_one : OneReplay → OneVerdict → (means : Means) (files : Files) (plan : RunPlan) (rounds : List Round) (texts : List (List ℕ)) (bytes : List ℕ) (m n : ℕ) (v w : Verdict) → Judge means (Some files) plan rounds texts bytes m v
    → Judge means (Some files) plan rounds texts bytes n w → (m ≡ n) × (v ≡ w)
text_one replay verdict means files plan rounds texts bytes m n v w (Judge.refused l why a p x) (Judge.refused l' why' b q y) =
    (p ∙ sym q, x ∙ (ap (λ (i : ℕ). verdicts.No i cause.Text) (one_line bytes l l' why why' a b) ∙ sym y))
text_one replay verdict means files plan rounds texts bytes m n v w (Judge.refused l why a p x) (Judge.other f' h' b apart q y) = absurd (not_both bytes _ _ b a)
text_one replay verdict means files plan rounds texts bytes m n v w (Judge.refused l why a p x) (Judge.judged h' b q y) = absurd (not_both bytes _ _ b a)
text_one replay verdict means files plan rounds texts bytes m n v w (Judge.other f h a apart p x) (Judge.refused l' why' b q y) = absurd (not_both bytes _ _ a b)
text_one replay verdict means files plan rounds texts bytes m n v w (Judge.other f h a apart p x) (Judge.other f' h' b apart' q y) = (p ∙ sym q, x ∙ sym y)
text_one replay verdict means files plan rounds texts bytes m n v w (Judge.other f h a apart p x) (Judge.judged h' b q y) = absurd (apart (one_format bytes f 2 h h' a b))
text_one replay verdict means files plan rounds texts bytes m n v w (Judge.judged h a p x) (Judge.refused l' why' b q y) = absurd (not_both bytes _ _ a b)
text_one replay verdict means files plan rounds texts bytes m n v w (Judge.judged h a p x) (Judge.other f' h' b apart' q y) = absurd (apart' (one_format bytes f' 2 h' h b a))
text_one replay verdict means files plan rounds texts bytes m n v w (Judge.judged h a p x) (Judge.judged h' b q y) =
    let same : h' ≡ h = one_history bytes 2 2 h' h b a in
    (p ∙ (ap (λ (l : List Entry). length l) (sym same) ∙ sym q), entries_one replay verdict means files plan rounds texts h v w x (subst (λ (l : List Entry). JudgesEntries means (Some files) plan rounds texts l w) same y))
