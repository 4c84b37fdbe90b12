-- From what was played to the one history of its threads.
use Rattle.std.proofs.Common.{◌≡◌, ◌⊎◌, inl, inr, ℕ, ◌+◌, List, [], ◌∷◌, length, map, Option, Some, None, Ok, Err, refl, sym, subst, ◌∙◌, ap, arith}
use Rattle.std.proofs.lemmas.List.{length-map}
use Rattle.tree_files.specs.Files.{Files}
use Rattle.tree_files.specs.Count.{Rose}
use Rattle.machine_events.specs.declared.event.Entry.{Entry}
use Rattle.machine_events.specs.declared.event.Outcome.TheVariants as o
use Rattle.machine_spec.specs.Legal.{IsLegal}
use Rattle.machine_laws.specs.Begun.{Begun, first}
use Rattle.machine_shown.specs.Own.{own}
use Rattle.machine_shown.specs.Shown.{shown_first}
use Rattle.meaning_runs.specs.Runs.{Run, Safe}
use Rattle.meaning_runs.specs.Follows.{Follows}
use Rattle.meaning_runs.proofs.Stand.{part_given}
use Rattle.drive_account.specs.declared.end.Ending.{Ending}
use Rattle.drive_account.specs.declared.end.Ending.TheVariants as ending
use Rattle.drive_account.specs.Ending.{Broken, in_run, at_read, IsRead, outcome}
use Rattle.meaning_solo.specs.Made.{Turn}
use Rattle.meaning_solo.specs.Solo.{AreAlone, Plays, AllPlay, AllSafe, BreaksAt, AreToCome, PlayOrBreak}
use Rattle.meaning_solo.proofs.On.{solo_on}
use Rattle.drive_round.specs.Ran.{Pairs, Results, Runs}
use Rattle.drive_round.specs.Played.{AllPlayed, none, more, NoneBegan}
use Rattle.drive_round.specs.Solo.{means_of, AreTurns, HasCause, HaveCauses, HaveEnded, AreSafe, Rises, IsRun}

abbrev turn_in : Files → Run → Option ℕ → Turn
turn_in files run stop = record { files = files; run = run; stop = stop }

-- a thread that came to its end has played
record Turned (files : Files) (t : ℕ) (run : Run) (fuel : ℕ) (mine : Pairs) (old new : ℕ) : Type 0 where
  stop : Option ℕ
  cause : HasCause stop old new
  plays : Plays (turn_in files run stop) t fuel mine

turned : (files : Files) (t : ℕ) (run : Run) (fuel : ℕ) (mine : Pairs) (old new : ℕ) (it : Ending) → Follows files t run fuel mine (outcome it) → (IsRead it → Rose old new) → Turned files t run fuel mine old new
turned files t run fuel mine old new ending.Normal f r = record { stop = None; cause = tt; plays = record { outcome = o.Normal; follows = f; stops = tt } }
turned files t run fuel mine old new (ending.Raised e) f r = record { stop = None; cause = tt; plays = record { outcome = o.Raised e; follows = f; stops = tt } }
turned files t run fuel mine old new ending.Fuel f r = record { stop = None; cause = tt; plays = record { outcome = o.Fuel; follows = f; stops = tt } }
turned files t run fuel mine old new ending.Read f r = record { stop = Some f.paid; cause = r tt; plays = record { outcome = o.Read; follows = f; stops = refl } }

-- and one that wanted memory was broken off
record Stopped (files : Files) (t : ℕ) (run : Run) (fuel : ℕ) (mine : Pairs) (old new : ℕ) : Type 0 where
  stop : Option ℕ
  cause : HasCause stop old new
  breaks : BreaksAt stop (turn_in files run stop) t fuel mine

stopped : (files : Files) (t : ℕ) (run : Run) (fuel : ℕ) (mine : Pairs) (old new a b : ℕ) → (Rose a b → Rose old new) → Broken (Some files) t run fuel mine a b → Stopped files t run fuel mine old new
stopped files t run fuel mine old new a b up (in_run rest reaches) = record { stop = None; cause = tt; breaks = part_given files t run fuel reaches }
stopped files t run fuel mine old new a b up (at_read k fits rose given) = record { stop = Some k; cause = up rose; breaks = (given, fits) }

-- the turns of threads that have not begun
record Quiet (trees : List Files) (t : ℕ) (runs : Runs) (h : List Entry) (old new : ℕ) : Type 0 where
  turns : List Turn
  are : AreTurns trees t runs turns
  causes : HaveCauses turns old new
  come : AreToCome turns t h

one_more : (files : Files) (trees : List Files) (t : ℕ) (run : ℕ → Run) (runs : Runs) (stop : Option ℕ) (turns : List Turn) → AreTurns trees (t + 1) runs turns → AreTurns (files ∷ trees) t (run ∷ runs) (turn_in files (run t) stop ∷ turns)
one_more files trees t run runs stop turns are = record {
  trees_are = ap (λ (fs : List Files). files ∷ fs) are.trees_are;
  means_are = ap (λ (rs : List Run). run t ∷ rs) are.means_are;
}

module _ {T : Type 0} (told : T → Option Files) (faults lists : T → ℕ) (fuel : ℕ) (h : List Entry) (old new : ℕ) where
  heads : (a : T) (files : Files) (olds : List T) (trees : List Files) → map told (a ∷ olds) ≡ map (λ (f : Files). Some f) (files ∷ trees) → (told a ≡ Some files) × (map told olds ≡ map (λ (f : Files). Some f) trees)
  heads a files olds trees is = (cc is, cc is)

  quiet : {t : ℕ} {runs : Runs} {olds news : List T} {results : Results} (trees : List Files) → map told olds ≡ map (λ (f : Files). Some f) trees → AllPlayed told faults lists fuel h t runs olds news results → NoneBegan t h → Quiet trees t runs h old new
  quiet [] is (none t) q = record { turns = []; are = record { trees_are = refl; means_are = refl }; causes = tt; come = tt }
  quiet (files ∷ trees) is (none t) q = absurd (cc is)
  quiet [] is (more t run runs a b olds news came results ran stays later rest) q = absurd (cc is)
  quiet (files ∷ trees) is (more t run runs a b olds news came results ran stays later rest) q =
      let it = quiet {t = t + 1} trees (heads a files olds trees is).1 rest (λ u le. q u (omega (arith, le))) in
      record {
        turns = turn_in files (run t) None ∷ it.turns;
        are = one_more files trees t run runs None it.turns it.are;
        causes = (tt, it.causes);
        come = (refl, q t (omega arith), it.come);
      }

  -- the turns of threads that were played
  record From (trees : List Files) (t : ℕ) (runs : Runs) (results : Results) : Type 0 where
    turns : List Turn
    are : AreTurns trees t runs turns
    causes : HaveCauses turns old new
    each : PlayOrBreak turns t fuel h
    whole : HaveEnded results → AllPlay turns t fuel h

  from : {t : ℕ} {runs : Runs} {olds news : List T} {results : Results} (trees : List Files) → map told olds ≡ map (λ (f : Files). Some f) trees → Rises faults olds news old new → AllPlayed told faults lists fuel h t runs olds news results
      → From trees t runs results
  from [] is up (none t) = record { turns = []; are = record { trees_are = refl; means_are = refl }; causes = tt; each = tt; whole = λ w. tt }
  from (files ∷ trees) is up (none t) = absurd (cc is)
  from [] is up (more t run runs a b olds news came results ran stays later rest) = absurd (cc is)
  from (files ∷ trees) is up (more t run runs a b olds news (Ok it) results ran stays later rest) =
      let two = heads a files olds trees is in
      let here = turned files t (run t) fuel (own t h) old new it (ran.follows files two.0) (λ read. up.0 (ran.read read)) in
      let behind = from {t = t + 1} trees two.1 up.1 rest in
      record {
        turns = turn_in files (run t) here.stop ∷ behind.turns;
        are = one_more files trees t run runs here.stop behind.turns behind.are;
        causes = (here.cause, behind.causes);
        each = inl (here.plays, behind.each);
        whole = λ w. (here.plays, behind.whole w);
      }
  from (files ∷ trees) is up (more t run runs a b olds news (Err e) results ran stays later rest) =
      let two = heads a files olds trees is in
      let here = stopped files t (run t) fuel (own t h) old new (faults a) (faults b) up.0 (subst (λ (o : Option Files). Broken o t (run t) fuel (own t h) (faults a) (faults b)) two.0 ran.part) in
      let behind = quiet {t = t + 1} trees two.1 rest later in
      record {
        turns = turn_in files (run t) here.stop ∷ behind.turns;
        are = one_more files trees t run runs here.stop behind.turns behind.are;
        causes = (here.cause, behind.causes);
        each = inr (here.breaks, behind.come);
        whole = λ w. absurd w;
      }

ended_or : (results : Results) → HaveEnded results ⊎ (HaveEnded results → ⊥)
ended_or [] = inl tt
ended_or (Ok it ∷ results) = ended_or results
ended_or (Err e ∷ results) = inr (λ w. w)

many_turns : (trees : List Files) (t : ℕ) (runs : Runs) (turns : List Turn) → AreTurns trees t runs turns → length turns ≡ length trees
many_turns trees t runs turns are = sym (length-map turns (λ (turn : Turn). turn.files)) ∙ ap length are.trees_are

safe_turns : (t : ℕ) (runs : Runs) (turns : List Turn) → map (λ (turn : Turn). turn.run) turns ≡ means_of t runs → AreSafe runs → AllSafe turns t
safe_turns t runs [] is safe = tt
safe_turns t [] (turn ∷ turns) is safe = absurd (cc is)
safe_turns t (run ∷ runs) (turn ∷ turns) is safe =
    let here : turn.run ≡ run t = cc is in
    let behind : map (λ (turn : Turn). turn.run) turns ≡ means_of (t + 1) runs = cc is in
    (subst (Safe (shown_first t)) (sym here) (safe.0 t), safe_turns (t + 1) runs turns behind safe.1)

pub is_run : {T : Type 0} (told : T → Option Files) (faults lists : T → ℕ) (b : Begun) (trees : List Files) (runs : Runs) (fuel : ℕ) (h : List Entry) (olds news : List T) (results : Results) (old new : ℕ) → AreAlone (first b)
    → length trees ≡ length (first b).rounds → map told olds ≡ map (λ (f : Files). Some f) trees → AreSafe runs → IsLegal (first b) h → Rises faults olds news old new → AllPlayed told faults lists fuel h 0 runs olds news results
    → IsRun trees runs fuel (first b) h results old new
is_run told faults lists b trees runs fuel h olds news results old new alone many is safe legal up played =
    let it = from told faults lists fuel h old new trees is up played in
    let all = many_turns trees 0 runs it.turns it.are ∙ many in
    elim (ended_or results) [
      | inl w ↦ IsRun.whole it.turns it.are it.causes w (record { many = all; legal = legal; each = it.whole w })
      | inr n ↦
          let goes_on = solo_on b it.turns fuel h alone (safe_turns 0 runs it.turns it.are.means_are safe) (record { many = all; legal = legal; each = it.each }) in
          IsRun.part it.turns goes_on.0 it.are it.causes n goes_on.1
    ]
