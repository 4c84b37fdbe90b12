-- Safe runs have a history.
use Rattle.std.proofs.Common.{◌≡◌, ◌≢◌, ◌<◌, ◌≤◌, ℕ, ◌+◌, Bool, true, false, List, [], ◌∷◌, ◌++◌, length, Option, Some, None, refl, sym, ◌∙◌, ap, subst, arith}
use Rattle.std.proofs.lemmas.List.{append-nil, append_assoc}
use Rattle.tree_files.specs.Files.{Files}
use Rattle.machine_events.specs.declared.event.Event.{Event}
use Rattle.machine_events.specs.declared.event.Event.TheVariants as e
use Rattle.machine_events.specs.declared.event.Event.TheVariants.{End}
use Rattle.machine_events.specs.declared.event.Reply.{Reply}
use Rattle.machine_events.specs.declared.event.Reply.TheVariants.{Done}
use Rattle.machine_events.specs.declared.event.Outcome.{Outcome}
use Rattle.machine_events.specs.declared.event.Outcome.TheVariants as o
use Rattle.machine_events.specs.declared.event.Entry.{Entry}
use Rattle.machine_spec.specs.declared.state.State.{State}
use Rattle.machine_spec.specs.Legal.{Allowed, replay, IsLegal}
use Rattle.machine_laws.specs.Begun.{Begun, first}
use Rattle.machine_shown.specs.Own.{own}
use Rattle.machine_shown.specs.Shown.{Shown, Doing, Running, Waiting, shown, shown_first, shown_more}
use Rattle.machine_shown.specs.Knowing.{IsShown, Knows}
use Rattle.machine_allows.proofs.Law.{knows_allowed}
use Rattle.machine_allows.proofs.Lone.{lone_waits_not}
use Rattle.meaning_runs.specs.Runs.{Run, Over, Pays, Looks, Makes, How, Ended, Spent, Came, told, spend, play, replies_of, Safe, MayMake, IsLast}
use Rattle.meaning_runs.specs.Lists.{ends_in}
use Rattle.meaning_runs.specs.Follows.{Ends}
use Rattle.meaning_runs.proofs.Spends.{safe_looked, shown-snoc}
use Rattle.meaning_runs.proofs.Giving.{safe_spend}
use Rattle.meaning_runs.proofs.Once.{no_end_made, once_at_end}
use Rattle.meaning_solo.specs.Made.{Turn, reply_of, state_after, pairs_from, how_from, budget_by, outcome_by, run_of, how_of, turn_pairs, turn_entries, entries_of, history_of, CanStopAt, CanStop, HaveNoStops}
use Rattle.meaning_solo.specs.Solo.{AreAlone, IsSolo, Plays, AllPlay, AllSafe, StopsBy}
use Rattle.meaning_solo.proofs.Parts.{own_append, own_entries, own_others, replay_append, legal_append}
use Rattle.meaning_solo.proofs.Turns.{At, now, at_start, at_entry, ready, lone}
use Rattle.meaning_solo.proofs.One.{at_after, own_behind, all_same}

-- What the machine makes of a run is that run on its replies.
made : (t : ℕ) (f : Files) (run : Run) (s : State) (p : List (Event × Reply)) → play f run p (replies_of (pairs_from t f s run)) ≡ record { pairs = p ++ pairs_from t f s run; stop = Came (how_from t f s run); left = [] }
made t f (Over how) s p = ap (λ (w : List (Event × Reply)). record { pairs = w; stop = Came how; left = [] }) (sym (append-nil p))
made t f (Pays of_tree n next) s p = made t f next s p
made t f (Looks q next) s p = made t f (next (told f q)) s p
made t f (Makes event next) s p =
    let r : Reply = reply_of t s event in
    made t f (next r) (state_after t s event) (p ++ (event, r) ∷ [])
    ∙ ap (λ (w : List (Event × Reply)). record { pairs = w; stop = Came (how_from t f (state_after t s event) (next r)); left = [] }) (append_assoc p ((event, r) ∷ []) (pairs_from t f (state_after t s event) (next r)))

-- What the machine makes of a safe run is legal.

-- an event that may be made by who does not wait is shown to be allowed
no_waking : (s : Shown) (event : Event) → (s.doing ≡ Waiting → ⊥) → MayMake s event → IsShown s event
no_waking s e.Wake idle may = absurd (idle may)
no_waking s (e.Ask n) idle may = may
no_waking s (e.Take n) idle may = may
no_waking s (e.Add spec text) idle may = may
no_waking s (e.Finish load good) idle may = may
no_waking s (e.Release n) idle may = may
no_waking s (e.GetVar mid x raw) idle may = may
no_waking s (e.SetVar raw mid x v) idle may = may
no_waking s (e.DelVar mid x raw) idle may = may
no_waking s (e.Names mid) idle may = may
no_waking s (e.Source load) idle may = may
no_waking s (e.Print text) idle may = may
no_waking s e.PathGet idle may = may
no_waking s (e.PathAdd at v) idle may = may
no_waking s (e.DirGet dir part) idle may = may
no_waking s (e.DirSet dir listing) idle may = may
no_waking s e.Invalidate idle may = may
no_waking s (e.NsGet mid) idle may = may
no_waking s (e.NsSet mid state) idle may = may
no_waking s (e.TabGet n) idle may = may
no_waking s (e.TabSet n slot) idle may = may
no_waking s (e.TabDel n) idle may = may
no_waking s (e.ReloadBegin mid raw) idle may = may
no_waking s (e.ReloadTake mid spec text) idle may = may
no_waking s (e.ReloadEnd mid load) idle may = may
no_waking s (e.AddLazy spec text) idle may = may
no_waking s (e.Rouse mid) idle may = may
no_waking s (e.Main spec text) idle may = may
no_waking s (e.End outcome spent) idle may = may

module _ (b : Begun) (alone : AreAlone (first b)) (t : ℕ) (some : t < length (first b).rounds) where
  may_be : (pre : List Entry) (mine : List (Event × Reply)) (event : Event) → At b pre t mine → IsShown (shown t mine) event → Allowed (now b pre) t event
  may_be pre mine event at knows = knows_allowed b pre at.legal t event (ready b alone pre t mine at some) (subst (λ (ps : List (Event × Reply)). IsShown (shown t ps) event) (sym at.own_is) knows)

  idle : (pre : List Entry) (mine : List (Event × Reply)) → At b pre t mine → (shown t mine).doing ≡ Waiting → ⊥
  idle pre mine at waits = lone_waits_not b pre at.legal t (lone b alone pre t mine at some) (subst (λ (ps : List (Event × Reply)). (shown t ps).doing ≡ Waiting) (sym at.own_is) waits)

  legal_made : (f : Files) (run : Run) (pre : List Entry) (mine : List (Event × Reply)) (outcome : Outcome) (paid : ℕ) → At b pre t mine → Safe (shown t mine) run
      → IsLegal (now b pre) (entries_of t (pairs_from t f (now b pre) run ++ (End outcome paid, Done) ∷ []))
  legal_made f (Over how) pre mine outcome paid at safe = (may_be pre mine (End outcome paid) at safe.1, refl, tt)
  legal_made f (Pays of_tree n next) pre mine outcome paid at safe = legal_made f next pre mine outcome paid at safe.1
  legal_made f (Looks q next) pre mine outcome paid at safe = legal_made f (next (told f q)) pre mine outcome paid at (safe_looked (shown t mine) q (told f q) next safe)
  legal_made f (Makes event next) pre mine outcome paid at safe =
      let s : State = now b pre in
      let r : Reply = reply_of t s event in
      let may = may_be pre mine event at (no_waking (shown t mine) event (idle pre mine at) safe.0) in
      let e : Entry = record { thread = t; event = event; reply = r } in
      let more = legal_made f (next r) (pre ++ e ∷ []) (mine ++ (event, r) ∷ []) outcome paid (at_entry b pre t mine e at refl may refl)
      (subst (λ (k : Shown). Safe k (next r)) (sym (shown-snoc t mine (event, r))) (safe.1 r)) in
      (may, refl, subst (λ (x : State). IsLegal x (entries_of t (pairs_from t f x (next r) ++ (End outcome paid, Done) ∷ []))) (replay_append (first b) pre (e ∷ [])) more)

-- a safe run makes no End of its own
none_from : (t : ℕ) (f : Files) (run : Run) (s : State) (k : Shown) → Safe k run → ends_in (pairs_from t f s run) ≡ 0
none_from t f (Over how) s k safe = refl
none_from t f (Pays of_tree n next) s k safe = none_from t f next s k safe.1
none_from t f (Looks q next) s k safe = none_from t f (next (told f q)) s k (safe_looked k q (told f q) next safe)
none_from t f (Makes event next) s k safe =
    let here = no_end_made event next k safe in
    let later = none_from t f (next (reply_of t s event)) (state_after t s event) (shown_more k (event, reply_of t s event)) (safe.1 (reply_of t s event)) in
    omega (arith, here, later)

last_from : (t : ℕ) (f : Files) (run : Run) (s : State) (k : Shown) → Safe k run → IsLast (how_from t f s run)
last_from t f (Over how) s k safe = safe.0
last_from t f (Pays of_tree n next) s k safe = last_from t f next s k safe.1
last_from t f (Looks q next) s k safe = last_from t f (next (told f q)) s k (safe_looked k q (told f q) next safe)
last_from t f (Makes event next) s k safe = last_from t f (next (reply_of t s event)) (state_after t s event) (shown_more k (event, reply_of t s event)) (safe.1 (reply_of t s event))

ends_by : (fuel : ℕ) (stop : Option ℕ) (how : How) → IsLast how → CanStopAt stop fuel how → Ends fuel (outcome_by stop how) (budget_by stop fuel) how
ends_by fuel (Some n) how l can = can
ends_by fuel None (Ended o.Normal) l can = (refl, refl)
ends_by fuel None (Ended (o.Raised v)) l can = (refl, refl)
ends_by fuel None (Ended o.Fuel) l can = absurd l
ends_by fuel None (Ended o.Read) l can = absurd l
ends_by fuel None (Spent of_tree) l can = ((of_tree, refl), refl)

stops_by : (fuel : ℕ) (stop : Option ℕ) (how : How) → IsLast how → StopsBy stop (outcome_by stop how) (budget_by stop fuel)
stops_by fuel (Some n) how l = refl
stops_by fuel None (Ended o.Normal) l = tt
stops_by fuel None (Ended (o.Raised v)) l = tt
stops_by fuel None (Ended o.Fuel) l = absurd l
stops_by fuel None (Ended o.Read) l = absurd l
stops_by fuel None (Spent of_tree) l = tt

-- a script plays what the machine makes of its run
plays_made : (s : State) (turn : Turn) (t fuel : ℕ) → Safe (shown_first t) turn.run → CanStopAt turn.stop fuel (how_of s turn t fuel) → Plays turn t fuel (turn_pairs s turn t fuel)
plays_made s turn t fuel safe can =
    let ps : List (Event × Reply) = pairs_from t turn.files s (run_of turn t fuel) in
    let all : Safe (shown_first t) (run_of turn t fuel) = safe_spend turn.run (budget_by turn.stop fuel) (shown_first t) safe in
    let last : IsLast (how_of s turn t fuel) = last_from t turn.files (run_of turn t fuel) s (shown_first t) all in
    let outcome : Outcome = outcome_by turn.stop (how_of s turn t fuel) in
    record {
      outcome = outcome;
      follows = record {
        before = ps;
        paid = budget_by turn.stop fuel;
        how = how_of s turn t fuel;
        whole = refl;
        once = once_at_end ps outcome (budget_by turn.stop fuel) Done (none_from t turn.files (run_of turn t fuel) s (shown_first t) all);
        eval = made t turn.files (run_of turn t fuel) s [];
        ends = ends_by fuel turn.stop (how_of s turn t fuel) last can;
      };
      stops = stops_by fuel turn.stop (how_of s turn t fuel) last;
    }

-- an earlier script has nothing of a later history
own_before : (turns : List Turn) (t u fuel : ℕ) (s : State) → u < t → own u (history_of s turns t fuel) ≡ []
own_before [] t u fuel s less = refl
own_before (turn ∷ turns) t u fuel s less =
    own_append u (turn_entries s turn t fuel) (history_of (replay s (turn_entries s turn t fuel)) turns (t + 1) fuel)
    ∙ (ap (λ w. w ++ own u (history_of (replay s (turn_entries s turn t fuel)) turns (t + 1) fuel)) (own_others u t (turn_pairs s turn t fuel) (λ same. omega (arith, less, same)))
    ∙ own_before turns (t + 1) u fuel (replay s (turn_entries s turn t fuel)) (omega (arith, less)))

pub legal_turn : (b : Begun) → AreAlone (first b) → (turn : Turn) (t fuel : ℕ) (pre : List Entry) → t < length (first b).rounds → At b pre t [] → Safe (shown_first t) turn.run → IsLegal (now b pre) (turn_entries (now b pre) turn t fuel)
legal_turn b alone turn t fuel pre some at safe =
    legal_made b alone t some turn.files (run_of turn t fuel) pre [] (outcome_by turn.stop (how_of (now b pre) turn t fuel)) (budget_by turn.stop fuel) at (safe_spend turn.run (budget_by turn.stop fuel) (shown_first t) safe)

there_from : (b : Begun) → AreAlone (first b) → (turns : List Turn) (t fuel : ℕ) (pre : List Entry) → At b pre t [] → AllSafe turns t → CanStop (now b pre) turns t fuel → t + length turns ≡ length (first b).rounds
    → IsLegal (now b pre) (history_of (now b pre) turns t fuel) × AllPlay turns t fuel (history_of (now b pre) turns t fuel)
there_from b alone [] t fuel pre at safe can many = (tt, tt)
there_from b alone (turn ∷ turns) t fuel pre at safe can many =
    let s : State = now b pre in
    let here : List Entry = turn_entries s turn t fuel in
    let legal : IsLegal s here = legal_turn b alone turn t fuel pre (omega (arith, many)) at safe.0 in
    let after : now b (pre ++ here) ≡ replay s here = replay_append (first b) pre here in
    let later = subst (λ (x : State). IsLegal x (history_of x turns (t + 1) fuel) × AllPlay turns (t + 1) fuel (history_of x turns (t + 1) fuel)) after
    (there_from b alone turns (t + 1) fuel (pre ++ here) (at_after b turn t fuel pre at legal) safe.1 (subst (λ (x : State). CanStop x turns (t + 1) fuel) (sym after) can.1) (omega (arith, many))) in
    let rest : List Entry = history_of (replay s here) turns (t + 1) fuel in
    let own_is : own t (here ++ rest) ≡ turn_pairs s turn t fuel =
    own_append t here rest ∙ (ap (λ w. w ++ own t rest) (own_entries t (turn_pairs s turn t fuel)) ∙ (ap (λ w. turn_pairs s turn t fuel ++ w) (own_before turns (t + 1) t fuel (replay s here) (omega arith)) ∙ append-nil (turn_pairs s turn t fuel))) in (
      legal_append s here rest legal later.0,
      (
        subst (Plays turn t fuel) (sym own_is) (plays_made s turn t fuel safe.0 can.0),
        all_same turns (t + 1) fuel rest (here ++ rest) (λ u le. own_behind t u (turn_pairs s turn t fuel) rest (omega (arith, le))) later.1,
      ),
    )

pub solo_made : (b : Begun) (turns : List Turn) (fuel : ℕ) → AreAlone (first b) → length turns ≡ length (first b).rounds → AllSafe turns 0 → CanStop (first b) turns 0 fuel → IsSolo (first b) turns fuel (history_of (first b) turns 0 fuel)
solo_made b turns fuel alone many safe can =
    let it = there_from b alone turns 0 fuel [] (at_start b) safe can (omega (arith, many)) in
    record { many = many; legal = it.0; each = it.1 }

pub solo_some : (b : Begun) (turns : List Turn) (fuel : ℕ) → AreAlone (first b) → length turns ≡ length (first b).rounds → AllSafe turns 0 → CanStop (first b) turns 0 fuel → (h : List Entry) × IsSolo (first b) turns fuel h
solo_some b turns fuel alone many safe can = (history_of (first b) turns 0 fuel, solo_made b turns fuel alone many safe can)

can_at : (stop : Option ℕ) (fuel : ℕ) (how : How) → stop ≡ None → CanStopAt stop fuel how
can_at stop fuel how is = subst (λ (o : Option ℕ). CanStopAt o fuel how) (sym is) tt

pub no_stops : (turns : List Turn) (t fuel : ℕ) (s : State) → HaveNoStops turns → CanStop s turns t fuel
no_stops [] t fuel s none = tt
no_stops (turn ∷ turns) t fuel s none = (can_at turn.stop fuel (how_of s turn t fuel) none.0, no_stops turns (t + 1) fuel (replay s (turn_entries s turn t fuel)) none.1)

pub solo_free : (b : Begun) (turns : List Turn) (fuel : ℕ) → AreAlone (first b) → length turns ≡ length (first b).rounds → AllSafe turns 0 → HaveNoStops turns → (h : List Entry) × IsSolo (first b) turns fuel h
solo_free b turns fuel alone many safe none = solo_some b turns fuel alone many safe (no_stops turns 0 fuel (first b) none)
