-- Whatever the scripts mean, they have just one history.
use Rattle.std.proofs.Common.{◌≡◌, ◌≢◌, ◌<◌, ◌≤◌, ℕ, ◌+◌, Bool, true, false, List, [], ◌∷◌, ◌++◌, length, Option, Some, None, refl, sym, ◌∙◌, ap, subst, arith}
use Rattle.std.proofs.lemmas.List.{append-nil, append_assoc}
use Rattle.tree_files.specs.Files.{Files}
use Rattle.machine_events.specs.declared.event.Event.{Event}
use Rattle.machine_events.specs.declared.event.Event.TheVariants.{End}
use Rattle.machine_events.specs.declared.event.Reply.{Reply}
use Rattle.machine_events.specs.declared.event.Reply.TheVariants.{Done}
use Rattle.machine_events.specs.declared.event.Outcome.{Outcome}
use Rattle.machine_events.specs.declared.event.Outcome.TheVariants as o
use Rattle.machine_events.specs.declared.event.Entry.{Entry}
use Rattle.machine_spec.specs.declared.state.State.{State}
use Rattle.machine_spec.specs.Legal.{replay, IsLegal}
use Rattle.machine_laws.specs.Begun.{Begun, first}
use Rattle.machine_shown.specs.Own.{own}
use Rattle.machine_shown.specs.Shown.{shown, shown_first}
use Rattle.meaning_runs.specs.Runs.{Run, Over, Pays, Looks, Makes, How, Ended, Spent, Stop, Came, Cut, Ending, told, spend, play, on_budget, replies_of}
use Rattle.meaning_runs.specs.Lists.{ends, ends_in}
use Rattle.meaning_runs.specs.Follows.{Follows, Ends}
use Rattle.meaning_runs.proofs.Spends.{play_longer}
use Rattle.meaning_solo.specs.Made.{Turn, reply_of, state_after, pairs_from, how_from, budget_by, outcome_by, run_of, how_of, turn_pairs, turn_entries, entries_of, history_of, CanStopAt}
use Rattle.meaning_solo.specs.Solo.{AreAlone, IsSolo, Plays, AllPlay, StopsBy}
use Rattle.meaning_solo.proofs.Parts.{Replied, replied, replied_front, own_append, own_entries, own_others, replay_append, legal_front, legal_back, ended_back, has_end}
use Rattle.meaning_solo.proofs.Turns.{At, now, at_start, at_entries, at_next, none_left, NoEnds, Front, front}

pub heads_of : (p : List (Event × Reply)) (a b : Event × Reply) (xs ys : List (Event × Reply)) → p ++ a ∷ xs ≡ p ++ b ∷ ys → a ≡ b
heads_of [] a b xs ys h = cc h
heads_of (x ∷ p) a b xs ys h = heads_of p a b xs ys (cc h)

-- a run on the machine's replies is the one that the machine makes
pub determined : (t : ℕ) (f : Files) (run : Run) (s : State) (ps p : List (Event × Reply)) (how : How) → Replied t s ps → play f run p (replies_of ps) ≡ record { pairs = p ++ ps; stop = Came how; left = [] } → (ps ≡ pairs_from t f s run) × (how ≡ how_from t f s run)
determined t f (Over how') s [] p how r h = (refl, sym (came_is (ap (λ (e : Ending). e.stop) h)))
  where
    came_is : Came how' ≡ Came how → how' ≡ how
    came_is e = cc e
determined t f (Over how') s (x ∷ ps) p how r h = absurd (cc (ap (λ (e : Ending). e.left) h))
determined t f (Pays of_tree n next) s ps p how r h = determined t f next s ps p how r h
determined t f (Looks q next) s ps p how r h = determined t f (next (told f q)) s ps p how r h
determined t f (Makes e next) s [] p how r h = absurd (cc (ap (λ (e : Ending). e.stop) h))
determined t f (Makes e next) s (x ∷ ps) p how r h =
    let longer = play_longer f (next x.1) (p ++ (e, x.1) ∷ []) (replies_of ps) in
    let both : p ++ (e, x.1) ∷ longer.0 ≡ p ++ x ∷ ps = sym (append_assoc p ((e, x.1) ∷ []) longer.0) ∙ (sym longer.1 ∙ ap (λ (e : Ending). e.pairs) h) in
    let same : (e, x.1) ≡ x = heads_of p (e, x.1) x longer.0 ps both in
    let event : e ≡ x.0 = ap (λ (q : Event × Reply). q.0) same in
    let reply : x.1 ≡ reply_of t s e = r.0 ∙ ap (reply_of t s) (sym event) in
    let state : Replied t (state_after t s e) ps = subst (λ (f : Event). Replied t (state_after t s f) ps) (sym event) r.1 in
    let h' : play f (next x.1) (p ++ (e, x.1) ∷ []) (replies_of ps) ≡ record { pairs = (p ++ (e, x.1) ∷ []) ++ ps; stop = Came how; left = [] } =
    h ∙ ap (λ (w : List (Event × Reply)). record { pairs = w; stop = Came how; left = [] }) (ap (λ (q : Event × Reply). p ++ q ∷ ps) (sym same) ∙ sym (append_assoc p ((e, x.1) ∷ []) ps)) in
    let rest : (ps ≡ pairs_from t f (state_after t s e) (next x.1)) × (how ≡ how_from t f (state_after t s e) (next x.1)) = determined t f (next x.1) (state_after t s e) ps (p ++ (e, x.1) ∷ []) how state h' in
    let rest' : (ps ≡ pairs_from t f (state_after t s e) (next (reply_of t s e))) × (how ≡ how_from t f (state_after t s e) (next (reply_of t s e))) = subst (λ (y : Reply). (ps ≡ pairs_from t f (state_after t s e) (next y)) × (how ≡ how_from t f (state_after t s e) (next y))) reply rest in
    let first : x ≡ (e, reply_of t s e) = sym same ∙ ap (λ (y : Reply). (e, y)) reply in
    (ap (λ (y : Event × Reply). y ∷ ps) first ∙ ap (λ (w : List (Event × Reply)). (e, reply_of t s e) ∷ w) rest'.0, rest'.1)

paid_by : (fuel : ℕ) (stop : Option ℕ) (x : Outcome) (k : ℕ) (h : How) → Ends fuel x k h → StopsBy stop x k → k ≡ budget_by stop fuel
paid_by fuel None o.Normal k h e s = e.1
paid_by fuel None (o.Raised v) k h e s = e.1
paid_by fuel None o.Fuel k h e s = e.1
paid_by fuel None o.Read k h e s = absurd s
paid_by fuel (Some n) o.Read k h e s = s
paid_by fuel (Some n) o.Normal k h e s = absurd s
paid_by fuel (Some n) (o.Raised v) k h e s = absurd s
paid_by fuel (Some n) o.Fuel k h e s = absurd s

one_outcome : (fuel : ℕ) (stop : Option ℕ) (x : Outcome) (k : ℕ) (h : How) → Ends fuel x k h → StopsBy stop x k → x ≡ outcome_by stop h
one_outcome fuel None o.Normal k h e s = rw e.0 refl
one_outcome fuel None (o.Raised v) k h e s = rw e.0 refl
one_outcome fuel None o.Fuel k h e s = rw e.0.1 refl
one_outcome fuel None o.Read k h e s = absurd s
one_outcome fuel (Some n) o.Read k h e s = refl
one_outcome fuel (Some n) o.Normal k h e s = absurd s
one_outcome fuel (Some n) (o.Raised v) k h e s = absurd s
one_outcome fuel (Some n) o.Fuel k h e s = absurd s

stops_there : (fuel : ℕ) (stop : Option ℕ) (x : Outcome) (k : ℕ) (h : How) → Ends fuel x k h → StopsBy stop x k → CanStopAt stop fuel h
stops_there fuel None x k h e s = tt
stops_there fuel (Some n) o.Read k h e s = (e.0, subst (λ (k : ℕ). k + 1 ≤ fuel) s e.1)
stops_there fuel (Some n) o.Normal k h e s = absurd s
stops_there fuel (Some n) (o.Raised v) k h e s = absurd s
stops_there fuel (Some n) o.Fuel k h e s = absurd s

-- no End stands before the last one
none_before : (ps : List (Event × Reply)) (p : Event × Reply) → ends p.0 ≡ 1 → ends_in (ps ++ p ∷ []) ≡ 1 → NoEnds ps
none_before [] p last all = tt
none_before (q ∷ ps) p last all =
    let here : ends q.0 ≡ 0 = (let some = at_least ps p last in omega (arith, some, all)) in
    (here, none_before ps p last (omega (arith, here, all)))
  where
    at_least : (ps : List (Event × Reply)) (p : Event × Reply) → ends p.0 ≡ 1 → 1 ≤ ends_in (ps ++ p ∷ [])
    at_least [] p last = omega (arith, last)
    at_least (q ∷ ps) p last = let more = at_least ps p last in omega (arith, more)

-- what a script that plays has made is what the machine makes of its run
pub record Played (s : State) (turn : Turn) (t fuel : ℕ) (h : List Entry) : Type 0 where
  pub rest : List Entry
  pub joined : h ≡ turn_entries s turn t fuel ++ rest
  pub can : CanStopAt turn.stop fuel (how_of s turn t fuel)

pub played : (b : Begun) → AreAlone (first b) → (turn : Turn) (t fuel : ℕ) (pre h : List Entry) → At b pre t [] → IsLegal (now b pre) h → Plays turn t fuel (own t h) → Played (now b pre) turn t fuel h
played b alone turn t fuel pre h at legal plays =
    let s : State = now b pre in
    let f = plays.follows in
    let last : Event × Reply = (End plays.outcome f.paid, Done) in
    let none : NoEnds f.before = none_before f.before last refl (ap ends_in (sym f.whole) ∙ f.once) in
    let in_front : Front t h (f.before ++ last ∷ []) = front b alone t f.before last pre [] h at refl legal f.whole none in
    let by : Replied t s (f.before ++ last ∷ []) = replied t s (f.before ++ last ∷ []) (legal_front s (entries_of t (f.before ++ last ∷ [])) in_front.rest (subst (IsLegal s) in_front.joined legal)) in
    let paid : f.paid ≡ budget_by turn.stop fuel = paid_by fuel turn.stop plays.outcome f.paid f.how f.ends plays.stops in
    let eval : play turn.files (run_of turn t fuel) [] (replies_of f.before) ≡ record { pairs = [] ++ f.before; stop = Came f.how; left = [] } =
    subst (λ (k : ℕ). on_budget turn.files t turn.run k (replies_of f.before) ≡ record { pairs = f.before; stop = Came f.how; left = [] }) paid f.eval in
    let det = determined t turn.files (run_of turn t fuel) s f.before [] f.how (replied_front t f.before (last ∷ []) s by) eval in
    let outcome : plays.outcome ≡ outcome_by turn.stop (how_of s turn t fuel) = one_outcome fuel turn.stop plays.outcome f.paid f.how f.ends plays.stops ∙ ap (outcome_by turn.stop) det.1 in
    let pairs : f.before ++ last ∷ [] ≡ turn_pairs s turn t fuel =
    ap (λ (w : List (Event × Reply)). w ++ last ∷ []) det.0
    ∙ (ap (λ (x : Outcome). pairs_from t turn.files s (run_of turn t fuel) ++ (End x f.paid, Done) ∷ []) outcome
    ∙ ap (λ (k : ℕ). pairs_from t turn.files s (run_of turn t fuel) ++ (End (outcome_by turn.stop (how_of s turn t fuel)) k, Done) ∷ []) paid) in
    record {
      rest = in_front.rest;
      joined = in_front.joined ∙ ap (λ (ps : List (Event × Reply)). entries_of t ps ++ in_front.rest) pairs;
      can = subst (CanStopAt turn.stop fuel) det.1 (stops_there fuel turn.stop plays.outcome f.paid f.how f.ends plays.stops);
    }

-- where it stands after such a turn
pub at_after : (b : Begun) (turn : Turn) (t fuel : ℕ) (pre : List Entry) → At b pre t [] → IsLegal (now b pre) (turn_entries (now b pre) turn t fuel) → At b (pre ++ turn_entries (now b pre) turn t fuel) (t + 1) []
at_after b turn t fuel pre at legal =
    let s : State = now b pre in
    at_next b (pre ++ turn_entries s turn t fuel) t (turn_pairs s turn t fuel) (at_entries b pre t [] (turn_pairs s turn t fuel) at legal)
    (ended_back pre (turn_entries s turn t fuel) t (has_end t (pairs_from t turn.files s (run_of turn t fuel)) (outcome_by turn.stop (how_of s turn t fuel)) (budget_by turn.stop fuel) Done))

-- the later scripts' own pairs are those of what follows
pub own_behind : (t u : ℕ) (ps : List (Event × Reply)) (rest : List Entry) → t < u → own u (entries_of t ps ++ rest) ≡ own u rest
own_behind t u ps rest less = own_append u (entries_of t ps) rest ∙ ap (λ w. w ++ own u rest) (own_others u t ps (λ same. omega (arith, less, same)))

pub all_same : (turns : List Turn) (t fuel : ℕ) (h h' : List Entry) → ((u : ℕ) → t ≤ u → own u h' ≡ own u h) → AllPlay turns t fuel h → AllPlay turns t fuel h'
all_same [] t fuel h h' same all = tt
all_same (turn ∷ turns) t fuel h h' same all = (
  subst (Plays turn t fuel) (sym (same t (omega arith))) all.0,
  all_same turns (t + 1) fuel h h' (λ u le. same u (omega (arith, le))) all.1,
)

one_from : (b : Begun) → AreAlone (first b) → (turns : List Turn) (t fuel : ℕ) (pre h : List Entry) → At b pre t [] → IsLegal (now b pre) h → AllPlay turns t fuel h → t + length turns ≡ length (first b).rounds
    → h ≡ history_of (now b pre) turns t fuel
one_from b alone [] t fuel pre [] at legal all many = refl
one_from b alone [] t fuel pre (e ∷ es) at legal all many = absurd (none_left b alone pre t [] at (omega (arith, many)) e.thread e.event legal.0)
one_from b alone (turn ∷ turns) t fuel pre h at legal all many =
    let s : State = now b pre in
    let it = played b alone turn t fuel pre h at legal all.0 in
    let both : IsLegal s (turn_entries s turn t fuel ++ it.rest) = subst (IsLegal s) it.joined legal in
    let next = at_after b turn t fuel pre at (legal_front s (turn_entries s turn t fuel) it.rest both) in
    let state : now b (pre ++ turn_entries s turn t fuel) ≡ replay s (turn_entries s turn t fuel) = replay_append (first b) pre (turn_entries s turn t fuel) in
    let legal' : IsLegal (now b (pre ++ turn_entries s turn t fuel)) it.rest = subst (λ (x : State). IsLegal x it.rest) (sym state) (legal_back s (turn_entries s turn t fuel) it.rest both) in
    let later : AllPlay turns (t + 1) fuel it.rest =
    all_same turns (t + 1) fuel h it.rest (λ u le. sym (ap (own u) it.joined ∙ own_behind t u (turn_pairs s turn t fuel) it.rest (omega (arith, le)))) all.1 in
    it.joined ∙ ap (λ (w : List Entry). turn_entries s turn t fuel ++ w)
    (one_from b alone turns (t + 1) fuel (pre ++ turn_entries s turn t fuel) it.rest next legal' later (omega (arith, many)) ∙ ap (λ (x : State). history_of x turns (t + 1) fuel) state)

pub solo_is : (b : Begun) (turns : List Turn) (fuel : ℕ) (h : List Entry) → AreAlone (first b) → IsSolo (first b) turns fuel h → h ≡ history_of (first b) turns 0 fuel
solo_is b turns fuel h alone solo = one_from b alone turns 0 fuel [] h (at_start b) solo.legal solo.each (omega (arith, solo.many))

-- at most one history is theirs
pub solo_one : (b : Begun) (turns : List Turn) (fuel : ℕ) (h h' : List Entry) → AreAlone (first b) → IsSolo (first b) turns fuel h → IsSolo (first b) turns fuel h' → h ≡ h'
solo_one b turns fuel h h' alone x y = solo_is b turns fuel h alone x ∙ sym (solo_is b turns fuel h' alone y)
