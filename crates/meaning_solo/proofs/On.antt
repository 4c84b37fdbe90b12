-- A history that was broken off begins one that is whole.
use Rattle.std.proofs.Common.{◌≡◌, ◌<◌, ◌≤◌, ◌⊎◌, inl, inr, ℕ, ◌+◌, Bool, true, false, List, [], ◌∷◌, ◌++◌, length, Option, Some, None, refl, sym, ◌∙◌, ap, subst, arith}
use Rattle.std.specs.Prelude.{nat_lt}
use Rattle.std.proofs.lemmas.Bool.{ltb-true, ltb-false}
use Rattle.std.proofs.lemmas.List.{append-nil, append_assoc}
use Rattle.tree_files.specs.Files.{Files}
use Rattle.machine_events.specs.declared.event.Event.{Event}
use Rattle.machine_events.specs.declared.event.Event.TheVariants.{End}
use Rattle.machine_events.specs.declared.event.Reply.{Reply}
use Rattle.machine_events.specs.declared.event.Reply.TheVariants.{Done}
use Rattle.machine_events.specs.declared.event.Entry.{Entry}
use Rattle.machine_spec.specs.declared.state.State.{State}
use Rattle.machine_spec.specs.Legal.{replay, IsLegal}
use Rattle.machine_laws.specs.Begun.{Begun, first}
use Rattle.machine_shown.specs.Holdings.{Holding}
use Rattle.machine_shown.specs.Own.{own}
use Rattle.machine_shown.specs.Shown.{shown, shown_first}
use Rattle.meaning_runs.specs.Runs.{Run, Over, Pays, Looks, Makes, How, Spent, Ending, told, spend, play, replies_of, gives, gives_up, Reaches, starts, pays, looks, makes, Answer, GivesUp}
use Rattle.meaning_runs.specs.Follows.{IsPart}
use Rattle.meaning_runs.proofs.Spends.{play_longer}
use Rattle.meaning_solo.specs.Made.{Turn, reply_of, state_after, pairs_from, how_from, budget_by, outcome_by, run_of, how_of, turn_pairs, turn_entries, entries_of, history_of, CanStopAt, CanStop, HaveNoStops}
use Rattle.meaning_solo.specs.Solo.{AreAlone, IsSolo, IsBroken, Plays, PlayOrBreak, BreaksAt, AreToCome, AllSafe}
use Rattle.meaning_solo.proofs.Parts.{Replied, replied, replied_front, replied_last, entries_append, replay_append, legal_front, legal_back}
use Rattle.meaning_solo.proofs.Turns.{At, now, at_start, none_left, only_this}
use Rattle.meaning_solo.proofs.One.{played, at_after, heads_of, own_behind}
use Rattle.meaning_solo.proofs.Some.{no_stops, solo_made}

no_more : (p ps : List (Event × Reply)) → p ≡ p ++ ps → ps ≡ []
no_more [] ps is = sym is
no_more (x ∷ p) ps is = no_more p ps (cc is)

-- a part of a run on the machine's replies begins what the machine makes of it
part_made : (t : ℕ) (f : Files) (run : Run) (s : State) (p ps : List (Event × Reply)) → Replied t s ps → (play f run p (replies_of ps)).pairs ≡ p ++ ps → (more : List (Event × Reply)) × (pairs_from t f s run ≡ ps ++ more)
part_made t f (Over how) s p ps r h = ([], sym (append-nil ps ∙ no_more p ps h))
part_made t f (Pays of_tree n next) s p ps r h = part_made t f next s p ps r h
part_made t f (Looks q next) s p ps r h = part_made t f (next (told f q)) s p ps r h
part_made t f (Makes event next) s p [] r h = (pairs_from t f s (Makes event next), refl)
part_made t f (Makes event next) s p (x ∷ ps) r h =
    let longer = play_longer f (next x.1) (p ++ (event, x.1) ∷ []) (replies_of ps) in
    let both : p ++ (event, x.1) ∷ longer.0 ≡ p ++ x ∷ ps = sym (append_assoc p ((event, x.1) ∷ []) longer.0) ∙ (sym longer.1 ∙ h) in
    let same : (event, x.1) ≡ x = heads_of p (event, x.1) x longer.0 ps both in
    let is : event ≡ x.0 = ap (λ (q : Event × Reply). q.0) same in
    let reply : x.1 ≡ reply_of t s event = r.0 ∙ ap (reply_of t s) (sym is) in
    let state : Replied t (state_after t s event) ps = subst (λ (f : Event). Replied t (state_after t s f) ps) (sym is) r.1 in
    let h' : (play f (next x.1) (p ++ (event, x.1) ∷ []) (replies_of ps)).pairs ≡ (p ++ (event, x.1) ∷ []) ++ ps = h ∙ (ap (λ (q : Event × Reply). p ++ q ∷ ps) (sym same) ∙ sym (append_assoc p ((event, x.1) ∷ []) ps)) in
    let rest = part_made t f (next x.1) (state_after t s event) (p ++ (event, x.1) ∷ []) ps state h' in
    let rest' : pairs_from t f (state_after t s event) (next (reply_of t s event)) ≡ ps ++ rest.0 = subst (λ (y : Reply). pairs_from t f (state_after t s event) (next y) ≡ ps ++ rest.0) reply rest.1 in
    (rest.0, ap (λ (w : List (Event × Reply)). (event, reply_of t s event) ∷ w) rest' ∙ ap (λ (q : Event × Reply). q ∷ ps ++ rest.0) (sym (sym same ∙ ap (λ (y : Reply). (event, y)) reply)))

-- a run goes on, on the machine's replies, from where it came to on them
reached_made : (t : ℕ) (f : Files) {whole : Run} {paid : ℕ} {ps : List (Event × Reply)} {rest : Run} (s : State) → Reaches (Some f) whole paid ps rest → Replied t s ps
    → (pairs_from t f s whole ≡ ps ++ pairs_from t f (replay s (entries_of t ps)) rest) × (how_from t f s whole ≡ how_from t f (replay s (entries_of t ps)) rest)
reached_made t f s starts r = (refl, refl)
reached_made t f s (pays paid n ps of_tree next at) r = reached_made t f s at r
reached_made t f s (looks paid ps q a next h at) r =
    let it = reached_made t f s at r in
    let after : State = replay s (entries_of t ps) in
    (it.0 ∙ ap (λ (a : Answer q). ps ++ pairs_from t f after (next a)) (sym h), it.1 ∙ ap (λ (a : Answer q). how_from t f after (next a)) (sym h))
reached_made t f {whole} s (makes paid ps event reply next at) r =
    let it = reached_made t f s at (replied_front t ps ((event, reply) ∷ []) s r) in
    let before : State = replay s (entries_of t ps) in
    let is : reply ≡ reply_of t before event = replied_last t ps (event, reply) s r in
    let after : replay s (entries_of t (ps ++ (event, reply) ∷ [])) ≡ state_after t before event = ap (replay s) (entries_append t ps ((event, reply) ∷ [])) ∙ replay_append s (entries_of t ps) (record { thread = t; event = event; reply = reply } ∷ []) in
    let pairs : pairs_from t f s whole ≡ ps ++ (event, reply) ∷ pairs_from t f (state_after t before event) (next reply) =
    it.0 ∙ ap (λ (y : Reply). ps ++ (event, y) ∷ pairs_from t f (state_after t before event) (next y)) (sym is) in (
      pairs ∙ (sym (append_assoc ps ((event, reply) ∷ []) (pairs_from t f (state_after t before event) (next reply))) ∙ ap (λ (x : State). (ps ++ (event, reply) ∷ []) ++ pairs_from t f x (next reply)) (sym after)),
      it.1 ∙ (ap (λ (y : Reply). how_from t f (state_after t before event) (next y)) (sym is) ∙ ap (λ (x : State). how_from t f x (next reply)) (sym after)),
    )

how_given : (t : ℕ) (f : Files) (of_tree : Bool) (held : List Holding) (s : State) → how_from t f s (gives_up of_tree held) ≡ Spent of_tree
how_given t f of_tree [] s = refl
how_given t f of_tree (h ∷ held) s = how_given t f of_tree held (state_after t s (gives h))

-- a script that was broken off began what the machine makes of its run
broken_made : (stop : Option ℕ) (turn : Turn) (t fuel : ℕ) (s : State) (mine : List (Event × Reply)) → turn.stop ≡ stop → BreaksAt stop turn t fuel mine → Replied t s mine
    → ((more : List (Event × Reply)) × (pairs_from t turn.files s (spend (budget_by stop fuel) (shown_first t) turn.run) ≡ mine ++ more)) × CanStopAt stop fuel (how_from t turn.files s (spend (budget_by stop fuel) (shown_first t) turn.run))
broken_made None turn t fuel s mine is broken r = (part_made t turn.files (spend fuel (shown_first t) turn.run) s [] mine r broken, tt)
broken_made (Some stop) turn t fuel s mine is broken r =
    let it = reached_made t turn.files s broken.0 r in
    let after : State = replay s (entries_of t mine) in
    ((pairs_from t turn.files after (gives_up true (shown t mine).held), it.0), (it.1 ∙ how_given t turn.files true (shown t mine).held after, broken.1))

-- no script that is to come has made anything, and none is to stop
to_come : (turns : List Turn) (t : ℕ) (h : List Entry) → AreToCome turns t h → (u : ℕ) → t ≤ u → u < t + length turns → own u h ≡ []
to_come [] t h all u low high = absurd (omega (arith, low, high))
to_come (turn ∷ turns) t h all u low high =
    elim (nat_lt t u) as (λ (c : Bool). nat_lt t u ≡ c → own u h ≡ []) [
      | true ↦ λ is. let less = ltb-true t u is in to_come turns (t + 1) h all.2 u (omega (arith, less)) (omega (arith, high))
      | false ↦ λ is. let same : t ≡ u = (let le = ltb-false t u is in omega (arith, le, low)) in subst (λ (x : ℕ). own x h ≡ []) same all.1
    ] refl

free : (turns : List Turn) (t : ℕ) (h : List Entry) → AreToCome turns t h → HaveNoStops turns
free [] t h all = tt
free (turn ∷ turns) t h all = (all.0, free turns (t + 1) h all.2)

-- the history goes on to the one that the machine makes
pub record GoesOn (s : State) (turns : List Turn) (t fuel : ℕ) (h : List Entry) : Type 0 where
  pub can : CanStop s turns t fuel
  pub rest : List Entry
  pub joined : h ++ rest ≡ history_of s turns t fuel

goes_on_from : (b : Begun) → AreAlone (first b) → (turns : List Turn) (t fuel : ℕ) (pre h : List Entry) → At b pre t [] → IsLegal (now b pre) h → PlayOrBreak turns t fuel h → t + length turns ≡ length (first b).rounds
    → GoesOn (now b pre) turns t fuel h
goes_on_from b alone [] t fuel pre [] at legal all many = record { can = tt; rest = []; joined = refl }
goes_on_from b alone [] t fuel pre (e ∷ es) at legal all many = absurd (none_left b alone pre t [] at (omega (arith, many)) e.thread e.event legal.0)
goes_on_from b alone (turn ∷ turns) t fuel pre h at legal (inl all) many =
    let s : State = now b pre in
    let here : List Entry = turn_entries s turn t fuel in
    let it = played b alone turn t fuel pre h at legal all.0 in
    let both : IsLegal s (here ++ it.rest) = subst (IsLegal s) it.joined legal in
    let next = at_after b turn t fuel pre at (legal_front s here it.rest both) in
    let state : now b (pre ++ here) ≡ replay s here = replay_append (first b) pre here in
    let legal' : IsLegal (now b (pre ++ here)) it.rest = subst (λ (x : State). IsLegal x it.rest) (sym state) (legal_back s here it.rest both) in
    let same : (u : ℕ) → t < u → own u it.rest ≡ own u h = λ u less. sym (ap (own u) it.joined ∙ own_behind t u (turn_pairs s turn t fuel) it.rest less) in
    let more = subst (λ (x : State). GoesOn x turns (t + 1) fuel it.rest) state
    (goes_on_from b alone turns (t + 1) fuel (pre ++ here) it.rest next legal' (all_behind turns (t + 1) fuel h it.rest (λ u le. same u (omega (arith, le))) all.1) (omega (arith, many))) in
    record {
      can = (it.can, more.can);
      rest = more.rest;
      joined = ap (λ (w : List Entry). w ++ more.rest) it.joined ∙ (append_assoc here it.rest more.rest ∙ ap (λ (w : List Entry). here ++ w) more.joined);
    }
  where
    come_behind : (turns : List Turn) (t : ℕ) (h h' : List Entry) → ((u : ℕ) → t ≤ u → own u h' ≡ own u h) → AreToCome turns t h → AreToCome turns t h'
    come_behind [] t h h' same all = tt
    come_behind (turn ∷ turns) t h h' same all = (all.0, same t (omega arith) ∙ all.1, come_behind turns (t + 1) h h' (λ u le. same u (omega (arith, le))) all.2)

    all_behind : (turns : List Turn) (t fuel : ℕ) (h h' : List Entry) → ((u : ℕ) → t ≤ u → own u h' ≡ own u h) → PlayOrBreak turns t fuel h → PlayOrBreak turns t fuel h'
    all_behind [] t fuel h h' same all = tt
    all_behind (turn ∷ turns) t fuel h h' same (inl all) = inl (
      subst (Plays turn t fuel) (sym (same t (omega arith))) all.0,
      all_behind turns (t + 1) fuel h h' (λ u le. same u (omega (arith, le))) all.1,
    )
    all_behind (turn ∷ turns) t fuel h h' same (inr all) = inr (
      subst (BreaksAt turn.stop turn t fuel) (sym (same t (omega arith))) all.0,
      come_behind turns (t + 1) h h' (λ u le. same u (omega (arith, le))) all.1,
    )
goes_on_from b alone (turn ∷ turns) t fuel pre h at legal (inr all) many =
    let s : State = now b pre in
    let mine : List (Event × Reply) = own t h in
    let is : h ≡ entries_of t mine = only_this b alone t pre [] h at legal (λ u less low. to_come turns (t + 1) h all.1 u (omega (arith, less)) (omega (arith, low, many))) in
    let made = broken_made turn.stop turn t fuel s mine refl all.0 (replied t s mine (subst (IsLegal s) is legal)) in
    let last : List (Event × Reply) = (End (outcome_by turn.stop (how_of s turn t fuel)) (budget_by turn.stop fuel), Done) ∷ [] in
    let pairs : turn_pairs s turn t fuel ≡ mine ++ (made.0.0 ++ last) = ap (λ (w : List (Event × Reply)). w ++ last) made.0.1 ∙ append_assoc mine made.0.0 last in
    let later : List Entry = history_of (replay s (turn_entries s turn t fuel)) turns (t + 1) fuel in
    let entries : turn_entries s turn t fuel ≡ entries_of t mine ++ entries_of t (made.0.0 ++ last) = ap (entries_of t) pairs ∙ entries_append t mine (made.0.0 ++ last) in
    record {
      can = (made.1, no_stops turns (t + 1) fuel (replay s (turn_entries s turn t fuel)) (free turns (t + 1) h all.1));
      rest = entries_of t (made.0.0 ++ last) ++ later;
      joined = ap (λ (w : List Entry). w ++ (entries_of t (made.0.0 ++ last) ++ later)) is
          ∙ (sym (append_assoc (entries_of t mine) (entries_of t (made.0.0 ++ last)) later) ∙ ap (λ (w : List Entry). w ++ later) (sym entries));
    }

pub solo_on : (b : Begun) (turns : List Turn) (fuel : ℕ) (h : List Entry) → AreAlone (first b) → AllSafe turns 0 → IsBroken (first b) turns fuel h → (rest : List Entry) × IsSolo (first b) turns fuel (h ++ rest)
solo_on b turns fuel h alone safe broken =
    let it = goes_on_from b alone turns 0 fuel [] h (at_start b) broken.legal broken.each (omega (arith, broken.many)) in
    (it.rest, subst (IsSolo (first b) turns fuel) (sym it.joined) (solo_made b turns fuel alone broken.many safe it.can))
