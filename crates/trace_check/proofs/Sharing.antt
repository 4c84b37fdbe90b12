-- Histories that are replayed from the lists of their threads.
use Rattle.std.proofs.Common.{◌≡◌, ◌<◌, ◌≤◌, ℕ, ◌+◌, eqb, eq-eqb, ne_eqb, List, [], ◌∷◌, ◌++◌, Result, Ok, Err, IfOk, Some, map, take, drop, length, get_or, refl, sym, ap, subst, ◌∙◌, arith, inl, inr}
use Rattle.std.specs.Prelude.{slice_get, reverse}
use Rattle.std.proofs.lemmas.Bool.{cases_eq}
use Rattle.std.proofs.lemmas.List.{append-nil, drop_all, drop_more, length-map, reverse-append, take_all}
use Rattle.std.proofs.lemmas.Option.{slice_get-get_or}
use Rattle.machine_events.specs.declared.event.Event.{Event}
use Rattle.machine_events.specs.declared.event.Reply.{Reply}
use Rattle.machine_events.specs.declared.event.Entry.{Entry}
use Rattle.machine_events.specs.declared.event.Pair.{Pair}
use Rattle.machine_shown.specs.Own.{own}
use Rattle.machine_spec.specs.declared.state.State.{State}
use Rattle.machine_spec.specs.Allowed.{scripts}
use Rattle.machine_spec.specs.Legal.{replay}
use Rattle.machine_laws.specs.Sound.{IsSound}
use Rattle.machine_laws.proofs.Going.{same_rounds}
use Rattle.base_types.specs.declared.no_memory.NoMemory.{NoMemory}
use Rattle.trace_check.specs.declared.answers.Why.{Why}
use Rattle.trace_check.specs.declared.answers.Replayed.{Replayed}
use Rattle.trace_check.specs.declared.answers.Replayed.TheVariants as replays
use Rattle.trace_check.specs.Replays.{IsWrong, IsBroken, Replays}
use Rattle.trace_check.specs.Threads.{threads_of, pairs_of}
use Rattle.trace_check.proofs.Replaying.{IsUpTo}
use Rattle.trace_check.proofs.Splitting.{own_cut, own_if, paired, entry_there}

-- each list, turned round, is what its thread has behind the first entries of a history
pub record IsLeft (lists : List (List Pair)) (n : ℕ) (history : List Entry) (at : ℕ) : Type 0 where
  pub many : length lists ≡ n
  pub own : (u : ℕ) → u < n → pairs_of (reverse (get_or lists u [])) ≡ own u (drop at history)

-- a machine that has replayed entries has as many scripts as before
pub same_scripts : (first s : State) (h : List Entry) (at : ℕ) → IsSound first → IsUpTo first s h at → scripts s ≡ scripts first
same_scripts first s h at sound before =
    ap (λ (z : State). scripts z) before.state ∙ ap (λ (l : List ℕ). length l) (same_rounds first (take at h) sound before.legal)

-- the entry that stands where a thread stands
pub record IsEntry (h : List Entry) (at thread : ℕ) : Type 0 where
  pub entry : Entry
  pub there : slice_get h at ≡ Some entry
  pub is : entry ≡ get_or h at entry
  pub its : entry.thread ≡ thread
  pub low : at < length h

pub entry_at : (order : List ℕ) (h : List Entry) (at : ℕ) → order ≡ threads_of h → at < length order → IsEntry h at (get_or order at 0)
entry_at order h at same low =
    let thread = get_or order at 0 in
    let seen : slice_get (threads_of h) at ≡ Some thread = ap (λ (l : List ℕ). slice_get l at) (sym same) ∙ slice_get-get_or order at 0 low in
    let e = entry_there thread at h seen in
    let less : at < length h = omega (arith, low, ap (λ (l : List ℕ). length l) same, length-map h (λ (e : Entry). e.thread)) in
    let here = slice_get-get_or h at e.0 less in
    record {
      entry = e.0;
      there = e.1;
      is = cc (sym e.1 ∙ here);
      its = e.2;
      low = less;
    }

pub entry_same : (e : Entry) (thread : ℕ) (event : Event) (reply : Reply) → e.thread ≡ thread → event ≡ e.event → reply ≡ e.reply → record { thread = thread; event = event; reply = reply } ≡ e
entry_same e thread event reply its is same =
    ap (λ t. record { thread = t; event = event; reply = reply }) (sym its)
    ∙ (ap (λ (v : Event). record { thread = e.thread; event = v; reply = reply }) is ∙ ap (λ (r : Reply). record { thread = e.thread; event = e.event; reply = r }) same)

-- a replay breaks at a wrong entry
pub breaks_there : (r : Result Replayed NoMemory) (first s : State) (h : List Entry) (at thread : ℕ) (why : Why) (here : IsEntry h at thread) → IfOk r (λ it. it ≡ replays.Breaks at why) → IsUpTo first s h at → IsWrong s here.entry why → IfOk r (Replays first h)
breaks_there (Err none) first s h at thread why here told before wrong = tt
breaks_there (Ok it) first s h at thread why here told before wrong =
    let broken : IsBroken first h at why = record {
      entry = here.entry;
      there = here.there;
      before = before.legal;
      wrong = subst (λ (z : State). IsWrong z here.entry why) before.state wrong;
    } in
    subst (λ (z : Replayed). Replays first h z) (sym told) broken

-- a vector whose slice was written to
pub written : (n : ℕ) (now old : List (List Pair)) → n ≡ length old → length now ≡ length old → take n (now ++ drop (length now) old) ≡ now
written n now old is many =
    ap (λ (l : List (List Pair)). take n (now ++ l)) (drop_all (length now) old (omega (arith, many)))
    ∙ (ap (λ (l : List (List Pair)). take n l) (append-nil now) ∙ take_all n now (omega (arith, is, many)))

-- what stands first in what a thread has
abbrev first_event : List (Event × Reply) → Event → Event
first_event [] d = d
first_event (x ∷ xs) d = x.0

abbrev first_reply : List (Event × Reply) → Reply → Reply
first_reply [] d = d
first_reply (x ∷ xs) d = x.1

abbrev behind_first : List (Event × Reply) → List (Event × Reply)
behind_first [] = []
behind_first (x ∷ xs) = xs

module _ (lists : List (List Pair)) (n t at : ℕ) (h : List Entry) (e : Entry) (left : IsLeft lists n h at) (low : t < n) (less : at < length h) (is : e ≡ get_or h at e) (its : e.thread ≡ t) where
  cut : drop at h ≡ e ∷ drop (at + 1) h
  cut = drop_more h at e less ∙ ap (λ (z : Entry). z ∷ drop (at + 1) h) (sym is)

  mine : pairs_of (reverse (get_or lists t [])) ≡ paired e ∷ own t (drop (at + 1) h)
  mine = left.own t low ∙ (ap (λ (l : List Entry). own t l) cut ∙ (own_cut t e (drop (at + 1) h) ∙ ap (λ b. own_if b e (own t (drop (at + 1) h))) (eq-eqb e.thread t its)))

  others : (u : ℕ) → u < n → (u ≡ t → ⊥) → pairs_of (reverse (get_or lists u [])) ≡ own u (drop (at + 1) h)
  others u under apart =
      left.own u under
      ∙ (ap (λ (l : List Entry). own u l) cut ∙ (own_cut u e (drop (at + 1) h) ∙ ap (λ b. own_if b e (own u (drop (at + 1) h))) (ne_eqb e.thread u (λ same. apart (sym same ∙ its)))))

  -- a thread whose entry is next has something left
  pub not_empty : get_or lists t [] ≡ [] → ⊥
  not_empty none = absurd (cc (sym (ap (λ (l : List Pair). pairs_of (reverse l)) none) ∙ mine))

  -- its last pair is taken
  module _ (now : List (List Pair)) (pair : Pair) (many : length now ≡ length lists) (same : (u : ℕ) → (u ≡ t → ⊥) → get_or now u [] ≡ get_or lists u []) (last : get_or lists t [] ≡ get_or now t [] ++ pair ∷ []) where
    both : (pair.event, pair.reply) ∷ pairs_of (reverse (get_or now t [])) ≡ paired e ∷ own t (drop (at + 1) h)
    both = sym (ap (λ (l : List Pair). pairs_of l) (ap (λ (l : List Pair). reverse l) last ∙ reverse-append (get_or now t []) (pair ∷ []))) ∙ mine

    pub taken_event : pair.event ≡ e.event
    taken_event = ap (λ (l : List (Event × Reply)). first_event l e.event) both

    pub taken_reply : pair.reply ≡ e.reply
    taken_reply = ap (λ (l : List (Event × Reply)). first_reply l e.reply) both

    pub left_more : IsLeft now n h (at + 1)
    left_more = record {
      many = many ∙ left.many;
      own = λ u under. elim (cases_eq u t) [
        | inl one ↦ subst (λ k. pairs_of (reverse (get_or now k [])) ≡ own k (drop (at + 1) h)) (sym one) (ap (λ (l : List (Event × Reply)). behind_first l) both)
        | inr apart ↦ ap (λ (l : List Pair). pairs_of (reverse l)) (same u apart) ∙ others u under apart
      ];
    }
