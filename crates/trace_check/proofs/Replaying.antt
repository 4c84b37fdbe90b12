-- The replay of a history, entry by entry.
use Rattle.std.proofs.Common.{◌≡◌, ◌<◌, ◌↔◌, ℕ, zero, suc, ◌+◌, List, [], ◌∷◌, ◌++◌, Bool, true, false, not, ◌&&◌, Option, Some, None, take, length, get_or, refl, sym, ap, subst, ◌∙◌, arith, inl, inr}
use Rattle.std.specs.Prelude.{slice_get}
use Rattle.std.proofs.lemmas.Bool.{cases_lt, cases_order, false≢true, both_ways, and_parts}
use Rattle.std.proofs.lemmas.List.{take_more, take-take}
use Rattle.std.proofs.lemmas.Option.{slice_get_past}
use Rattle.machine_events.specs.declared.event.Event.{Event}
use Rattle.machine_events.specs.declared.event.Entry.{Entry}
use Rattle.machine_spec.specs.declared.state.State.{State}
use Rattle.machine_spec.specs.Step.{step}
use Rattle.machine_spec.specs.Allowed.{scripts, is_due, is_due_from, has_ended, has_leave}
use Rattle.machine_spec.specs.Legal.{Allowed, IsLegal, replay}
use Rattle.trace_check.specs.declared.answers.Why.{Why}
use Rattle.trace_check.specs.declared.answers.Why.TheVariants as cause
use Rattle.trace_check.specs.declared.answers.Replayed.{Replayed}
use Rattle.trace_check.specs.declared.answers.Replayed.TheVariants as replays
use Rattle.trace_check.specs.Replays.{IsWrong, IsBroken, Replays, Tests, counts_of}
use Rattle.trace_check.proofs.Lists.{slice_get_take}

pub replay_snoc : (s : State) (h : List Entry) (e : Entry) → replay s (h ++ e ∷ []) ≡ (step (replay s h) e.thread e.event).1
replay_snoc s [] e = refl
replay_snoc s (x ∷ xs) e = replay_snoc (step s x.thread x.event).1 xs e

pub legal_snoc : (s : State) (h : List Entry) (e : Entry) → IsLegal s h → Allowed (replay s h) e.thread e.event → e.reply ≡ (step (replay s h) e.thread e.event).0 → IsLegal s (h ++ e ∷ [])
legal_snoc s [] e l a r = (a, r, tt)
legal_snoc s (x ∷ xs) e l a r = (l.0, l.1, legal_snoc (step s x.thread x.event).1 xs e l.2 a r)

-- a history was replayed up to a place
pub record IsUpTo (first s : State) (h : List Entry) (at : ℕ) : Type 0 where
  pub legal : IsLegal first (take at h)
  pub state : s ≡ replay first (take at h)

-- one more entry that is as the machine says
pub up_to_more : (first s s' : State) (h : List Entry) (i : ℕ) (e : Entry) → IsUpTo first s h i → i < length h → e ≡ get_or h i e
    → Allowed s e.thread e.event → e.reply ≡ (step s e.thread e.event).0 → s' ≡ (step s e.thread e.event).1 → IsUpTo first s' h (i + 1)
up_to_more first s s' h i e before less is may reply after =
    let more : take (i + 1) h ≡ take i h ++ e ∷ [] = take_more h i e less ∙ ap (λ (z : Entry). take i h ++ z ∷ []) (sym is) in
    let here = before.state in
    record {
      legal = subst (λ (l : List Entry). IsLegal first l) (sym more) (legal_snoc first (take i h) e before.legal
          (subst (λ (z : State). Allowed z e.thread e.event) here may) (reply ∙ ap (λ (z : State). (step z e.thread e.event).0) here));
      state = after ∙ (ap (λ (z : State). (step z e.thread e.event).1) here ∙ (sym (replay_snoc first (take i h) e) ∙ ap (replay first) (sym more)));
    }

-- an entry of a legal history is as the machine says
record IsRight (s : State) (e : Entry) : Type 0 where
  may : Allowed s e.thread e.event
  reply : e.reply ≡ (step s e.thread e.event).0

right_at : (s : State) (h : List Entry) (i : ℕ) (e : Entry) → IsLegal s h → slice_get h i ≡ Some e → IsRight (replay s (take i h)) e
right_at s [] i e legal there = absurd (false≢true (ap is_there there))
  where
    is_there : Option Entry → Bool
    is_there None = false
    is_there (Some z) = true
right_at s (x ∷ xs) zero e legal there = let same : x ≡ e = cc in subst (λ (z : Entry). IsRight s z) same (record { may = legal.0; reply = legal.1 })
right_at s (x ∷ xs) (suc i) e legal there = right_at (step s x.thread x.event).1 xs i e legal.2 there

-- only a script's event is allowed
due_within : (s : State) (t : ℕ) → is_due s t ≡ true → t < scripts s
due_within s t due = elim (cases_lt t (length s.rounds)) [
  | inl less ↦ less
  | inr past ↦ absurd (false≢true (sym (ap (is_due_from s) (slice_get_past s.rounds t past)) ∙ due))
]

allowed_within : (s : State) (t : ℕ) (e : Event) → Allowed s t e → t < scripts s
allowed_within s t e may =
    let parts = and_parts (is_due s t && not (has_ended s t)) (has_leave s t e) may in
    due_within s t (and_parts (is_due s t) (not (has_ended s t)) parts.0).0

wrong_not_right : (s : State) (e : Entry) (why : Why) → IsWrong s e why → IsRight s e → ⊥
wrong_not_right s e cause.Text wrong right = wrong
wrong_not_right s e cause.Thread wrong right = omega (arith, wrong, allowed_within s e.thread e.event right.may)
wrong_not_right s e cause.Call wrong right = wrong
wrong_not_right s e cause.Allowed wrong right = both_ways _ wrong.1 right.may
wrong_not_right s e cause.Reply wrong right = wrong.2 right.reply
wrong_not_right s e cause.End wrong right = wrong

-- one entry is wrong in one way
wrong_same : (s : State) (e : Entry) (w v : Why) → IsWrong s e w → IsWrong s e v → w ≡ v
wrong_same s e cause.Text v a b = absurd a
wrong_same s e cause.Thread cause.Text a b = absurd b
wrong_same s e cause.Thread cause.Thread a b = refl
wrong_same s e cause.Thread cause.Call a b = absurd b
wrong_same s e cause.Thread cause.Allowed a b = absurd (omega (arith, a, b.0))
wrong_same s e cause.Thread cause.Reply a b = absurd (omega (arith, a, b.0))
wrong_same s e cause.Thread cause.End a b = absurd b
wrong_same s e cause.Call v a b = absurd a
wrong_same s e cause.Allowed cause.Text a b = absurd b
wrong_same s e cause.Allowed cause.Thread a b = absurd (omega (arith, b, a.0))
wrong_same s e cause.Allowed cause.Call a b = absurd b
wrong_same s e cause.Allowed cause.Allowed a b = refl
wrong_same s e cause.Allowed cause.Reply a b = absurd (both_ways _ a.1 b.1)
wrong_same s e cause.Allowed cause.End a b = absurd b
wrong_same s e cause.Reply cause.Text a b = absurd b
wrong_same s e cause.Reply cause.Thread a b = absurd (omega (arith, b, a.0))
wrong_same s e cause.Reply cause.Call a b = absurd b
wrong_same s e cause.Reply cause.Allowed a b = absurd (both_ways _ b.1 a.1)
wrong_same s e cause.Reply cause.Reply a b = refl
wrong_same s e cause.Reply cause.End a b = absurd b
wrong_same s e cause.End v a b = absurd a

pub broken_not_legal : (s : State) (h : List Entry) (at : ℕ) (why : Why) → IsBroken s h at why → IsLegal s h → ⊥
broken_not_legal s h at why broken legal = wrong_not_right (replay s (take at h)) broken.entry why broken.wrong (right_at s h at broken.entry legal broken.there)

-- a history does not break behind the place where it breaks
broken_later : (s : State) (h : List Entry) (at at' : ℕ) (why why' : Why) → IsBroken s h at why → IsBroken s h at' why' → at < at' → ⊥
broken_later s h at at' why why' a b less =
    let right = right_at s (take at' h) at a.entry b.before (slice_get_take h at' at less ∙ a.there) in
    wrong_not_right (replay s (take at h)) a.entry why a.wrong
    (subst (λ (l : List Entry). IsRight (replay s l) a.entry) (take-take at at' h (omega (arith, less))) right)

broken_same : (s : State) (h : List Entry) (at : ℕ) (why why' : Why) → IsBroken s h at why → IsBroken s h at why' → why ≡ why'
broken_same s h at why why' a b =
    let same : a.entry ≡ b.entry = cc in
    wrong_same (replay s (take at h)) b.entry why why' (subst (λ (z : Entry). IsWrong (replay s (take at h)) z why) same a.wrong) b.wrong

pub replay_one : (s : State) (h : List Entry) (a b : Replayed) → Replays s h a → Replays s h b → a ≡ b
replay_one s h (replays.Legal c) (replays.Legal d) a b = ap replays.Legal (a.1 ∙ sym b.1)
replay_one s h (replays.Legal c) (replays.Breaks at why) a b = absurd (broken_not_legal s h at why b a.0)
replay_one s h (replays.Breaks at why) (replays.Legal d) a b = absurd (broken_not_legal s h at why a b.0)
replay_one s h (replays.Breaks at why) (replays.Breaks at' why') a b = elim (cases_order at at') [
  | inl same ↦
      let moved : IsBroken s h at why' = subst (λ n. IsBroken s h n why') (sym same) b in
      ap (λ n. replays.Breaks n why) same ∙ ap (λ w. replays.Breaks at' w) (broken_same s h at why why' a moved)
  | inr apart ↦ elim apart [
    | inl less ↦ absurd (broken_later s h at at' why why' a b less)
    | inr more ↦ absurd (broken_later s h at' at why' why b a more)
  ]
]

abbrev is_legal : Replayed → Bool
is_legal (replays.Legal c) = true
is_legal (replays.Breaks at why) = false

pub replay_exact : (s : State) (h : List Entry) (a : Replayed) → Replays s h a → ((a ≡ replays.Legal (counts_of h)) ↔ IsLegal s h)
replay_exact s h (replays.Legal c) a = (λ _. a.0, λ _. ap replays.Legal a.1)
replay_exact s h (replays.Breaks at why) a = (λ same. absurd (false≢true (ap is_legal same)), λ legal. absurd (broken_not_legal s h at why a legal))

-- one more entry that was tested and is not wrong
pub up_to_tested : (first s s' : State) (h : List Entry) (i : ℕ) (e : Entry) (fault : Option Why) → ((why : Why) → fault ≡ Some why → ⊥) → Tests s s' e fault → IsUpTo first s h i → i < length h → e ≡ get_or h i e
    → IsUpTo first s' h (i + 1)
up_to_tested first s s' h i e None right tests before less is = up_to_more first s s' h i e before less is tests.0 tests.1 tests.2
up_to_tested first s s' h i e (Some why) right tests before less is = absurd (right why refl)
