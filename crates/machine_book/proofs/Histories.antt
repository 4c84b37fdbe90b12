-- One more entry at the end of a history.
use Rattle.std.proofs.Common.{◌≡◌, ℕ, ◌≤◌, Bool, List, [], ◌∷◌, ◌++◌, cond, true, false, map, refl, sym, ◌∙◌, ap, subst, eqb}
use Rattle.std.specs.Prelude.{filter, ◌==◌}
use Rattle.std.proofs.lemmas.Bool.{eq-eqb, eqb-true, and_parts}
use Rattle.machine_events.specs.declared.event.Event.{Event}
use Rattle.machine_events.specs.declared.event.Reply.{Reply}
use Rattle.machine_events.specs.declared.event.Entry.{Entry}
use Rattle.machine_spec.specs.declared.state.State.{State}
use Rattle.machine_spec.specs.Step.{step}
use Rattle.machine_spec.specs.Legal.{Allowed, replay, IsLegal}
use Rattle.machine_laws.specs.Begun.{Begun, first}
use Rattle.machine_shown.specs.Knowing.{Knows}
use Rattle.machine_shown.specs.Own.{own, Ready}
use Rattle.machine_desk.specs.Histories.{OnlyOf, is_only_of}

pub replay_snoc : (s : State) (h : List Entry) (e : Entry) → replay s (h ++ e ∷ []) ≡ (step (replay s h) e.thread e.event).1
replay_snoc s [] e = refl
replay_snoc s (x ∷ xs) e = replay_snoc (step s x.thread x.event).1 xs e

pub legal_snoc : (s : State) (h : List Entry) (e : Entry) → IsLegal s h → Allowed (replay s h) e.thread e.event → e.reply ≡ (step (replay s h) e.thread e.event).0 → IsLegal s (h ++ e ∷ [])
legal_snoc s [] e l a r = (a, r, tt)
legal_snoc s (x ∷ xs) e l a r = (l.0, l.1, legal_snoc (step s x.thread x.event).1 xs e l.2 a r)

-- a book after one more entry
pub book_snoc : (first m m' : State) (h h₁ h' : List Entry) (e : Entry) → (m ≡ replay first h) × IsLegal first h
    → Allowed (replay first h) e.thread e.event → e.reply ≡ (step m e.thread e.event).0
    → m' ≡ (step m e.thread e.event).1 → h₁ ≡ h → h' ≡ h₁ ++ e ∷ []
    → (m' ≡ replay first h') × IsLegal first h'
book_snoc first m m' h h₁ h' e is may reply after same longer =
    rw (longer, same) (
      after ∙ (ap (λ s. (step s e.thread e.event).1) is.0 ∙ sym (replay_snoc first h e)),
      legal_snoc first h e is.1 may (reply ∙ ap (λ s. (step s e.thread e.event).0) is.0),
    )

-- an entry as a pair of its thread
abbrev paired : Entry → Event × Reply
paired e = (e.event, e.reply)

-- one more entry of the thread
pub own_snoc : (t : ℕ) (h : List Entry) (e : Entry) → e.thread ≡ t → own t (h ++ e ∷ []) ≡ own t h ++ (e.event, e.reply) ∷ []
own_snoc t [] e is = ap (λ (c : Bool). map {B = Event × Reply} (λ (e : Entry). paired e) (cond c (e ∷ []) [])) (eq-eqb e.thread t is)
own_snoc t (x ∷ xs) e is =
    elim (eqb x.thread t) as (λ (c : Bool). map {B = Event × Reply} (λ (e : Entry). paired e) (cond c (x ∷ filter (λ (e : Entry). e.thread == t) (xs ++ e ∷ [])) (filter (λ (e : Entry). e.thread == t) (xs ++ e ∷ []))) ≡ map {B = Event × Reply} (λ (e : Entry). paired e) (cond c (x ∷ filter (λ (e : Entry). e.thread == t) xs) (filter (λ (e : Entry). e.thread == t) xs)) ++ paired e ∷ []) [
      | true ↦ ap (λ (w : List (Event × Reply)). paired x ∷ w) (own_snoc t xs e is)
      | false ↦ own_snoc t xs e is
    ]

-- the laws on what a thread knows, from a state in which a machine begins
pub allowed_here : ((b : Begun) (history : List Entry) → IsLegal (first b) history → (t : ℕ) (e : Event) → Ready (first b).rounds history t → Knows t (own t history) e → Allowed (replay (first b) history) t e)
    → (opening : State) (h : List Entry) (t : ℕ) (e : Event) → (b : Begun) × (first b ≡ opening) → IsLegal opening h → Ready opening.rounds h t → Knows t (own t h) e → Allowed (replay opening h) t e
allowed_here law opening h t e begun legal ready knows =
    subst (λ (s : State). IsLegal s h → Ready s.rounds h t → Allowed (replay s h) t e) begun.1 (λ l r. law begun.0 h l t e r knows) legal ready

pub only_of : (t : ℕ) (h : List Entry) → is_only_of t h ≡ true → OnlyOf t h
only_of t [] only = tt
only_of t (x ∷ h) only = let parts = and_parts (x.thread == t) (is_only_of t h) only in (eqb-true x.thread t parts.0, only_of t h parts.1)
