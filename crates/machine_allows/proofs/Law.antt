-- What a thread knows to be allowed is allowed.
use Rattle.std.proofs.Common.{◌≡◌, ◌<◌, ℕ, zero, suc, arith, true, false, cond, ◌&&◌, List, refl, ap, ◌∙◌}
use Rattle.std.specs.Prelude.{slice_get, is_none, not, length}
use Rattle.std.specs.FinMap.{get}
use Rattle.std.proofs.lemmas.Bool.{false≢true, and_from}
use Rattle.machine_events.specs.declared.event.Event.{Event}
use Rattle.machine_events.specs.declared.event.Event.TheVariants as events
use Rattle.machine_events.specs.declared.event.Entry.{Entry}
use Rattle.module_lock.specs.Table.{can_wake}
use Rattle.machine_spec.specs.declared.state.State.{State}
use Rattle.machine_spec.specs.Allowed.{allowed, is_due, is_due_from, all_ended, has_ended, has_leave, is_wake, fits}
use Rattle.machine_spec.specs.Legal.{Allowed, replay, IsLegal}
use Rattle.machine_laws.specs.Bones.{bones}
use Rattle.machine_laws.specs.Begun.{Begun, first}
use Rattle.machine_laws.proofs.Going.{same_rounds}
use Rattle.machine_laws.proofs.Lists.{within}
use Rattle.machine_shown.specs.Shown.{Shown, shown, shown_first}
use Rattle.machine_shown.specs.Knowing.{Enough, IsShown, Knows}
use Rattle.machine_shown.specs.Own.{own, HasEnded, Ready}
use Rattle.machine_allows.proofs.Agreeing.{Agrees, is_idle, is_over}
use Rattle.machine_allows.proofs.First.{agrees_first}
use Rattle.machine_allows.proofs.Along.{Whole, Exists, whole_first, whole_along, exists_first, exists_along, agree_along, ended_along}
use Rattle.machine_allows.proofs.Enough.{fits_from}

all_from : (s : State) (n : ℕ) → ((u : ℕ) → u < n → has_ended s u ≡ true) → all_ended s n ≡ true
all_from s zero h = refl
all_from s (suc n) h = and_from (has_ended s n) (all_ended s n) (h n (omega arith)) (all_from s n (λ u less. h u (omega arith)))

no_wake : (k : Shown) (e : Event) → Enough k e → is_wake e ≡ false
no_wake k e h = elim (is_wake e) as (λ c. is_wake e ≡ c → c ≡ false) [ true ↦ λ p. absurd (only k e h p) | false ↦ λ p. refl ] refl
  where
    only : (k : Shown) (e : Event) → Enough k e → is_wake e ≡ true → ⊥
    only k events.Wake h p = h
    only k (events.Ask n) h p = false≢true p
    only k (events.Take n) h p = false≢true p
    only k (events.Add spec text) h p = false≢true p
    only k (events.Finish load good) h p = false≢true p
    only k (events.Release n) h p = false≢true p
    only k (events.GetVar mid x raw) h p = false≢true p
    only k (events.SetVar raw mid x v) h p = false≢true p
    only k (events.DelVar mid x raw) h p = false≢true p
    only k (events.Names mid) h p = false≢true p
    only k (events.Source load) h p = false≢true p
    only k (events.Print text) h p = false≢true p
    only k events.PathGet h p = false≢true p
    only k (events.PathAdd at v) h p = false≢true p
    only k (events.DirGet dir part) h p = false≢true p
    only k (events.DirSet dir listing) h p = false≢true p
    only k events.Invalidate h p = false≢true p
    only k (events.NsGet mid) h p = false≢true p
    only k (events.NsSet mid state) h p = false≢true p
    only k (events.TabGet n) h p = false≢true p
    only k (events.TabSet n slot) h p = false≢true p
    only k (events.TabDel n) h p = false≢true p
    only k (events.ReloadBegin mid raw) h p = false≢true p
    only k (events.ReloadTake mid spec text) h p = false≢true p
    only k (events.ReloadEnd mid load) h p = false≢true p
    only k (events.AddLazy spec text) h p = false≢true p
    only k (events.Rouse mid) h p = false≢true p
    only k (events.Main spec text) h p = false≢true p
    only k (events.End outcome spent) h p = false≢true p

-- what is shown of a state, and true of it, is allowed there to a thread whose round has begun
pub allowed_from : (s : State) → Whole s → (t : ℕ) (k : Shown) → is_due s t ≡ true → Agrees (bones s) t k.held k.doing → Exists s k → (e : Event) → IsShown k e → Allowed s t e
allowed_from s whole t k due g x e knows =
    let going : has_ended s t ≡ false = g.over ∙ ap is_over knows.0 in
    let idle : is_none (get s.locks.waits t) ≡ true = g.waits ∙ ap is_idle knows.0 in
    let fitting : fits s t e ≡ true = fits_from s whole t k g x e knows.1 in
    and_from (is_due s t && not (has_ended s t)) (has_leave s t e)
    (and_from (is_due s t) (not (has_ended s t)) due (ap not going))
    (ap (λ c. cond c (can_wake s.locks t) (is_none (get s.locks.waits t) && fits s t e)) (no_wake k e knows.1)
    ∙ and_from (is_none (get s.locks.waits t)) (fits s t e) idle fitting)

module _ (b : Begun) (history : List Entry) (legal : IsLegal (first b) history) where
  abbrev after : State
  after = replay (first b) history

  ended : (u : ℕ) → HasEnded history u → has_ended after u ≡ true
  ended u h = ended_along u (first b) history (shown_first u) (whole_first b) legal (agrees_first b u) h

  due : (t : ℕ) → Ready (first b).rounds history t → is_due after t ≡ true
  due t ready =
      ap (λ rs. is_due_from after (slice_get rs t)) (same_rounds (first b) history (whole_first b).sound legal)
      ∙ ap (is_due_from after) ready.round ∙ all_from after ready.first (λ u less. ended u (ready.ended u less))

  pub knows_allowed : (t : ℕ) (e : Event) → Ready (first b).rounds history t → Knows t (own t history) e → Allowed after t e
  knows_allowed t e ready knows =
      let less : t < length (first b).rounds = within (first b).rounds t ready.first ready.round in
      allowed_from after (whole_along (first b) history (whole_first b) legal) t (shown t (own t history)) (due t ready)
      (agree_along t (first b) history (shown_first t) (whole_first b) legal (agrees_first b t))
      (exists_along t (first b) history (shown_first t) (whole_first b) legal (exists_first b t less)) e knows
