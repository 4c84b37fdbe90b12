-- The first use of a lazy module is safe: its load is held from Rouse to Finish.
use Rattle.std.proofs.Common.{ℕ, zero, suc, Bool, true, false, ◌∷◌, refl, ◌≡◌, inl}
use Rattle.py_value.specs.declared.value.ModRef.{ModRef}
use Rattle.machine_events.specs.declared.event.Event.{Event}
use Rattle.machine_events.specs.declared.event.Event.TheVariants as e
use Rattle.machine_events.specs.declared.event.Reply.{Reply}
use Rattle.machine_events.specs.declared.event.Reply.TheVariants as r
use Rattle.machine_shown.specs.Holdings.{Loading}
use Rattle.machine_shown.specs.Shown.{Shown, Running, shown_more}
use Rattle.machine_shown.specs.Knowing.{Has}
use Rattle.meaning_runs.specs.Runs.{Safe}
use Rattle.meaning_state.specs.declared.fault.Fault.TheVariants as fault
use Rattle.meaning_state.specs.declared.flow.Leave.{Leave}
use Rattle.meaning_state.specs.declared.flow.Flow.{Flow}
use Rattle.meaning_state.specs.declared.flow.Flow.TheVariants.{Went, Left}
use Rattle.meaning_state.specs.declared.thread.State.{State}
use Rattle.meaning_script.specs.Pieces.{Piece, Onward, most, after_reply, calls, passes, fails}
use Rattle.meaning_script.specs.Lazy.{Body, woken, rousing, rouses}
use Rattle.meaning_safety.specs.Known.{Knows, KnowsFlow, KnowsLeave}
use Rattle.meaning_safety.proofs.Growth.{Grows, Later, Fits, fits_refl, grows_more, later_more, state_grows, leave_grows}
use Rattle.meaning_safety.proofs.Given.{has_number}
use Rattle.meaning_safety.proofs.Pieces.{SafeOn, SafeAt, SafeModules, Always, on_later, fails_safe, passes_safe, pay_safe, calls_safe}
use Rattle.meaning_safety.proofs.Within.{SafeBody, WithinAt, ended_first, holds_first, flows_within, after, again_after}

-- ---- the load is ended

pub after_finish : (s s' : Shown) (load : ℕ) (good : Bool) (reply : Reply) → Later s s' (Loading load ∷ s.held) → Fits s (shown_more s' (e.Finish load good, reply))
after_finish s s' load good reply f = later_more s s' (Loading load ∷ s.held) s.held (e.Finish load good) reply f (ended_first load s.held) f.runs

-- what a body raised goes on
pub bad_finish : (s : Shown) (load : ℕ) (s' : Shown) (leave : Leave) → KnowsLeave s' leave → WithinAt s (Loading load) s' (λ st k. calls (e.Finish load false) (λ _. k (Left leave) st))
bad_finish s load s' leave known f st knows k safe =
    calls_safe s' (e.Finish load false) (λ _. k (Left leave) st) f.runs (f.runs, holds_first s s' (Loading load) f) (λ reply. f.runs)
    (λ reply. let next : Shown = shown_more s' (e.Finish load false, reply) in
    let g : Grows s' next = grows_more s' (e.Finish load false) reply in
    safe next (after_finish s s' load false reply f) (Left leave) (leave_grows s' next g leave known) st (state_grows s' next g st knows))

-- after a good one goes on what is safe whatever the reply
pub good_finish : (s : Shown) (load : ℕ) (s' : Shown) (p : Reply → Piece) → ((reply : Reply) → Always (p reply))
    → WithinAt s (Loading load) s' (λ st k. calls (e.Finish load true) (λ reply. p reply st k))
good_finish s load s' p each f st knows k safe =
    calls_safe s' (e.Finish load true) (λ reply. p reply st k) f.runs (f.runs, holds_first s s' (Loading load) f) (λ reply. f.runs)
    (λ reply. let next : Shown = shown_more s' (e.Finish load true, reply) in
    each reply next f.runs st (state_grows s' next (grows_more s' (e.Finish load true) reply) st knows) k (on_later s next k (after_finish s s' load true reply f) safe))

woken_safe : (s : Shown) (load : ℕ) (s' : Shown) (flow : Flow) → KnowsFlow s' flow → WithinAt s (Loading load) s' (woken load flow)
woken_safe s load s' (Went v) known = good_finish s load s' (λ _. passes) (λ reply. passes_safe)
woken_safe s load s' (Left leave) known = bad_finish s load s' leave known

-- ---- the first use

module _ (body : Body) (safe_body : SafeBody body) (m : ModRef) where
  rousing_safe : (again : Piece) → ((s : Shown) → Has s.modules m → SafeAt s again) → (s : Shown) → Has s.modules m → s.doing ≡ Running → (st : State) → Knows s st → (k : Onward) → SafeOn s k → (reply : Reply)
      → Safe (shown_more s (e.Rouse m.mid, reply)) (after_reply reply (rousing body again m reply st k))
  rousing_safe again more s has run st knows k safe r.Ready = (run, after s run st knows k safe (e.Rouse m.mid) r.Ready passes refl run (passes_safe (shown_more s (e.Rouse m.mid, r.Ready))))
  rousing_safe again more s has run st knows k safe (r.Cycle other) =
      (run, after s run st knows k safe (e.Rouse m.mid) (r.Cycle other) passes refl run (passes_safe (shown_more s (e.Rouse m.mid, r.Cycle other))))
  rousing_safe again more s has run st knows k safe (r.Wait l) = again_after s run st knows k safe (e.Rouse m.mid) l again (λ later g. more later (g.modules m has)) refl refl
  rousing_safe again more s has run st knows k safe r.Deadlock =
      (run, after s run st knows k safe (e.Rouse m.mid) r.Deadlock (fails (fault.Deadlock m.name)) refl run (fails_safe (fault.Deadlock m.name) (shown_more s (e.Rouse m.mid, r.Deadlock))))
  rousing_safe again more s has run st knows k safe (r.Yours load text) =
      let event : Event = e.Rouse m.mid in
      let next : Shown = shown_more s (event, r.Yours load text) in
      let g : Grows s next = grows_more s event (r.Yours load text) in
      let loading : Later s next (Loading load ∷ s.held) = later_more s s s.held (Loading load ∷ s.held) event (r.Yours load text) (fits_refl s run) refl run in (
        run,
        flows_within s (Loading load) next (body m.mid load m.name text) (λ flow. woken load flow) (safe_body next m.mid load m.name text (has_number next m (g.modules m has)) (inl refl))
            (λ later g' flow known. woken_safe s load later flow known) loading st (state_grows s next g st knows) k safe,
      )
  rousing_safe again more s has run st knows k safe reply =
      (run, after s run st knows k safe (e.Rouse m.mid) reply (fails fault.NotInProfile) refl run (fails_safe fault.NotInProfile (shown_more s (e.Rouse m.mid, reply))))

pub rouses_safe : (body : Body) → SafeBody body → (turns : ℕ) → SafeModules (rouses body turns)
rouses_safe body safe_body zero s m has = pay_safe s most (fails fault.NotInProfile) (fails_safe fault.NotInProfile s)
rouses_safe body safe_body (suc turns) s m has = λ run st knows k safe.
    (run, ((run, has_number s m has), rousing_safe body safe_body m (rouses body turns m) (λ later has'. rouses_safe body safe_body turns later m has') s has run st knows k safe))
