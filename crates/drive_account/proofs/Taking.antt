-- One more pair of a recorded list.
use Rattle.std.proofs.Common.{◌≡◌, ℕ, zero, suc, ◌+◌, List, [], ◌∷◌, ◌++◌, take, slice_get, Some, Result, Ok, Err, IfOk, OnErr, ap, subst, sym, arith}
use Rattle.std.proofs.lemmas.Option.{slice_get_within}
use Rattle.machine_events.specs.declared.event.Event.{Event}
use Rattle.machine_events.specs.declared.event.Reply.{Reply}
use Rattle.machine_events.specs.declared.event.Pair.{Pair}
use Rattle.machine_events.specs.Fitting.{Fits}
use Rattle.drive_account.specs.declared.port.Halt.{Halt}
use Rattle.drive_account.specs.Replay.{pairs_of, AllFit, Met}

pub taken_more : (own : List Pair) (at : ℕ) (p : Pair) → slice_get own at ≡ Some p → pairs_of (take (suc at) own) ≡ pairs_of (take at own) ++ (p.event, p.reply) ∷ []
taken_more [] zero p h = cc
taken_more [] (suc n) p h = cc
taken_more (x ∷ own) zero p h = let same : x ≡ p = cc in ap (λ (q : Pair). (q.event, q.reply) ∷ []) same
taken_more (x ∷ own) (suc n) p h = ap (λ (ps : List (Event × Reply)). (x.event, x.reply) ∷ ps) (taken_more own n p h)

pub gained : (own own' : List Pair) (at at' : ℕ) (e : Event) (r : Reply) → own' ≡ own → at' ≡ at + 1 → slice_get own at ≡ Some (record { event = e; reply = r }) → pairs_of (take at' own') ≡ pairs_of (take at own) ++ (e, r) ∷ []
gained own own' at at' e r same next h =
    let more : at' ≡ suc at = omega (arith, next) in
    rw (same, more) (taken_more own at (record { event = e; reply = r }) h)

-- one more reply that fits
pub fit_more : (pairs : List (Event × Reply)) (p : Event × Reply) → AllFit pairs → Fits p.0 p.1 → AllFit (pairs ++ p ∷ [])
fit_more [] p all fits = (fits, tt)
fit_more (q ∷ pairs) p all fits = (all.0, fit_more pairs p all.1 fits)

-- one more pair is met
pub met_more : (own own' : List Pair) (at at' : ℕ) (e : Event) (r : Reply) → own' ≡ own → at' ≡ at + 1 → slice_get own at ≡ Some (record { event = e; reply = r }) → Fits e r → Met own at → Met own' at'
met_more own own' at at' e r same next here fits met =
    let inside = slice_get_within own at (record { event = e; reply = r }) here in
    record {
      within = rw same (omega (arith, next, inside));
      fit = subst AllFit (sym (gained own own' at at' e r same next here)) (fit_more (pairs_of (take at own)) (e, r) met.fit fits);
    }

-- none more is met
pub met_still : (own own' : List Pair) (at at' : ℕ) → own' ≡ own → at' ≡ at → Met own at → Met own' at'
met_still own own' at at' same still met = rw (same, still) met

-- after a call that was answered or refused
pub met_after : (own own' : List Pair) (at at' : ℕ) (e : Event) (r : Result Reply Halt) → own' ≡ own
    → IfOk r (λ reply. (at' ≡ at + 1) × (slice_get own at ≡ Some (record { event = e; reply = reply })) × Fits e reply) → OnErr r (at' ≡ at) → Met own at → Met own' at'
met_after own own' at at' e (Ok reply) same ok err met = met_more own own' at at' e reply same ok.0 ok.1 ok.2 met
met_after own own' at at' e (Err halt) same ok err met = met_still own own' at at' same err met
