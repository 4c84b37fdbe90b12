-- Lists of entries and of pairs, taken together and apart.
use Rattle.std.proofs.Common.{◌≡◌, ◌≢◌, ◌<◌, ℕ, ◌+◌, Bool, true, false, cond, List, [], ◌∷◌, ◌++◌, map, length, Option, refl, sym, ◌∙◌, ap, subst, eqb, arith, inl, inr}
use Rattle.std.specs.Prelude.{filter, ◌==◌}
use Rattle.std.proofs.lemmas.Bool.{eq-eqb, eqb-true, eqb-false}
use Rattle.std.proofs.lemmas.List.{append-nil, append_assoc}
use Rattle.machine_events.specs.declared.event.Event.{Event}
use Rattle.machine_events.specs.declared.event.Event.TheVariants as e
use Rattle.machine_events.specs.declared.event.Reply.{Reply}
use Rattle.machine_events.specs.declared.event.Reply.TheVariants as replies
use Rattle.machine_events.specs.declared.event.Outcome.{Outcome}
use Rattle.machine_events.specs.declared.event.Entry.{Entry}
use Rattle.machine_spec.specs.declared.state.State.{State}
use Rattle.machine_spec.specs.Step.{step}
use Rattle.machine_spec.specs.Legal.{replay, IsLegal}
use Rattle.machine_shown.specs.Own.{own, IsEnd, HasEnded}
use Rattle.machine_shown.specs.Shown.{Doing, Running, Waiting, Over, does, answered}
use Rattle.machine_allows.proofs.Agreeing.{is_over}
use Rattle.meaning_runs.specs.Lists.{ends}
use Rattle.meaning_solo.specs.Made.{reply_of, state_after, entries_of}

abbrev paired : Entry → Event × Reply
paired e = (e.event, e.reply)

not_eqb : (a b : ℕ) → a ≢ b → eqb a b ≡ false
not_eqb a b z = elim (eqb a b) as (λ (c : Bool). eqb a b ≡ c → c ≡ false) [ true ↦ λ h. absurd (z (eqb-true a b h)) | false ↦ λ h. refl ] refl

pub own_append : (t : ℕ) (xs ys : List Entry) → own t (xs ++ ys) ≡ own t xs ++ own t ys
own_append t [] ys = refl
own_append t (x ∷ xs) ys =
    elim (eqb x.thread t) as (λ (c : Bool). map {B = Event × Reply} (λ (e : Entry). paired e) (cond c (x ∷ filter (λ (e : Entry). e.thread == t) (xs ++ ys)) (filter (λ (e : Entry). e.thread == t) (xs ++ ys))) ≡ map {B = Event × Reply} (λ (e : Entry). paired e) (cond c (x ∷ filter (λ (e : Entry). e.thread == t) xs) (filter (λ (e : Entry). e.thread == t) xs)) ++ own t ys) [
      | true ↦ ap (λ (w : List (Event × Reply)). paired x ∷ w) (own_append t xs ys)
      | false ↦ own_append t xs ys
    ]

pub own_cons : (t : ℕ) (e : Entry) (es : List Entry) → e.thread ≡ t → own t (e ∷ es) ≡ (e.event, e.reply) ∷ own t es
own_cons t e es z = ap (λ (c : Bool). map {B = Event × Reply} (λ (e : Entry). paired e) (cond c (e ∷ filter (λ (e : Entry). e.thread == t) es) (filter (λ (e : Entry). e.thread == t) es))) (eq-eqb e.thread t z)

pub own_other : (t : ℕ) (e : Entry) (es : List Entry) → e.thread ≢ t → own t (e ∷ es) ≡ own t es
own_other t e es z = ap (λ (c : Bool). map {B = Event × Reply} (λ (e : Entry). paired e) (cond c (e ∷ filter (λ (e : Entry). e.thread == t) es) (filter (λ (e : Entry). e.thread == t) es))) (not_eqb e.thread t z)

abbrev entry : ℕ → Event × Reply → Entry
entry t p = record { thread = t; event = p.0; reply = p.1 }

pub own_entries : (t : ℕ) (ps : List (Event × Reply)) → own t (entries_of t ps) ≡ ps
own_entries t [] = refl
own_entries t (p ∷ ps) = own_cons t (entry t p) (entries_of t ps) refl ∙ ap (λ w. p ∷ w) (own_entries t ps)

pub own_others : (u t : ℕ) (ps : List (Event × Reply)) → t ≢ u → own u (entries_of t ps) ≡ []
own_others u t [] z = refl
own_others u t (p ∷ ps) z = own_other u (entry t p) (entries_of t ps) z ∙ own_others u t ps z

pub entries_append : (t : ℕ) (ps qs : List (Event × Reply)) → entries_of t (ps ++ qs) ≡ entries_of t ps ++ entries_of t qs
entries_append t [] qs = refl
entries_append t (p ∷ ps) qs = ap (λ (w : List Entry). entry t p ∷ w) (entries_append t ps qs)

pub replay_append : (s : State) (xs ys : List Entry) → replay s (xs ++ ys) ≡ replay (replay s xs) ys
replay_append s [] ys = refl
replay_append s (x ∷ xs) ys = replay_append (step s x.thread x.event).1 xs ys

pub legal_append : (s : State) (xs ys : List Entry) → IsLegal s xs → IsLegal (replay s xs) ys → IsLegal s (xs ++ ys)
legal_append s [] ys p q = q
legal_append s (x ∷ xs) ys p q = (p.0, p.1, legal_append (step s x.thread x.event).1 xs ys p.2 q)

pub legal_front : (s : State) (xs ys : List Entry) → IsLegal s (xs ++ ys) → IsLegal s xs
legal_front s [] ys l = tt
legal_front s (x ∷ xs) ys l = (l.0, l.1, legal_front (step s x.thread x.event).1 xs ys l.2)

pub legal_back : (s : State) (xs ys : List Entry) → IsLegal s (xs ++ ys) → IsLegal (replay s xs) ys
legal_back s [] ys l = l
legal_back s (x ∷ xs) ys l = legal_back (step s x.thread x.event).1 xs ys l.2

pub ended_front : (xs ys : List Entry) (t : ℕ) → HasEnded xs t → HasEnded (xs ++ ys) t
ended_front [] ys t h = absurd h
ended_front (x ∷ xs) ys t (inl here) = inl here
ended_front (x ∷ xs) ys t (inr later) = inr (ended_front xs ys t later)

pub ended_back : (xs ys : List Entry) (t : ℕ) → HasEnded ys t → HasEnded (xs ++ ys) t
ended_back [] ys t h = h
ended_back (x ∷ xs) ys t h = inr (ended_back xs ys t h)

pub has_end : (t : ℕ) (ps : List (Event × Reply)) (outcome : Outcome) (k : ℕ) (r : Reply) → HasEnded (entries_of t (ps ++ (e.End outcome k, r) ∷ [])) t
has_end t [] outcome k r = inl (refl, tt)
has_end t (p ∷ ps) outcome k r = inr (has_end t ps outcome k r)

-- the replies are the machine's
abbrev pub Replied : ℕ → State → List (Event × Reply) → Type 0
Replied t s [] = Unit {0}
Replied t s (p ∷ ps) = (p.1 ≡ reply_of t s p.0) × Replied t (state_after t s p.0) ps

pub replied : (t : ℕ) (s : State) (ps : List (Event × Reply)) → IsLegal s (entries_of t ps) → Replied t s ps
replied t s [] l = tt
replied t s (p ∷ ps) l = (l.1, replied t (state_after t s p.0) ps l.2)

pub replied_front : (t : ℕ) (ps qs : List (Event × Reply)) (s : State) → Replied t s (ps ++ qs) → Replied t s ps
replied_front t [] qs s r = tt
replied_front t (p ∷ ps) qs s r = (r.0, replied_front t ps qs (state_after t s p.0) r.1)

pub replied_last : (t : ℕ) (ps : List (Event × Reply)) (p : Event × Reply) (s : State) → Replied t s (ps ++ p ∷ []) → p.1 ≡ reply_of t (replay s (entries_of t ps)) p.0
replied_last t [] p s r = r.0
replied_last t (q ∷ ps) p s r = replied_last t ps p (state_after t s q.0) r.1

-- who makes no End is not over

answered_on : (r : Reply) (d : Doing) → is_over d ≡ false → is_over (answered r d) ≡ false
answered_on (replies.Wait n) d h = refl
answered_on (replies.Module m) d h = h
answered_on (replies.Cycle m) d h = h
answered_on replies.Halted d h = h
answered_on replies.Missing d h = h
answered_on replies.Deadlock d h = h
answered_on (replies.Mine epoch) d h = h
answered_on replies.Woken d h = h
answered_on (replies.Load load mid) d h = h
answered_on (replies.Kept slot) d h = h
answered_on replies.Lost d h = h
answered_on replies.LostParent d h = h
answered_on (replies.Value v) d h = h
answered_on (replies.Unset init) d h = h
answered_on replies.Sleeping d h = h
answered_on replies.Fixed d h = h
answered_on (replies.Names names) d h = h
answered_on (replies.Loaded m text) d h = h
answered_on (replies.Path items) d h = h
answered_on replies.Full d h = h
answered_on (replies.Ns state epoch) d h = h
answered_on (replies.Slot slot) d h = h
answered_on (replies.Was slot) d h = h
answered_on replies.NotThere d h = h
answered_on (replies.Busy m) d h = h
answered_on (replies.Begun epoch) d h = h
answered_on (replies.Yours load text) d h = h
answered_on replies.NoListing d h = h
answered_on (replies.Listing time part file) d h = h
answered_on replies.Ready d h = h
answered_on replies.Done d h = h

pub goes_on : (event : Event) (r : Reply) (d : Doing) → ends event ≡ 0 → is_over d ≡ false → is_over (does event r d) ≡ false
goes_on e.Wake r d none h = refl
goes_on (e.Ask n) r d none h = answered_on r d h
goes_on (e.Take n) r d none h = answered_on r d h
goes_on (e.Add spec text) r d none h = h
goes_on (e.Finish load good) r d none h = h
goes_on (e.Release n) r d none h = h
goes_on (e.GetVar mid x raw) r d none h = h
goes_on (e.SetVar raw mid x v) r d none h = h
goes_on (e.DelVar mid x raw) r d none h = h
goes_on (e.Names mid) r d none h = h
goes_on (e.Source load) r d none h = h
goes_on (e.Print text) r d none h = h
goes_on e.PathGet r d none h = h
goes_on (e.PathAdd at v) r d none h = h
goes_on (e.DirGet dir part) r d none h = h
goes_on (e.DirSet dir listing) r d none h = h
goes_on e.Invalidate r d none h = h
goes_on (e.NsGet mid) r d none h = h
goes_on (e.NsSet mid state) r d none h = h
goes_on (e.TabGet n) r d none h = h
goes_on (e.TabSet n slot) r d none h = h
goes_on (e.TabDel n) r d none h = h
goes_on (e.ReloadBegin mid raw) r d none h = h
goes_on (e.ReloadTake mid spec text) r d none h = answered_on r d h
goes_on (e.ReloadEnd mid load) r d none h = h
goes_on (e.AddLazy spec text) r d none h = h
goes_on (e.Rouse mid) r d none h = answered_on r d h
goes_on (e.Main spec text) r d none h = h
goes_on (e.End outcome spent) r d none h = let one : 1 ≡ 0 = none in absurd (omega (arith, one))
