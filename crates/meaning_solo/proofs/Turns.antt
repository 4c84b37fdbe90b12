-- Where a machine stands whose scripts run one after another.
use Rattle.std.proofs.Common.{◌≡◌, ◌≢◌, ◌<◌, ◌≤◌, ℕ, ◌+◌, Bool, true, false, nat_lt, List, [], ◌∷◌, ◌++◌, length, Option, Some, None, refl, sym, ◌∙◌, ap, subst, arith}
use Rattle.std.specs.Prelude.{slice_get, is_some, fold}
use Rattle.std.specs.FinMap.{get}
use Rattle.std.proofs.lemmas.Bool.{false≢true, ltb-true, ltb-false}
use Rattle.std.proofs.lemmas.List.{append-nil}
use Rattle.machine_events.specs.declared.event.Event.{Event}
use Rattle.machine_events.specs.declared.event.Event.TheVariants.{End}
use Rattle.machine_events.specs.declared.event.Reply.{Reply}
use Rattle.machine_events.specs.declared.event.Outcome.{Outcome}
use Rattle.machine_events.specs.declared.event.Entry.{Entry}
use Rattle.machine_spec.specs.declared.state.State.{State}
use Rattle.machine_spec.specs.Step.{step}
use Rattle.machine_spec.specs.Legal.{Allowed, replay, IsLegal}
use Rattle.machine_laws.specs.Bones.{bones}
use Rattle.machine_laws.specs.Sound.{IsRunning}
use Rattle.machine_laws.specs.Begun.{Begun, first}
use Rattle.machine_laws.proofs.Leave.{runs}
use Rattle.machine_laws.proofs.Lists.{within}
use Rattle.machine_laws.proofs.Going.{same_rounds}
use Rattle.machine_shown.specs.Own.{own, HasEnded, Ready, IsLone}
use Rattle.machine_shown.specs.Shown.{Shown, shown, shown_first, shown_more}
use Rattle.machine_allows.proofs.Grow.{at_some}
use Rattle.machine_allows.proofs.Agreeing.{Agrees, is_over}
use Rattle.machine_allows.proofs.First.{agrees_first}
use Rattle.machine_allows.proofs.Along.{whole_first, agree_along, ended_along}
use Rattle.meaning_runs.specs.Lists.{ends}
use Rattle.meaning_runs.proofs.Spends.{shown-snoc}
use Rattle.meaning_solo.specs.Made.{reply_of, entries_of}
use Rattle.meaning_solo.specs.Solo.{AreAlone}
use Rattle.meaning_solo.proofs.Parts.{own_append, own_cons, own_other, own_entries, own_others, replay_append, legal_append, ended_front, ended_back, has_end, goes_on}

-- the scripts before t have ended, t has made these pairs, and no later one has begun
pub record At (b : Begun) (pre : List Entry) (t : ℕ) (mine : List (Event × Reply)) : Type 0 where
  pub legal : IsLegal (first b) pre
  pub ended : (u : ℕ) → u < t → HasEnded pre u
  pub own_is : own t pre ≡ mine
  pub later : (u : ℕ) → t < u → own u pre ≡ []

abbrev pub now : Begun → List Entry → State
now b pre = replay (first b) pre

pub at_start : (b : Begun) → At b [] 0 []
at_start b = record { legal = tt; ended = λ u less. absurd (omega (arith, less)); own_is = refl; later = λ u less. refl }

apart : (t u : ℕ) → t < u → t ≢ u
apart t u less same = omega (arith, less, same)

-- the script makes some more pairs
pub at_entries : (b : Begun) (pre : List Entry) (t : ℕ) (mine ps : List (Event × Reply)) → At b pre t mine → IsLegal (now b pre) (entries_of t ps) → At b (pre ++ entries_of t ps) t (mine ++ ps)
at_entries b pre t mine ps at legal = record {
  legal = legal_append (first b) pre (entries_of t ps) at.legal legal;
  ended = λ u less. ended_front pre (entries_of t ps) u (at.ended u less);
  own_is = own_append t pre (entries_of t ps) ∙ (ap (λ w. w ++ own t (entries_of t ps)) at.own_is ∙ ap (λ w. mine ++ w) (own_entries t ps));
  later = λ u less. own_append u pre (entries_of t ps) ∙ (ap (λ w. w ++ own u (entries_of t ps)) (at.later u less) ∙ own_others u t ps (apart t u less));
}

-- it has made its End: the turn of the next one
pub at_next : (b : Begun) (pre : List Entry) (t : ℕ) (mine : List (Event × Reply)) → At b pre t mine → HasEnded pre t → At b pre (t + 1) []
at_next b pre t mine at has = record {
  legal = at.legal;
  ended = λ u less.
      elim (nat_lt u t) as (λ (c : Bool). nat_lt u t ≡ c → HasEnded pre u) [
        | true ↦ λ h. at.ended u (ltb-true u t h)
        | false ↦ λ h. let same : t ≡ u = (let le = ltb-false u t h in omega (arith, le, less)) in subst (HasEnded pre) same has
      ] refl;
  own_is = at.later (t + 1) (omega arith);
  later = λ u less. at.later u (omega (arith, less));
}

module _ (b : Begun) (alone : AreAlone (first b)) (pre : List Entry) (t : ℕ) (mine : List (Event × Reply)) (at : At b pre t mine) where
  round_of : (u f : ℕ) → slice_get (now b pre).rounds u ≡ Some f → slice_get (first b).rounds u ≡ Some f
  round_of u f is = ap (λ (rs : List ℕ). slice_get rs u) (sym (same_rounds (first b) pre (whole_first b).sound at.legal)) ∙ is

  -- an earlier script makes nothing
  not_before : (u : ℕ) → u < t → IsRunning (bones (now b pre)) u → ⊥
  not_before u less r =
      let over : is_some (get (bones (now b pre)).ended u) ≡ true = ended_along u (first b) pre (shown_first u) (whole_first b) at.legal (agrees_first b u) (at.ended u less) in
      false≢true (sym r.going ∙ over)

  -- and no later one, while this one goes on
  not_behind : is_over (shown t mine).doing ≡ false → (u : ℕ) → t < u → IsRunning (bones (now b pre)) u → ⊥
  not_behind going u less r =
      let first_is : r.first ≡ u = alone u r.first (round_of u r.first r.round) in
      let over : is_some (get (bones (now b pre)).ended t) ≡ true = r.earlier t (subst (λ f. t < f) (sym first_is) less) in
      let agrees = agree_along t (first b) pre (shown_first t) (whole_first b) at.legal (agrees_first b t) in
      let not : is_over (fold shown_more (shown_first t) (own t pre)).doing ≡ false = subst (λ (ps : List (Event × Reply)). is_over (fold shown_more (shown_first t) ps).doing ≡ false) (sym at.own_is) going in
      false≢true (sym (agrees.over ∙ not) ∙ over)

  by_order : (u : ℕ) → (u < t → ⊥) → (t < u → ⊥) → u ≡ t
  by_order u low high =
      elim (nat_lt u t) as (λ (c : Bool). nat_lt u t ≡ c → u ≡ t) [
        | true ↦ λ h. absurd (low (ltb-true u t h))
        | false ↦ λ h.
            elim (nat_lt t u) as (λ (c : Bool). nat_lt t u ≡ c → u ≡ t) [
              | true ↦ λ k. absurd (high (ltb-true t u k))
              | false ↦ λ k. let le = ltb-false u t h in let ge = ltb-false t u k in omega (arith, le, ge)
            ] refl
      ] refl

  pub next_is : is_over (shown t mine).doing ≡ false → (u : ℕ) (event : Event) → Allowed (now b pre) u event → u ≡ t
  next_is going u event may = let r = runs (now b pre) u event may in by_order u (λ less. not_before u less r) (λ less. not_behind going u less r)

  -- where the later ones are to make nothing
  pub next_only : (u : ℕ) (event : Event) → (t < u → u < length (first b).rounds → ⊥) → Allowed (now b pre) u event → u ≡ t
  next_only u event none may =
      let r = runs (now b pre) u event may in
      let low : u < length (first b).rounds = within (first b).rounds u r.first (round_of u r.first r.round) in
      by_order u (λ less. not_before u less r) (λ less. none less low)

  -- after the last script nothing is made
  pub none_left : t ≡ length (first b).rounds → (u : ℕ) (event : Event) → Allowed (now b pre) u event → ⊥
  none_left last u event may =
      let r = runs (now b pre) u event may in
      let low : u < length (first b).rounds = within (first b).rounds u r.first (round_of u r.first r.round) in
      not_before u (omega (arith, last, low)) r

  pub ready : t < length (first b).rounds → Ready (first b).rounds pre t
  ready less = let it = at_some (first b).rounds t less in record { first = t; round = it.1 ∙ ap Some (alone t it.0 it.1); ended = at.ended }

  pub lone : t < length (first b).rounds → IsLone (first b).rounds t
  lone less = λ u same. let it = at_some (first b).rounds t less in let here : t ≡ u = sym (alone t it.0 it.1) ∙ alone u it.0 (same ∙ it.1) in sym here

-- one more entry of the script
pub at_entry : (b : Begun) (pre : List Entry) (t : ℕ) (mine : List (Event × Reply)) (e : Entry) → At b pre t mine → e.thread ≡ t → Allowed (now b pre) e.thread e.event → e.reply ≡ (step (now b pre) e.thread e.event).0 → At b (pre ++ e ∷ []) t (mine ++ (e.event, e.reply) ∷ [])
at_entry b pre t mine e at is may reply = record {
  legal = legal_append (first b) pre (e ∷ []) at.legal (may, reply, tt);
  ended = λ u less. ended_front pre (e ∷ []) u (at.ended u less);
  own_is = own_append t pre (e ∷ []) ∙ (ap (λ w. w ++ own t (e ∷ [])) at.own_is ∙ ap (λ w. mine ++ w) (own_cons t e [] is));
  later = λ u less. own_append u pre (e ∷ []) ∙ (ap (λ w. w ++ own u (e ∷ [])) (at.later u less) ∙ own_other u e [] (λ same. apart t u less (sym is ∙ same)));
}

pub goes_more : (t : ℕ) (mine : List (Event × Reply)) (p : Event × Reply) → ends p.0 ≡ 0 → is_over (shown t mine).doing ≡ false → is_over (shown t (mine ++ p ∷ [])).doing ≡ false
goes_more t mine p none going = ap (λ (s : Shown). is_over s.doing) (shown-snoc t mine p) ∙ goes_on p.0 p.1 (shown t mine).doing none going

abbrev pub NoEnds : List (Event × Reply) → Type 0
NoEnds [] = Unit {0}
NoEnds (p ∷ ps) = (ends p.0 ≡ 0) × NoEnds ps

-- the entries of one turn stand in front
pub record Front (t : ℕ) (h : List Entry) (ps : List (Event × Reply)) : Type 0 where
  pub rest : List Entry
  pub joined : h ≡ entries_of t ps ++ rest

module _ (b : Begun) (alone : AreAlone (first b)) (t : ℕ) where
  heads : (x p : Event × Reply) (xs ps : List (Event × Reply)) → x ∷ xs ≡ p ∷ ps → (x ≡ p) × (xs ≡ ps)
  heads x p xs ps is = (cc is, cc is)

  one_entry : (e : Entry) (p : Event × Reply) → e.thread ≡ t → (e.event, e.reply) ≡ p → e ≡ record { thread = t; event = p.0; reply = p.1 }
  one_entry e p z is = ap (λ (u : ℕ). record { thread = u; event = e.event; reply = e.reply }) z ∙ ap (λ (q : Event × Reply). record { thread = t; event = q.0; reply = q.1 }) is

  pub front : (ps : List (Event × Reply)) (p : Event × Reply) (pre : List Entry) (mine : List (Event × Reply)) (h : List Entry) → At b pre t mine → is_over (shown t mine).doing ≡ false
      → IsLegal (now b pre) h → own t h ≡ ps ++ p ∷ [] → NoEnds ps → Front t h (ps ++ p ∷ [])
  front [] p pre mine [] at going legal is none = absurd (cc is)
  front (q ∷ ps) p pre mine [] at going legal is none = absurd (cc is)
  front [] p pre mine (e ∷ es) at going legal is none =
      let z : e.thread ≡ t = next_is b alone pre t mine at going e.thread e.event legal.0 in
      let two = heads (e.event, e.reply) p (own t es) [] (sym (own_cons t e es z) ∙ is) in
      record { rest = es; joined = ap (λ (x : Entry). x ∷ es) (one_entry e p z two.0) }
  front (q ∷ ps) p pre mine (e ∷ es) at going legal is none =
      let z : e.thread ≡ t = next_is b alone pre t mine at going e.thread e.event legal.0 in
      let two = heads (e.event, e.reply) q (own t es) (ps ++ p ∷ []) (sym (own_cons t e es z) ∙ is) in
      let on : is_over (shown t (mine ++ (e.event, e.reply) ∷ [])).doing ≡ false = goes_more t mine (e.event, e.reply) (ap (λ (x : Event × Reply). ends x.0) two.0 ∙ none.0) going in
      let more = front ps p (pre ++ e ∷ []) (mine ++ (e.event, e.reply) ∷ []) es (at_entry b pre t mine e at z legal.0 legal.1) on
      (subst (λ (s : State). IsLegal s es) (sym (replay_append (first b) pre (e ∷ []))) legal.2) two.1 none.1 in
      record { rest = more.rest; joined = ap (λ (x : Entry). x ∷ es) (one_entry e q z two.0) ∙ ap (λ (w : List Entry). record { thread = t; event = q.0; reply = q.1 } ∷ w) more.joined }

  -- a history in which no later script begins is of this one alone
  pub only_this : (pre : List Entry) (mine : List (Event × Reply)) (h : List Entry) → At b pre t mine → IsLegal (now b pre) h → ((u : ℕ) → t < u → u < length (first b).rounds → own u h ≡ []) → h ≡ entries_of t (own t h)
  only_this pre mine [] at legal none = refl
  only_this pre mine (e ∷ es) at legal none =
      let z : e.thread ≡ t = next_only b alone pre t mine at e.thread e.event (λ less low. absurd (cc (sym (own_cons e.thread e es refl) ∙ none e.thread less low))) legal.0 in
      let more = only_this (pre ++ e ∷ []) (mine ++ (e.event, e.reply) ∷ []) es (at_entry b pre t mine e at z legal.0 legal.1)
      (subst (λ (s : State). IsLegal s es) (sym (replay_append (first b) pre (e ∷ []))) legal.2)
      (λ u less low. sym (own_other u e es (λ same. apart t u less (sym z ∙ same))) ∙ none u less low) in
      ap (λ (x : Entry). x ∷ es) (one_entry e (e.event, e.reply) z refl) ∙ (ap (λ (w : List Entry). record { thread = t; event = e.event; reply = e.reply } ∷ w) more ∙ ap (entries_of t) (sym (own_cons t e es z)))
