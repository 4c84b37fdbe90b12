-- An outlet that keeps up, one entry at a time.
use Rattle.std.proofs.Common.{◌≡◌, ℕ, List, [], ◌∷◌, ◌++◌, Option, Some, None, refl, sym, ◌∙◌, ap, subst, arith, inl, inr}
use Rattle.std.proofs.lemmas.List.{append-nil, append_assoc}
use Rattle.std.proofs.lemmas.Grind.{flat_map-append}
use Rattle.tree_files.specs.Count.{Rose}
use Rattle.machine_events.specs.declared.event.Entry.{Entry}
use Rattle.machine_desk.specs.declared.outlet.Flow.{Flow}
use Rattle.machine_desk.specs.declared.outlet.Flow.TheVariants.{Open, Failed, Short}
use Rattle.machine_spec.specs.declared.state.State.{State}
use Rattle.machine_shown.specs.Own.{HasEnded, Ready}
use Rattle.machine_desk.specs.Sight.{Sight, Telling, KeepsUp, IsReady, Continues}
use Rattle.machine_desk.specs.Outgo.{Outgo, Pieces, Kept, text_of, Appends, AppendsPart, Flows, Rests, FlowsFrom}

pub appends_then : (a b c : Option (List ℕ)) (x y : List ℕ) → Appends a b x → Appends b c y → Appends a c (x ++ y)
appends_then None None None x y p q = tt
appends_then (Some a) (Some b) (Some c) x y p q = q ∙ (ap (λ w. w ++ y) p ∙ append_assoc a x y)
appends_then None None (Some c) x y p q = absurd q
appends_then None (Some b) c x y p q = absurd p
appends_then (Some a) None c x y p q = absurd p
appends_then (Some a) (Some b) None x y p q = absurd q

pub part_then : (a b c : Option (List ℕ)) (x y : List ℕ) → Appends a b x → AppendsPart b c y → AppendsPart a c (x ++ y)
part_then a b c x y p q = record {
  part = x ++ q.part;
  rest = q.rest;
  whole = append_assoc x q.part q.rest ∙ ap (λ w. x ++ w) q.whole;
  gained = appends_then a b c x q.part p q.gained;
}

pub part_still : (a b c : Option (List ℕ)) (x y : List ℕ) → AppendsPart a b x → Appends b c [] → AppendsPart a c (x ++ y)
part_still a b c x y p q = record {
  part = p.part ++ [];
  rest = p.rest ++ y;
  whole = ap (λ w. w ++ (p.rest ++ y)) (append-nil p.part) ∙ (sym (append_assoc p.part p.rest y) ∙ ap (λ w. w ++ y) p.whole);
  gained = appends_then a b c p.part [] p.gained q;
}

rests : (a b c : Outgo) → Rests a b → Rests b c → Rests a c
rests a b c p q = (q.0 ∙ p.0, appends_then a.written b.written c.written [] [] p.1 q.1, q.2 ∙ p.2)

module _ (a b c : Outgo) (x y : List ℕ) where
  -- from an open start, by the flow in the middle and at the end
  flows_then : (m e : Flow) → b.flow ≡ m → c.flow ≡ e → Flows a x b m → FlowsFrom b y c m → Flows a (x ++ y) c e
  flows_then Open Open mb ec p q = let r : Appends b.written c.written y × (c.faults ≡ b.faults) = rw ec at q in (appends_then a.written b.written c.written x y p.0 r.0, r.1 ∙ p.1)
  flows_then Open Failed mb ec p q = let r : AppendsPart b.written c.written y × Rose b.faults c.faults = rw ec at q in (part_then a.written b.written c.written x y p.0 r.0, subst (λ f. Rose f c.faults) p.1 r.1)
  flows_then Open Short mb ec p q = let r : AppendsPart b.written c.written y × (c.faults ≡ b.faults) = rw ec at q in (part_then a.written b.written c.written x y p.0 r.0, r.1 ∙ p.1)
  flows_then Failed Failed mb ec p q = (part_still a.written b.written c.written x y p.0 q.1, subst (λ f. Rose a.faults f) (sym q.2) p.1)
  flows_then Short Short mb ec p q = (part_still a.written b.written c.written x y p.0 q.1, q.2 ∙ p.1)
  flows_then Failed Open mb ec p q = absurd (cc (mb, ec, q.0))
  flows_then Failed Short mb ec p q = absurd (cc (mb, ec, q.0))
  flows_then Short Open mb ec p q = absurd (cc (mb, ec, q.0))
  flows_then Short Failed mb ec p q = absurd (cc (mb, ec, q.0))

  -- from any start
  from_then : (s : Flow) → a.flow ≡ s → FlowsFrom a x b s → FlowsFrom b y c b.flow → FlowsFrom a (x ++ y) c s
  from_then Open sa p q = flows_then b.flow c.flow refl refl p q
  from_then Failed sa p q = rests a b c p (subst (λ f. FlowsFrom b y c f) (p.0 ∙ sa) q)
  from_then Short sa p q = rests a b c p (subst (λ f. FlowsFrom b y c f) (p.0 ∙ sa) q)

pub kept_next : (piece : Pieces) (a b c : Outgo) (entries : List Entry) (entry : Entry) → Kept piece a b entries → Kept piece b c (entry ∷ []) → Kept piece a c (entries ++ entry ∷ [])
kept_next piece a b c entries entry p q = record {
  trace = q.trace ∙ p.trace;
  faults = omega (arith, p.faults, q.faults);
  text = rw (flat_map-append (piece a.trace) entries (entry ∷ []))
      (from_then a b c (text_of piece a.trace entries) (text_of piece a.trace (entry ∷ [])) a.flow refl p.text (rw p.trace at q.text));
}

pub kept_then : (piece : Pieces) (a b c : Outgo) (xs ys : List Entry) → Kept piece a b xs → Kept piece b c ys → Kept piece a c (xs ++ ys)
kept_then piece a b c xs ys p q = record {
  trace = q.trace ∙ p.trace;
  faults = omega (arith, p.faults, q.faults);
  text = rw (flat_map-append (piece a.trace) xs ys)
      (from_then a b c (text_of piece a.trace xs) (text_of piece a.trace ys) a.flow refl p.text (rw p.trace at q.text));
}

keeps_then : (a b c : Option Telling) (xs ys : List Entry) → KeepsUp a b xs → KeepsUp b c ys → KeepsUp a c (xs ++ ys)
keeps_then None None None xs ys p q = tt
keeps_then (Some a) (Some b) (Some c) xs ys p q = (q.0 ∙ p.0, kept_then a.piece a.out b.out c.out xs ys p.1 (rw p.0 at q.1))
keeps_then None None (Some c) xs ys p q = absurd q
keeps_then None (Some b) c xs ys p q = absurd p
keeps_then (Some a) None c xs ys p q = absurd p
keeps_then (Some a) (Some b) None xs ys p q = absurd q

pub continues_trans : {P : Type 0} (a b c : Sight P) → Continues a b → Continues b c → Continues a c
continues_trans a b c p q = record {
  opening = q.opening ∙ p.opening;
  number = q.number ∙ p.number;
  place = q.place ∙ p.place;
  seen = record { rest = p.seen.rest ++ q.seen.rest; joined = sym (append_assoc a.seen p.seen.rest q.seen.rest) ∙ (ap (λ w. w ++ q.seen.rest) p.seen.joined ∙ q.seen.joined) };
  keeps = keeps_then a.telling b.telling c.telling p.seen.rest q.seen.rest p.keeps q.keeps;
}

appends_none : (a : Option (List ℕ)) → Appends a a []
appends_none None = tt
appends_none (Some a) = sym (append-nil a)

still_from : (a : Outgo) (f : Flow) → a.flow ≡ f → FlowsFrom a [] a f
still_from a Open h = rw h (appends_none a.written, refl)
still_from a Failed h = (refl, appends_none a.written, refl)
still_from a Short h = (refl, appends_none a.written, refl)

pub kept_none : (piece : Pieces) (a : Outgo) → Kept piece a a []
kept_none piece a = record { trace = refl; faults = omega arith; text = still_from a a.flow refl }

keeps_none : (a : Option Telling) → KeepsUp a a []
keeps_none None = tt
keeps_none (Some a) = (refl, kept_none a.piece a.out)

pub continues_refl : {P : Type 0} (a : Sight P) → Continues a a
continues_refl a = record { opening = refl; number = refl; place = refl; seen = record { rest = []; joined = append-nil a.seen }; keeps = keeps_none a.telling }

-- one entry more
pub continues_snoc : {P : Type 0} (a b : Sight P) (e : Entry) → b.opening ≡ a.opening → b.number ≡ a.number → b.place ≡ a.place → b.seen ≡ a.seen ++ e ∷ [] → KeepsUp a.telling b.telling (e ∷ []) → Continues a b
continues_snoc a b e o n p s k = record { opening = o; number = n; place = p; seen = record { rest = e ∷ []; joined = sym s }; keeps = k }

-- who has an End in a history has it in a longer one
ended_longer : (xs ys : List Entry) (t : ℕ) → HasEnded xs t → HasEnded (xs ++ ys) t
ended_longer [] ys t h = absurd h
ended_longer (x ∷ xs) ys t (inl here) = inl here
ended_longer (x ∷ xs) ys t (inr later) = inr (ended_longer xs ys t later)

pub ready_longer : (rounds : List ℕ) (old more new : List Entry) (t : ℕ) → old ++ more ≡ new → Ready rounds old t → Ready rounds new t
ready_longer rounds old more new t is ready = record {
  first = ready.first;
  round = ready.round;
  ended = λ u less. subst (λ h. HasEnded h u) is (ended_longer old more u (ready.ended u less));
}

-- a desk that is ready stays so
pub ready_on : {P : Type 0} (a b : Sight P) → Continues a b → IsReady a → IsReady b
ready_on a b c ready =
    let longer : Ready a.opening.rounds b.seen a.number = ready_longer a.opening.rounds a.seen c.seen.rest b.seen a.number c.seen.joined ready in
    subst (λ n. Ready b.opening.rounds b.seen n) (sym c.number) (subst (λ (s : State). Ready s.rounds b.seen a.number) (sym c.opening) longer)
