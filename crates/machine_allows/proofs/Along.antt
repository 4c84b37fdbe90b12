-- Along a legal history it stays true of the state what each thread's own pairs show.
use Rattle.std.proofs.Common.{◌≡◌, ◌+◌, ◌<◌, ℕ, arith, Bool, true, false, cond, ◌&&◌, List, [], ◌∷◌, ◌++◌, map, length, refl, sym, ap, subst, ◌∙◌, inl, inr, eqb}
use Rattle.std.specs.Prelude.{slice_get, not, fold, filter, ◌==◌}
use Rattle.std.specs.List.{sum}
use Rattle.std.proofs.lemmas.Bool.{false≢true, and_parts, eqb-true, eq-eqb}
use Rattle.std.proofs.lemmas.List.{length-append}
use Rattle.py_value.specs.declared.value.ModRef.{ModRef}
use Rattle.machine_events.specs.declared.event.Event.{Event}
use Rattle.machine_events.specs.declared.event.Event.TheVariants as events
use Rattle.machine_events.specs.declared.event.Entry.{Entry}
use Rattle.machine_events.specs.declared.event.Reply.{Reply}
use Rattle.machine_spec.specs.declared.state.State.{State}
use Rattle.machine_spec.specs.Known.{is_module}
use Rattle.machine_spec.specs.Step.{step}
use Rattle.machine_spec.specs.Allowed.{allowed, is_due, has_ended, has_leave, has_ns}
use Rattle.machine_spec.specs.Legal.{replay, IsLegal}
use Rattle.machine_spec.specs.Opening.{script_objects, sys_module, importlib_module, pyimport_module}
use Rattle.machine_laws.specs.Bones.{bones}
use Rattle.machine_laws.specs.Sound.{IsSound}
use Rattle.machine_laws.specs.Begun.{Begun, first}
use Rattle.machine_laws.proofs.Always.{sound_first}
use Rattle.machine_laws.proofs.Steps.{sound_step}
use Rattle.machine_laws.proofs.Going.{goes_step}
use Rattle.machine_laws.proofs.Lists.{within}
use Rattle.machine_laws.proofs.First.{rounds_long}
use Rattle.machine_shown.specs.Shown.{Shown, shown, shown_first, shown_more, named, numbered, load_numbered, namespace_of}
use Rattle.machine_shown.specs.Knowing.{Has}
use Rattle.machine_shown.specs.Own.{own, IsEnd, HasEnded}
use Rattle.machine_allows.proofs.Values.{has_all, has_split}
use Rattle.machine_allows.proofs.Grow.{at_some, longer, there_grow, ns_grow}
use Rattle.machine_allows.proofs.Named.{AreNamed}
use Rattle.machine_allows.proofs.Fine.{fine_step}
use Rattle.machine_allows.proofs.Spaces.{spaces_step}
use Rattle.machine_allows.proofs.Agreeing.{Agrees, Backed, is_over}
use Rattle.machine_allows.proofs.Telling.{told_step}
use Rattle.machine_allows.proofs.First.{backed_first, named_first, loads_length, objects_length}

-- what holds of every state beside what the machine's type keeps
pub record Whole (s : State) : Type 0 where
  pub sound : IsSound s
  pub backed : Backed (bones s)
  pub keeps : AreNamed s.table

-- what is shown to exist does so
pub record Exists (s : State) (k : Shown) : Type 0 where
  pub modules : (m : ModRef) → Has k.modules m → is_module s.table m ≡ true
  pub mids : (i : ℕ) → Has k.mids i → i < length s.table.objects
  pub loads : (i : ℕ) → Has k.loads i → i < length s.table.loads
  pub spaces : (i : ℕ) → Has k.namespaces i → has_ns (slice_get s.table.objects i) ≡ true

pub whole_step : (s : State) (t : ℕ) (e : Event) → allowed s t e ≡ true → Whole s → Whole (step s t e).1
whole_step s t e h w = record {
  sound = sound_step s w.sound t e h;
  backed = (told_step s w.sound w.backed t e h).backed;
  keeps = (fine_step s w.keeps t e h).keeps;
}

more_loads : (s : State) (t : ℕ) (e : Event) → Whole s → (i : ℕ) → i < length s.table.loads → i < length (step s t e).1.table.loads
more_loads s t e w i less =
    let l = at_some s.table.loads i less in
    let k = (goes_step s w.sound t e).0.kept i l.0 l.1 in
    within (step s t e).1.table.loads i k.0 k.1

exists_on : (s : State) (t : ℕ) (e : Event) (k : Shown) → allowed s t e ≡ true → Whole s → Exists s k → Exists (step s t e).1 k
exists_on s t e k h w x =
    let fine = fine_step s w.keeps t e h in
    record {
      modules = λ m has. there_grow s.table (step s t e).1.table fine.grow m (x.modules m has);
      mids = λ i has. longer s.table.objects (step s t e).1.table.objects fine.grow i (x.mids i has);
      loads = λ i has. more_loads s t e w i (x.loads i has);
      spaces = λ i has. ns_grow s.table (step s t e).1.table fine.grow i (x.spaces i has);
    }

pub exists_more : (s : State) (t : ℕ) (e : Event) (k : Shown) → allowed s t e ≡ true → Whole s → Exists s k → Exists (step s t e).1 (shown_more k (e, (step s t e).0))
exists_more s t e k h w x =
    let fine = fine_step s w.keeps t e h in
    let r : Reply = (step s t e).0 in
    let old = exists_on s t e k h w x in
    record {
      modules = λ m has. elim (has_split (named r) k.modules m has) [ inl new ↦ has_all (is_module (step s t e).1.table) (named r) fine.there m new | inr before ↦ old.modules m before ];
      mids = λ i has. elim (has_split (numbered r) k.mids i has) [ inl new ↦ fine.mids i new | inr before ↦ old.mids i before ];
      loads = λ i has. elim (has_split (load_numbered r) k.loads i has) [ inl new ↦ fine.loads i new | inr before ↦ old.loads i before ];
      spaces = λ i has. elim (has_split (namespace_of e r) k.namespaces i has) [ inl new ↦ spaces_step s w.keeps t e h i new | inr before ↦ old.spaces i before ];
    }

-- what one more entry shows to a thread
abbrev pub on_entry : ℕ → Shown → Entry → Shown
on_entry t k e = cond (eqb e.thread t) (shown_more k (e.event, e.reply)) k

pub shown_entry : (t : ℕ) (k : Shown) (e : Entry) (es : List Entry) → fold shown_more k (own t (e ∷ es)) ≡ fold shown_more (on_entry t k e) (own t es)
shown_entry t k e es =
    elim (eqb e.thread t) as (λ c. fold shown_more k (map (λ e. (e.event, e.reply)) (cond c (e ∷ filter (λ e. e.thread == t) es) (filter (λ e. e.thread == t) es))) ≡ fold shown_more (cond c (shown_more k (e.event, e.reply)) k) (own t es)) [ true ↦ refl | false ↦ refl ]

module _ (t : ℕ) where
  abbrev Agree : State → Shown → Type 0
  Agree s k = Agrees (bones s) t k.held k.doing

  agree_entry : (s : State) (k : Shown) (e : Entry) → allowed s e.thread e.event ≡ true → e.reply ≡ (step s e.thread e.event).0 → Whole s → Agree s k → Agree (step s e.thread e.event).1 (on_entry t k e)
  agree_entry s k e h reply w g =
      let told = (told_step s w.sound w.backed e.thread e.event h).agrees t k.held k.doing g in
      let after : State = (step s e.thread e.event).1 in
      subst (λ (r : Reply). Agree after (cond (eqb e.thread t) (shown_more k (e.event, r)) k)) (sym reply) (both after (step s e.thread e.event).0 (eqb e.thread t) told)
    where
      both : (after : State) (r : Reply) (c : Bool) → Agrees (bones after) t (cond c (shown_more k (e.event, r)).held k.held) (cond c (shown_more k (e.event, r)).doing k.doing) → Agree after (cond c (shown_more k (e.event, r)) k)
      both after r true g = g
      both after r false g = g

  exists_entry : (s : State) (k : Shown) (e : Entry) → allowed s e.thread e.event ≡ true → e.reply ≡ (step s e.thread e.event).0 → Whole s → Exists s k → Exists (step s e.thread e.event).1 (on_entry t k e)
  exists_entry s k e h reply w x =
      let after : State = (step s e.thread e.event).1 in
      subst (λ (r : Reply). Exists after (cond (eqb e.thread t) (shown_more k (e.event, r)) k)) (sym reply)
      (elim (eqb e.thread t) as (λ c. Exists after (cond c (shown_more k (e.event, (step s e.thread e.event).0)) k)) [
        | true ↦ exists_more s e.thread e.event k h w x
        | false ↦ exists_on s e.thread e.event k h w x
      ])

  pub agree_along : (s : State) (es : List Entry) (k : Shown) → Whole s → IsLegal s es → Agree s k → Agree (replay s es) (fold shown_more k (own t es))
  agree_along s [] k w legal g = g
  agree_along s (e ∷ es) k w legal g =
      subst (Agree (replay s (e ∷ es))) (sym (shown_entry t k e es))
      (agree_along (step s e.thread e.event).1 es (on_entry t k e) (whole_step s e.thread e.event legal.0 w) legal.2 (agree_entry s k e legal.0 legal.1 w g))

  pub exists_along : (s : State) (es : List Entry) (k : Shown) → Whole s → IsLegal s es → Exists s k → Exists (replay s es) (fold shown_more k (own t es))
  exists_along s [] k w legal x = x
  exists_along s (e ∷ es) k w legal x =
      subst (Exists (replay s (e ∷ es))) (sym (shown_entry t k e es))
      (exists_along (step s e.thread e.event).1 es (on_entry t k e) (whole_step s e.thread e.event legal.0 w) legal.2 (exists_entry s k e legal.0 legal.1 w x))

  -- who has ended has ended for good
  going : (s : State) (e : Event) → allowed s t e ≡ true → has_ended s t ≡ false
  going s e h =
      let parts = and_parts (is_due s t && not (has_ended s t)) (has_leave s t e) h in
      let front = and_parts (is_due s t) (not (has_ended s t)) parts.0 in
      untrue (has_ended s t) front.1
    where
      untrue : (b : Bool) → not b ≡ true → b ≡ false
      untrue true h = absurd (false≢true h)
      untrue false h = refl

  stays_ended : (s : State) (es : List Entry) (k : Shown) → Whole s → IsLegal s es → Agree s k → has_ended s t ≡ true → has_ended (replay s es) t ≡ true
  stays_ended s [] k w legal g h = h
  stays_ended s (e ∷ es) k w legal g h =
      let after : State = (step s e.thread e.event).1 in
      let next = agree_entry s k e legal.0 legal.1 w g in
      let more : has_ended after t ≡ true =
      elim (eqb e.thread t) as (λ c. eqb e.thread t ≡ c → Agree after (cond c (shown_more k (e.event, e.reply)) k) → has_ended after t ≡ true) [
        | true ↦ λ p _. absurd (false≢true (sym (going s e.event (subst (λ u. allowed s u e.event ≡ true) (eqb-true e.thread t p) legal.0)) ∙ h))
        | false ↦ λ p n. n.over ∙ sym g.over ∙ h
      ] refl next in
      stays_ended after es (on_entry t k e) (whole_step s e.thread e.event legal.0 w) legal.2 next more

  over_after : (k : Shown) (e : Event) (r : Reply) → IsEnd e → is_over (shown_more k (e, r)).doing ≡ true
  over_after k (events.End outcome spent) r h = refl
  over_after k (events.Ask n) r h = absurd h
  over_after k (events.Take n) r h = absurd h
  over_after k events.Wake r h = absurd h
  over_after k (events.Add spec text) r h = absurd h
  over_after k (events.Finish load good) r h = absurd h
  over_after k (events.Release n) r h = absurd h
  over_after k (events.GetVar mid x raw) r h = absurd h
  over_after k (events.SetVar raw mid x v) r h = absurd h
  over_after k (events.DelVar mid x raw) r h = absurd h
  over_after k (events.Names mid) r h = absurd h
  over_after k (events.Source load) r h = absurd h
  over_after k (events.Print text) r h = absurd h
  over_after k events.PathGet r h = absurd h
  over_after k (events.PathAdd at v) r h = absurd h
  over_after k (events.DirGet dir part) r h = absurd h
  over_after k (events.DirSet dir listing) r h = absurd h
  over_after k events.Invalidate r h = absurd h
  over_after k (events.NsGet mid) r h = absurd h
  over_after k (events.NsSet mid state) r h = absurd h
  over_after k (events.TabGet n) r h = absurd h
  over_after k (events.TabSet n slot) r h = absurd h
  over_after k (events.TabDel n) r h = absurd h
  over_after k (events.ReloadBegin mid raw) r h = absurd h
  over_after k (events.ReloadTake mid spec text) r h = absurd h
  over_after k (events.ReloadEnd mid load) r h = absurd h
  over_after k (events.AddLazy spec text) r h = absurd h
  over_after k (events.Rouse mid) r h = absurd h
  over_after k (events.Main spec text) r h = absurd h

  pub ended_along : (s : State) (es : List Entry) (k : Shown) → Whole s → IsLegal s es → Agree s k → HasEnded es t → has_ended (replay s es) t ≡ true
  ended_along s [] k w legal g has = absurd has
  ended_along s (e ∷ es) k w legal g (inl here) =
      let after : State = (step s e.thread e.event).1 in
      let next = agree_entry s k e legal.0 legal.1 w g in
      let own_next : Agree after (shown_more k (e.event, e.reply)) = subst (λ c. Agree after (cond c (shown_more k (e.event, e.reply)) k)) (eq-eqb e.thread t here.0) next in
      stays_ended after es (shown_more k (e.event, e.reply)) (whole_step s e.thread e.event legal.0 w) legal.2 own_next (own_next.over ∙ over_after k e.event e.reply here.1)
  ended_along s (e ∷ es) k w legal g (inr later) =
      ended_along (step s e.thread e.event).1 es (on_entry t k e) (whole_step s e.thread e.event legal.0 w) legal.2 (agree_entry s k e legal.0 legal.1 w g) later

pub whole_along : (s : State) (es : List Entry) → Whole s → IsLegal s es → Whole (replay s es)
whole_along s [] w legal = w
whole_along s (e ∷ es) w legal = whole_along (step s e.thread e.event).1 es (whole_step s e.thread e.event legal.0 w) legal.2

pub whole_first : (b : Begun) → Whole (first b)
whole_first b = record { sound = sound_first b; backed = backed_first b; keeps = named_first b }

-- a script's own module and its own load are there
pub exists_first : (b : Begun) (t : ℕ) → t < length (first b).rounds → Exists (first b) (shown_first t)
exists_first b t less =
    let long : length (first b).rounds ≡ sum b.rounds = rounds_long 0 b.rounds in
    let whole = b.whole in
    let texts = b.as_many in
    let loads : length (first b).table.loads ≡ length b.texts = loads_length 0 b.texts in
    let objects : length (first b).table.objects ≡ length b.scripts + 1 + 1 + 1 = many b.scripts in
    record {
      modules = λ m has. absurd has;
      mids = λ i has. own_number i (length (first b).table.objects) has (omega arith);
      loads = λ i has. own_number i (length (first b).table.loads) has (omega arith);
      spaces = λ i has. absurd has;
    }
  where
    own_number : (i n : ℕ) → Has (t ∷ []) i → t < n → i < n
    own_number i n (inl e) less = subst (λ k. k < n) (sym e) less
    own_number i n (inr h) less = absurd h

    many : (scripts : List (List ℕ)) → length (((script_objects 0 scripts ++ sys_module ∷ []) ++ importlib_module ∷ []) ++ pyimport_module ∷ []) ≡ length scripts + 1 + 1 + 1
    many scripts =
        length-append ((script_objects 0 scripts ++ sys_module ∷ []) ++ importlib_module ∷ []) (pyimport_module ∷ [])
        ∙ ap (λ n. n + 1) (length-append (script_objects 0 scripts ++ sys_module ∷ []) (importlib_module ∷ []) ∙ ap (λ n. n + 1) (length-append (script_objects 0 scripts) (sys_module ∷ []) ∙ ap (λ n. n + 1) (objects_length 0 scripts)))
