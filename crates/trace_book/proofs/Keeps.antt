-- Each kind of step keeps the rule of the shared book.
use Rattle.std.proofs.Common.{◌≡◌, ◌≢◌, ◌⊎◌, ℕ, Bool, true, false, List, [], ◌∷◌, ◌++◌, length, set, Option, Some, None, refl, sym, ap, ◌∙◌, subst, inl, inr, ⊎_elim, arith, length-append, append-nil}
use Rattle.std.proofs.lemmas.Bool.{false_from_ne_true}
use Rattle.std.specs.Prelude.{slice_index, slice_set, ◌==◌}
use mathlib.Core.Option as m
use prog.Atomic.{either}
use lib.ListN.{get_elem?}
use Rattle.atomic_table.specs.Table.{State, Act, keeps, takes, gives, Valid, Allows, homes_after, carried_after, step}
use Rattle.atomic_table.proofs.Lists.{set_again, set_else}
use mathlib.Core.Logic.{dite}
use native.Mathlib.Decide.{ℕ_discrete}
use Rattle.machine_events.specs.declared.event.Entry.{Entry}
use Rattle.trace_book.specs.declared.view.Base.{Base}
use Rattle.machine_shown.specs.Own.{own}
use Rattle.machine_book.specs.Bound.{BoundTo}
use Rattle.machine_desk.specs.Outgo.{Outgo, Pieces}
use Rattle.machine_book.proofs.Histories.{own_snoc}
use Rattle.trace_book.proofs.Owns.{own_append, own_none}
use Rattle.trace_book.specs.declared.view.View.{View}
use Rattle.trace_book.specs.declared.view.Phase.TheVariants.{New, Idle, Holding}
use Rattle.trace_book.specs.Views.{Has, Within, Rounded, next_of, is_spent, taken_numbers, taken_seen, holding, idle_as}
use Rattle.trace_book.specs.Rule.{NobodyHas, Sees, Speaks, Fits, place_of, Follows, Written, AtHome, Held, IsHeld, Shelved, Voices}
use Rattle.trace_book.specs.Plays.{Seated, Fills, Takes, Notes, GivesBack}
use Rattle.trace_book.proofs.Beginnings.{prefix_self, prefix_grows, all_set, set_at}

-- each number keeps its voice where one view changes and keeps its numbers
pub voices_set : (o : Base) (who : ℕ → ℕ) (views : List View) (id : ℕ) (v w : View) → get_elem? views id ≡ m.some v
    → ((i : ℕ) → Has i v.numbers ⊎ Has i (taken_numbers v.phase) → Has i w.numbers ⊎ Has i (taken_numbers w.phase)) → Voices o who views → Voices o who (set views id w)
voices_set o who views id v w at carry old i lt =
    let x = old i lt in
    dite (ℕ_discrete (who i) id)
    (λ (same : who i ≡ id).
    let is : x.0 ≡ v = m.some-injective x.0 v (sym x.1 ∙ (ap (λ q. get_elem? views q) same ∙ at)) in
    (w, ap (λ q. get_elem? (set views id w) q) same ∙ set_at views id v w at, carry i (subst (λ (u : View). Has i u.numbers ⊎ Has i (taken_numbers u.phase)) is x.2)))
    (λ apart. (x.0, set_else views id (who i) w apart ∙ x.1, x.2))

-- a view with nothing to take in keeps its numbers
pub carries : (v w : View) → taken_numbers v.phase ≡ [] → w.numbers ≡ v.numbers → (i : ℕ) → Has i v.numbers ⊎ Has i (taken_numbers v.phase) → Has i w.numbers ⊎ Has i (taken_numbers w.phase)
carries v w none same i has = ⊎_elim (λ a. inl (subst (Has i) (sym same) a)) (λ b. absurd (subst (Has i) none b)) has

pub sees_none : (h : List Entry) → Sees h [] []
sees_none h = ((h, refl), λ i b. absurd b)

-- a view that has the turn
fits_holding : (o : Base) (h : List Entry) (who : ℕ → ℕ) (by : ℕ) (v : View) (next : List Entry) → is_spent v.phase ≡ false → Fits o h who by v → Fits o h who by (holding v next)
fits_holding o h who by v next live fit = record { base = λ _. fit.base live; sees = fit.sees; takes = sees_none h; speaks = fit.speaks; speaks_too = λ i b. absurd b }

-- where the view knows its own events in next, next is the history as it was given back
no_call : {A : Type 0} (xs : List A) (x : A) → xs ≢ xs ++ x ∷ []
no_call xs x e = let n = ap length e ∙ length-append xs (x ∷ []) in omega (arith, n)

follows_none : (h next seen : List Entry) (ns : List ℕ) → Sees h ns seen → Sees next ns seen → Follows h ns next → next ≡ h
follows_none h next seen ns old new follows =
    ⊎_elim
    (λ same. same)
    (λ (more : (e : Entry) × (next ≡ h ++ e ∷ []) × Has e.thread ns).
    let e = more.0 in
    let t = e.thread in
    let grown : own t h ≡ own t h ++ (e.event, e.reply) ∷ [] =
    sym (old.1 t more.2) ∙ (new.1 t more.2 ∙ (ap (λ l. own t l) more.1 ∙ own_snoc t h e refl)) in
    absurd (no_call (own t h) (e.event, e.reply) grown))
    follows

-- what another view knows of the history, it knows of the longer one
sees_longer : (h next seen : List Entry) (ns mine : List ℕ) (who : ℕ → ℕ) (by id : ℕ) → by ≢ id → Speaks who by ns → Speaks who id mine → Follows h mine next → Sees h ns seen → Sees next ns seen
sees_longer h next seen ns mine who by id apart theirs ours follows sees =
    ⊎_elim
    (λ (same : next ≡ h). subst (λ l. Sees l ns seen) (sym same) sees)
    (λ (more : (e : Entry) × (next ≡ h ++ e ∷ []) × Has e.thread mine).
    let e = more.0 in
    subst (λ l. Sees l ns seen) (sym more.1) (
      prefix_grows seen h (e ∷ []) sees.0,
      λ i has.
          let other : e.thread ≢ i = λ same. apart (sym (theirs i has) ∙ (ap who (sym same) ∙ ours e.thread more.2)) in
          sees.1 i has ∙ sym (own_append i h (e ∷ []) ∙ (ap (λ l. own i h ++ l) (own_none i e other) ∙ append-nil (own i h))),
    ))
    follows

clash : {A : Type 0} (n : ℕ) → n ≡ 0 → n ≡ 2 → A
clash n zero two = absurd (omega (arith, zero, two))

-- where the turn is this, the view is right if it knows of a stop
abbrev Tells : ℕ → View → Type 0
Tells turn v = v.stopped ≡ true → turn ≡ 2

pub sees_all : (next : List Entry) (ns : List ℕ) → Sees next ns next
sees_all next ns = (prefix_self next, λ i has. refl)

module _ {O : Type 0} (piece : Pieces) (out : O → Outgo) where
  abbrev B : Type 0
  B = BoundTo O

  abbrev Table : Type 0
  Table = State (Option B) View

  abbrev Keep : Base → Table → Type 0
  Keep o s = Shelved piece out o s

  -- what a step on the word i owes, once the words and what is at home are known
  abbrev Done : Base → List View → ℕ → Seated O → ℕ → (ℕ → ℕ) → (ℕ → Seated O → Type 0) → List ℕ → List (m.Option (Option B)) → Type 0
  Done o views id me i f then words homes = (w : View) × (a : Act (Option B)) × Valid homes me.1 a × Keep o (record { words = slice_set words i (f (slice_index words i)); homes = homes_after homes me.1 a; views = slice_set views id w }) × then (slice_index words i) (w, carried_after me.1 a)

  at_words : (o : Base) (s : Table) (id : ℕ) (me : Seated O) (i : ℕ) (f : ℕ → ℕ) (then : ℕ → Seated O → Type 0) (words : List ℕ) (homes : List (m.Option (Option B))) → s.words ≡ words → s.homes ≡ homes → Done o s.views id me i f then words homes → Done o s.views id me i f then s.words s.homes
  at_words o s id me i f then words homes ew eh done = subst (λ (p : List ℕ × List (m.Option (Option B))). Done o s.views id me i f then p.0 p.1) (λ k. (sym ew k, sym eh k)) done

  -- the seat whose view has the turn is the one that holds it
  pub holder : (o : Base) (s : Table) (k : Keep o s) (id : ℕ) (v : View) (next : List Entry) → get_elem? s.views id ≡ m.some v → next_of v.phase ≡ Some next → Held k.history id v next s
  holder o s k id v next at is =
      ⊎_elim
      (λ (home : AtHome piece out o k.history s). absurd (cc (home.none id v at, is)))
      (λ (held : IsHeld k.history s).
      ⊎_elim
      (λ (same : id ≡ held.0).
      let views : v ≡ held.1 = m.some-injective v held.1 (sym at ∙ (ap (λ n. get_elem? s.views n) same ∙ held.3.there)) in
      let nexts : next ≡ held.2 = cc (is, ap (λ (u : View). next_of u.phase) views, held.3.holds) in
      subst (λ (p : ℕ × View × List Entry). Held k.history p.0 p.1 p.2 s) (λ j. (sym same j, sym views j, sym nexts j)) held.3)
      (λ (none : next_of v.phase ≡ None). absurd (cc (none, is)))
      (held.3.alone id v at))
      k.place

  pub same_views : (o : Base) (s : Table) (id : ℕ) (v : View) → get_elem? s.views id ≡ m.some v → Keep o s → Keep o (record { words = s.words; homes = s.homes; views = set s.views id v })
  same_views o s id v at k = subst (λ (vs : List View). Keep o (record { words = s.words; homes = s.homes; views = vs })) (sym (set_again s.views id v at)) k

  -- no view knows of a stop where the turn is not 2
  going : (o : Base) (s : Table) (k : Keep o s) (turn n : ℕ) → s.words ≡ turn ∷ n ∷ [] → turn ≢ 2 → (by : ℕ) (v : View) → get_elem? s.views by ≡ m.some v → v.stopped ≡ true → ⊥
  going o s k turn n words other by v at stopped = other (sym (ap (λ ws. slice_index ws 0) words) ∙ k.stops by v at stopped)

  -- where the turn is 2 nobody has it
  pub stays_stopped : (o : Base) (s : Table) → Keep o s → slice_index s.words 0 ≡ 2 → NobodyHas s
  stays_stopped o s k two =
      ⊎_elim
      (λ (home : AtHome piece out o k.history s). home.none)
      (λ (held : IsHeld k.history s). absurd (not_both (slice_index s.words 0) (ap (λ ws. slice_index ws 0) held.3.words) two))
      k.place
    where
      not_both : (n : ℕ) → n ≡ 1 → n ≡ 2 → ⊥
      not_both n one two = omega (arith, one, two)

  -- the turn is taken
  module _ (o : Base) (slots : ℕ) (s : Table) (k : Keep o s) (id : ℕ) (v : View) (at : get_elem? s.views id ≡ m.some v) (is : v.phase ≡ Idle) (voice : (i : ℕ) × Has i v.numbers × Within v.base i) where
    abbrev Taken : List ℕ → List (m.Option (Option B)) → Type 0
    Taken words homes = Done o s.views id (v, []) 0 (λ n. either (n == 0) 1 n) (Takes piece out (step slots 0 0 1 m.none) (v, [])) words homes

    live : is_spent v.phase ≡ false
    live = ap is_spent is

    free : (home : AtHome piece out o k.history s) → s.words ≡ 0 ∷ length k.history ∷ [] → Taken (0 ∷ length k.history ∷ []) (m.some (Some home.book) ∷ [])
    free home words =
        let fit = k.each id v at in
        let b = home.book in
        let next = b.history in
        let same : next ≡ k.history = home.written.history in
        let h = k.history in (
          holding v next,
          takes 0 (Some b),
          refl,
          record {
            history = h;
            who = k.who;
            each = all_set (Fits o h k.who) s.views id (holding v next) (λ j u apart e. k.each j u e) (fits_holding o h k.who id v next live fit);
            some_one = voices_set o k.who s.views id v (holding v next) at (carries v (holding v next) (ap taken_numbers is) refl) k.some_one;
            round = k.round;
            stops = all_set (λ j u. Tells 1 u) s.views id (holding v next)
                (λ j u apart e stopped. absurd (going o s k 0 (length k.history) words (λ two. omega arith) j u e stopped))
                (λ e. let no : false ≡ true = e in absurd (cc (no)));
            place = inr (
              id,
              holding v next,
              next,
              record {
                there = set_at s.views id v (holding v next) at;
                holds = refl;
                follows = inl same;
                words = ap (λ l. 1 ∷ length l ∷ []) (sym same);
                homes = refl;
                voice = voice;
                alone = all_set (λ j u. (j ≡ id) ⊎ (next_of u.phase ≡ None)) s.views id (holding v next) (λ j u apart e. inr (home.none j u e)) (inl refl);
              },
            );
          },
          (
            (λ found. (
              b,
              refl,
              subst (λ (p : Base × List Entry). Written piece out p.0 p.1 b) (λ i. (sym (fit.base live) i, sym same i)) home.written,
              subst (λ l. Sees l v.numbers v.seen) (sym same) fit.sees,
            )),
            (λ found. false_from_ne_true v.stopped (going o s k 0 (length k.history) words (λ two. omega arith) id v at)),
            (λ found. clash 0 refl found),
            (λ apart other. absurd (apart refl)),
          ),
        )

    -- the turn is at 2, and the view knows that from now on
    halts : (home : AtHome piece out o k.history s) → Taken (2 ∷ length k.history ∷ []) (m.some (Some home.book) ∷ [])
    halts home =
        let fit = k.each id v at in
        let h = k.history in
        let w = idle_as true v v.seen in (
          w,
          keeps,
          tt,
          record {
            history = h;
            who = k.who;
            each = all_set (Fits o h k.who) s.views id w (λ j u apart e. k.each j u e) (record { base = λ _. fit.base live; sees = fit.sees; takes = sees_none h; speaks = fit.speaks; speaks_too = λ i b. absurd b });
            some_one = voices_set o k.who s.views id v w at (carries v w (ap taken_numbers is) refl) k.some_one;
            round = k.round;
            stops = λ j u e stopped. refl;
            place = inl (record {
              turn = 2;
              free = inr refl;
              words = refl;
              book = home.book;
              homes = refl;
              written = home.written;
              none = all_set (λ j u. next_of u.phase ≡ None) s.views id w (λ j u apart e. home.none j u e) refl;
            });
          },
          ((λ found. clash 2 found refl), (λ found. clash 2 found refl), (λ found. refl), (λ apart other. absurd (other refl))),
        )

    -- the turn is another's
    refused : (turn n : ℕ) → turn ≢ 0 → turn ≢ 2 → (turn == 0) ≡ false → s.words ≡ turn ∷ n ∷ [] → Taken s.words s.homes
    refused turn n apart going_on other words =
        let P : List ℕ → Type 0 = λ ws. Keep o (record { words = ws; homes = s.homes; views = s.views }) → Taken ws s.homes in
        subst P (sym words) (λ kept. (
          v,
          keeps,
          tt,
          subst (λ (b : Bool). Keep o (record { words = either b 1 turn ∷ n ∷ []; homes = s.homes; views = set s.views id v })) (sym other) (same_views o (record { words = turn ∷ n ∷ []; homes = s.homes; views = s.views }) id v at kept),
          ((λ found. absurd (apart found)), (λ found. absurd (apart found)), (λ found. absurd (going_on found)), (λ _ _. refl)),
        )) k

    taken : Taken s.words s.homes
    taken =
        ⊎_elim
        (λ (home : AtHome piece out o k.history s).
        ⊎_elim
        (λ (none : home.turn ≡ 0).
        let words = home.words ∙ ap (λ t. t ∷ length k.history ∷ []) none in
        at_words o s id (v, []) 0 (λ n. either (n == 0) 1 n) (Takes piece out (step slots 0 0 1 m.none) (v, [])) _ _ words home.homes (free home words))
        (λ (two : home.turn ≡ 2).
        let words = home.words ∙ ap (λ t. t ∷ length k.history ∷ []) two in
        at_words o s id (v, []) 0 (λ n. either (n == 0) 1 n) (Takes piece out (step slots 0 0 1 m.none) (v, [])) _ _ words home.homes (halts home))
        home.free)
        (λ (held : IsHeld k.history s). refused 1 (length held.2) (λ e. omega arith) (λ e. omega arith) refl held.3.words)
        k.place

  pub takes_turn : (o : Base) (slots : ℕ) (id : ℕ) (v : View) → v.phase ≡ Idle → (i : ℕ) × Has i v.numbers × Within v.base i → Allows (Keep o) slots id (v, []) 0 (λ n. either (n == 0) 1 n) (Takes piece out (step slots 0 0 1 m.none) (v, []))
  takes_turn o slots id v is voice s k count at fits = taken o slots s k id v at is voice

  -- an entry is noted
  pub notes_entry : (o : Base) (slots : ℕ) (id : ℕ) (v : View) (next : List Entry) (e : Entry) (b : BoundTo O) → v.phase ≡ Holding next → Sees next v.numbers v.seen → Has e.thread v.numbers → b.history ≡ next ++ e ∷ [] → (new : ℕ) → new ≡ length b.history
      → Allows (Keep o) slots id (v, (0, Some b) ∷ []) 1 (λ _. new) (Notes (step slots 1 new 0 m.none) (v, (0, Some b) ∷ []))
  notes_entry o slots id v next e b is sees mine more new count s k homes at fits =
      let held = holder o s k id v next at (ap next_of is) in
      let h = k.history in
      let same = follows_none h next v.seen v.numbers (k.each id v at).sees sees held.follows in
      at_words o s id (v, (0, Some b) ∷ []) 1 (λ _. new) (Notes (step slots 1 new 0 m.none) (v, (0, Some b) ∷ [])) _ _ held.words (held.homes ∙ ap (λ p. place_of {O = O} p ∷ []) is) (
        holding v b.history,
        keeps,
        tt,
        record {
          history = h;
          who = k.who;
          each = all_set (Fits o h k.who) s.views id (holding v b.history) (λ j u apart at'. k.each j u at') (fits_holding o h k.who id v b.history (ap is_spent is) (k.each id v at));
          some_one = voices_set o k.who s.views id v (holding v b.history) at (carries v (holding v b.history) (ap taken_numbers is) refl) k.some_one;
          round = k.round;
          stops = all_set (λ j u. Tells 1 u) s.views id (holding v b.history)
              (λ j u apart e stopped. absurd (going o s k 1 (length next) held.words (λ two. omega arith) j u e stopped))
              (λ e. let no : false ≡ true = e in absurd (cc (no)));
          place = inr (
            id,
            holding v b.history,
            b.history,
            record {
              there = set_at s.views id v (holding v b.history) at;
              holds = refl;
              follows = inr (e, more ∙ ap (λ l. l ++ e ∷ []) same, mine);
              words = ap (λ n. 1 ∷ n ∷ []) count;
              homes = refl;
              voice = held.voice;
              alone = all_set (λ j u. (j ≡ id) ⊎ (next_of u.phase ≡ None)) s.views id (holding v b.history) (λ j u apart at'. held.alone j u at') (inl refl);
            },
          );
        },
        refl,
      )

  -- the turn and the book are given back
  pub gives_back : (o : Base) (slots : ℕ) (id : ℕ) (v : View) (b : BoundTo O) → v.phase ≡ Holding b.history → Written piece out v.base b.history b → (turn : ℕ) → (turn ≡ 0) ⊎ (turn ≡ 2)
      → Allows (Keep o) slots id (v, (0, Some b) ∷ []) 0 (λ _. turn) (GivesBack (step slots 0 turn 0 m.none) (v, (0, Some b) ∷ []))
  gives_back o slots id v b is written turn free s k homes at fits =
      let next = b.history in
      let live : is_spent v.phase ≡ false = ap is_spent is in
      let held = holder o s k id v next at (ap next_of is) in
      let h = k.history in
      let fit = k.each id v at in
      let w = idle_as (turn == 2) v b.history in
      at_words o s id (v, (0, Some b) ∷ []) 0 (λ _. turn) (GivesBack (step slots 0 turn 0 m.none) (v, (0, Some b) ∷ [])) _ _ held.words (held.homes ∙ ap (λ p. place_of {O = O} p ∷ []) is) (
        w,
        gives,
        tt,
        record {
          history = next;
          who = k.who;
          each = all_set (Fits o next k.who) s.views id w
              (λ j u apart at'. let f = k.each j u at' in record {
                base = f.base;
                sees = sees_longer h next u.seen u.numbers v.numbers k.who j id apart f.speaks fit.speaks held.follows f.sees;
                takes = sees_longer h next (taken_seen u.phase) (taken_numbers u.phase) v.numbers k.who j id apart f.speaks_too fit.speaks held.follows f.takes;
                speaks = f.speaks;
                speaks_too = f.speaks_too;
              })
              (record { base = λ _. fit.base live; sees = sees_all next v.numbers; takes = sees_none next; speaks = fit.speaks; speaks_too = λ i x. absurd x });
          some_one = voices_set o k.who s.views id v (w) at (carries v (w) (ap taken_numbers is) refl) k.some_one;
          round = subst (λ (x : Base). Rounded x next) (fit.base live) written.round;
          stops = all_set (λ j u. Tells turn u) s.views id w
              (λ j u apart e stopped. absurd (going o s k 1 (length next) held.words (λ two. omega arith) j u e stopped))
              (λ stopped. ⊎_elim
              (λ (zero : turn ≡ 0). let no : false ≡ true = sym (ap (λ (n : ℕ). n == 2) zero) ∙ stopped in absurd (cc (no)))
              (λ (two : turn ≡ 2). two)
              free);
          place = inl (record {
            turn = turn;
            free = free;
            words = refl;
            book = b;
            homes = refl;
            written = subst (λ x. Written piece out x next b) (fit.base live) written;
            none = all_set (λ j u. next_of u.phase ≡ None) s.views id w
                (λ j u apart at'. ⊎_elim (λ same. absurd (apart same)) (λ none. none) (held.alone j u at'))
                refl;
          });
        },
        refl,
      )

  -- the empty slot is taken, for the book to be put in
  pub fills_slot : (o : Base) (slots : ℕ) (id : ℕ) (v : View) (next : List Entry) → v.phase ≡ New next → Allows (Keep o) slots id (v, []) 0 (λ _. 1) (Fills (step slots 0 1 0 m.none) (v, []))
  fills_slot o slots id v next is s k homes at fits =
      let held = holder o s k id v next at (ap next_of is) in
      let h = k.history in
      at_words o s id (v, []) 0 (λ _. 1) (Fills (step slots 0 1 0 m.none) (v, [])) _ _ held.words (held.homes ∙ ap (λ p. place_of {O = O} p ∷ []) is) (
        holding v next,
        takes 0 None,
        refl,
        record {
          history = h;
          who = k.who;
          each = all_set (Fits o h k.who) s.views id (holding v next) (λ j u apart at'. k.each j u at') (fits_holding o h k.who id v next (ap is_spent is) (k.each id v at));
          some_one = voices_set o k.who s.views id v (holding v next) at (carries v (holding v next) (ap taken_numbers is) refl) k.some_one;
          round = k.round;
          stops = all_set (λ j u. Tells 1 u) s.views id (holding v next)
              (λ j u apart e stopped. absurd (going o s k 1 (length next) held.words (λ two. omega arith) j u e stopped))
              (λ e. let no : false ≡ true = e in absurd (cc (no)));
          place = inr (
            id,
            holding v next,
            next,
            record {
              there = set_at s.views id v (holding v next) at;
              holds = refl;
              follows = held.follows;
              words = refl;
              homes = refl;
              voice = held.voice;
              alone = all_set (λ j u. (j ≡ id) ⊎ (next_of u.phase ≡ None)) s.views id (holding v next) (λ j u apart at'. held.alone j u at') (inl refl);
            },
          );
        },
        (next, refl, is),
      )
