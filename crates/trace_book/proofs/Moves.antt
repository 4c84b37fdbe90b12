-- The steps, at a seat as it stands.
use Rattle.std.proofs.Common.{◌≡◌, ◌≢◌, ◌⊎◌, ⊎_elim, ℕ, zero, suc, ◌+◌, ◌-◌, ◌<◌, ◌≤◌, Bool, true, List, [], ◌∷◌, ◌++◌, length, get_or, Option, Some, None, append-nil, refl, sym, ap, ◌∙◌, subst, inl, arith, append_assoc}
use Rattle.std.specs.Prelude.{◌==◌}
use mathlib.Core.Option as m
use prog.Atomic.{either}
use Rattle.atomic_table.specs.Table.{Allows, step, rest}
use Rattle.machine_events.specs.declared.event.Event.{Event}
use Rattle.machine_events.specs.declared.event.Reply.{Reply}
use Rattle.machine_events.specs.declared.event.Entry.{Entry}
use Rattle.machine_events.specs.Fitting.{Fits}
use Rattle.machine_spec.specs.declared.state.State.{State}
use Rattle.machine_spec.specs.Allowed.{allowed}
use Rattle.machine_spec.specs.Legal.{Allowed, IsLegal, replay}
use Rattle.machine_laws.specs.Begun.{Begun, first}
use Rattle.machine_shown.specs.Own.{own, Ready as HasTurn}
use Rattle.machine_shown.specs.Knowing.{Knows}
use Rattle.machine_book.specs.Bound.{BoundTo}
use Rattle.machine_desk.specs.Outgo.{Outgo, Pieces, Kept}
use Rattle.machine_desk.specs.Sight.{Continues, Gains}
use Rattle.machine_book.proofs.Histories.{own_snoc, allowed_here}
use Rattle.machine_desk.proofs.Keeping.{kept_none, kept_next, continues_refl, ready_longer}
use Rattle.trace_book.specs.declared.view.Base.{Base}
use Rattle.trace_book.specs.declared.view.View.{View}
use Rattle.trace_book.specs.declared.view.Phase.TheVariants.{Idle, New}
use Rattle.trace_book.specs.Views.{Has, Within, AllWithin, Rounded, base_of, outgo_of, first_view, numbers_from, view, holding, idle, idle_as, joined, new_view}
use Rattle.trace_book.specs.Rule.{Sees, Shelved, Written}
use Rattle.trace_book.specs.Plays.{Seated, Fills, Takes, GotTurn, Notes, GivesBack, Merges, refused, history_out}
use Rattle.trace_book.specs.Seats.{Rests, Ready, HasBook, MayStep, entry, longer_by, IsLegalWith, GainsEntry}
use Rattle.trace_book.specs.Told.{TableId, Told, told, view_in, new_pass, new_passes, seat_sight}
use Rattle.trace_book.proofs.Keeps.{takes_turn, notes_entry, gives_back, fills_slot}
use Rattle.trace_book.proofs.Passes.{merges_in}

pub within_more : (o : Base) (es : List Entry) (e : Entry) → AllWithin o es → Within o e.thread → AllWithin o (es ++ e ∷ [])
within_more o [] e all one = (one, tt)
within_more o (x ∷ xs) e all one = (all.0, within_more o xs e all.1 one)

-- one more entry of a number of the round
abbrev pub round_more : (o : Base) (h h' : List Entry) (e : Entry) → h' ≡ h ++ e ∷ [] → Rounded o h → Within o e.thread → Rounded o h'
round_more o h h' e is round one = record {
  since = round.since ++ e ∷ [];
  joined = sym (append_assoc o.first round.since (e ∷ [])) ∙ (ap (λ l. l ++ e ∷ []) round.joined ∙ sym is);
  each = within_more o round.since e round.each one;
}

module _ {O : Type 0} (piece : Pieces) (out : O → Outgo) where
  abbrev At : Base → ℕ → ℕ → Seated O → ℕ → (ℕ → ℕ) → (ℕ → Seated O → Type 0) → Type 0
  At root slots id me i f then = Allows (Shelved piece out root) slots id me i f then

  pub seat_is : (me : Seated O) (t : ℕ) → Ready me t → me ≡ (idle_as me.0.stopped me.0 me.0.seen, [])
  seat_is me t ready i = (ready.0.idle i, ready.1 i)

  pub takes_from : (root : Base) (slots id : ℕ) (me : Seated O) (t : ℕ) → Ready me t → At root slots id me 0 (λ n. either (n == 0) 1 n) (Takes piece out (step slots 0 0 1 m.none) me)
  takes_from root slots id me t ready =
      subst (λ (x : Seated O). At root slots id x 0 (λ n. either (n == 0) 1 n) (Takes piece out (step slots 0 0 1 m.none) x)) (sym (seat_is me t ready))
      (takes_turn piece out root slots id (idle_as me.0.stopped me.0 me.0.seen) refl (t, ready.0.number, ready.0.within))

  pub gives_from : (root : Base) (slots id : ℕ) (me : Seated O) (turn : ℕ) → HasBook piece out me → (turn ≡ 0) ⊎ (turn ≡ 2) → At root slots id me 0 (λ _. turn) (GivesBack (step slots 0 turn 0 m.none) me)
  gives_from root slots id me turn has_book free =
      let b = has_book.0 in
      subst (λ (x : Seated O). At root slots id x 0 (λ _. turn) (GivesBack (step slots 0 turn 0 m.none) x)) (sym has_book.1)
      (gives_back piece out root slots id (holding me.0 b.history) b refl has_book.2 turn free)

  history_is : (me : Seated O) (has_book : HasBook piece out me) → history_out me.1 ≡ has_book.0.history
  history_is me has_book = ap (λ (x : Seated O). history_out x.1) has_book.1

  -- after the book that a seat has out has gained an entry
  pub notes_from : (root : Base) (slots id : ℕ) (old me : Seated O) (b : BoundTo O) (e : Entry) (new : ℕ) → HasBook piece out old → me ≡ (old.0, (0, Some b) ∷ []) → b.history ≡ history_out old.1 ++ e ∷ [] → new ≡ length b.history
      → Sees (history_out old.1) old.0.numbers old.0.seen → Has e.thread old.0.numbers → At root slots id me 1 (λ _. new) (Notes (step slots 1 new 0 m.none) me)
  notes_from root slots id old me b e new has_book is more count sees mine =
      let next = has_book.0.history in
      let out_is = history_is old has_book in
      let me' : me ≡ (holding old.0 next, (0, Some b) ∷ []) = is ∙ ap (λ (v : View). (v, (0, Some b) ∷ [])) (ap (λ (x : Seated O). x.0) has_book.1) in
      subst (λ (x : Seated O). At root slots id x 1 (λ _. new) (Notes (step slots 1 new 0 m.none) x)) (sym me')
      (notes_entry piece out root slots id (holding old.0 next) next e b refl (subst (λ l. Sees l old.0.numbers old.0.seen) out_is sees) mine (more ∙ ap (λ l. l ++ e ∷ []) out_is) new count)

  pub merges_from : (root : Base) (slots id : ℕ) (me : Seated O) (v w : View) → me ≡ (joined v w, []) → At root slots id me 0 (λ n. n) (Merges (step slots 0 0 0 m.none) me)
  merges_from root slots id me v w is =
      subst (λ (x : Seated O). At root slots id x 0 (λ n. n) (Merges (step slots 0 0 0 m.none) x)) (sym is)
      (merges_in piece out root slots id (joined v w) v.base v.numbers v.seen w.numbers w.seen refl)

  pub fills_from : (root : Base) (slots id : ℕ) (me : Seated O) (o : Base) → me ≡ (new_view o, []) → At root slots id me 0 (λ _. 1) (Fills (step slots 0 1 0 m.none) me)
  fills_from root slots id me o is =
      subst (λ (x : Seated O). At root slots id x 0 (λ _. 1) (Fills (step slots 0 1 0 m.none) x)) (sym is) (fills_slot piece out root slots id (new_view o) o.first refl)

  -- the book that a seat has out
  pub book_slot : (me : Seated O) (has_book : HasBook piece out me) → me.1 ≡ (0, Some has_book.0) ∷ []
  book_slot me has_book = ap (λ (x : Seated O). x.1) has_book.1

  pub first_slot : (x : Option (BoundTo O)) (rest' : List (ℕ × Option (BoundTo O))) (b b' : BoundTo O) → (0, x) ∷ rest' ≡ (0, Some b') ∷ [] → x ≡ Some b → b ≡ b'
  first_slot x rest' b b' slots is =
      let same : x ≡ Some b' = ap (λ (l : List (ℕ × Option (BoundTo O))). (get_or l 0 (0, x)).1) slots in cc (same, is)

  -- the slot that a seat with the book has out, as an exchange asks for it
  pub out_slot : (me : Seated O) → HasBook piece out me → (x : Option (BoundTo O)) × (me.1 ≡ (0, x) ∷ rest me.1)
  out_slot me has_book = let slots = book_slot me has_book in (Some has_book.0, slots ∙ ap (λ l. (0, Some has_book.0) ∷ l) (sym (ap rest slots)))

  pub book_is : (me : Seated O) (has_book : HasBook piece out me) (x : Option (BoundTo O)) (b : BoundTo O) → me.1 ≡ (0, x) ∷ rest me.1 → x ≡ Some b → b ≡ has_book.0
  book_is me has_book x b found is = first_slot x (rest me.1) b has_book.0 (sym found ∙ book_slot me has_book) is

  -- a book was put in place of the one that a seat had out
  pub put_in : (me m₁ m₂ : Seated O) (y : Option (BoundTo O)) (b : BoundTo O) → HasBook piece out me → m₁ ≡ (me.0, (0, y) ∷ rest me.1) → m₂ ≡ (m₁.0, (0, Some b) ∷ rest m₁.1) → m₂ ≡ (me.0, (0, Some b) ∷ [])
  put_in me m₁ m₂ y b has_book first second =
      let first' : m₁ ≡ (me.0, (0, y) ∷ []) = first ∙ ap (λ l. (me.0, (0, y) ∷ l)) (ap rest (book_slot me has_book)) in
      second ∙ ap (λ (x : Seated O). (x.0, (0, Some b) ∷ rest x.1)) first'

  pub put_same : (me m₁ m₂ : Seated O) (y : Option (BoundTo O)) (b : BoundTo O) (has_book : HasBook piece out me) → m₁ ≡ (me.0, (0, y) ∷ rest me.1) → m₂ ≡ (m₁.0, (0, Some b) ∷ rest m₁.1) → b ≡ has_book.0 → m₂ ≡ me
  put_same me m₁ m₂ y b has_book first second same =
      put_in me m₁ m₂ y b has_book first second ∙ (ap (λ (c : BoundTo O). (me.0, (0, Some c) ∷ [])) same ∙ (λ i. (me.0, sym (book_slot me has_book) i)))

  -- the event is allowed in the state of the book that the seat has out
  pub allowed_out : (me : Seated O) (has_book : HasBook piece out me) (t : ℕ) (e : Event) (b : BoundTo O) → b ≡ has_book.0 → MayStep me t e → (g : Begun) × (first g ≡ b.opening) → IsLegal b.opening b.history → Allowed (replay b.opening b.history) t e
  allowed_out me has_book t e b is may begun legal =
      let opens : b.opening ≡ me.0.base.opening = ap (λ (x : BoundTo O). x.opening) is ∙ has_book.2.opening in
      let shown : b.history ≡ history_out me.1 = ap (λ (x : BoundTo O). x.history) is ∙ sym (history_is me has_book) in
      subst (λ (p : State × List Entry). (g : Begun) × (first g ≡ p.0) → IsLegal p.0 p.1 → Allowed (replay p.0 p.1) t e) (λ i. (sym opens i, sym shown i)) may.allowed begun legal

  -- whether it is allowed in that state, in the words of the seat
  pub allowed_in : (me : Seated O) (has_book : HasBook piece out me) (t : ℕ) (e : Event) (b : BoundTo O) → b ≡ has_book.0 → allowed (replay b.opening b.history) t e ≡ allowed (replay me.0.base.opening (history_out me.1)) t e
  allowed_in me has_book t e b is =
      let opens : b.opening ≡ me.0.base.opening = ap (λ (x : BoundTo O). x.opening) is ∙ has_book.2.opening in
      let shown : b.history ≡ history_out me.1 = ap (λ (x : BoundTo O). x.history) is ∙ sym (history_is me has_book) in
      λ i. allowed (replay (opens i) (shown i)) t e

  -- the book after an event, in the words of the seat
  pub grown : (me : Seated O) (has_book : HasBook piece out me) (b b' : BoundTo O) (e : Entry) → b ≡ has_book.0 → b'.history ≡ b.history ++ e ∷ [] → b'.history ≡ history_out me.1 ++ e ∷ []
  grown me has_book b b' e is more = more ∙ ap (λ l. l ++ e ∷ []) (ap (λ (x : BoundTo O). x.history) is ∙ sym (history_is me has_book))

  -- the book was put into the empty slot
  pub filled : (old m₁ m₂ : Seated O) (b : BoundTo O) (from n : ℕ) (h : List Entry) → old ≡ (first_view out (b, from, n), []) → m₁ ≡ (holding old.0 h, (0, None) ∷ []) → old.0.phase ≡ New h → m₂ ≡ (m₁.0, (0, Some b) ∷ rest m₁.1)
      → (m₂ ≡ (holding old.0 b.history, (0, Some b) ∷ [])) × HasBook piece out m₂
  filled old m₁ m₂ b from n h is first new second =
      let o = base_of out (b, from, n) in
      let same : h ≡ b.history = cc (sym new ∙ ap (λ (x : Seated O). x.0.phase) is) in
      let all : m₂ ≡ (holding old.0 b.history, (0, Some b) ∷ []) =
      second ∙ (ap (λ (x : Seated O). (x.0, (0, Some b) ∷ rest x.1)) first ∙ ap (λ l. (holding old.0 l, (0, Some b) ∷ [])) same) in
      let written : Written piece out o b.history b = record { opening = refl; history = refl; round = record { since = []; joined = append-nil b.history; each = tt }; kept = kept_none piece (out b.outlet) } in (
        all,
        subst (λ (x : Seated O). HasBook piece out x) (sym all) (b, refl, subst (λ (x : Base). Written piece out x b.history b) (sym (ap (λ (x : Seated O). x.0.base) is)) written),
      )

  -- a book that gained an entry of the round
  pub written_next : (o : Base) (b b' : BoundTo O) (e : Entry) → Written piece out o b.history b → b'.opening ≡ b.opening → b'.history ≡ b.history ++ e ∷ [] → Kept piece (out b.outlet) (out b'.outlet) (e ∷ []) → Within o e.thread → Written piece out o b'.history b'
  written_next o b b' e w opening more put one = record {
    opening = opening ∙ w.opening;
    history = refl;
    round = round_more o b.history b'.history e more w.round one;
    kept = kept_next piece (outgo_of o.start) (out b.outlet) (out b'.outlet) w.round.since e w.kept put;
  }

  pub written_out : (me : Seated O) (has_book : HasBook piece out me) (b b' : BoundTo O) (e : Entry) → b ≡ has_book.0 → b'.opening ≡ b.opening → b'.history ≡ b.history ++ e ∷ [] → Kept piece (out b.outlet) (out b'.outlet) (e ∷ []) → Within me.0.base e.thread → Written piece out me.0.base b'.history b'
  written_out me has_book b b' e is = subst (λ (x : BoundTo O). b'.opening ≡ x.opening → b'.history ≡ x.history ++ e ∷ [] → Kept piece (out x.outlet) (out b'.outlet) (e ∷ []) → Within me.0.base e.thread → Written piece out me.0.base b'.history b') (sym is) (written_next me.0.base has_book.0 b' e has_book.2)

  -- a seat that has noted an entry has the book with the longer history
  pub noted : (old me after : Seated O) (b' : BoundTo O) (t : ℕ) (e : Event) (r : Reply) → me ≡ (old.0, (0, Some b') ∷ []) → after ≡ (holding me.0 (history_out me.1), me.1)
      → Written piece out old.0.base b'.history b' → b'.history ≡ longer_by old t e r → IsLegal b'.opening b'.history → Fits e r → GainsEntry piece out old after t e r
  noted old me after b' t e r is step written more legal fits =
      let all : after ≡ (holding old.0 b'.history, (0, Some b') ∷ []) = step ∙ ap (λ (x : Seated O). (holding x.0 (history_out x.1), x.1)) is in record {
        has_book = subst (λ (x : Seated O). HasBook piece out x) (sym all) (b', refl, written);
        view = ap (λ (x : Seated O). x.0) all ∙ ap (holding old.0) more;
        history = ap (λ (x : Seated O). history_out x.1) all ∙ more;
        made = record {
          legal = rw (← written.opening, ← more) legal;
          round = subst (Rounded old.0.base) more written.round;
          fits = fits;
        };
      }

  -- who gets the turn has the book
  pub got_book : (me after : Seated O) → GotTurn piece out me after → HasBook piece out after
  got_book me after took = subst (λ (x : Seated O). HasBook piece out x) (sym took.1) (took.0, refl, took.2)

  -- an event that the thread knows to be allowed may be made once the turn was taken
  pub may_make : (me after : Seated O) (t : ℕ) (e : Event) → Ready me t → GotTurn piece out me after
      → ((g : Begun) (history : List Entry) → IsLegal (first g) history → (u : ℕ) (x : Event) → HasTurn (first g).rounds history u → Knows u (own u history) x → Allowed (replay (first g) history) u x)
      → HasTurn me.0.base.opening.rounds me.0.seen t → Knows t (own t me.0.seen) e → MayStep after t e
  may_make me after t e ready took law turn knows =
      let h = took.0.history in
      let sees = took.3 in
      let o = me.0.base.opening in
      subst (λ (x : Seated O). MayStep x t e) (sym took.1) (record {
        number = ready.0.number;
        within = ready.0.within;
        sees = sees;
        allowed = λ begun legal.
            allowed_here law o h t e begun legal (ready_longer o.rounds me.0.seen sees.0.0 h t sees.0.1 turn) (subst (λ p. Knows t p e) (sees.1 t ready.0.number) knows);
      })

  -- so may a Wake that the machine allows
  pub may_make_it : (me after : Seated O) (t : ℕ) (e : Event) → Ready me t → GotTurn piece out me after → Allowed (replay after.0.base.opening (history_out after.1)) t e → MayStep after t e
  may_make_it me after t e ready took may =
      subst (λ (x : Seated O). Allowed (replay x.0.base.opening (history_out x.1)) t e → MayStep x t e) (sym took.1)
      (λ m'. record { number = ready.0.number; within = ready.0.within; sees = took.3; allowed = λ _ _. m' }) may

  -- what a call leaves behind, from the seat that had the turn
  pub called : (z : TableId) (v : View) (me after : Seated O) (t : ℕ) (e : Event) (r : Reply) (b : BoundTo O) → Rests v t → me ≡ (holding v b.history, (0, Some b) ∷ []) → Sees b.history v.numbers v.seen
      → after ≡ (idle me.0 (longer_by me t e r), []) → IsLegalWith me t e r → Ready after t × Continues (seat_sight z t v) (seat_sight z t after.0) × Gains (seat_sight z t v) (seat_sight z t after.0) e r
  called z v me after t e r b rests is sees gave made =
      let h = b.history in
      let x = entry t e r in
      let all : after ≡ (idle v (h ++ x ∷ []), []) = gave ∙ ap (λ (y : Seated O). (idle y.0 (longer_by y t e r), [])) is in
      let made' : IsLegalWith {O = O} (holding v h, (0, Some b) ∷ []) t e r = subst (λ (y : Seated O). IsLegalWith y t e r) is made in
      subst (λ (y : Seated O). Ready y t × Continues (seat_sight z t v) (seat_sight z t y.0) × Gains (seat_sight z t v) (seat_sight z t y.0) e r) (sym all) (
        (record { idle = refl; number = rests.number; within = rests.within; round = made'.round }, refl),
        record {
          opening = refl;
          number = refl;
          place = refl;
          seen = record { rest = sees.0.0 ++ x ∷ []; joined = sym (append_assoc v.seen sees.0.0 (x ∷ [])) ∙ ap (λ w. w ++ x ∷ []) sees.0.1 };
          keeps = tt;
        },
        record {
          legal = made'.legal;
          entry = record { before = h; joined = refl };
          mine = own_snoc t h x refl ∙ ap (λ l. l ++ (e, r) ∷ []) (sym (sees.1 t rests.number));
          fits = made'.fits;
        },
      )

  -- the same where no entry was made
  pub looked : (z : TableId) (stopped : Bool) (v : View) (me after : Seated O) (t : ℕ) (b : BoundTo O) → Rests v t → me ≡ (holding v b.history, (0, Some b) ∷ []) → Written piece out v.base b.history b → Sees b.history v.numbers v.seen
      → after ≡ (idle_as stopped me.0 (history_out me.1), []) → Ready after t × Continues (seat_sight z t v) (seat_sight z t after.0) × (own t after.0.seen ≡ own t v.seen)
  looked z stopped v me after t b rests is written sees gave =
      let h = b.history in
      let all : after ≡ (idle_as stopped v h, []) = gave ∙ ap (λ (y : Seated O). (idle_as stopped y.0 (history_out y.1), [])) is in
      subst (λ (y : Seated O). Ready y t × Continues (seat_sight z t v) (seat_sight z t y.0) × (own t y.0.seen ≡ own t v.seen)) (sym all) (
        (record { idle = refl; number = rests.number; within = rests.within; round = written.round }, refl),
        record { opening = refl; number = refl; place = refl; seen = record { rest = sees.0.0; joined = sees.0.1 }; keeps = tt },
        sym (sees.1 t rests.number),
      )

  -- the same two after the turn was taken
  pub called_from : (z : TableId) (me took_me after : Seated O) (t : ℕ) (e : Event) (r : Reply) → Ready me t → GotTurn piece out me took_me
      → after ≡ (idle took_me.0 (longer_by took_me t e r), []) → IsLegalWith took_me t e r → Ready after t × Continues (seat_sight z t me.0) (seat_sight z t after.0) × Gains (seat_sight z t me.0) (seat_sight z t after.0) e r
  called_from z me took_me after t e r ready took gave made = called z me.0 took_me after t e r took.0 ready.0 took.1 took.3 gave made

  pub looked_from : (z : TableId) (stopped : Bool) (me took_me after : Seated O) (t : ℕ) → Ready me t → GotTurn piece out me took_me
      → after ≡ (idle_as stopped took_me.0 (history_out took_me.1), []) → Ready after t × Continues (seat_sight z t me.0) (seat_sight z t after.0) × (own t after.0.seen ≡ own t me.0.seen)
  looked_from z stopped me took_me after t ready took gave = looked z stopped me.0 took_me after t took.0 ready.0 took.1 took.2 took.3 gave

pub numbers_above : (i k n : ℕ) → Has i (numbers_from k n) → k ≤ i
numbers_above i k zero has = absurd has
numbers_above i k (suc n) has = ⊎_elim (λ (same : i ≡ k). omega (arith, same)) (λ later. let le = numbers_above i (suc k) n later in omega (arith, le)) has

pub not_again : (i k n : ℕ) → Has i (numbers_from (suc k) n) → i ≢ k
not_again i k n has same = let le = numbers_above i (suc k) n has in omega (arith, le, same)

-- passes that are dealt out one after another
pub first_number : (k i n : ℕ) → i < n → numbers_from (k + i) (n - i) ≡ numbers_from (k + i) (suc (n - suc i))
first_number k i n lt = let e : n - i ≡ suc (n - suc i) = omega (arith, lt) in ap (numbers_from (k + i)) e

pub next_numbers : (k i j n : ℕ) → j ≡ suc i → numbers_from (suc (k + i)) (n - suc i) ≡ numbers_from (k + j) (n - j)
next_numbers k i j n next =
    let e : suc (k + i) ≡ k + suc i = omega arith in
    ap (λ l. numbers_from l (n - suc i)) e ∙ ap (λ l. numbers_from (k + l) (n - l)) (sym next)

pub new_passes-push : (z : TableId) (o : Base) (k n : ℕ) → new_passes z o k (suc n) ≡ new_passes z o k n ++ new_pass z o (k + n) ∷ []
new_passes-push z o k zero = let e : k ≡ k + zero = omega arith in ap (λ j. new_pass z o j ∷ []) e
new_passes-push z o k (suc n) =
    let e : suc k + n ≡ k + suc n = omega arith in
    ap (λ l. new_pass z o k ∷ l) (new_passes-push z o (suc k) n ∙ ap (λ j. new_passes z o (suc k) n ++ new_pass z o j ∷ []) e)

pub passes_more : (z : TableId) (o : Base) (k i : ℕ) (old new : List Told) (p : Told) → old ≡ new_passes z o k i → new ≡ old ++ p ∷ [] → p ≡ new_pass z o (k + i) → new ≡ new_passes z o k (suc i)
passes_more z o k i old new p are grew is = grew ∙ ((λ j. are j ++ is j ∷ []) ∙ sym (new_passes-push z o k i))

module _ {O : Type 0} where
  -- what a call that found the shared book stopped leaves behind
  pub turned_away : (z : TableId) (me after : Seated O) (t : ℕ) → Ready me t → after ≡ refused me → Ready after t × Continues (seat_sight z t me.0) (seat_sight z t after.0) × (own t after.0.seen ≡ own t me.0.seen)
  turned_away z me after t ready is =
      subst (λ (x : Seated O). Ready x t × Continues (seat_sight z t me.0) (seat_sight z t x.0) × (own t x.0.seen ≡ own t me.0.seen)) (sym is) (
        (record { idle = refl; number = ready.0.number; within = ready.0.within; round = ready.0.round }, ready.1),
        continues_refl (seat_sight z t me.0),
        refl,
      )

  -- it knows of the stop
  pub knows_stop : (me after : Seated O) → after ≡ refused me → after.0.stopped ≡ true
  knows_stop me after is = ap (λ (x : Seated O). x.0.stopped) is

  -- and so does one that gave the turn back at 2
  pub knows_own_stop : (me after : Seated O) (seen : List Entry) → after ≡ (idle_as true me.0 seen, []) → after.0.stopped ≡ true
  knows_own_stop me after seen is = ap (λ (x : Seated O). x.0.stopped) is

  pub named_again : (me : Seated O) (o : Base) (ns : List ℕ) (h : List Entry) → me ≡ (view o ns h Idle, []) → me ≡ (view me.0.base ns me.0.seen Idle, [])
  named_again me o ns h is =
      is ∙ (λ i. (view (sym (ap (λ (x : Seated O). x.0.base) is) i) ns (sym (ap (λ (x : Seated O). x.0.seen) is) i) Idle, []))

  -- a seat of one number is a new pass
  pub pass_told : (z z' : TableId) (t t' : ℕ) (views : List View) (me : Seated O) (o : Base) → z' ≡ z → t' ≡ t → views ≡ me.0 ∷ [] → me ≡ (view o (t ∷ []) o.first Idle, []) → told z' t' (view_in views) ≡ new_pass z o t
  pass_told z z' t t' views me o same number are is = λ i. told (same i) (number i) (view_in ((are ∙ ap (λ (x : Seated O). x.0 ∷ []) is) i))

  pub rests_new : (o : Base) (t t' : ℕ) (views : List View) (me : Seated O) → t' ≡ t → views ≡ me.0 ∷ [] → me ≡ (view o (t ∷ []) o.first Idle, []) → Within o t → (v : View) × (views ≡ v ∷ []) × Rests v t'
  rests_new o t t' views me number are is within = (
    view o (t ∷ []) o.first Idle,
    are ∙ ap (λ (x : Seated O). x.0 ∷ []) is,
    record { idle = refl; number = inl number; within = subst (Within o) (sym number) within; round = record { since = []; joined = append-nil o.first; each = tt } },
  )
