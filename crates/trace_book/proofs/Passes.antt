-- Passes that are split and joined, and the table at its start and end.
use Rattle.std.proofs.Common.{append_assoc, append-nil, ◌≡◌, ◌≢◌, ◌⊎◌, ℕ, zero, suc, ◌+◌, ◌<◌, ◌≤◌, eqb, leb, eq-eqb, ne_eqb, Bool, true, false, List, [], ◌∷◌, ◌++◌, length, set, Option, Some, None, refl, sym, ap, ◌∙◌, subst, inl, inr, ⊎_elim, arith}
use Rattle.std.proofs.lemmas.List.{length-set}
use Rattle.std.proofs.lemmas.Bool.{leb-true, leb-false}
use Rattle.atomic_table.proofs.Lists.{set_else, at_longer, at_last}
use mathlib.Core.Logic.{dite}
use native.Mathlib.Decide.{ℕ_discrete}
use Rattle.std.proofs.lemmas.Bool.Decides.{nat_tests}
use Rattle.std.specs.Prelude.{slice_index, slice_set}
use mathlib.Core.Option as m
use mathlib.Core.List.{IsPrefix}
use prog.Atomic.{either}
use lib.ListN.{get_elem?}
use Rattle.atomic_table.specs.Table.{State, keeps, Allows, Splits, Joins, Final, Seen, opening, step}
use Rattle.machine_events.specs.declared.event.Entry.{Entry}
use Rattle.trace_book.specs.declared.view.Base.{Base}
use Rattle.machine_shown.specs.Own.{own}
use Rattle.machine_book.specs.Bound.{BoundTo}
use Rattle.machine_desk.specs.Outgo.{Outgo, Pieces}
use Rattle.trace_book.proofs.Owns.{own_append, own_has, own_tail}
use Rattle.trace_book.specs.declared.view.View.{View}
use Rattle.trace_book.specs.declared.view.Phase.{Phase}
use Rattle.trace_book.specs.declared.view.Phase.TheVariants.{New, Idle, Holding, Joined, Spent}
use Rattle.trace_book.specs.Views.{Has, Within, AllWithin, Rounded, Opened, base_of, view, view_as, next_of, is_spent, taken_numbers, new_view, first_view, numbers_from, kept_of, handed, joined, spent, longer, longer_if}
use Rattle.trace_book.specs.Rule.{Sees, Speaks, Fits, Written, AtHome, IsHeld, Shelved, Holds, Voices}
use Rattle.trace_book.specs.Plays.{Merges}
use Rattle.trace_book.proofs.Beginnings.{rest_same, prefix_self, prefix_shorter, prefix_length, prefix_whole, all_set, at_end, set_at}
use Rattle.trace_book.proofs.Keeps.{sees_none, voices_set}

pub either_true : (x a b : ℕ) → (y : ℕ) → x ≡ y → either (eqb x y) a b ≡ a
either_true x a b y e = ap (λ t. either t a b) (eq-eqb x y e)

pub either_false : (x a b : ℕ) → (y : ℕ) → x ≢ y → either (eqb x y) a b ≡ b
either_false x a b y e = ap (λ t. either t a b) (ne_eqb x y e)

number_in : (i k n : ℕ) → k ≤ i → i < k + n → Has i (numbers_from k n)
number_in i k zero le lt = absurd (omega (arith, le, lt))
number_in i k (suc n) le lt = dite (ℕ_discrete i k) (λ same. inl same) (λ differs. inr (number_in i (suc k) n (grind (arith, nat_tests)) (omega (arith, lt))))

-- the numbers of a round are those from its first on
pub round_numbers : (o : Base) (i : ℕ) → Within o i → Has i (numbers_from o.from o.size)
round_numbers o i within = number_in i o.from o.size within.0 within.1

-- at the start one view has the turn and speaks for all numbers
module _ {O : Type 0} (piece : Pieces) (out : O → Outgo) where
  pub begins : (key : Opened O) → 0 < key.2 → (n : ℕ) → n ≡ length key.0.history → Holds piece out key (opening (1 ∷ n ∷ []) (None ∷ []) (first_view out key))
  begins key some n count =
      let o = base_of out key in
      let v = new_view o in
      let fits : Fits o o.first (λ i. 0) 0 v = record { base = λ _. refl; sees = (prefix_self o.first, λ i has. refl); takes = sees_none o.first; speaks = λ i has. refl; speaks_too = λ i has. absurd has } in
      record {
        history = o.first;
        who = λ i. 0;
        each = one o v fits;
        some_one = λ i within. (v, refl, inl (round_numbers o i within));
        round = record { since = []; joined = append-nil o.first; each = tt };
        stops = λ by u e stopped. starts v refl 1 by u e stopped;
        place = inr (
          0,
          v,
          o.first,
          record {
            there = refl;
            holds = refl;
            follows = inl refl;
            words = ap (λ k. 1 ∷ k ∷ []) count;
            homes = refl;
            voice = (o.from, first o.from o.size some, (omega arith, omega (arith, some)));
            alone = only v;
          },
        );
      }
    where
      first : (k n : ℕ) → 0 < n → Has k (numbers_from k n)
      first k zero h = absurd (omega arith)
      first k (suc n) h = inl refl

      starts : (w : View) → w.stopped ≡ false → (turn by : ℕ) (v : View) → get_elem? (w ∷ []) by ≡ m.some v → v.stopped ≡ true → turn ≡ 2
      starts w going turn zero v e stopped =
          let same : w.stopped ≡ v.stopped = ap (λ (u : View). u.stopped) (m.some-injective _ _ e) in
          let bad : false ≡ true = sym going ∙ (same ∙ stopped) in
          absurd (cc bad)
      starts w going turn (suc by) v e stopped = absurd (m.some-ne-none v (sym e))

      one : (o : Base) (w : View) → Fits o o.first (λ i. 0) 0 w → (by : ℕ) (v : View) → get_elem? (w ∷ []) by ≡ m.some v → Fits o o.first (λ i. 0) by v
      one o w fits zero v e = subst (Fits o o.first (λ i. 0) 0) (m.some-injective _ _ e) fits
      one o w fits (suc by) v e = absurd (m.some-ne-none v (sym e))

      only : (w : View) (j : ℕ) (u : View) → get_elem? (w ∷ []) j ≡ m.some u → (j ≡ 0) ⊎ (next_of u.phase ≡ None)
      only w zero u e = inl refl
      only w (suc j) u e = absurd (m.some-ne-none u (sym e))

-- which view speaks for which number, once the number k goes to the view n
abbrev moved : (ℕ → ℕ) → ℕ → ℕ → ℕ → ℕ
moved who k n i = either (eqb i k) n (who i)

moved_else : (who : ℕ → ℕ) (k n by id : ℕ) (ns : List ℕ) → who k ≡ id → by ≢ id → Speaks who by ns → Speaks (moved who k n) by ns
moved_else who k n by id ns mine apart speaks i has =
    either_false i n (who i) k (λ same. apart (sym (speaks i has) ∙ (ap who same ∙ mine))) ∙ speaks i has

-- which view speaks for which number, once all numbers of one view go to another
abbrev passed : (ℕ → ℕ) → ℕ → ℕ → ℕ → ℕ
passed who from to i = either (eqb (who i) from) to (who i)

passed_else : (who : ℕ → ℕ) (from to by : ℕ) (ns : List ℕ) → by ≢ from → Speaks who by ns → Speaks (passed who from to) by ns
passed_else who from to by ns apart speaks i has = either_false (who i) to (who i) from (λ same. apart (sym (speaks i has) ∙ same)) ∙ speaks i has

passed_from : (who : ℕ → ℕ) (from to : ℕ) (ns : List ℕ) → Speaks who from ns → Speaks (passed who from to) to ns
passed_from who from to ns speaks i has = either_true (who i) to (who i) from (speaks i has)

own_prefix : (xs ys : List Entry) (t : ℕ) → IsPrefix xs ys → IsPrefix (own t xs) (own t ys)
own_prefix xs ys t p = (own t p.0, sym (own_append t xs p.0) ∙ ap (λ l. own t l) p.1)

-- a list between a beginning and the whole has the calls that both have
own_between : (xs ys h : List Entry) (t : ℕ) → IsPrefix xs ys → IsPrefix ys h → own t xs ≡ own t h → own t ys ≡ own t h
own_between xs ys h t p q same =
    prefix_whole (own t ys) (own t h) (own_prefix ys h t q) (let n = prefix_length (own t xs) (own t ys) (own_prefix xs ys t p) in let m = ap length same in omega (arith, n, m))

sees_between : (h xs ys : List Entry) (ns : List ℕ) → IsPrefix xs ys → IsPrefix ys h → Sees h ns xs → Sees h ns ys
sees_between h xs ys ns p q sees = (q, λ i has. own_between xs ys h i p q (sees.1 i has))

-- of two beginnings of one history the longer sees what both do
module _ (h xs ys : List Entry) (ns ns' : List ℕ) (k : Sees h ns xs) (k' : Sees h ns' ys) where
  abbrev Longer : List Entry → Type 0
  Longer zs = Sees h ns zs × Sees h ns' zs × (IsPrefix xs ys ⊎ IsPrefix ys xs)

  longer_by : (b : Bool) → leb (length xs) (length ys) ≡ b → Longer (longer_if b xs ys)
  longer_by true le = let p = prefix_shorter xs ys h k.0 k'.0 (leb-true (length xs) (length ys) le) in (sees_between h xs ys ns p k'.0 k, k', inl p)
  longer_by false le = let lt = leb-false (length xs) (length ys) le in let p = prefix_shorter ys xs h k'.0 k.0 (omega (arith, lt)) in (k, sees_between h ys xs ns' p k.0 k', inr p)

  pub longer_both : Longer (longer xs ys)
  longer_both = longer_by (leb (length xs) (length ys)) refl

-- the first of two beginnings of one history begins the longer
prefix_longer : (h xs ys : List Entry) → IsPrefix xs h → IsPrefix ys h → IsPrefix xs (longer xs ys)
prefix_longer h xs ys p q = by (leb (length xs) (length ys)) refl
  where
    by : (b : Bool) → leb (length xs) (length ys) ≡ b → IsPrefix xs (longer_if b xs ys)
    by true le = prefix_shorter xs ys h p q (leb-true (length xs) (length ys) le)
    by false le = prefix_self xs

within_prefix : (o : Base) (xs ys : List Entry) → AllWithin o (xs ++ ys) → AllWithin o xs
within_prefix o [] ys all = tt
within_prefix o (x ∷ xs) ys all = (all.0, within_prefix o xs ys all.1)

-- what goes on from a beginning of the round, and begins a history of the round, is of the round
round_between : (o : Base) (xs ys h : List Entry) → Rounded o xs → IsPrefix xs ys → IsPrefix ys h → Rounded o h → Rounded o ys
round_between o xs ys h round begins within whole =
    let since = round.since ++ begins.0 in
    let joined : o.first ++ since ≡ ys = sym (append_assoc o.first round.since begins.0) ∙ (ap (λ l. l ++ begins.0) round.joined ∙ begins.1) in
    let same : since ++ within.0 ≡ whole.since = rest_same o.first (since ++ within.0) whole.since (sym (append_assoc o.first since within.0) ∙ (ap (λ l. l ++ within.0) joined ∙ (within.1 ∙ sym whole.joined))) in
    record { since = since; joined = joined; each = within_prefix o since within.0 (subst (AllWithin o) (sym same) whole.each) }

pub has_append : (i : ℕ) (ns ns' : List ℕ) → Has i (ns ++ ns') → Has i ns ⊎ Has i ns'
has_append i [] ns' has = inr has
has_append i (x ∷ xs) ns' has = ⊎_elim (λ same. inl (inl same)) (λ later. ⊎_elim (λ a. inl (inr a)) (λ b. inr b) (has_append i xs ns' later)) has

pub has_first : (i : ℕ) (ns ns' : List ℕ) → Has i ns → Has i (ns ++ ns')
has_first i [] ns' has = absurd has
has_first i (x ∷ xs) ns' has = ⊎_elim (λ same. inl same) (λ later. inr (has_first i xs ns' later)) has

pub has_second : (i : ℕ) (ns ns' : List ℕ) → Has i ns' → Has i (ns ++ ns')
has_second i [] ns' has = has
has_second i (x ∷ xs) ns' has = inr (has_second i xs ns' has)

set_same : (l : List ℕ) → slice_set l 0 (slice_index l 0) ≡ l
set_same [] = refl
set_same (x ∷ xs) = refl

-- all entries behind the first ones are of the round, so whoever knows all events of these numbers has seen the whole
whole_since : (o : Base) (h seen : List Entry) → AllWithin o h → IsPrefix seen h → ((i : ℕ) → Within o i → own i seen ≡ own i h) → seen ≡ h
whole_since o [] [] all pre sees = refl
whole_since o [] (y ∷ ys) all pre sees = absurd (cc (pre.1))
whole_since o (x ∷ xs) [] all pre sees =
    let t = x.thread in
    absurd (cc (sees t all.0 ∙ own_has t x xs refl))
whole_since o (x ∷ xs) (y ∷ ys) all pre sees =
    let heads : y ≡ x = cc (pre.1) in
    let tails : ys ++ pre.0 ≡ xs = cc (pre.1) in
    let rest = whole_since o xs ys all.1 (pre.0, tails) (λ i within. own_tail i x ys xs (subst (λ (z : Entry). own i (z ∷ ys) ≡ own i (x ∷ xs)) heads (sees i within))) in
    λ j. heads j ∷ rest j

pub whole : (o : Base) (h seen : List Entry) → Rounded o h → Rounded o seen → IsPrefix seen h → ((i : ℕ) → Within o i → own i seen ≡ own i h) → seen ≡ h
whole o h seen round mine pre sees =
    let f = o.first in
    let s : IsPrefix mine.since round.since = (pre.0, rest_same f (mine.since ++ pre.0) round.since (sym (append_assoc f mine.since pre.0) ∙ (ap (λ l. l ++ pre.0) mine.joined ∙ (pre.1 ∙ sym round.joined)))) in
    let same = whole_since o round.since mine.since round.each s
    (λ i within. rest_same (own i f) (own i mine.since) (own i round.since) (sym (own_append i f mine.since) ∙ (ap (own i) mine.joined ∙ (sees i within ∙ (ap (own i) (sym round.joined) ∙ own_append i f round.since))))) in
    sym mine.joined ∙ (ap (λ l. f ++ l) same ∙ round.joined)

-- the steps that change several views
module _ {O : Type 0} (piece : Pieces) (out : O → Outgo) where
  abbrev B : Type 0
  B = BoundTo O

  abbrev Table : Type 0
  Table = State (Option B) View

  abbrev Keep : Base → Table → Type 0
  Keep o s = Shelved piece out o s

  -- the place of a state whose views change, but for those of a view that does not have the turn
  place_kept : (o : Base) (h : List Entry) (s : Table) (views : List View)
      → ((by : ℕ) (v : View) → next_of v.phase ≢ None → get_elem? s.views by ≡ m.some v → get_elem? views by ≡ m.some v)
      → ((by : ℕ) (v : View) → get_elem? views by ≡ m.some v → (next_of v.phase ≡ None) ⊎ (get_elem? s.views by ≡ m.some v))
      → AtHome piece out o h s ⊎ IsHeld h s → AtHome piece out o h (record { words = s.words; homes = s.homes; views = views }) ⊎ IsHeld h (record { words = s.words; homes = s.homes; views = views })
  place_kept o h s views there back place =
      ⊎_elim
      (λ (home : AtHome piece out o h s). inl (record { turn = home.turn; free = home.free; words = home.words; book = home.book; homes = home.homes; written = home.written; none = λ by v at. ⊎_elim (λ none. none) (λ at'. home.none by v at') (back by v at) }))
      (λ (held : IsHeld h s). let k = held.3 in inr (
        held.0,
        held.1,
        held.2,
        record {
          there = there held.0 held.1 (λ none. absurd (cc (none, k.holds))) k.there;
          holds = k.holds;
          follows = k.follows;
          words = k.words;
          homes = k.homes;
          voice = k.voice;
          alone = λ j u at. ⊎_elim (λ none. inr none) (λ at'. k.alone j u at') (back j u at);
        },
      ))
      place

  -- a view that does not have the turn hands its first number to a new one
  splits_plain : (root : Base) (id : ℕ) (o : Base) (k : ℕ) (ns : List ℕ) (seen : List Entry) → ((i : ℕ) → Has i ns → i ≢ k) → Splits (Keep root) id (view o (k ∷ ns) seen Idle) (view o ns seen Idle) (view o (k ∷ []) seen Idle)
  splits_plain root id o k ns seen apart s kept at =
      let v : View = view o (k ∷ ns) seen Idle in
      let left : View = view o ns seen Idle in
      let right : View = view o (k ∷ []) seen Idle in
      let fit = kept.each id v at in
      let h = kept.history in
      let n = length s.views in
      let who = moved kept.who k n in
      let mine : kept.who k ≡ id = fit.speaks k (inl refl) in
      let fits_left : Fits root h who id left = record {
        base = fit.base;
        sees = (fit.sees.0, λ i has. fit.sees.1 i (inr has));
        takes = sees_none h;
        speaks = λ i has. either_false i n (kept.who i) k (apart i has) ∙ fit.speaks i (inr has);
        speaks_too = λ i has. absurd has;
      } in
      let fits_right : Fits root h who n right = record {
        base = fit.base;
        sees = (fit.sees.0, λ i has. fit.sees.1 i (⊎_elim (λ same. inl same) (λ no. absurd no) has));
        takes = sees_none h;
        speaks = λ i has. either_true i n (kept.who i) k (⊎_elim (λ same. same) (λ no. absurd no) has);
        speaks_too = λ i has. absurd has;
      } in
      let cut : List View = set s.views id left in
      let each_left = all_set (Fits root h who) s.views id left
      (λ j u other at'. let f = kept.each j u at' in record {
        base = f.base;
        sees = f.sees;
        takes = f.takes;
        speaks = moved_else kept.who k n j id u.numbers mine other f.speaks;
        speaks_too = moved_else kept.who k n j id (taken_numbers u.phase) mine other f.speaks_too;
      })
      fits_left in
      let sizes : length cut ≡ n = length-set s.views id left in
      let split_voices : Voices root who (cut ++ right ∷ []) = λ i lt.
      dite (ℕ_discrete i k)
      (λ (same : i ≡ k). (right, ap (λ q. get_elem? (cut ++ right ∷ []) q) (either_true i n (kept.who i) k same) ∙ at_last cut right n sizes, inl (inl same)))
      (λ (differs : i ≢ k).
      let y = kept.some_one i lt in
      let moved_to : who i ≡ kept.who i = either_false i n (kept.who i) k differs in
      dite (ℕ_discrete (kept.who i) id)
      (λ (here : kept.who i ≡ id).
      let is : y.0 ≡ v = m.some-injective y.0 v (sym y.1 ∙ (ap (λ q. get_elem? s.views q) here ∙ at)) in
      (left, ap (λ q. get_elem? (cut ++ right ∷ []) q) (moved_to ∙ here) ∙ at_longer cut (right ∷ []) id left (set_at s.views id v left at), inl (rest_of i differs (subst (λ (u : View). Has i u.numbers ⊎ Has i (taken_numbers u.phase)) is y.2))))
      (λ there. (y.0, ap (λ q. get_elem? (cut ++ right ∷ []) q) moved_to ∙ at_longer cut (right ∷ []) (kept.who i) y.0 (set_else s.views id (kept.who i) left there ∙ y.1), y.2))) in
      record {
        history = h;
        who = who;
        each = λ j u at'. ⊎_elim
            (λ old. each_left j u old)
            (λ (x : (j ≡ length cut) × (right ≡ u)). subst (λ (p : ℕ × View). Fits root h who p.0 p.1) (λ t. (sym (x.0 ∙ sizes) t, x.1 t)) fits_right)
            (at_end cut right u j at');
        some_one = split_voices;
        round = kept.round;
        stops = λ by u e stopped. ⊎_elim
            (λ old. all_set (λ j x. x.stopped ≡ true → slice_index s.words 0 ≡ 2) s.views id left
            (λ j x other e' stopped'. kept.stops j x e' stopped')
            (λ e'. let no : false ≡ true = e' in absurd (cc (no)))
            by u old stopped)
            (λ (x : (by ≡ length cut) × (right ≡ u)). let no : false ≡ u.stopped = ap (λ (y : View). y.stopped) x.1 in absurd (cc (no, stopped)))
            (at_end cut right u by e);
        place = place_kept root h s (cut ++ right ∷ [])
            (λ by u busy at'. at_longer cut (right ∷ []) by u (set_else s.views id by left (λ same. busy (ap (λ (x : View). next_of x.phase) (m.some-injective u v (sym at' ∙ (ap (λ q. get_elem? s.views q) same ∙ at))))) ∙ at'))
            (λ by u at'. ⊎_elim
            (λ old. all_set (λ j x. (next_of x.phase ≡ None) ⊎ (get_elem? s.views j ≡ m.some x)) s.views id left (λ j x other at''. inr at'') (inl refl) by u old)
            (λ (x : (by ≡ length cut) × (right ≡ u)). inl (sym (ap (λ (y : View). next_of y.phase) x.1)))
            (at_end cut right u by at'))
            kept.place;
      }
    where
      rest_of : (i : ℕ) → i ≢ k → Has i (k ∷ ns) ⊎ ⊥ → Has i ns
      rest_of i differs has = ⊎_elim (λ a. ⊎_elim (λ e. absurd (differs e)) (λ r. r) a) (λ b. absurd b) has

  pub splits_off : (root : Base) (id : ℕ) (v : View) (o : Base) (k : ℕ) (ns : List ℕ) (seen : List Entry) → v ≡ view o (k ∷ ns) seen Idle → ((i : ℕ) → Has i ns → i ≢ k) → Splits (Keep root) id v (kept_of v) (handed v)
  splits_off root id v o k ns seen is apart = subst (λ (u : View). Splits (Keep root) id u (kept_of u) (handed u)) (sym is) (splits_plain root id o k ns seen apart)

  -- a view that does not have the turn takes in another
  joins_plain : (root : Base) (id : ℕ) (b : Bool) (o : Base) (ns : List ℕ) (seen : List Entry) (other : ℕ) (b' : Bool) (o' : Base) (ns' : List ℕ) (seen' : List Entry)
      → Joins (Keep root) id (view_as b o ns seen Idle) other (view_as b' o' ns' seen' Idle) (view o ns seen (Joined ns' seen')) spent
  joins_plain root id b o ns seen other b' o' ns' seen' s kept at apart at' =
      let v : View = view_as b o ns seen Idle in
      let w : View = view_as b' o' ns' seen' Idle in
      let both : View = view o ns seen (Joined ns' seen') in
      let h = kept.history in
      let who = passed kept.who other id in
      let there : get_elem? s.views other ≡ m.some w = sym (set_else s.views id other both apart) ∙ at' in
      let f = kept.each id v at in
      let g = kept.each other w there in
      let fits_both : Fits root h who id both = record {
        base = f.base;
        sees = f.sees;
        takes = g.sees;
        speaks = passed_else kept.who other id id ns (λ same. apart (sym same)) f.speaks;
        speaks_too = passed_from kept.who other id ns' g.speaks;
      } in
      let fits_spent : Fits root h who other spent = record {
        base = λ no. absurd (cc (no));
        sees = sees_none h;
        takes = sees_none h;
        speaks = λ i has. absurd has;
        speaks_too = λ i has. absurd has;
      } in
      let P : ℕ → View → Type 0 = λ j u. (j ≢ other) → Fits root h who j u in
      let each_both = all_set P s.views id both
      (λ j u no e. λ no'. let k = kept.each j u e in record {
        base = k.base;
        sees = k.sees;
        takes = k.takes;
        speaks = passed_else kept.who other id j u.numbers no' k.speaks;
        speaks_too = passed_else kept.who other id j (taken_numbers u.phase) no' k.speaks_too;
      })
      (λ no'. fits_both) in
      let joined : List View = set s.views id both in
      let views : List View = set joined other spent in
      let join_voices : Voices root who views = λ i lt.
      let y = kept.some_one i lt in
      dite (ℕ_discrete (kept.who i) other)
      (λ (gone : kept.who i ≡ other).
      let is : y.0 ≡ w = m.some-injective y.0 w (sym y.1 ∙ (ap (λ q. get_elem? s.views q) gone ∙ there)) in
      (both, ap (λ q. get_elem? views q) (either_true (kept.who i) id (kept.who i) other gone) ∙ (set_else joined other id spent (λ e. apart (sym e)) ∙ set_at s.views id v both at), ⊎_elim (λ a. inr a) (λ b. absurd b) (subst (λ (u : View). Has i u.numbers ⊎ Has i (taken_numbers u.phase)) is y.2)))
      (λ (stays : kept.who i ≢ other).
      let same_who : who i ≡ kept.who i = either_false (kept.who i) id (kept.who i) other stays in
      dite (ℕ_discrete (kept.who i) id)
      (λ (here : kept.who i ≡ id).
      let is : y.0 ≡ v = m.some-injective y.0 v (sym y.1 ∙ (ap (λ q. get_elem? s.views q) here ∙ at)) in
      (both, ap (λ q. get_elem? views q) (same_who ∙ here) ∙ (set_else joined other id spent (λ e. apart (sym e)) ∙ set_at s.views id v both at), ⊎_elim (λ a. inl a) (λ b. absurd b) (subst (λ (u : View). Has i u.numbers ⊎ Has i (taken_numbers u.phase)) is y.2)))
      (λ away. (y.0, ap (λ q. get_elem? views q) same_who ∙ (set_else joined other (kept.who i) spent stays ∙ (set_else s.views id (kept.who i) both away ∙ y.1)), y.2))) in
      record {
        history = h;
        who = who;
        each = all_set (Fits root h who) joined other spent (λ j u no e. each_both j u e no) fits_spent;
        some_one = join_voices;
        round = kept.round;
        stops = all_set (λ j x. x.stopped ≡ true → slice_index s.words 0 ≡ 2) joined other spent
            (λ j x no e stopped. all_set (λ j' x'. x'.stopped ≡ true → slice_index s.words 0 ≡ 2) s.views id both
            (λ j' x' no' e' stopped'. kept.stops j' x' e' stopped')
            (λ e'. let none : false ≡ true = e' in absurd (cc (none)))
            j x e stopped)
            (λ e. let none : false ≡ true = e in absurd (cc (none)));
        place = place_kept root h s views
            (λ by u busy e.
            let not_id : by ≢ id = λ same. busy (ap (λ (x : View). next_of x.phase) (m.some-injective u v (sym e ∙ (ap (λ q. get_elem? s.views q) same ∙ at)))) in
            let not_other : by ≢ other = λ same. busy (ap (λ (x : View). next_of x.phase) (m.some-injective u w (sym e ∙ (ap (λ q. get_elem? s.views q) same ∙ there)))) in
            set_else joined other by spent not_other ∙ (set_else s.views id by both not_id ∙ e))
            (all_set (λ j x. (next_of x.phase ≡ None) ⊎ (get_elem? s.views j ≡ m.some x)) joined other spent
            (λ j x no e. all_set (λ j' x'. (next_of x'.phase ≡ None) ⊎ (get_elem? s.views j' ≡ m.some x')) s.views id both (λ j' x' no' e'. inr e') (inl refl) j x e)
            (inl refl))
            kept.place;
      }

  pub joins_in : (root : Base) (id : ℕ) (v : View) (other : ℕ) (w : View) (b : Bool) (o : Base) (ns : List ℕ) (seen : List Entry) (b' : Bool) (o' : Base) (ns' : List ℕ) (seen' : List Entry)
      → v ≡ view_as b o ns seen Idle → w ≡ view_as b' o' ns' seen' Idle → Joins (Keep root) id v other w (joined v w) spent
  joins_in root id v other w b o ns seen b' o' ns' seen' is is' =
      subst (λ (p : View × View). Joins (Keep root) id p.0 other p.1 (joined p.0 p.1) spent) (λ i. (sym is i, sym is' i)) (joins_plain root id b o ns seen other b' o' ns' seen')

  -- the numbers and the beginning of the other view are taken in
  merges_plain : (root : Base) (slots : ℕ) (id : ℕ) (o : Base) (ns : List ℕ) (seen : List Entry) (ns' : List ℕ) (seen' : List Entry)
      → Allows (Keep root) slots id (view o ns seen (Joined ns' seen'), []) 0 (λ n. n) (Merges (step slots 0 0 0 m.none) (view o ns seen (Joined ns' seen'), []))
  merges_plain root slots id o ns seen ns' seen' s k count at fits =
      let v : View = view o ns seen (Joined ns' seen') in
      let h = k.history in
      let fit = k.each id v at in
      let l = longer_both h seen seen' ns ns' fit.sees fit.takes in
      let w : View = view o (ns ++ ns') (longer seen seen') Idle in
      let fits_w : Fits root h k.who id w = record {
        base = fit.base;
        sees = (l.0.0, λ i has. ⊎_elim (λ a. l.0.1 i a) (λ b. l.1.1 i b) (has_append i ns ns' has));
        takes = sees_none h;
        speaks = λ i has. ⊎_elim (λ a. fit.speaks i a) (λ b. fit.speaks_too i b) (has_append i ns ns' has);
        speaks_too = λ i has. absurd has;
      } in
      let views : List View = set s.views id w in
      let kept : Keep root (record { words = s.words; homes = s.homes; views = views }) = record {
        history = h;
        who = k.who;
        each = all_set (Fits root h k.who) s.views id w (λ j u no e. k.each j u e) fits_w;
        some_one = voices_set root k.who s.views id v w at (λ i has. inl (⊎_elim (λ a. has_first i ns ns' a) (λ b. has_second i ns ns' b) has)) k.some_one;
        round = k.round;
        stops = all_set (λ j x. x.stopped ≡ true → slice_index s.words 0 ≡ 2) s.views id w
            (λ j x no e stopped. k.stops j x e stopped)
            (λ e. let none : false ≡ true = e in absurd (cc (none)));
        place = place_kept root h s views
            (λ by u busy e. set_else s.views id by w (λ same. busy (ap (λ (x : View). next_of x.phase) (m.some-injective u v (sym e ∙ (ap (λ q. get_elem? s.views q) same ∙ at))))) ∙ e)
            (all_set (λ j x. (next_of x.phase ≡ None) ⊎ (get_elem? s.views j ≡ m.some x)) s.views id w (λ j x no e. inr e) (inl refl))
            k.place;
      } in (
        w,
        keeps,
        tt,
        subst (λ ws. Keep root (record { words = ws; homes = s.homes; views = views })) (sym (set_same s.words)) kept,
        (
          refl,
          l.2,
          (λ i has. l.0.1 i has ∙ sym (fit.sees.1 i has)),
          (λ i has. l.1.1 i has ∙ sym (fit.takes.1 i has)),
          (λ round. round_between o seen (longer seen seen') h round (prefix_longer h seen seen' fit.sees.0 fit.takes.0) l.0.0 (subst (λ (x : Base). Rounded x h) (sym (fit.base refl)) k.round)),
        ),
      )

  pub merges_in : (root : Base) (slots : ℕ) (id : ℕ) (v : View) (o : Base) (ns : List ℕ) (seen : List Entry) (ns' : List ℕ) (seen' : List Entry) → v ≡ view o ns seen (Joined ns' seen')
      → Allows (Keep root) slots id (v, []) 0 (λ n. n) (Merges (step slots 0 0 0 m.none) (v, []))
  merges_in root slots id v o ns seen ns' seen' is = subst (λ (u : View). Allows (Keep root) slots id (u, []) 0 (λ n. n) (Merges (step slots 0 0 0 m.none) (u, []))) (sym is) (merges_plain root slots id o ns seen ns' seen')

  -- at the end: where a view speaks for all numbers, the book is at home, with a history of which that view knows all events
  pub closes_with : (root : Base) (id : ℕ) (v : View) (ws : List ℕ) (xs : List (Option B)) → v.phase ≡ Idle → ((i : ℕ) → Within v.base i → Has i v.numbers)
      → Final (Seen (Keep root) id v) ws xs → (b : B) × (get_elem? xs 0 ≡ m.some (Some b)) × Written piece out v.base b.history b × Sees b.history v.numbers v.seen
  closes_with root id v ws xs is all final =
      let s = final.0 in
      let k = final.1.0 in
      let at = final.1.1 in
      let fit = k.each id v at in
      let opens = fit.base (ap is_spent is) in
      ⊎_elim
      (λ (home : AtHome piece out root k.history s).
      let same = home.written.history in (
        home.book,
        final.4 0 (Some home.book) (ap (λ (l : List (m.Option (Option B))). get_elem? l 0) home.homes),
        subst (λ (p : Base × List Entry). Written piece out p.0 p.1 home.book) (λ i. (sym opens i, sym same i)) home.written,
        subst (λ l. Sees l v.numbers v.seen) (sym same) fit.sees,
      ))
      (λ (held : IsHeld k.history s).
      let g = k.each held.0 held.1 held.3.there in
      let busy : is_spent held.1.phase ≡ false = not_spent held.1.phase held.2 held.3.holds in
      let bound : Within v.base held.3.voice.0 = subst (λ (o : Base). Within o held.3.voice.0) (g.base busy ∙ sym opens) held.3.voice.2 in
      let same : held.0 ≡ id = sym (g.speaks held.3.voice.0 held.3.voice.1) ∙ fit.speaks held.3.voice.0 (all held.3.voice.0 bound) in
      let views : held.1 ≡ v = m.some-injective held.1 v (sym held.3.there ∙ (ap (λ q. get_elem? s.views q) same ∙ at)) in
      absurd (cc (sym (ap (λ (x : View). next_of x.phase) views) ∙ held.3.holds, ap next_of is)))
      k.place
    where
      not_spent : (p : Phase) (next : List Entry) → next_of p ≡ Some next → is_spent p ≡ false
      not_spent (New n) next e = refl
      not_spent (Holding n) next e = refl
      not_spent Idle next e = refl
      not_spent (Joined a b) next e = refl
      not_spent Spent next e = absurd (cc (e))

-- the book that a closed shared book gives back has just the history that the last view has seen
pub closed_book : {O : Type 0} (piece : Pieces) (out : O → Outgo) (v : View) (b : BoundTo O) → Written piece out v.base b.history b → Sees b.history v.numbers v.seen → Rounded v.base v.seen → ((i : ℕ) → Within v.base i → Has i v.numbers) → Written piece out v.base v.seen b
closed_book piece out v b w sees round all =
    let same = whole v.base b.history v.seen w.round round sees.0 (λ i within. sees.1 i (all i within)) in
    subst (λ l. Written piece out v.base l b) (sym same) w
