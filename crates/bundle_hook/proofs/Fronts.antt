-- The front of a bundle: what is spelled is read, and what is read is spelled so.
use Rattle.std.proofs.Common.{◌≡◌, ◌∙◌, refl, sym, ap, subst, ℕ, zero, suc, ◌+◌, ◌-◌, ◌<◌, ◌≤◌, List, [], ◌∷◌, ◌++◌, length, true, false, Bool, cond, Some, None, Option, Bor, arith, append-nil, append_assoc}
use Rattle.std.proofs.lemmas.Bool.{cond-true, cond-false, false≢true}
use Rattle.std.proofs.lemmas.Slice.Eq.{bytes_eq-Decides}
use Rattle.std.specs.List.{AllByRecursion}
use Rattle.std.specs.Option.{option_and_then, option_map, is_some}
use Rattle.std.specs.Str.{bytes_eq}
use Rattle.bundle_hook.specs.declared.entry.Entry.{Entry}
use Rattle.bundle_hook.specs.Spelling.{most_files, first_line, last_line, line_of, lines_of, front_of, IsEntry}
use Rattle.bundle_hook.specs.Bundle.{AreEntries}
use Rattle.bundle_hook.specs.Reading.{cut_at, entry_in, at_line, lines_in, ascending, if_ascending, behind_first, front_in}
use Rattle.bundle_hook.proofs.Cuts.{if_some, then_some, cut_found, cut_taken}
use Rattle.bundle_hook.proofs.Entries.{entry_found, entry_taken, no_lf}
use Rattle.bundle_hook.proofs.Orders.{ascend_taken, ascend_found}

-- the rest of a front: lines, the last line, and what stands behind it
abbrev tail_of : List Entry → List ℕ → List ℕ
tail_of es rest = lines_of es ++ (last_line ++ 10 ∷ rest)

-- One line.

no_end : entry_in last_line ≡ None
unfolding entry_in
no_end = refl

not_last : (e : Entry) → IsEntry e → bytes_eq (line_of e) last_line ≡ false
not_last e is = by (bytes_eq (line_of e) last_line) refl
  where
    by : (b : Bool) → bytes_eq (line_of e) last_line ≡ b → b ≡ false
    by true p =
        let same : line_of e ≡ last_line = (bytes_eq-Decides _ _).0 p in
        let bad : Some e ≡ None = sym (entry_found e is) ∙ ap entry_in same ∙ no_end in
        cc
    by false p = refl

step : (n : ℕ) (done : List Entry) (text : List ℕ) → lines_in (suc n) done text ≡ option_and_then (at_line done (λ e rest. lines_in n (done ++ e ∷ []) rest)) (cut_at 10 text)
unfolding lines_in
step n done text = refl

pub nothing_left : (done : List Entry) (text : List ℕ) → lines_in 0 done text ≡ None
unfolding lines_in
nothing_left done text = refl

-- What is spelled is read.

found_lines : (n : ℕ) (done es : List Entry) (rest : List ℕ) → length es < n → AllByRecursion IsEntry es → lines_in n done (tail_of es rest) ≡ Some (done ++ es, length rest)
found_lines zero done es rest few each = absurd (omega arith)
found_lines (suc n) done [] rest few each =
    step n done (last_line ++ 10 ∷ rest)
    ∙ ap (option_and_then (at_line done (λ e rest. lines_in n (done ++ e ∷ []) rest))) (cut_found 10 last_line rest refl)
    ∙ ap (λ d. Some (d, length rest)) (sym (append-nil done))
found_lines (suc n) done (e ∷ es) rest few each =
    let line : List ℕ = line_of e in
    let more : List ℕ = tail_of es rest in
    let text : tail_of (e ∷ es) rest ≡ line ++ 10 ∷ more = append_assoc line (10 ∷ lines_of es) (last_line ++ 10 ∷ rest) in
    step n done (tail_of (e ∷ es) rest)
    ∙ ap (option_and_then (at_line done (λ e rest. lines_in n (done ++ e ∷ []) rest))) (ap (cut_at 10) text ∙ cut_found 10 line more (no_lf e each.0))
    ∙ cond-false _ _ _ (not_last e each.0)
    ∙ ap (option_and_then (λ f. lines_in n (done ++ f ∷ []) more)) (entry_found e each.0)
    ∙ found_lines n (done ++ e ∷ []) es rest (omega arith) each.1
    ∙ ap (λ d. Some (d, length rest)) (append_assoc done (e ∷ []) es)

first_cut : (rest : List ℕ) → cut_at 10 (first_line ++ 10 ∷ rest) ≡ Some (first_line, rest)
first_cut rest = cut_found 10 first_line rest refl

whole_front : (es : List Entry) (rest : List ℕ) → front_of es ++ rest ≡ first_line ++ 10 ∷ tail_of es rest
whole_front es rest =
    let inner : (lines_of es ++ (last_line ++ 10 ∷ [])) ++ rest ≡ tail_of es rest = append_assoc (lines_of es) (last_line ++ 10 ∷ []) rest ∙ ap (λ t. lines_of es ++ t) (append_assoc last_line (10 ∷ []) rest) in
    append_assoc first_line (10 ∷ (lines_of es ++ (last_line ++ 10 ∷ []))) rest ∙ ap (λ t. first_line ++ 10 ∷ t) inner

pub front_found : (es : List Entry) (rest : List ℕ) → AreEntries es → front_in (front_of es ++ rest) ≡ Some (es, length rest)
unfolding front_in
front_found es rest are =
    let few = are.few in
    let lines : lines_in (most_files + 1) [] (tail_of es rest) ≡ Some (es, length rest) = found_lines (most_files + 1) [] es rest (omega (arith, few)) are.each in
    ap (λ t. option_and_then behind_first (cut_at 10 t)) (whole_front es rest)
    ∙ ap (option_and_then behind_first) (first_cut (tail_of es rest))
    ∙ ap (option_and_then if_ascending) lines
    ∙ cond-true _ _ _ (ascend_found es are.ascend)

-- What two readings of one front say.

abbrev entries_or : List Entry → Option (List Entry × ℕ) → List Entry
entries_or es None = es
entries_or es (Some p) = p.0

pub same_entries : (o : Option (List Entry × ℕ)) (a b : List Entry) (m n : ℕ) → o ≡ Some (a, m) → o ≡ Some (b, n) → a ≡ b
same_entries o a b m n p q = ap (entries_or a) (sym p ∙ q)

pub not_both : {X : Type 0} (o : Option X) (x : X) → o ≡ None → o ≡ Some x → ⊥
not_both o x p q = false≢true (ap is_some (sym p ∙ q))

-- What is read is spelled.

record Taken (n : ℕ) (done : List Entry) (text : List ℕ) (es : List Entry) (left : ℕ) : Type 0 where
  more : List Entry
  rest : List ℕ
  is : es ≡ done ++ more
  each : AllByRecursion IsEntry more
  few : length more < n
  whole : text ≡ tail_of more rest
  left_is : left ≡ length rest

more_taken : (n : ℕ) (done : List Entry) (e : Entry) (text line rest : List ℕ) (es : List Entry) (left : ℕ) → text ≡ line ++ 10 ∷ rest → IsEntry e → line ≡ line_of e → Taken n (done ++ e ∷ []) rest es left → Taken (suc n) done text es left
more_taken n done e text line rest es left cut is same t = record {
  more = e ∷ t.more;
  rest = t.rest;
  is = t.is ∙ append_assoc done (e ∷ []) t.more;
  each = (is, t.each);
  few = let few = t.few in omega arith;
  whole = cut ∙ ap (λ l. l ++ 10 ∷ rest) same ∙ ap (λ r. line_of e ++ 10 ∷ r) t.whole ∙ sym (append_assoc (line_of e) (10 ∷ lines_of t.more) (last_line ++ 10 ∷ t.rest));
  left_is = t.left_is;
}

taken_lines : (n : ℕ) (done : List Entry) (text : List ℕ) (es : List Entry) (left : ℕ) → lines_in n done text ≡ Some (es, left) → Taken n done text es left
taken_lines zero done text es left h = absurd (not_both (lines_in 0 done text) (es, left) (nothing_left done text) h)
taken_lines (suc n) done text es left h =
    let c = then_some (at_line done (λ e rest. lines_in n (done ++ e ∷ []) rest)) (cut_at 10 text) (es, left) (sym (step n done text) ∙ h) in
    by (λ done more k. taken_lines n done more es left k) c.0.0 c.0.1 (cut_taken 10 text c.0.0 c.0.1 c.1) (bytes_eq c.0.0 last_line) refl c.2
  where
    by : ((done : List Entry) (more : List ℕ) → lines_in n done more ≡ Some (es, left) → Taken n done more es left) → (line rest : List ℕ) → text ≡ line ++ 10 ∷ rest → (b : Bool) → bytes_eq line last_line ≡ b
        → cond b (Some (done, length rest)) (option_and_then (λ e. lines_in n (done ++ e ∷ []) rest) (entry_in line)) ≡ Some (es, left) → Taken (suc n) done text es left
    by later line rest cut true p k =
        let last : line ≡ last_line = (bytes_eq-Decides _ _).0 p in
        let pair : (done, length rest) ≡ (es, left) = cc in
        record {
          more = [];
          rest = rest;
          is = sym (ap (λ (q : List Entry × ℕ). q.0) pair) ∙ sym (append-nil done);
          each = tt;
          few = omega arith;
          whole = cut ∙ ap (λ l. l ++ 10 ∷ rest) last;
          left_is = sym (ap (λ (q : List Entry × ℕ). q.1) pair);
        }
    by later line rest cut false p k =
        let e = then_some (λ e. lines_in n (done ++ e ∷ []) rest) (entry_in line) (es, left) k in
        let is = entry_taken line e.0 e.1 in
        more_taken n done e.0 text line rest es left cut is.0 is.1 (later (done ++ e.0 ∷ []) rest e.2)

pub record Front (text : List ℕ) (es : List Entry) (left : ℕ) : Type 0 where
  pub rest : List ℕ
  pub are : AreEntries es
  pub whole : text ≡ front_of es ++ rest
  pub left_is : left ≡ length rest

pub front_taken : (text : List ℕ) (es : List Entry) (left : ℕ) → front_in text ≡ Some (es, left) → Front text es left
unfolding front_in
front_taken text es left h =
    let c = then_some behind_first (cut_at 10 text) (es, left) h in
    let line : List ℕ = c.0.0 in
    let behind : List ℕ = c.0.1 in
    let first = if_some (bytes_eq line first_line) (option_and_then if_ascending (lines_in (most_files + 1) [] behind)) (es, left) c.2 in
    let o = then_some if_ascending (lines_in (most_files + 1) [] behind) (es, left) first.1 in
    let a = if_some (ascending o.0.0) (Some o.0) (es, left) o.2 in
    let pair : o.0 ≡ (es, left) = let e : Some o.0 ≡ Some (es, left) = a.1 in cc in
    let t : Taken (most_files + 1) [] behind es left = taken_lines (most_files + 1) [] behind es left (o.1 ∙ ap Some pair) in
    let same : es ≡ t.more = t.is in
    let few = t.few in
    let is_first : line ≡ first_line = (bytes_eq-Decides _ _).0 first.0 in
    let up : ascending es ≡ true = sym (ap (λ (q : List Entry × ℕ). ascending q.0) pair) ∙ a.0 in
    record {
      rest = t.rest;
      are = record {
        few = let long : length es ≡ length t.more = ap length same in omega (arith, few, long);
        each = subst (AllByRecursion IsEntry) (sym same) t.each;
        ascend = ascend_taken es up;
      };
      whole =
          cut_taken 10 text line behind c.1 ∙ ap (λ l. l ++ 10 ∷ behind) is_first ∙ ap (λ b. first_line ++ 10 ∷ b) t.whole
          ∙ ap (λ m. first_line ++ 10 ∷ tail_of m t.rest) (sym same) ∙ sym (whole_front es t.rest);
      left_is = t.left_is;
    }

-- The loop over the lines.

pub cut_none : (o : Option (Bor (List ℕ) × Bor (List ℕ))) (text : List ℕ) → option_map {U = List ℕ × List ℕ} (λ x. (x.0.now, x.1.now)) o ≡ cut_at 10 text → o ≡ None → cut_at 10 text ≡ None
cut_none o text e is = sym e ∙ ap (option_map {U = List ℕ × List ℕ} (λ (x : Bor (List ℕ) × Bor (List ℕ)). (x.0.now, x.1.now))) is

pub cut_some : (o : Option (Bor (List ℕ) × Bor (List ℕ))) (text : List ℕ) (line rest : Bor (List ℕ)) → option_map {U = List ℕ × List ℕ} (λ x. (x.0.now, x.1.now)) o ≡ cut_at 10 text → o ≡ Some (line, rest) → cut_at 10 text ≡ Some (line.now, rest.now)
cut_some o text line rest e is = sym e ∙ ap (option_map {U = List ℕ × List ℕ} (λ (x : Bor (List ℕ) × Bor (List ℕ)). (x.0.now, x.1.now))) is

one_less : (most i : ℕ) → i < most → most - i ≡ suc (most - (i + 1))
one_less most i low = omega arith

at_step : (most i : ℕ) (done : List Entry) (text : List ℕ) → i < most → lines_in (most - i) done text ≡ option_and_then (at_line done (λ e rest. lines_in (most - (i + 1)) (done ++ e ∷ []) rest)) (cut_at 10 text)
at_step most i done text low = ap (λ n. lines_in n done text) (one_less most i low) ∙ step (most - (i + 1)) done text

pub no_line : (most i : ℕ) (done : List Entry) (text : List ℕ) → i < most → cut_at 10 text ≡ None → lines_in (most - i) done text ≡ None
no_line most i done text low none = at_step most i done text low ∙ ap (option_and_then (at_line done (λ e rest. lines_in (most - (i + 1)) (done ++ e ∷ []) rest))) none

pub at_last : (most i : ℕ) (done : List Entry) (text line rest : List ℕ) → i < most → cut_at 10 text ≡ Some (line, rest) → bytes_eq line last_line ≡ true → lines_in (most - i) done text ≡ Some (done, length rest)
at_last most i done text line rest low cut is =
    at_step most i done text low ∙ ap (option_and_then (at_line done (λ e rest. lines_in (most - (i + 1)) (done ++ e ∷ []) rest))) cut ∙ cond-true _ _ _ is

at_other : (most i : ℕ) (done : List Entry) (text line rest : List ℕ) → i < most → cut_at 10 text ≡ Some (line, rest) → bytes_eq line last_line ≡ false → lines_in (most - i) done text ≡ option_and_then (λ e. lines_in (most - (i + 1)) (done ++ e ∷ []) rest) (entry_in line)
at_other most i done text line rest low cut is =
    at_step most i done text low ∙ ap (option_and_then (at_line done (λ e rest. lines_in (most - (i + 1)) (done ++ e ∷ []) rest))) cut ∙ cond-false _ _ _ is

pub no_entry : (most i : ℕ) (done : List Entry) (text line rest : List ℕ) → i < most → cut_at 10 text ≡ Some (line, rest) → bytes_eq line last_line ≡ false → entry_in line ≡ None → lines_in (most - i) done text ≡ None
no_entry most i done text line rest low cut is none = at_other most i done text line rest low cut is ∙ ap (option_and_then (λ e. lines_in (most - (i + 1)) (done ++ e ∷ []) rest)) none

pub one_entry : (most i : ℕ) (done : List Entry) (e : Entry) (text line rest : List ℕ) → i < most → cut_at 10 text ≡ Some (line, rest) → bytes_eq line last_line ≡ false → entry_in line ≡ Some e
    → lines_in (most - i) done text ≡ lines_in (most - (i + 1)) (done ++ e ∷ []) rest
one_entry most i done e text line rest low cut is some = at_other most i done text line rest low cut is ∙ ap (option_and_then (λ e. lines_in (most - (i + 1)) (done ++ e ∷ []) rest)) some

pub all_lines : (most i : ℕ) (done : List Entry) (text : List ℕ) → most ≤ i → lines_in (most - i) done text ≡ None
all_lines most i done text high = ap (λ n. lines_in n done text) (let none : most - i ≡ 0 = omega arith in none) ∙ nothing_left done text
