-- Histories that are split by threads.
use Rattle.std.proofs.Common.{◌≡◌, ◌≢◌, ◌<◌, ◌≤◌, ℕ, zero, suc, ◌+◌, eqb, eq-eqb, ne_eqb, Bool, true, false, cond, List, [], ◌∷◌, ◌++◌, Some, map, take, length, get_or, refl, sym, ap, subst, ◌∙◌, arith, inl, inr}
use Rattle.std.specs.Prelude.{filter, ◌==◌, slice_get, reverse}
use Rattle.std.proofs.lemmas.Bool.{cases_lt}
use Rattle.std.proofs.lemmas.List.{append_assoc, append-nil, get_or_append_left, length-append, length-map, map-append, reverse-append, reverse-reverse}
use Rattle.std.proofs.lemmas.List.Sums.{sum_by-cons}
use Rattle.machine_events.specs.declared.event.Event.{Event}
use Rattle.machine_events.specs.declared.event.Reply.{Reply}
use Rattle.machine_events.specs.declared.event.Entry.{Entry}
use Rattle.machine_events.specs.declared.event.Pair.{Pair}
use Rattle.machine_shown.specs.Own.{own}
use Rattle.trace_check.specs.Judge.{made, IsPlaceOf}
use Rattle.trace_check.specs.Threads.{threads_of, turns, IsTurnOf, Tells, pairs_of, list_of, AreOwn}

-- what a thread sees of one entry more

abbrev pub paired : Entry → Event × Reply
paired e = (e.event, e.reply)

abbrev pub own_if : Bool → Entry → List (Event × Reply) → List (Event × Reply)
own_if true e xs = paired e ∷ xs
own_if false e xs = xs

pub own_cut : (t : ℕ) (e : Entry) (es : List Entry) → own t (e ∷ es) ≡ own_if (eqb e.thread t) e (own t es)
own_cut t e es =
    elim (eqb e.thread t) as (λ (c : Bool). map {B = Event × Reply} (λ (e : Entry). paired e) (cond c (e ∷ filter (λ (e : Entry). e.thread == t) es) (filter (λ (e : Entry). e.thread == t) es)) ≡ own_if c e (own t es)) [
      | true ↦ refl
      | false ↦ refl
    ]

own_if-append : (b : Bool) (e : Entry) (xs ys : List (Event × Reply)) → own_if b e (xs ++ ys) ≡ own_if b e xs ++ ys
own_if-append true e xs ys = refl
own_if-append false e xs ys = refl

own_append : (t : ℕ) (xs ys : List Entry) → own t (xs ++ ys) ≡ own t xs ++ own t ys
own_append t [] ys = refl
own_append t (x ∷ xs) ys =
    own_cut t x (xs ++ ys)
    ∙ (ap (own_if (eqb x.thread t) x) (own_append t xs ys)
    ∙ (own_if-append (eqb x.thread t) x (own t xs) (own t ys) ∙ ap (λ w. w ++ own t ys) (sym (own_cut t x xs))))

own_other : (t : ℕ) (e : Entry) → (e.thread ≡ t → ⊥) → own t (e ∷ []) ≡ []
own_other t e apart = own_cut t e [] ∙ ap (λ b. own_if b e []) (ne_eqb e.thread t apart)

own_one : (t : ℕ) (e : Entry) → e.thread ≡ t → own t (e ∷ []) ≡ paired e ∷ []
own_one t e is = own_cut t e [] ∙ ap (λ b. own_if b e []) (eq-eqb e.thread t is)

own_cons : (t : ℕ) (e : Entry) (es : List Entry) → own t (e ∷ es) ≡ own t (e ∷ []) ++ own t es
own_cons t e es = own_append t (e ∷ []) es

-- one entry is put to the pairs of its thread, or to the others

pub put_pair : (t : ℕ) (e : Entry) (ps qs : List Pair) → e.thread ≡ t → qs ≡ ps ++ record { event = e.event; reply = e.reply } ∷ [] → pairs_of qs ≡ pairs_of ps ++ own t (e ∷ [])
put_pair t e ps qs its is =
    ap (λ (l : List Pair). pairs_of l) is
    ∙ (map-append (λ (p : Pair). (p.event, p.reply)) ps (record { event = e.event; reply = e.reply } ∷ []) ∙ ap (λ (l : List (Event × Reply)). pairs_of ps ++ l) (sym (own_one t e its)))

pub put_none : (t : ℕ) (e : Entry) (ps : List Pair) → (e.thread ≡ t → ⊥) → pairs_of ps ≡ pairs_of ps ++ own t (e ∷ [])
put_none t e ps apart = sym (append-nil (pairs_of ps)) ∙ ap (λ (l : List (Event × Reply)). pairs_of ps ++ l) (sym (own_other t e apart))

pub put_other : (u : ℕ) (e : Entry) (xs ys : List Entry) → ys ≡ xs ++ e ∷ [] → own u ys ≡ own u xs ++ own u (e ∷ [])
put_other u e xs ys is = ap (λ (l : List Entry). own u l) is ∙ own_append u xs (e ∷ [])

pub put_not : (t u : ℕ) (e : Entry) (xs : List Entry) → e.thread ≡ t → (u ≡ t → ⊥) → own u xs ≡ own u xs ++ own u (e ∷ [])
put_not t u e xs its apart =
    sym (append-nil (own u xs)) ∙ ap (λ (l : List (Event × Reply)). own u xs ++ l) (sym (own_other u e (λ same. apart (sym same ∙ its))))

-- entries are taken from the last to the first of what stands the other way round

pub none_taken : (t : ℕ) (front : List (Event × Reply)) (xs left : List Entry) → front ≡ [] → left ≡ reverse xs → front ++ own t (reverse left) ≡ own t xs
none_taken t front xs left none is =
    ap (λ (l : List (Event × Reply)). l ++ own t (reverse left)) none ∙ (ap (λ (l : List Entry). own t (reverse l)) is ∙ ap (λ (l : List Entry). own t l) (reverse-reverse xs))

pub one_taken : (t : ℕ) (front more : List (Event × Reply)) (e : Entry) (xs left popped now : List Entry) → left ≡ popped ++ e ∷ [] → now ≡ popped → more ≡ front ++ own t (e ∷ [])
    → front ++ own t (reverse left) ≡ own t xs → more ++ own t (reverse now) ≡ own t xs
one_taken t front more e xs left popped now is same got before =
    let back : reverse left ≡ e ∷ reverse popped = ap (λ (l : List Entry). reverse l) is ∙ reverse-append popped (e ∷ []) in
    let cut : own t (reverse left) ≡ own t (e ∷ []) ++ own t (reverse popped) = ap (λ (l : List Entry). own t l) back ∙ own_cons t e (reverse popped) in
    ap (λ (l : List (Event × Reply)). l ++ own t (reverse now)) got
    ∙ (append_assoc front (own t (e ∷ [])) (own t (reverse now))
    ∙ (ap (λ (l : List Entry). front ++ (own t (e ∷ []) ++ own t (reverse l))) same
    ∙ (ap (λ (l : List (Event × Reply)). front ++ l) (sym cut) ∙ before)))

pub all_taken : (t : ℕ) (front : List (Event × Reply)) (xs left : List Entry) → left ≡ [] → front ++ own t (reverse left) ≡ own t xs → front ≡ own t xs
all_taken t front xs left none before =
    sym (append-nil front) ∙ (ap (λ (l : List Entry). front ++ own t (reverse l)) (sym none) ∙ before)

-- a list for each of the first threads, and the entries of the others
pub record IsSplit (lists : List (List Pair)) (t : ℕ) (left history : List Entry) : Type 0 where
  pub many : length lists ≡ t
  pub mine : (u : ℕ) → u < t → list_of lists u ≡ own u history
  pub others : (u : ℕ) → t ≤ u → own u left ≡ own u history

pub split_none : (lists : List (List Pair)) (left history : List Entry) → lists ≡ [] → left ≡ history → IsSplit lists 0 left history
split_none lists left history none is = record {
  many = ap (λ (l : List (List Pair)). length l) none;
  mine = λ u less. absurd (omega (arith, less));
  others = λ u low. ap (λ (l : List Entry). own u l) is;
}

list_before : (lists : List (List Pair)) (mine : List Pair) (u : ℕ) → u < length lists → list_of (lists ++ mine ∷ []) u ≡ list_of lists u
list_before lists mine u less = ap (λ (l : List Pair). pairs_of l) (get_or_append_left lists (mine ∷ []) [] u less)

list_last : (lists : List (List Pair)) (mine : List Pair) → list_of (lists ++ mine ∷ []) (length lists) ≡ pairs_of mine
list_last [] mine = refl
list_last (x ∷ lists) mine = list_last lists mine

pub split_more : (lists more : List (List Pair)) (t : ℕ) (left rest history : List Entry) (mine : List Pair) → IsSplit lists t left history → more ≡ lists ++ mine ∷ [] → pairs_of mine ≡ own t left
    → ((u : ℕ) → (u ≡ t → ⊥) → own u rest ≡ own u left) → IsSplit more (t + 1) rest history
split_more lists more t left rest history mine before is got others = record {
  many = omega (arith, ap (λ (l : List (List Pair)). length l) is, length-append lists (mine ∷ []), before.many);
  mine = λ u less. ap (λ (l : List (List Pair)). list_of l u) is ∙ elim (cases_lt u t) [
    | inl low ↦ list_before lists mine u (omega (arith, low, before.many)) ∙ before.mine u low
    | inr high ↦
        let same : t ≡ u = omega (arith, less, high) in
        let at : length lists ≡ u = before.many ∙ same in
        subst (λ k. list_of (lists ++ mine ∷ []) k ≡ own u history) at (list_last lists mine ∙ (got ∙ (ap (λ k. own k left) same ∙ before.others u (omega (arith, high)))))
  ];
  others = λ u low. others u (λ same. omega (arith, low, same)) ∙ before.others u (omega (arith, low));
}

pub split_all : (lists : List (List Pair)) (t threads : ℕ) (left history : List Entry) → t ≡ threads → IsSplit lists t left history → AreOwn lists threads history
split_all lists t threads left history is split = subst (λ n. AreOwn lists n history) is (record { many = split.many; own = split.mine })

-- threads and the entries that they are of

module _ {E : Type 0} (thread : E → ℕ) where
  turns_in : (t : ℕ) (es : List E) → turns (λ u. u) t (map thread es) ≡ turns thread t es
  turns_in t [] = refl
  turns_in t (x ∷ xs) =
      sum_by-cons (λ u. cond (u == t) 1 0) (thread x) (map thread xs)
      ∙ (ap (λ n. cond (thread x == t) 1 0 + n) (turns_in t xs) ∙ sym (sum_by-cons (λ (e : E). cond (thread e == t) 1 0) x xs))

  take_in : (n : ℕ) (es : List E) → take n (map thread es) ≡ map thread (take n es)
  take_in zero es = refl
  take_in (suc n) [] = refl
  take_in (suc n) (x ∷ xs) = ap (λ (l : List ℕ). thread x ∷ l) (take_in n xs)

  there_in : (p : ℕ) (es : List E) (x : E) → slice_get es p ≡ Some x → slice_get (map thread es) p ≡ Some (thread x)
  there_in p [] x there = absurd (cc there)
  there_in zero (y ∷ ys) x there = let same : y ≡ x = cc there in ap (λ (e : E). Some (thread e)) same
  there_in (suc p) (y ∷ ys) x there = there_in p ys x there

  -- by the threads alone
  threads_turn : (es : List E) (t at place : ℕ) → IsTurnOf thread es t at place → IsTurnOf (λ u. u) (map thread es) t at place
  threads_turn es t at place is = record {
    entry = thread is.entry;
    there = there_in place es is.entry is.there;
    its = is.its;
    before = ap (turns (λ u. u) t) (take_in place es) ∙ (turns_in t (take place es) ∙ is.before);
  }

turns_made : (t : ℕ) (h : List Entry) → turns (λ u. u) t (threads_of h) ≡ made t h
turns_made t h = turns_in (λ (e : Entry). e.thread) t h

take_threads : (n : ℕ) (h : List Entry) → take n (threads_of h) ≡ threads_of (take n h)
take_threads n h = take_in (λ (e : Entry). e.thread) n h

pub entry_there : (t p : ℕ) (h : List Entry) → slice_get (threads_of h) p ≡ Some t → (e : Entry) × (slice_get h p ≡ Some e) × (e.thread ≡ t)
entry_there t p [] there = absurd (cc there)
entry_there t zero (x ∷ xs) there = (x, refl, cc there)
entry_there t (suc p) (x ∷ xs) there = entry_there t p xs there

place_by : (h : List Entry) (threads : List ℕ) (t at place : ℕ) → threads ≡ threads_of h → IsTurnOf (λ u. u) threads t at place → IsPlaceOf h t at place
place_by h threads t at place same is =
    let e = entry_there t place h (ap (λ (l : List ℕ). slice_get l place) (sym same) ∙ (is.there ∙ ap (λ (u : ℕ). Some u) is.its)) in
    record {
      entry = e.0;
      there = e.1;
      its = e.2;
      before = sym (turns_made t (take place h)) ∙ (ap (turns (λ u. u) t) (sym (take_threads place h)) ∙ (ap (λ (l : List ℕ). turns (λ u. u) t (take place l)) (sym same) ∙ is.before));
    }

-- what stands at a place of a list that tells the threads of a history
pub place_told : {E : Type 0} (thread : E → ℕ) (es : List E) (h : List Entry) (t at place : ℕ) → Tells thread es h → IsTurnOf thread es t at place → IsPlaceOf h t at place
place_told thread es h t at place tells is = place_by h (map thread es) t at place tells (threads_turn thread es t at place is)

pub turns_told : {E : Type 0} (thread : E → ℕ) (es : List E) (h : List Entry) (t at : ℕ) → Tells thread es h → turns thread t es ≤ at → made t h ≤ at
turns_told thread es h t at tells few =
    subst (λ n. n ≤ at) (sym (turns_in thread t es) ∙ (ap (turns (λ u. u) t) tells ∙ turns_made t h)) few

pub many_told : {E : Type 0} (thread : E → ℕ) (es : List E) (h : List Entry) → Tells thread es h → length es ≡ length h
many_told thread es h tells = sym (length-map es thread) ∙ (ap (λ (l : List ℕ). length l) tells ∙ length-map h (λ (e : Entry). e.thread))

pub many_threads : (h : List Entry) (threads : List ℕ) → threads ≡ threads_of h → length threads ≡ length h
many_threads h threads same = ap (λ (l : List ℕ). length l) same ∙ length-map h (λ (e : Entry). e.thread)

-- a list of threads tells itself
pub tells_itself : (threads : List ℕ) (h : List Entry) → threads ≡ threads_of h → Tells (λ u. u) threads h
tells_itself threads h same = itself threads ∙ same
  where
    itself : (ts : List ℕ) → map (λ u. u) ts ≡ ts
    itself [] = refl
    itself (t ∷ ts) = ap (λ (l : List ℕ). t ∷ l) (itself ts)
