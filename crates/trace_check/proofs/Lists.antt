-- Histories up to a place, and how many entries of a thread stand before it.
use Rattle.std.proofs.Common.{◌≡◌, ◌<◌, ◌≤◌, ℕ, zero, suc, ◌+◌, List, [], ◌∷◌, Bool, true, cond, Some, take, length, refl, sym, ap, subst, ◌∙◌, arith, ◌⊎◌, inl, inr}
use Rattle.std.specs.Prelude.{slice_get, filter, ◌==◌}
use Rattle.std.proofs.lemmas.Bool.{cases_lt, cases_eq, eq-eqb, ne_eqb}
use Rattle.std.proofs.lemmas.List.{take-take, length-map}
use Rattle.std.proofs.lemmas.List.Sums.{count_by_more_yes, sum_by-take-le, sum_by-cons, length-filter}
use Rattle.std.proofs.lemmas.Option.{slice_get_within, get_or_from_slice_get}
use Rattle.machine_events.specs.declared.event.Entry.{Entry}
use Rattle.machine_shown.specs.Own.{own}
use Rattle.trace_check.specs.Judge.{made, IsPlaceOf}

-- what stands before a place stands in the history up to it
pub slice_get_take : (h : List Entry) (n i : ℕ) → i < n → slice_get (take n h) i ≡ slice_get h i
slice_get_take h zero i less = absurd (omega (arith, less))
slice_get_take [] (suc n) i less = refl
slice_get_take (x ∷ xs) (suc n) zero less = refl
slice_get_take (x ∷ xs) (suc n) (suc i) less = slice_get_take xs n i (omega (arith, less))

pub made_grows : (t : ℕ) (h : List Entry) (m n : ℕ) → m ≤ n → made t (take m h) ≤ made t (take n h)
made_grows t h m n less = subst (λ (x : List Entry). made t x ≤ made t (take n h)) (take-take m n h less) (sum_by-take-le (λ (e : Entry). cond (e.thread == t) 1 0) (take n h) m)

pub made_whole : (t : ℕ) (h : List Entry) (n : ℕ) → made t (take n h) ≤ made t h
made_whole t h n = sum_by-take-le (λ (e : Entry). cond (e.thread == t) 1 0) h n

-- an entry of the thread counts one more
pub made_here : (t : ℕ) (h : List Entry) (i : ℕ) (e : Entry) → slice_get h i ≡ Some e → e.thread ≡ t → made t (take (i + 1) h) ≡ made t (take i h) + 1
made_here t h i e there its =
    count_by_more_yes (λ (e : Entry). e.thread == t) h i e (slice_get_within h i e there)
    (subst (λ (x : Entry). (x.thread == t) ≡ true) (sym (get_or_from_slice_get h i e e there)) (eq-eqb e.thread t its))

-- a thread has an entry more than stand before the place of one
pub place_within : (h : List Entry) (t k p : ℕ) → IsPlaceOf h t k p → k + 1 ≤ made t h
place_within h t k p a = omega (arith, made_here t h p a.entry a.there a.its, made_whole t h (p + 1), a.before)

-- the place of an entry of a thread is the only one
pub place_least : (h : List Entry) (t k p q : ℕ) → IsPlaceOf h t k p → IsPlaceOf h t k q → p ≤ q
place_least h t k p q a b = elim (cases_lt q p) [
  | inl less ↦ absurd (omega (arith, made_here t h q b.entry b.there b.its, made_grows t h (q + 1) p (omega (arith, less)), a.before, b.before))
  | inr more ↦ more
]

made_cons : (t : ℕ) (x : Entry) (xs : List Entry) → made t (x ∷ xs) ≡ cond (x.thread == t) 1 0 + made t xs
made_cons t x xs = sum_by-cons (λ (e : Entry). cond (e.thread == t) 1 0) x xs

made_own : (t : ℕ) (x : Entry) (xs : List Entry) → x.thread ≡ t → made t (x ∷ xs) ≡ made t xs + 1
made_own t x xs its = omega (arith, made_cons t x xs, ap {B = ℕ} (λ (b : Bool). cond b 1 0) (eq-eqb x.thread t its))

made_other : (t : ℕ) (x : Entry) (xs : List Entry) → (x.thread ≡ t → ⊥) → made t (x ∷ xs) ≡ made t xs
made_other t x xs apart = omega (arith, made_cons t x xs, ap {B = ℕ} (λ (b : Bool). cond b 1 0) (ne_eqb x.thread t apart))

place_later : (x : Entry) (xs : List Entry) (t j k p : ℕ) → IsPlaceOf xs t j p → made t (x ∷ take p xs) ≡ k → IsPlaceOf (x ∷ xs) t k (suc p)
place_later x xs t j k p a before = record { entry = a.entry; there = a.there; its = a.its; before = before }

place_next : (x : Entry) (xs : List Entry) (t k : ℕ) → ((x.thread ≡ t) ⊎ (x.thread ≡ t → ⊥)) → ((j : ℕ) → j < made t xs → (p : ℕ) × IsPlaceOf xs t j p)
    → k < made t (x ∷ xs) → (p : ℕ) × IsPlaceOf (x ∷ xs) t k p
place_next x xs t zero (inl its) rest less = (zero, record { entry = x; there = refl; its = its; before = refl })
place_next x xs t (suc k) (inl its) rest less =
    let more = rest k (omega (arith, less, made_own t x xs its)) in
    (suc more.0, place_later x xs t k (suc k) more.0 more.1 (omega (arith, made_own t x (take more.0 xs) its, more.1.before)))
place_next x xs t k (inr apart) rest less =
    let more = rest k (omega (arith, less, made_other t x xs apart)) in
    (suc more.0, place_later x xs t k k more.0 more.1 (made_other t x (take more.0 xs) apart ∙ more.1.before))

-- where a thread has more entries, there is the next
pub place_exists : (h : List Entry) (t k : ℕ) → k < made t h → (p : ℕ) × IsPlaceOf h t k p
place_exists [] t k less = absurd (omega (arith, less))
place_exists (x ∷ xs) t k less = place_next x xs t k (cases_eq x.thread t) (λ j more. place_exists xs t j more) less

-- so many entries of a thread are what it sees
pub own_made : (t : ℕ) (h : List Entry) → length (own t h) ≡ made t h
own_made t h = length-map (filter (λ (e : Entry). e.thread == t) h) _ ∙ length-filter (λ (e : Entry). e.thread == t) h
