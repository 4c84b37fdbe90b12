-- What one thread sees of a history that gains entries.
use Rattle.std.proofs.Common.{◌≡◌, ◌≢◌, ℕ, eqb, eq-eqb, ne_eqb, Bool, true, false, cond, List, [], ◌∷◌, ◌++◌, map, refl, ap, sym, ◌∙◌}
use Rattle.std.specs.Prelude.{filter, ◌==◌}
use Rattle.machine_events.specs.declared.event.Event.{Event}
use Rattle.machine_events.specs.declared.event.Reply.{Reply}
use Rattle.machine_events.specs.declared.event.Entry.{Entry}
use Rattle.machine_shown.specs.Own.{own}

abbrev paired : Entry → Event × Reply
paired e = (e.event, e.reply)

abbrev is_of : ℕ → Entry → Bool
is_of t e = e.thread == t

abbrev own_if : Bool → Entry → List (Event × Reply) → List (Event × Reply)
own_if true e xs = paired e ∷ xs
own_if false e xs = xs

own_cut : (t : ℕ) (e : Entry) (es : List Entry) → own t (e ∷ es) ≡ own_if (eqb e.thread t) e (own t es)
own_cut t e es =
    elim (eqb e.thread t) as (λ (c : Bool). map {B = Event × Reply} (λ (e : Entry). paired e) (cond c (e ∷ filter (λ (e : Entry). is_of t e) es) (filter (λ (e : Entry). is_of t e) es)) ≡ own_if c e (own t es)) [
      | true ↦ refl
      | false ↦ refl
    ]

own_if-append : (b : Bool) (e : Entry) (xs ys : List (Event × Reply)) → own_if b e (xs ++ ys) ≡ own_if b e xs ++ ys
own_if-append true e xs ys = refl
own_if-append false e xs ys = refl

pub own_append : (t : ℕ) (xs ys : List Entry) → own t (xs ++ ys) ≡ own t xs ++ own t ys
own_append t [] ys = refl
own_append t (x ∷ xs) ys =
    own_cut t x (xs ++ ys)
    ∙ (ap (own_if (eqb x.thread t) x) (own_append t xs ys)
    ∙ (own_if-append (eqb x.thread t) x (own t xs) (own t ys) ∙ ap (λ w. w ++ own t ys) (sym (own_cut t x xs))))

pub own_none : (t : ℕ) (e : Entry) → e.thread ≢ t → own t (e ∷ []) ≡ []
own_none t e apart = own_cut t e [] ∙ ap (λ b. own_if b e []) (ne_eqb e.thread t apart)

pub own_has : (t : ℕ) (e : Entry) (es : List Entry) → e.thread ≡ t → own t (e ∷ es) ≡ (e.event, e.reply) ∷ own t es
own_has t e es is = own_cut t e es ∙ ap (λ b. own_if b e (own t es)) (eq-eqb e.thread t is)

-- two histories that begin with the same entry
pub own_tail : (t : ℕ) (e : Entry) (xs ys : List Entry) → own t (e ∷ xs) ≡ own t (e ∷ ys) → own t xs ≡ own t ys
own_tail t e xs ys same = cut (eqb e.thread t) (sym (own_cut t e xs) ∙ (same ∙ own_cut t e ys))
  where
    cut : (b : Bool) → own_if b e (own t xs) ≡ own_if b e (own t ys) → own t xs ≡ own t ys
    cut true same = cc (same)
    cut false same = same
