-- Items with separators between are read rightly, where the items are, and all that are spelled are read.
use Rattle.std.proofs.Common.{◌≡◌, ℕ, zero, suc, ◌<◌, Bool, true, false, List, [], ◌∷◌, ◌++◌, length, Option, Some, None, Result, Ok, Err, refl, sym, ap, subst, ◌∙◌, append_assoc, append-nil, arith}
use Rattle.source_combinators.specs.Reading.{Read, ◌>>=◌, given, refused, head_of}
use Rattle.source_combinators.specs.Many.{rounds}
use Rattle.source_combinators.specs.Separated.{next_item, separated, IsSeparated, one, more}
use Rattle.source_combinators.proofs.Right.{Right, Found, Goes_on}
use Rattle.source_combinators.proofs.Many.{IsRounds, Shrinks, shrinks, stopped, round_read, right_many}
use Rattle.source_combinators.proofs.Forms.{Grows, AllRight, prefixed, right_then}
use Rattle.source_combinators.proofs.Agrees.{AllAgree, agree, agree_many, Agrees}

module _ {T A : Type 0} (sep : T) (Is : ℕ → List T → A → Type 0) where
  -- a separator and an item
  pub data IsNext : List A → ℕ → List T → List A → Type 0 where
    next : {room : ℕ} {ts : List T} {a : A} {found : List A} → Is room ts a → IsNext found room (sep ∷ ts) (found ++ a ∷ [])

  -- all that follow
  pub data IsOthers : List A → ℕ → List T → List A → Type 0 where
    no_others : {room : ℕ} {found : List A} → IsOthers found room [] found
    others : {room : ℕ} {ts : List T} {found as_found : List A} → IsSeparated sep Is room ts as_found → IsOthers found room (sep ∷ ts) (found ++ as_found)

  all_next : (n : ℕ) (s t u : List A) (xs ys : List T) → IsNext s n xs t → IsOthers t n ys u → IsOthers s n (xs ++ ys) u
  all_next n s t u xs ys (next {ts = ts} {a = a} h) no_others = subst (λ (l : List T). IsOthers s n l (s ++ a ∷ [])) (sym (append-nil (sep ∷ ts))) (others (one h))
  all_next n s t u xs ys (next {ts = ts} {a = a} h) (others {ts = us} {as_found = found} k) = subst (λ (l : List A). IsOthers s n (sep ∷ (ts ++ sep ∷ us)) l) (sym (append_assoc s (a ∷ []) found)) (others (more h k))

  takes_next : (n : ℕ) (s t : List A) (ts : List T) → IsNext s n ts t → 0 < length ts
  takes_next n s t ts (next {ts = us} h) = omega arith

  grows_next : Grows Is → (n : ℕ) (s t : List A) (ts : List T) → IsNext s n ts t → IsNext s (suc n) ts t
  grows_next g n s t ts (next {ts = us} {a = a} h) = next (g n us a h)

  right_next : (x : List T → Read T A) (ahead : Option T → Bool) (room : ℕ) → ((t : T) → ahead (Some t) ≡ true → t ≡ sep) → ahead None ≡ false → Grows Is → AllRight x Is room → (s : List A) (ts : List T) → ahead (head_of ts) ≡ true → Right (next_item x s) (IsNext s) room ts (next_item x s ts)
  unfolding next_item
  right_next x ahead room is_sep stops g h s [] e = absurd cc
  right_next x ahead room is_sep stops g h s (t ∷ ts) e =
      prefixed (t ∷ []) x Is (λ a. s ++ a ∷ []) (next_item x s) (IsNext s) (λ us. refl) (λ n xs a k. subst (λ (v : T). IsNext s n (v ∷ xs) (s ++ a ∷ [])) (sym (is_sep t e)) (next k)) g room ts (h ts)

  pub separated_rounds : (x : List T → Read T A) (ahead : Option T → Bool) (room : ℕ) → ((t : T) → ahead (Some t) ≡ true → t ≡ sep) → ahead None ≡ false → Grows Is → AllRight x Is room → IsRounds (λ found. ahead) (next_item x) IsNext IsOthers room
  separated_rounds x ahead room is_sep stops g h = record {
    right = right_next x ahead room is_sep stops g h;
    takes = takes_next room;
    grows = grows_next g;
    none = λ n s. no_others;
    more = all_next;
  }

  whole : (n : ℕ) (xs ys : List T) (a : A) (found : List A) → Is n xs a → IsOthers (a ∷ []) n ys found → IsSeparated sep Is n (xs ++ ys) found
  whole n xs ys a found h no_others = subst (λ (l : List T). IsSeparated sep Is n l (a ∷ [])) (sym (append-nil xs)) (one h)
  whole n xs ys a found h (others k) = more h k

  pub right_separated : (x : List T → Read T A) (ahead : Option T → Bool) (room : ℕ) → ((t : T) → ahead (Some t) ≡ true → t ≡ sep) → ahead None ≡ false → Grows Is → AllRight x Is room → AllRight (separated ahead x) (IsSeparated sep Is) room
  unfolding separated
  right_separated x ahead room is_sep stops g h =
      right_then x Is (λ a. rounds (λ found. ahead) (next_item x) (a ∷ [])) (λ a. IsOthers (a ∷ [])) (separated ahead x) (IsSeparated sep Is) (λ us. refl) whole g (λ n a. record { more = []; value = a ∷ []; spelled = no_others }) room h
      (λ a ts. right_many (separated_rounds x ahead room is_sep stops g h) (a ∷ []) ts)

  -- What is spelled is read: `Stops` is what may follow an item.
  module _ (x : List T → Read T A) (ahead : Option T → Bool) (room : ℕ) (Stops : List T → Type 0) (shrinks_next : Shrinks (λ found. ahead) (next_item x)) (begins : ahead (Some sep) ≡ true) (sep_stops : (ts : List T) → Stops (sep ∷ ts)) (reads : (ts : List T) (a : A) (rest : List T) → Is room ts a → Stops rest → x (ts ++ rest) ≡ given a rest) where
    next_read : (found : List A) (a : A) (ts rest : List T) → x ts ≡ given a rest → rounds (λ f. ahead) (next_item x) found (sep ∷ ts) ≡ rounds (λ f. ahead) (next_item x) (found ++ a ∷ []) rest
    unfolding next_item
    next_read found a ts rest h = round_read (λ f. ahead) (next_item x) shrinks_next found (found ++ a ∷ []) (sep ∷ ts) rest begins (rw h refl)

    others_read : {ts : List T} {as_found : List A} → IsSeparated sep Is room ts as_found → (found : List A) (rest : List T) → Stops rest → ahead (head_of rest) ≡ false → rounds (λ f. ahead) (next_item x) found (sep ∷ (ts ++ rest)) ≡ given (found ++ as_found) rest
    others_read (one {ts = ts} {a = a} h) found rest s e = next_read found a (ts ++ rest) rest (reads ts a rest h s) ∙ stopped (λ f. ahead) (next_item x) (length rest) (found ++ a ∷ []) rest e
    others_read (more {xs = xs} {ys = ys} {a = a} {found = as_found} h k) found rest s e =
        ap (λ (l : List T). rounds (λ f. ahead) (next_item x) found (sep ∷ l)) (append_assoc xs (sep ∷ ys) rest)
        ∙ next_read found a (xs ++ sep ∷ (ys ++ rest)) (sep ∷ (ys ++ rest)) (reads xs a (sep ∷ (ys ++ rest)) h (sep_stops (ys ++ rest)))
        ∙ others_read k (found ++ a ∷ []) rest s e
        ∙ ap (λ (f : List A). given f rest) (append_assoc found (a ∷ []) as_found)

    pub complete_separated : {ts : List T} {as_found : List A} → IsSeparated sep Is room ts as_found → (rest : List T) → Stops rest → ahead (head_of rest) ≡ false → separated ahead x (ts ++ rest) ≡ given as_found rest
    unfolding separated
    complete_separated (one {ts = ts} {a = a} h) rest s e = rw (reads ts a rest h s) (stopped (λ f. ahead) (next_item x) (length rest) (a ∷ []) rest e)
    complete_separated (more {xs = xs} {ys = ys} {a = a} {found = as_found} h k) rest s e =
        ap (separated ahead x) (append_assoc xs (sep ∷ ys) rest)
        ∙ rw (reads xs a (sep ∷ (ys ++ rest)) h (sep_stops (ys ++ rest))) (others_read k (a ∷ []) rest s e)

agree_next : {T A : Type 0} (x y : List T → Read T A) → AllAgree x y → (s : List A) → AllAgree (next_item x s) (next_item y s)
unfolding next_item
agree_next x y h s [] = λ k. refl
agree_next x y h s (t ∷ ts) = agree (x ts) (y ts) _ _ (h ts) (λ a. refl)

pub agree_separated : {T A : Type 0} (ahead : Option T → Bool) (x y : List T → Read T A) → AllAgree x y → AllAgree (separated ahead x) (separated ahead y)
unfolding separated
agree_separated ahead x y h ts = agree (x ts) (y ts) _ _ (h ts) (λ a. agree_many (λ found. ahead) (next_item x) (next_item y) (agree_next x y h) (suc (length a.1)) (a.0 ∷ []) a.1)
