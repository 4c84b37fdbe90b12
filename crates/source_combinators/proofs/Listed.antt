-- Items with separators between, and one behind the last item or none.
use Rattle.std.proofs.Common.{◌≡◌, ℕ, zero, suc, ◌<◌, Bool, true, false, ◌&&◌, List, [], ◌∷◌, ◌++◌, length, Option, Some, None, Result, Ok, Err, refl, sym, ap, subst, ◌∙◌, append_assoc, append-nil, arith, length-append}
use Rattle.source_combinators.specs.Reading.{Read, ◌>>=◌, given, refused, head_of}
use Rattle.source_combinators.specs.Many.{rounds}
use Rattle.source_combinators.specs.Separated.{listed_item, begins_listed, listed, IsListed, single, sep_last, several}
use Rattle.source_combinators.proofs.Right.{Right, Found, Goes_on, sequence}
use Rattle.source_combinators.proofs.Many.{IsRounds, Shrinks, shrinks, stopped, round_read, right_many}
use Rattle.source_combinators.proofs.Forms.{Grows, AllRight, right_then}
use Rattle.source_combinators.proofs.Agrees.{AllAgree, agree, same, agree_many, Agrees}

-- a separator, or nothing
pub data IsOptional {T : Type 0} (sep : T) : ℕ → List T → Bool → Type 0 where
  there : {room : ℕ} → IsOptional sep room (sep ∷ []) true
  left_out : {room : ℕ} → IsOptional sep room [] false

module _ {T A : Type 0} (sep : T) (Is : ℕ → List T → A → Type 0) where
  -- an item with the separator behind it, or without one
  pub data IsOne : List A × Bool → ℕ → List T → List A × Bool → Type 0 where
    an_item : {room : ℕ} {xs us : List T} {a : A} {b : Bool} {found : List A} → Is room xs a → IsOptional sep room us b → IsOne (found, true) room (xs ++ us) (found ++ a ∷ [], b)

  -- all that follow those that are found, where a separator came last
  pub data IsAfter : List A → Bool → ℕ → List T → List A → Bool → Type 0 where
    nothing_after : {room : ℕ} {found : List A} {b : Bool} → IsAfter found b room [] found b
    after : {room : ℕ} {found as_found : List A} {ts : List T} {b : Bool} → IsListed sep Is room ts (as_found, b) → IsAfter found true room ts (found ++ as_found) b

  abbrev pub IsRestOf : List A × Bool → ℕ → List T → List A × Bool → Type 0
  IsRestOf s room ts t = IsAfter s.0 s.1 room ts t.0 t.1

  -- one more in front
  in_front : {room : ℕ} {xs us ys : List T} {a : A} {b o : Bool} {found all : List A} → Is room xs a → IsOptional sep room us b → IsAfter (found ++ a ∷ []) b room ys all o → IsAfter found true room ((xs ++ us) ++ ys) all o
  in_front {room = room} {xs = xs} {a = a} {found = found} h there nothing_after =
      subst (λ (l : List T). IsAfter found true room l (found ++ a ∷ []) true) (sym (append-nil (xs ++ sep ∷ []))) (after (sep_last h))
  in_front {room = room} {xs = xs} {a = a} {o = o} {found = found} h there (after {as_found = as_found} {ts = ts} k) =
      subst (λ (l : List T). IsAfter found true room l ((found ++ a ∷ []) ++ as_found) o) (sym (append_assoc xs (sep ∷ []) ts))
      (subst (λ (l : List A). IsAfter found true room (xs ++ sep ∷ ts) l o) (sym (append_assoc found (a ∷ []) as_found)) (after (several h k)))
  in_front {room = room} {xs = xs} {a = a} {found = found} h left_out nothing_after =
      subst (λ (l : List T). IsAfter found true room l (found ++ a ∷ []) false) (sym (append-nil (xs ++ []) ∙ append-nil xs)) (after (single h))

  grows_optional : (n : ℕ) (ts : List T) (b : Bool) → IsOptional sep n ts b → IsOptional sep (suc n) ts b
  grows_optional n ts b there = there
  grows_optional n ts b left_out = left_out

  right_one : (x : List T → Read T A) (separator : List T → Read T Bool) (room : ℕ) → Grows Is → AllRight x Is room → AllRight separator (IsOptional sep) room → (found : List A) → AllRight (listed_item x separator (found, true)) (IsOne (found, true)) room
  unfolding listed_item
  right_one x separator room g h q found ts =
      sequence {p = []} {F = x} {IsA = Is} {G = λ a. separator} {IsB = λ a. IsOptional sep} {f = λ a b. (found ++ a ∷ [], b)} {H = listed_item x separator (found, true)} {IsC = IsOne (found, true)} (record {
        computes = λ us. refl;
        builds = λ n xs ys a b k o. an_item k o;
        grows = g;
        finishes = λ n a. record { more = []; value = false; spelled = left_out };
      }) room ts (h ts) (λ a rest k. q rest)

  right_any : (x : List T → Read T A) (separator : List T → Read T Bool) (starts : Option T → Bool) (room : ℕ) → Grows Is → AllRight x Is room → AllRight separator (IsOptional sep) room → (found : List A) (b : Bool) (ts : List T) → begins_listed starts (found, b) (head_of ts) ≡ true → Right (listed_item x separator (found, b)) (IsOne (found, b)) room ts (listed_item x separator (found, b) ts)
  right_any x separator starts room g h q found true ts e = right_one x separator room g h q found ts
  right_any x separator starts room g h q found false ts e = absurd cc

  takes_one : ((n : ℕ) (ts : List T) (a : A) → Is n ts a → 0 < length ts) → (n : ℕ) (s t : List A × Bool) (ts : List T) → IsOne s n ts t → 0 < length ts
  takes_one takes n s t ts (an_item {xs = xs} {us = us} {a = a} h o) = omega (arith, length-append xs us, takes n xs a h)

  grows_one : Grows Is → (n : ℕ) (s t : List A × Bool) (ts : List T) → IsOne s n ts t → IsOne s (suc n) ts t
  grows_one g n s t ts (an_item {xs = xs} {a = a} h o) = an_item (g n xs a h) (grows_optional n _ _ o)

  more_after : (n : ℕ) (s t u : List A × Bool) (xs ys : List T) → IsOne s n xs t → IsRestOf t n ys u → IsRestOf s n (xs ++ ys) u
  more_after n s t u xs ys (an_item h o) k = in_front h o k

  pub listed_rounds : (x : List T → Read T A) (separator : List T → Read T Bool) (starts : Option T → Bool) (room : ℕ) → Grows Is → ((n : ℕ) (ts : List T) (a : A) → Is n ts a → 0 < length ts) → AllRight x Is room → AllRight separator (IsOptional sep) room → IsRounds (begins_listed starts) (listed_item x separator) IsOne IsRestOf room
  listed_rounds x separator starts room g takes h q = record {
    right = λ s ts e. right_any x separator starts room g h q s.0 s.1 ts e;
    takes = takes_one takes room;
    grows = grows_one g;
    none = λ n s. nothing_after;
    more = more_after;
  }

  whole_by : {room : ℕ} {xs us ys : List T} {a : A} {b o : Bool} {all : List A} → Is room xs a → IsOptional sep room us b → IsAfter (a ∷ []) b room ys all o → IsListed sep Is room ((xs ++ us) ++ ys) (all, o)
  whole_by {room = room} {xs = xs} {a = a} h there nothing_after = subst (λ (l : List T). IsListed sep Is room l (a ∷ [], true)) (sym (append-nil (xs ++ sep ∷ []))) (sep_last h)
  whole_by {room = room} {xs = xs} {a = a} {o = o} h there (after {as_found = as_found} {ts = ts} k) = subst (λ (l : List T). IsListed sep Is room l (a ∷ as_found, o)) (sym (append_assoc xs (sep ∷ []) ts)) (several h k)
  whole_by {room = room} {xs = xs} {a = a} h left_out nothing_after = subst (λ (l : List T). IsListed sep Is room l (a ∷ [], false)) (sym (append-nil (xs ++ []) ∙ append-nil xs)) (single h)

  -- from nothing found yet
  pub data IsFirst : ℕ → List T → List A × Bool → Type 0 where
    a_first : {room : ℕ} {xs us : List T} {a : A} {b : Bool} → Is room xs a → IsOptional sep room us b → IsFirst room (xs ++ us) (a ∷ [], b)

  as_first : (n : ℕ) (xs : List T) (s : List A × Bool) → IsOne ([], true) n xs s → IsFirst n xs s
  as_first n xs s (an_item {found = []} h o) = a_first h o

  whole_list : (n : ℕ) (xs ys : List T) (s t : List A × Bool) → IsFirst n xs s → IsRestOf s n ys t → IsListed sep Is n (xs ++ ys) t
  whole_list n xs ys s t (a_first h o) k = whole_by h o k

  grows_first : Grows Is → Grows IsFirst
  grows_first g n ts s (a_first {xs = xs} {a = a} h o) = a_first (g n xs a h) (grows_optional n _ _ o)

  right_first : (x : List T → Read T A) (separator : List T → Read T Bool) (room : ℕ) → Grows Is → AllRight x Is room → AllRight separator (IsOptional sep) room → AllRight (listed_item x separator ([], true)) IsFirst room
  unfolding listed_item
  right_first x separator room g h q ts =
      sequence {p = []} {F = x} {IsA = Is} {G = λ a. separator} {IsB = λ a. IsOptional sep} {f = λ a b. (a ∷ [], b)} {H = listed_item x separator ([], true)} {IsC = IsFirst} (record {
        computes = λ us. refl;
        builds = λ n xs ys a b k o. a_first k o;
        grows = g;
        finishes = λ n a. record { more = []; value = false; spelled = left_out };
      }) room ts (h ts) (λ a rest k. q rest)

  pub right_listed : (x : List T → Read T A) (separator : List T → Read T Bool) (starts : Option T → Bool) (room : ℕ) → Grows Is → ((n : ℕ) (ts : List T) (a : A) → Is n ts a → 0 < length ts) → AllRight x Is room → AllRight separator (IsOptional sep) room → AllRight (listed starts x separator) (IsListed sep Is) room
  unfolding listed
  right_listed x separator starts room g takes h q =
      right_then (listed_item x separator ([], true)) IsFirst (λ s. rounds (begins_listed starts) (listed_item x separator) s) IsRestOf (listed starts x separator) (IsListed sep Is) (λ us. refl) whole_list (grows_first g) (λ n s. record { more = []; value = s; spelled = nothing_after }) room (right_first x separator room g h q)
      (λ s ts. right_many (listed_rounds x separator starts room g takes h q) s ts)

  -- What is spelled is read: `Stops` is what may follow an item, and `Ends` what may follow the list.
  module _ (x : List T → Read T A) (separator : List T → Read T Bool) (starts : Option T → Bool) (room : ℕ) (Stops : List T → Type 0) (shrinks_item : Shrinks (begins_listed starts) (listed_item x separator)) (there_read : (ts : List T) → separator (sep ∷ ts) ≡ given true ts) (sep_stops : (ts : List T) → Stops (sep ∷ ts)) (begins : (ts : List T) (a : A) (rest : List T) → Is room ts a → starts (head_of (ts ++ rest)) ≡ true) (reads : (ts : List T) (a : A) (rest : List T) → Is room ts a → Stops rest → x (ts ++ rest) ≡ given a rest) where
    loop : List A × Bool → List T → Read T (List A × Bool)
    loop s ts = rounds (begins_listed starts) (listed_item x separator) s ts

    item_read : (s : List A × Bool) (ts us rest : List T) (a : A) (b : Bool) → x ts ≡ given a us → separator us ≡ given b rest → listed_item x separator s ts ≡ given (s.0 ++ a ∷ [], b) rest
    unfolding listed_item
    item_read s ts us rest a b h k = rw (h, k) refl

    loop_read : (found : List A) (ts us rest : List T) (a : A) (b : Bool) → starts (head_of ts) ≡ true → x ts ≡ given a us → separator us ≡ given b rest → loop (found, true) ts ≡ loop (found ++ a ∷ [], b) rest
    unfolding loop
    loop_read found ts us rest a b e h k = round_read (begins_listed starts) (listed_item x separator) shrinks_item (found, true) (found ++ a ∷ [], b) ts rest e (item_read (found, true) ts us rest a b h k)

    closed : (found : List A) (b : Bool) (rest : List T) → starts (head_of rest) ≡ false → loop (found, b) rest ≡ given (found, b) rest
    unfolding loop
    closed found true rest e = stopped (begins_listed starts) (listed_item x separator) (length rest) (found, true) rest e
    closed found false rest e = stopped (begins_listed starts) (listed_item x separator) (length rest) (found, false) rest refl

    after_read : {ts : List T} {s : List A × Bool} → IsListed sep Is room ts s → (found : List A) (rest : List T) → Stops rest → starts (head_of rest) ≡ false → separator rest ≡ given false rest → loop (found, true) (ts ++ rest) ≡ given (found ++ s.0, s.1) rest
    after_read (single {ts = ts} {a = a} h) found rest s e n = loop_read found (ts ++ rest) rest rest a false (begins ts a rest h) (reads ts a rest h s) n ∙ closed (found ++ a ∷ []) false rest e
    after_read (sep_last {ts = ts} {a = a} h) found rest s e n =
        ap (loop (found, true)) (append_assoc ts (sep ∷ []) rest) ∙ loop_read found (ts ++ sep ∷ rest) (sep ∷ rest) rest a true (begins ts a (sep ∷ rest) h) (reads ts a (sep ∷ rest) h (sep_stops rest)) (there_read rest) ∙ closed (found ++ a ∷ []) true rest e
    after_read (several {xs = xs} {ys = ys} {a = a} {found = more} {b = b} h k) found rest s e n =
        ap (loop (found, true)) (append_assoc xs (sep ∷ ys) rest)
        ∙ loop_read found (xs ++ sep ∷ (ys ++ rest)) (sep ∷ (ys ++ rest)) (ys ++ rest) a true (begins xs a (sep ∷ (ys ++ rest)) h) (reads xs a (sep ∷ (ys ++ rest)) h (sep_stops (ys ++ rest))) (there_read (ys ++ rest))
        ∙ after_read k (found ++ a ∷ []) rest s e n
        ∙ ap (λ (l : List A). given (l, b) rest) (append_assoc found (a ∷ []) more)

    pub complete_listed : {ts : List T} {s : List A × Bool} → IsListed sep Is room ts s → (rest : List T) → Stops rest → starts (head_of rest) ≡ false → separator rest ≡ given false rest → listed starts x separator (ts ++ rest) ≡ given s rest
    unfolding listed loop
    complete_listed (single {ts = ts} {a = a} h) rest s e n = rw (item_read ([], true) (ts ++ rest) rest rest a false (reads ts a rest h s) n) (closed (a ∷ []) false rest e)
    complete_listed (sep_last {ts = ts} {a = a} h) rest s e n =
        ap (listed starts x separator) (append_assoc ts (sep ∷ []) rest) ∙ rw (item_read ([], true) (ts ++ sep ∷ rest) (sep ∷ rest) rest a true (reads ts a (sep ∷ rest) h (sep_stops rest)) (there_read rest)) (closed (a ∷ []) true rest e)
    complete_listed (several {xs = xs} {ys = ys} {a = a} {found = more} {b = b} h k) rest s e n =
        ap (listed starts x separator) (append_assoc xs (sep ∷ ys) rest)
        ∙ rw (item_read ([], true) (xs ++ sep ∷ (ys ++ rest)) (sep ∷ (ys ++ rest)) (ys ++ rest) a true (reads xs a (sep ∷ (ys ++ rest)) h (sep_stops (ys ++ rest))) (there_read (ys ++ rest))) (after_read k (a ∷ []) rest s e n)

agree_one : {T A : Type 0} (x y : List T → Read T A) (separator : List T → Read T Bool) → AllAgree x y → (s : List A × Bool) → AllAgree (listed_item x separator s) (listed_item y separator s)
unfolding listed_item
agree_one x y separator h s ts = agree (x ts) (y ts) _ _ (h ts) (λ a. same (separator a.1 >>= λ c. given _ c.1))

pub agree_listed : {T A : Type 0} (starts : Option T → Bool) (x y : List T → Read T A) (separator : List T → Read T Bool) → AllAgree x y → AllAgree (listed starts x separator) (listed starts y separator)
unfolding listed
agree_listed starts x y separator h ts = agree (listed_item x separator ([], true) ts) (listed_item y separator ([], true) ts) _ _ (agree_one x y separator h ([], true) ts) (λ s. agree_many (begins_listed starts) (listed_item x separator) (listed_item y separator) (agree_one x y separator h) (suc (length s.1)) s.0 s.1)
