-- How many open loads a thread has of each name, after loads or modules were added or changed.
use Rattle.std.proofs.Common.{◌≡◌, ℕ, zero, suc, ◌+◌, ◌<◌, arith, Bool, true, false, cond, ◌&&◌, List, [], ◌∷◌, ◌++◌, Some, refl, sym, ap, subst, ◌∙◌, map, add-zero}
use Rattle.std.specs.Prelude.{◌==◌, slice_get, slice_set, not, sum_by, count_by, nat_eq}
use Rattle.std.specs.Cmp.Lexicographic.{pointwise, nat_list_eq_equiv}
use Rattle.std.proofs.lemmas.Bool.{and_parts, and_from, eqb-true, eq-eqb}
use Rattle.std.proofs.lemmas.List.Sums.{sum_by-cons, sum_by-append}
use Rattle.std.proofs.lemmas.Slice.Eq.{bytes_eq-Decides}
use Rattle.machine_spec.specs.Parts.{is_open, is_main}
use Rattle.machine_laws.specs.Bones.{Bones, Module, Body, is_named, counts_in, opens}

abbrev pub bit : Bool → ℕ
bit c = cond c 1 0

-- a sum of equal terms
pub same_sum : {X : Type 0} (f g : X → ℕ) (xs : List X) → ((i : ℕ) (x : X) → slice_get xs i ≡ Some x → f x ≡ g x) → sum_by f xs ≡ sum_by g xs
same_sum f g [] h = refl
same_sum f g (x ∷ xs) h =
    let here = h zero x refl in
    let rest = same_sum f g xs (λ i y is. h (suc i) y is) in
    sum_by-cons f x xs ∙ ap (λ n. n + sum_by f xs) here ∙ ap (λ n. g x + n) rest ∙ sym (sum_by-cons g x xs)

pub sum_map : {X Y : Type 0} (f : Y → ℕ) (g : X → Y) (xs : List X) → sum_by f (map g xs) ≡ sum_by (λ x. f (g x)) xs
sum_map f g [] = refl
sum_map f g (x ∷ xs) = sum_by-cons f (g x) (map g xs) ∙ ap (λ n. f (g x) + n) (sum_map f g xs) ∙ sym (sum_by-cons (λ x. f (g x)) x xs)

pub set_sum : {X : Type 0} (f : X → ℕ) (xs : List X) (i : ℕ) (x y : X) → slice_get xs i ≡ Some x → sum_by f (slice_set xs i y) + f x ≡ sum_by f xs + f y
set_sum f [] i x y is = cc
set_sum f (z ∷ zs) zero x y is =
    let same : z ≡ x = cc in
    subst (λ w. sum_by f (y ∷ zs) + f w ≡ sum_by f (z ∷ zs) + f y) same (rw (sum_by-cons f y zs, sum_by-cons f z zs) (omega arith))
set_sum f (z ∷ zs) (suc i) x y is = let rest = set_sum f zs i x y is in rw (sum_by-cons f z (slice_set zs i y), sum_by-cons f z zs) (omega arith)

pub push_sum : {X : Type 0} (f : X → ℕ) (xs : List X) (x : X) → sum_by f (xs ++ x ∷ []) ≡ sum_by f xs + f x
push_sum f xs x = let last : sum_by f (x ∷ []) ≡ f x = sum_by-cons f x [] ∙ add-zero (f x) in sum_by-append f xs (x ∷ []) ∙ ap (λ n. sum_by f xs + n) last

module _ (b : Bones) where
  -- a load counts for its own thread and the name of its module alone
  pub counts_own : (u : ℕ) (n : List ℕ) (l : Body) (m : Module) → slice_get b.modules l.mid ≡ Some m → counts_in b u n l ≡ true → (u ≡ l.thread) × (n ≡ m.name)
  counts_own u n l m is h =
      let parts = and_parts (is_open l.stage && (l.thread == u) && not (is_main l.kind)) (is_named (slice_get b.modules l.mid) n) h in
      let front = and_parts (is_open l.stage && (l.thread == u)) (not (is_main l.kind)) parts.0 in
      let thread = and_parts (is_open l.stage) (l.thread == u) front.0 in
      let named : pointwise nat_eq m.name n ≡ true = sym (ap (λ o. is_named o n) is) ∙ parts.1 in
      (sym (eqb-true l.thread u thread.1), sym ((bytes_eq-Decides m.name n).0 named))

  -- and an open one that is no Main does so
  pub counts_there : (l : Body) (m : Module) → slice_get b.modules l.mid ≡ Some m → is_open l.stage ≡ true → is_main l.kind ≡ false → counts_in b l.thread m.name l ≡ true
  counts_there l m is opened kind =
      let named : is_named (slice_get b.modules l.mid) m.name ≡ true = ap (λ o. is_named o m.name) is ∙ nat_list_eq_equiv.refl m.name in
      and_from (is_open l.stage && (l.thread == l.thread) && not (is_main l.kind)) (is_named (slice_get b.modules l.mid) m.name)
      (and_from (is_open l.stage && (l.thread == l.thread)) (not (is_main l.kind)) (and_from (is_open l.stage) (l.thread == l.thread) opened (eq-eqb l.thread l.thread refl)) (ap not kind)) named

  one_for : (u : ℕ) (n : List ℕ) (x : Body) → counts_in b u n x ≡ true → bit (counts_in b u n x) ≡ 1
  one_for u n x h = ap bit h

  -- one that counts is among them
  pub some_open : (u : ℕ) (n : List ℕ) (ls : List Body) (i : ℕ) (l : Body) → slice_get ls i ≡ Some l → counts_in b u n l ≡ true → 0 < count_by (counts_in b u n) ls
  some_open u n [] i l is h = cc
  some_open u n (x ∷ xs) zero l is h =
      let same : x ≡ l = cc in
      rw (sum_by-cons (λ x. bit (counts_in b u n x)) x xs) (let one : bit (counts_in b u n x) ≡ 1 = one_for u n x (ap (counts_in b u n) same ∙ h) in omega arith)
  some_open u n (x ∷ xs) (suc i) l is h =
      let rest = some_open u n xs i l is h in
      rw (sum_by-cons (λ x. bit (counts_in b u n x)) x xs) (omega arith)

  -- modules that keep their names
  pub renamed : (modules : List Module) → ((i : ℕ) (l : Body) → slice_get b.bodies i ≡ Some l → (n : List ℕ) → is_named (slice_get modules l.mid) n ≡ is_named (slice_get b.modules l.mid) n)
      → (u : ℕ) (n : List ℕ) → opens (record b { modules = modules }) u n ≡ opens b u n
  renamed modules h u n =
      same_sum (λ x. bit (counts_in (record b { modules = modules }) u n x)) (λ x. bit (counts_in b u n x)) b.bodies
      (λ i l is. ap (λ c. bit ((is_open l.stage && (l.thread == u) && not (is_main l.kind)) && c)) (h i l is n))

  pub opens_push : (l : Body) (u : ℕ) (n : List ℕ) → opens (record b { bodies = b.bodies ++ l ∷ [] }) u n ≡ opens b u n + bit (counts_in b u n l)
  opens_push l u n = push_sum (λ x. bit (counts_in b u n x)) b.bodies l

  pub opens_set : (i : ℕ) (x y : Body) → slice_get b.bodies i ≡ Some x → (u : ℕ) (n : List ℕ) → opens (record b { bodies = slice_set b.bodies i y }) u n + bit (counts_in b u n x) ≡ opens b u n + bit (counts_in b u n y)
  opens_set i x y is u n = set_sum (λ x. bit (counts_in b u n x)) b.bodies i x y is

-- the name of a module stays where it is changed otherwise
pub changed_name : (ms : List Module) (i : ℕ) (x y : Module) → slice_get ms i ≡ Some x → y.name ≡ x.name → (k : ℕ) (n : List ℕ) → is_named (slice_get (slice_set ms i y) k) n ≡ is_named (slice_get ms k) n
changed_name [] i x y is same k n = refl
changed_name (m ∷ ms) zero x y is same zero n = let here : m ≡ x = cc in ap (λ z. pointwise nat_eq z n) (same ∙ ap (λ (z : Module). z.name) (sym here))
changed_name (m ∷ ms) zero x y is same (suc k) n = refl
changed_name (m ∷ ms) (suc i) x y is same zero n = refl
changed_name (m ∷ ms) (suc i) x y is same (suc k) n = changed_name ms i x y is same k n
