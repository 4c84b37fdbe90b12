-- The scripts, their loads and the rounds, one more at the end.
use Rattle.std.proofs.Common.{◌≡◌, ℕ, ◌+◌, List, [], ◌∷◌, ◌++◌, length, refl, sym, ap, ◌∙◌, arith, append_assoc}
use Rattle.std.specs.Prelude.{replicate}
use Rattle.machine_spec.specs.Opening.{script_object, script_objects, script_load, script_loads, round_starts}

pub more_objects : (i : ℕ) (xs : List (List ℕ)) (x : List ℕ) → script_objects i (xs ++ x ∷ []) ≡ script_objects i xs ++ script_object (i + length xs) x ∷ []
more_objects i [] x = let e : i + 0 ≡ i = omega arith in ap (λ j. script_object j x ∷ []) (sym e)
more_objects i (y ∷ ys) x =
    let e : i + 1 + length ys ≡ i + length (y ∷ ys) = omega arith in
    ap (λ r. script_object i y ∷ r) (more_objects (i + 1) ys x) ∙ ap (λ j. script_object i y ∷ (script_objects (i + 1) ys ++ script_object j x ∷ [])) e

pub next_object : (n : ℕ) (xs : List (List ℕ)) (x : List ℕ) → n ≡ length xs → script_objects 0 (xs ++ x ∷ []) ≡ script_objects 0 xs ++ script_object n x ∷ []
next_object n xs x is =
    let e : 0 + length xs ≡ n = omega (arith, is) in
    more_objects 0 xs x ∙ ap (λ j. script_objects 0 xs ++ script_object j x ∷ []) e

pub more_loads : (i : ℕ) (xs : List (List ℕ)) (x : List ℕ) → script_loads i (xs ++ x ∷ []) ≡ script_loads i xs ++ script_load (i + length xs) x ∷ []
more_loads i [] x = let e : i + 0 ≡ i = omega arith in ap (λ j. script_load j x ∷ []) (sym e)
more_loads i (y ∷ ys) x =
    let e : i + 1 + length ys ≡ i + length (y ∷ ys) = omega arith in
    ap (λ r. script_load i y ∷ r) (more_loads (i + 1) ys x) ∙ ap (λ j. script_load i y ∷ (script_loads (i + 1) ys ++ script_load j x ∷ [])) e

pub next_load : (n : ℕ) (xs : List (List ℕ)) (x : List ℕ) → n ≡ length xs → script_loads 0 (xs ++ x ∷ []) ≡ script_loads 0 xs ++ script_load n x ∷ []
next_load n xs x is =
    let e : 0 + length xs ≡ n = omega (arith, is) in
    more_loads 0 xs x ∙ ap (λ j. script_loads 0 xs ++ script_load j x ∷ []) e

-- the number of the thread after these rounds
abbrev pub thread_after : ℕ → List ℕ → ℕ
thread_after first [] = first
thread_after first (size ∷ sizes) = thread_after (first + size) sizes

pub next_first : (first : ℕ) (xs : List ℕ) (x : ℕ) → thread_after first (xs ++ x ∷ []) ≡ thread_after first xs + x
next_first first [] x = refl
next_first first (y ∷ ys) x = next_first (first + y) ys x

pub next_round : (first : ℕ) (xs : List ℕ) (x : ℕ) → round_starts first (xs ++ x ∷ []) ≡ round_starts first xs ++ replicate x (thread_after first xs)
next_round first [] x = append-nil-of (replicate x first)
  where
    append-nil-of : (ys : List ℕ) → ys ++ [] ≡ ys
    append-nil-of [] = refl
    append-nil-of (y ∷ ys) = ap (λ r. y ∷ r) (append-nil-of ys)
next_round first (y ∷ ys) x =
    ap (λ r. replicate y first ++ r) (next_round (first + y) ys x) ∙ sym (append_assoc (replicate y first) (round_starts (first + y) ys) (replicate x (thread_after (first + y) ys)))
