-- What stands between brackets, and two or three parts of it.
use Rattle.std.proofs.Common.{◌≡◌, ◌∙◌, refl, sym, ap, subst, ℕ, ◌+◌, ◌-◌, ◌<◌, ◌≤◌, List, [], ◌∷◌, ◌++◌, append_assoc, length, length-append, length-drop, get_or, take, drop, Bool, true, false, ltb, eqb, ◌&&◌, Option, Some, None, arith, inl, inr, codes}
use Rattle.std.proofs.lemmas.Bool.{and_parts, and_from, cond-true, ltb-true, lt-ltb, eqb-true, eq-eqb}
use Rattle.std.proofs.lemmas.List.{take_at, drop_at, get_or-append_right, take-append-drop, take_more, take_all, get_or-drop, append-nil}
use Rattle.std.proofs.lemmas.Option.{option_and_then_some}
use Rattle.std.proofs.lemmas.Slice.Eq.{bytes_eq-Decides}
use Rattle.std.specs.Option.{option_map, option_and_then}
use Rattle.std.specs.Str.{bytes_eq}
use Rattle.trace_fields.specs.Splitting.{split, joined}
use Rattle.trace_fields.proofs.Closed.{Closed, split_again, split_is_joined}
use Rattle.trace_fields.specs.Parts.{between, two, three, two_in, three_in}
use Rattle.trace_read.proofs.Held.{chosen, some_is}

pub between_again : (front middle : List ℕ) (last : ℕ) → between front last ((front ++ middle) ++ last ∷ []) ≡ Some middle
unfolding between
between_again front middle last =
    let text = (front ++ middle) ++ last ∷ [] in
    let regrouped : text ≡ front ++ (middle ++ last ∷ []) = append_assoc front middle (last ∷ []) in
    let n = length front in
    let len : length text ≡ length front + length middle + 1 = length-append (front ++ middle) (last ∷ []) ∙ ap (λ k. k + 1) (length-append front middle) in
    let begins : bytes_eq (take n text) front ≡ true = (bytes_eq-Decides (take n text) front).1 (ap (take n) regrouped ∙ take_at front (middle ++ last ∷ []) n refl) in
    let long : ltb n (length text) ≡ true = lt-ltb n (length text) (omega (arith, len)) in
    let front_len : length (front ++ middle) ≡ length text - 1 = omega (arith, len, length-append front middle) in
    let none : length text - 1 - (length text - 1) ≡ 0 = omega arith in
    let at : get_or text (length text - 1) 0 ≡ last = get_or-append_right (front ++ middle) (last ∷ []) (length text - 1) (length text - 1) 0 front_len (omega arith) ∙ ap (λ k. get_or (last ∷ []) k 0) none in
    let ends : eqb (get_or text (length text - 1) 0) last ≡ true = eq-eqb _ _ at in
    let middle_len : length middle ≡ length text - 1 - n = omega (arith, len) in
    let held : take (length text - 1 - n) (drop n text) ≡ middle = ap (take (length text - 1 - n)) (ap (drop n) regrouped ∙ drop_at front (middle ++ last ∷ []) n refl) ∙ take_at middle (last ∷ []) (length text - 1 - n) middle_len in
    cond-true _ _ _ (and_from _ _ begins (and_from _ _ long ends)) ∙ ap Some held

last_off : (text : List ℕ) (last : ℕ) → 0 < length text → get_or text (length text - 1) 0 ≡ last → text ≡ take (length text - 1) text ++ last ∷ []
last_off text last some is =
    let low : length text - 1 < length text = omega arith in
    let all : length text ≤ length text - 1 + 1 = omega arith in
    sym (take_all (length text - 1 + 1) text all) ∙ take_more text (length text - 1) 0 low ∙ ap (λ b. take (length text - 1) text ++ b ∷ []) is

pub between_takes : (front : List ℕ) (last : ℕ) (text middle : List ℕ) → between front last text ≡ Some middle → text ≡ (front ++ middle) ++ last ∷ []
unfolding between
between_takes front last text middle h =
    let n = length front in
    let c = chosen (bytes_eq (take n text) front && (ltb n (length text) && eqb (get_or text (length text - 1) 0) last)) (take (length text - 1 - n) (drop n text)) middle h in
    let a = and_parts (bytes_eq (take n text) front) (ltb n (length text) && eqb (get_or text (length text - 1) 0) last) c.0 in
    let b = and_parts (ltb n (length text)) (eqb (get_or text (length text - 1) 0) last) a.1 in
    let begins : take n text ≡ front = (bytes_eq-Decides (take n text) front).0 a.0 in
    let long : n < length text = ltb-true n (length text) b.0 in
    let ends : get_or text (length text - 1) 0 ≡ last = eqb-true _ last b.1 in
    let rest = drop n text in
    let len : length rest ≡ length text - n = length-drop n text in
    let there : n + (length rest - 1) ≡ length text - 1 = omega (arith, len) in
    let less : length rest - 1 ≡ length text - 1 - n = omega (arith, len) in
    let at : get_or rest (length rest - 1) 0 ≡ last = get_or-drop n text (length rest - 1) 0 ∙ ap (λ k. get_or text k 0) there ∙ ends in
    let back : rest ≡ middle ++ last ∷ [] = last_off rest last (omega (arith, len)) at ∙ ap (λ k. take k rest ++ last ∷ []) less ∙ ap (λ m. m ++ last ∷ []) c.1 in
    sym (take-append-drop n text) ∙ ap (λ f. f ++ rest) begins ∙ ap (λ r. front ++ r) back ∙ sym (append_assoc front middle (last ∷ []))

-- ---- three parts

regrouped : (front a b c comma end : List ℕ) → (front ++ (a ++ ((comma ++ b) ++ ((comma ++ c) ++ [])))) ++ end ≡ front ++ a ++ comma ++ b ++ comma ++ c ++ end
regrouped front a b c comma end = simp (append_assoc, append-nil)

three_joined : (front a b c : List ℕ) → (front ++ joined 44 (a ∷ b ∷ c ∷ [])) ++ codes ")" ≡ front ++ a ++ codes "," ++ b ++ codes "," ++ c ++ codes ")"
three_joined front a b c = regrouped front a b c (codes ",") (codes ")")

pub three_again : (front a b c : List ℕ) → Closed a → Closed b → Closed c → three_in front (front ++ a ++ codes "," ++ b ++ codes "," ++ c ++ codes ")") ≡ Some (a, b, c)
three_again front a b c ca cb cd =
    let inside = joined 44 (a ∷ b ∷ c ∷ []) in
    ap (three_in front) (sym (three_joined front a b c))
    ∙ ap (option_and_then (λ m. three (split 44 m))) (between_again front inside 41)
    ∙ ap three (split_again 44 a (b ∷ c ∷ []) (inr refl) (ca, (cb, (cd, tt))))

three_is : (ps : List (List ℕ)) (a b c : List ℕ) → three ps ≡ Some (a, b, c) → ps ≡ a ∷ b ∷ c ∷ []
three_is [] a b c h = cc
three_is (x ∷ []) a b c h = cc
three_is (x ∷ y ∷ []) a b c h = cc
three_is (x ∷ y ∷ z ∷ []) a b c h =
    let p = some_is (x, y, z) (a, b, c) h in
    (λ k. (p k).0 ∷ (p k).1 ∷ (p k).2 ∷ [])
three_is (x ∷ y ∷ z ∷ w ∷ ps) a b c h = cc

pub three_takes : (front field a b c : List ℕ) → three_in front field ≡ Some (a, b, c) → field ≡ front ++ a ++ codes "," ++ b ++ codes "," ++ c ++ codes ")"
three_takes front field a b c h =
    option_and_then_some (λ m. three (split 44 m)) (between front 41 field) (a, b, c) h (λ inside is held.
    let pieces = three_is (split 44 inside) a b c held in
    let whole : inside ≡ joined 44 (a ∷ b ∷ c ∷ []) = sym (split_is_joined 44 inside) ∙ ap (joined 44) pieces in
    between_takes front 41 field inside is ∙ ap (λ m. (front ++ m) ++ codes ")") whole ∙ three_joined front a b c)

-- ---- two parts

two_joined : (front a b : List ℕ) → (front ++ joined 44 (a ∷ b ∷ [])) ++ codes ")" ≡ front ++ a ++ codes "," ++ b ++ codes ")"
two_joined front a b = simp (append_assoc, append-nil)

pub two_again : (front a b : List ℕ) → Closed a → Closed b → two_in front (front ++ a ++ codes "," ++ b ++ codes ")") ≡ Some (a, b)
two_again front a b ca cb =
    let inside = joined 44 (a ∷ b ∷ []) in
    ap (two_in front) (sym (two_joined front a b))
    ∙ ap (option_and_then (λ m. two (split 44 m))) (between_again front inside 41)
    ∙ ap two (split_again 44 a (b ∷ []) (inr refl) (ca, (cb, tt)))

two_is : (ps : List (List ℕ)) (a b : List ℕ) → two ps ≡ Some (a, b) → ps ≡ a ∷ b ∷ []
two_is [] a b h = cc
two_is (x ∷ []) a b h = cc
two_is (x ∷ y ∷ []) a b h =
    let p = some_is (x, y) (a, b) h in
    (λ k. (p k).0 ∷ (p k).1 ∷ [])
two_is (x ∷ y ∷ z ∷ ps) a b h = cc

pub two_takes : (front field a b : List ℕ) → two_in front field ≡ Some (a, b) → field ≡ front ++ a ++ codes "," ++ b ++ codes ")"
two_takes front field a b h =
    option_and_then_some (λ m. two (split 44 m)) (between front 41 field) (a, b) h (λ inside is held.
    let pieces = two_is (split 44 inside) a b held in
    let whole : inside ≡ joined 44 (a ∷ b ∷ []) = sym (split_is_joined 44 inside) ∙ ap (joined 44) pieces in
    between_takes front 41 field inside is ∙ ap (λ m. (front ++ m) ++ codes ")") whole ∙ two_joined front a b)
