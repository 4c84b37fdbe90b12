-- Texts that are cut at the first of a byte.
use Rattle.std.proofs.Common.{◌≡◌, ◌∙◌, refl, sym, ap, subst, ℕ, suc, ◌+◌, ◌<◌, List, [], ◌∷◌, ◌++◌, length, take, drop, length-append, true, false, Bool, not, cond, eqb, ltb, Some, None, Option, arith}
use Rattle.std.proofs.Math.Seq.{take-append_seam}
use Rattle.std.proofs.lemmas.Bool.{and_from, and_parts, cond-true, cond-false, lt-ltb, ltb-true, eqb-true, eq-eqb}
use Rattle.std.specs.List.{list_all, position_or_len}
use Rattle.std.specs.Option.{option_map, option_and_then}
use Rattle.bundle_hook.specs.Reading.{cut_at}

-- the byte is not in the text
abbrev pub lacks : ℕ → List ℕ → Bool
lacks c text = list_all (λ b. not (eqb b c)) text

pub lacks_both : (c : ℕ) (a b : List ℕ) → lacks c a ≡ true → lacks c b ≡ true → lacks c (a ++ b) ≡ true
lacks_both c [] b h k = k
lacks_both c (x ∷ a) b h k =
    let both = and_parts (not (eqb x c)) (lacks c a) h in
    and_from (not (eqb x c)) (lacks c (a ++ b)) both.0 (lacks_both c a b both.1 k)

pub lacks_from : (c : ℕ) (good : ℕ → Bool) → good c ≡ false → (text : List ℕ) → list_all good text ≡ true → lacks c text ≡ true
lacks_from c good bad [] h = refl
lacks_from c good bad (b ∷ text) h =
    let both = and_parts (good b) (list_all good text) h in
    and_from (not (eqb b c)) (lacks c text) (other (eqb b c) refl) (lacks_from c good bad text both.1)
  where
    other : (e : Bool) → eqb b c ≡ e → not e ≡ true
    other true is =
        let same : b ≡ c = eqb-true b c is in
        let good_too : good c ≡ true = subst (λ x. good x ≡ true) same (and_parts (good b) (list_all good text) h).0 in
        cc
    other false is = refl

pub if_some : {X : Type 0} (b : Bool) (o : Option X) (x : X) → cond b o None ≡ Some x → (b ≡ true) × (o ≡ Some x)
if_some true o x h = (refl, h)
if_some false o x h = cc

pub map_some : {X Y : Type 0} (f : X → Y) (o : Option X) (y : Y) → option_map f o ≡ Some y → (x : X) × (o ≡ Some x) × (f x ≡ y)
map_some f None y h = cc
map_some f (Some x) y h = (x, refl, cc)

pub then_some : {X Y : Type 0} (f : X → Option Y) (o : Option X) (y : Y) → option_and_then f o ≡ Some y → (x : X) × (o ≡ Some x) × (f x ≡ Some y)
then_some f None y h = cc
then_some f (Some x) y h = (x, refl, h)

place : (c : ℕ) (name text : List ℕ) → lacks c name ≡ true → position_or_len (λ b. eqb b c) (name ++ c ∷ text) ≡ length name
place c [] text h = cond-false (not (eqb c c)) _ _ (ap not (eq-eqb c c refl))
place c (b ∷ name) text h =
    let both = and_parts (not (eqb b c)) (lacks c name) h in
    cond-true _ _ _ both.0 ∙ (let e = place c name text both.1 in omega arith)

drop_past : (c : ℕ) (name text : List ℕ) → drop (length name + 1) (name ++ c ∷ text) ≡ text
drop_past c [] text = refl
drop_past c (b ∷ name) text = ap (λ n. drop n (b ∷ (name ++ c ∷ text))) (let e : length (b ∷ name) + 1 ≡ suc (length name + 1) = omega arith in e) ∙ drop_past c name text

pub cut_found : (c : ℕ) (name text : List ℕ) → lacks c name ≡ true → cut_at c (name ++ c ∷ text) ≡ Some (name, text)
cut_found c name text h =
    let all : List ℕ = name ++ c ∷ text in
    let less : ltb (length name) (length all) ≡ true = lt-ltb (length name) (length all) (omega (arith, length-append name (c ∷ text))) in
    ap (λ i. option_map {U = List ℕ × List ℕ} (λ i. (take i all, drop (i + 1) all)) (cond (ltb i (length all)) (Some i) None)) (place c name text h)
    ∙ ap (option_map {U = List ℕ × List ℕ} (λ i. (take i all, drop (i + 1) all))) (cond-true _ _ _ less)
    ∙ ap (λ t. Some (t, drop (length name + 1) all)) (take-append_seam name (c ∷ text))
    ∙ ap (λ t. Some (name, t)) (drop_past c name text)

shifted : (c b : ℕ) (text : List ℕ) (n : ℕ) → take (1 + n) (b ∷ text) ++ c ∷ drop (1 + n + 1) (b ∷ text) ≡ b ∷ (take n text ++ c ∷ drop (n + 1) text)
shifted c b text n =
    ap (λ k. take k (b ∷ text) ++ c ∷ drop (1 + n + 1) (b ∷ text)) (let e : 1 + n ≡ suc n = omega arith in e)
    ∙ ap (λ k. b ∷ take n text ++ c ∷ drop k (b ∷ text)) (let e : 1 + n + 1 ≡ suc (n + 1) = omega arith in e)

at_place : (c : ℕ) (text : List ℕ) → position_or_len (λ b. eqb b c) text < length text → text ≡ take (position_or_len (λ b. eqb b c) text) text ++ c ∷ drop (position_or_len (λ b. eqb b c) text + 1) text
at_place c [] less = absurd (omega arith)
at_place c (b ∷ text) less =
    elim (eqb b c) as (λ e. eqb b c ≡ e → cond (not e) (1 + position_or_len (λ b. eqb b c) text) 0 < suc (length text)
    → b ∷ text ≡ take (cond (not e) (1 + position_or_len (λ b. eqb b c) text) 0) (b ∷ text) ++ c ∷ drop (cond (not e) (1 + position_or_len (λ b. eqb b c) text) 0 + 1) (b ∷ text)) [
      | true ↦ λ p _. ap (λ z. z ∷ text) (eqb-true b c p)
      | false ↦ λ _ low. ap (λ z. b ∷ z) (at_place c text (omega arith)) ∙ sym (shifted c b text (position_or_len (λ b. eqb b c) text))
    ] refl less

pub cut_taken : (c : ℕ) (text name rest : List ℕ) → cut_at c text ≡ Some (name, rest) → text ≡ name ++ c ∷ rest
cut_taken c text name rest h = by (ltb (position_or_len (λ b. eqb b c) text) (length text)) refl h
  where
    by : (e : Bool) → ltb (position_or_len (λ b. eqb b c) text) (length text) ≡ e → option_map {U = List ℕ × List ℕ} (λ i. (take i text, drop (i + 1) text)) (cond e (Some (position_or_len (λ b. eqb b c) text)) None) ≡ Some (name, rest) → text ≡ name ++ c ∷ rest
    by true p e =
        let i : ℕ = position_or_len (λ b. eqb b c) text in
        let pair : (take i text, drop (i + 1) text) ≡ (name, rest) = cc in
        at_place c text (ltb-true i (length text) p) ∙ ap (λ (q : List ℕ × List ℕ). q.0 ++ c ∷ q.1) pair
    by false p e = cc
