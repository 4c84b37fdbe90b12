-- Lists that are cut at a byte.
use Rattle.std.proofs.Common.{◌≡◌, ◌∙◌, refl, sym, ap, subst, ℕ, zero, suc, ◌+◌, ◌<◌, List, [], ◌∷◌, ◌++◌, length, take, drop, length-append, true, false, Bool, not, cond, eqb, ltb, Some, None, Option, arith, All}
use Rattle.std.proofs.Math.Seq.{drop-append_seam, take-append_seam}
use Rattle.std.proofs.lemmas.Bool.{and_from, and_parts, cond-true, not-true, lt-ltb, ltb-true, eqb-true}
use Rattle.std.proofs.lemmas.List.{take-append-drop}
use Rattle.std.proofs.lemmas.List.Splits.{slice_split_at}
use Rattle.std.proofs.lemmas.Slice.Eq.{bytes_eq-Decides}
use Rattle.std.specs.List.{list_all, onto_first, position_or_len}
use Rattle.std.specs.Option.{option_map}
use Rattle.std.specs.Str.{bytes_eq}
use Rattle.words_rounds.specs.Lines.{behind, cut, has_no_blank}
use Rattle.words_rounds.specs.Reading.{pieces}
use Rattle.words_rounds.specs.Grammar.{in_line}

pub if_some : {X : Type 0} (b : Bool) (o : Option X) (x : X) → cond b o None ≡ Some x → (b ≡ true) × (o ≡ Some x)
if_some true o x h = (refl, h)
if_some false o x h = cc

-- what stands behind a beginning
pub behind_front : (front rest : List ℕ) → behind front (front ++ rest) ≡ Some rest
behind_front front rest =
    let same : bytes_eq (take (length front) (front ++ rest)) front ≡ true = (bytes_eq-Decides _ _).1 (take-append_seam front rest) in
    cond-true _ _ _ same ∙ ap Some (drop-append_seam front rest)

pub behind_taken : (front text rest : List ℕ) → behind front text ≡ Some rest → text ≡ front ++ rest
behind_taken front text rest h =
    let both = if_some (bytes_eq (take (length front) text) front) (Some (drop (length front) text)) rest h in
    let begins : take (length front) text ≡ front = (bytes_eq-Decides _ _).0 both.0 in
    let is : drop (length front) text ≡ rest = let e : Some (drop (length front) text) ≡ Some rest = both.1 in cc in
    sym (take-append-drop (length front) text) ∙ ap (λ t. t ++ drop (length front) text) begins ∙ ap (λ t. front ++ t) is

-- before and behind the first blank
blank_place : (name text : List ℕ) → has_no_blank name ≡ true → position_or_len (λ b. eqb b 32) (name ++ 32 ∷ text) ≡ length name
blank_place [] text h = refl
blank_place (b ∷ name) text h =
    let both = and_parts (not (eqb b 32)) (has_no_blank name) h in
    cond-true _ _ _ both.0 ∙ (let e = blank_place name text both.1 in omega arith)

drop_blank : (name text : List ℕ) → drop (length name + 1) (name ++ 32 ∷ text) ≡ text
drop_blank [] text = refl
drop_blank (b ∷ name) text = ap (λ n. drop n (b ∷ (name ++ 32 ∷ text))) (let e : length (b ∷ name) + 1 ≡ suc (length name + 1) = omega arith in e) ∙ drop_blank name text

pub cut_found : (name text : List ℕ) → has_no_blank name ≡ true → cut (name ++ 32 ∷ text) ≡ Some (name, text)
cut_found name text h =
    let all : List ℕ = name ++ 32 ∷ text in
    let less : ltb (length name) (length all) ≡ true = lt-ltb (length name) (length all) (omega (arith, length-append name (32 ∷ text))) in
    ap (λ i. option_map {U = List ℕ × List ℕ} (λ i. (take i all, drop (i + 1) all)) (cond (ltb i (length all)) (Some i) None)) (blank_place name text h)
    ∙ ap (option_map {U = List ℕ × List ℕ} (λ i. (take i all, drop (i + 1) all))) (cond-true _ _ _ less)
    ∙ ap (λ t. Some (t, drop (length name + 1) all)) (take-append_seam name (32 ∷ text))
    ∙ ap (λ t. Some (name, t)) (drop_blank name text)

shifted : (b : ℕ) (text : List ℕ) (n : ℕ) → take (1 + n) (b ∷ text) ++ 32 ∷ drop (1 + n + 1) (b ∷ text) ≡ b ∷ (take n text ++ 32 ∷ drop (n + 1) text)
shifted b text n =
    ap (λ k. take k (b ∷ text) ++ 32 ∷ drop (1 + n + 1) (b ∷ text)) (let e : 1 + n ≡ suc n = omega arith in e)
    ∙ ap (λ k. b ∷ take n text ++ 32 ∷ drop k (b ∷ text)) (let e : 1 + n + 1 ≡ suc (n + 1) = omega arith in e)

at_blank : (text : List ℕ) → position_or_len (λ b. eqb b 32) text < length text → text ≡ take (position_or_len (λ b. eqb b 32) text) text ++ 32 ∷ drop (position_or_len (λ b. eqb b 32) text + 1) text
at_blank [] less = absurd (omega arith)
at_blank (b ∷ text) less =
    elim (eqb b 32) as (λ c. eqb b 32 ≡ c → cond (not c) (1 + position_or_len (λ b. eqb b 32) text) 0 < suc (length text)
    → b ∷ text ≡ take (cond (not c) (1 + position_or_len (λ b. eqb b 32) text) 0) (b ∷ text) ++ 32 ∷ drop (cond (not c) (1 + position_or_len (λ b. eqb b 32) text) 0 + 1) (b ∷ text)) [
      | true ↦ λ p _. ap (λ z. z ∷ text) (eqb-true b 32 p)
      | false ↦ λ _ low. ap (λ z. b ∷ z) (at_blank text (omega arith)) ∙ sym (shifted b text (position_or_len (λ b. eqb b 32) text))
    ] refl less

pub cut_taken : (text name rest : List ℕ) → cut text ≡ Some (name, rest) → text ≡ name ++ 32 ∷ rest
cut_taken text name rest h = by (ltb (position_or_len (λ b. eqb b 32) text) (length text)) refl h
  where
    by : (c : Bool) → ltb (position_or_len (λ b. eqb b 32) text) (length text) ≡ c → option_map {U = List ℕ × List ℕ} (λ i. (take i text, drop (i + 1) text)) (cond c (Some (position_or_len (λ b. eqb b 32) text)) None) ≡ Some (name, rest) → text ≡ name ++ 32 ∷ rest
    by true p e =
        let i : ℕ = position_or_len (λ b. eqb b 32) text in
        let pair : (take i text, drop (i + 1) text) ≡ (name, rest) = cc in
        at_blank text (ltb-true i (length text) p) ∙ ap (λ (q : List ℕ × List ℕ). q.0 ++ 32 ∷ q.1) pair
    by false p e = cc

pub blank_before : (text name rest : List ℕ) → in_line text ≡ true → text ≡ name ++ rest → (in_line name ≡ true) × (in_line rest ≡ true)
blank_before text name rest h is = parted name (subst (λ t. in_line t ≡ true) is h)
  where
    parted : (name : List ℕ) → in_line (name ++ rest) ≡ true → (in_line name ≡ true) × (in_line rest ≡ true)
    parted [] h = (refl, h)
    parted (b ∷ name) h =
        let both = and_parts (not (eqb b 10)) (in_line (name ++ rest)) h in
        let more = parted name both.1 in
        (and_from (not (eqb b 10)) (in_line name) both.0 more.0, more.1)

-- pieces between line ends
not_end : (line : List ℕ) → in_line line ≡ true → All (λ b. eqb b 10 ≡ false) line
not_end [] h k d low = absurd (omega arith)
not_end (b ∷ line) h zero d low = not-true (eqb b 10) (and_parts (not (eqb b 10)) (in_line line) h).0
not_end (b ∷ line) h (suc k) d low = not_end line (and_parts (not (eqb b 10)) (in_line line) h).1 k d (omega arith)

pub pieces_line : (line rest : List ℕ) → in_line line ≡ true → pieces (line ++ 10 ∷ rest) ≡ line ∷ pieces rest
pieces_line line rest h = slice_split_at (λ b. eqb b 10) line 10 rest (not_end line h) refl

onto_clean : (b : ℕ) (parts : List (List ℕ)) → not (eqb b 10) ≡ true → list_all in_line parts ≡ true → list_all in_line (onto_first b parts) ≡ true
onto_clean b [] h all = and_from (in_line (b ∷ [])) true (and_from (not (eqb b 10)) true h refl) refl
onto_clean b (part ∷ parts) h all =
    let both = and_parts (in_line part) (list_all in_line parts) all in
    and_from (in_line (b ∷ part)) (list_all in_line parts) (and_from (not (eqb b 10)) (in_line part) h both.0) both.1

pub pieces_clean : (bytes : List ℕ) → list_all in_line (pieces bytes) ≡ true
pieces_clean [] = refl
pieces_clean (b ∷ bytes) =
    elim (eqb b 10) as (λ c. eqb b 10 ≡ c → list_all in_line (cond c ([] ∷ pieces bytes) (onto_first b (pieces bytes))) ≡ true) [
      | true ↦ λ _. pieces_clean bytes
      | false ↦ λ p. onto_clean b (pieces bytes) (ap not p) (pieces_clean bytes)
    ] refl

-- there is a first piece
pub pieces_some : (bytes : List ℕ) → (first : List ℕ) × (more : List (List ℕ)) × (pieces bytes ≡ first ∷ more)
pieces_some [] = ([], [], refl)
pieces_some (b ∷ bytes) =
    elim (eqb b 10) as (λ c. (first : List ℕ) × (more : List (List ℕ)) × (cond c ([] ∷ pieces bytes) (onto_first b (pieces bytes)) ≡ first ∷ more)) [
      | true ↦ ([], pieces bytes, refl)
      | false ↦ let p = pieces_some bytes in (b ∷ p.0, p.1, ap (onto_first b) p.2)
    ]
