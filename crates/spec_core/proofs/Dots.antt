-- Where a text is cut at its last dot, and what its parts are.
use Rattle.std.proofs.Common.{◌≡◌, ◌∙◌, refl, sym, ap, ℕ, zero, suc, ◌+◌, ◌<◌, List, [], ◌∷◌, ◌++◌, Bool, true, false, ◌&&◌, IsTrue, cond, length, eqb, ◌==◌, inl, inr, ◌⊎◌, take, drop, Option, Some, None, arith, if◌then◌else◌, subst, MatchOption, eqb-true}
use Rattle.std.proofs.Math.Seq.{take-append_seam, take-length}
use Rattle.std.specs.List.{list_all, onto_first, position_or_len}
use Rattle.std.proofs.lemmas.List.Splits.{slice_split_none, length-slice_split}
use Rattle.std.proofs.lemmas.List.Folds.{list_all-append}
use Rattle.std.proofs.lemmas.List.Sums.{position_or_len_is}
use Rattle.spec_core.specs.Names.{parts, dot_from, last_dot, parent_of, tail_of, front_of, joined, NoDot}
use Rattle.spec_core.specs.Identifiers.{is_name, is_dotted}

first : (b : ℕ) (bs : List ℕ) → NoDot (b ∷ bs) → (b == 46) ≡ false
first b bs h = h zero 0 (omega arith)

rest : (b : ℕ) (bs : List ℕ) → NoDot (b ∷ bs) → NoDot bs
rest b bs h = λ k d low. h (suc k) d (omega arith)

more : (b : ℕ) (bs : List ℕ) → (b == 46) ≡ false → NoDot bs → NoDot (b ∷ bs)
more b bs e h zero d low = e
more b bs e h (suc k) d low = h k d (omega arith)

dot_from-none : (n : ℕ) (at : Option ℕ) (bs : List ℕ) → NoDot bs → dot_from n at bs ≡ at
dot_from-none n at [] h = refl
dot_from-none n at (b ∷ bs) h = ap (λ q. dot_from (n + 1) (if q then Some n else at) bs) (first b bs h) ∙ dot_from-none (n + 1) at bs (rest b bs h)

dot_from-append : (n : ℕ) (at : Option ℕ) (xs ys : List ℕ) → dot_from n at (xs ++ ys) ≡ dot_from (n + length xs) (dot_from n at xs) ys
dot_from-append n at [] ys = ap (λ k. dot_from k at ys) (omega arith)
dot_from-append n at (x ∷ xs) ys =
    dot_from-append (n + 1) _ xs ys ∙ ap (λ k. dot_from k (dot_from (n + 1) (if x == 46 then Some n else at) xs) ys) (omega arith)

last_dot-none : (bs : List ℕ) → NoDot bs → last_dot bs ≡ None
unfolding last_dot
last_dot-none bs h = dot_from-none 0 None bs h

last_dot-joined : (xs ys : List ℕ) → NoDot ys → last_dot (joined xs ys) ≡ Some (length xs)
unfolding last_dot
last_dot-joined xs ys h =
    dot_from-append 0 None xs (46 ∷ ys) ∙ dot_from-none (0 + length xs + 1) (Some (0 + length xs)) ys h ∙ ap Some (omega arith)

abbrev Cut : List ℕ → Type 0
Cut bs = NoDot bs ⊎ ((xs : List ℕ) × (ys : List ℕ) × (bs ≡ joined xs ys) × NoDot ys)

and_true : (b : Bool) → b && true ≡ b
and_true true = refl
and_true false = refl

and_false : (b : Bool) → b && false ≡ false
and_false true = refl
and_false false = refl

cut_here : (b : ℕ) (bs : List ℕ) → NoDot bs → (q : Bool) → (b == 46) ≡ q → Cut (b ∷ bs)
cut_here b bs h true e = inr ([], bs, ap (λ c. c ∷ bs) (eqb-true b 46 e), h)
cut_here b bs h false e = inl (more b bs e h)

-- a text has no dot, or it is cut at its last one
pub cut : (bs : List ℕ) → Cut bs
cut [] = inl (λ k d low. absurd (omega arith))
cut (b ∷ bs) = elim (cut bs) [
  | inl h ↦ cut_here b bs h (b == 46) refl
  | inr w ↦ inr (b ∷ w.0, w.1, ap (λ cs. b ∷ cs) w.2, w.3)
]

pub take-joined : (xs ys : List ℕ) → take (length xs) (joined xs ys) ≡ xs
take-joined xs ys = take-append_seam xs (46 ∷ ys)

drop-joined : (xs ys : List ℕ) → drop (length xs + 1) (joined xs ys) ≡ ys
drop-joined [] ys = refl
drop-joined (x ∷ xs) ys = ap (λ n. drop n (joined (x ∷ xs) ys)) (let e : suc (length xs) + 1 ≡ suc (length xs + 1) = omega arith in e) ∙ drop-joined xs ys

pub parent-none : (bs : List ℕ) → NoDot bs → parent_of bs ≡ None
parent-none bs h = rw (last_dot-none bs h) refl

pub parent-joined : (xs ys : List ℕ) → NoDot ys → parent_of (joined xs ys) ≡ Some xs
parent-joined xs ys h = rw (last_dot-joined xs ys h) (ap Some (take-joined xs ys))

pub tail-none : (bs : List ℕ) → NoDot bs → tail_of bs ≡ bs
tail-none bs h = rw (last_dot-none bs h) refl

pub tail-joined : (xs ys : List ℕ) → NoDot ys → tail_of (joined xs ys) ≡ ys
tail-joined xs ys h = rw (last_dot-joined xs ys h) (drop-joined xs ys)

abbrev Whole : List ℕ → Type 0
Whole name = MatchOption (parent_of name) (name ≡ tail_of name) (λ parent. name ≡ joined parent (tail_of name))

-- a name is its parent, a dot and its tail
pub whole : (name : List ℕ) → Whole name
whole name = elim (cut name) [
  | inl h ↦ rw (parent-none name h) (sym (tail-none name h))
  | inr w ↦ subst Whole (sym w.2) (rw (parent-joined w.0 w.1 w.3) (ap (joined w.0) (sym (tail-joined w.0 w.1 w.3))))
]

-- the parts of a text with a dot are those on both sides of it
onto_first-append : (x : ℕ) (ps qs : List (List ℕ)) → 0 < length ps → onto_first x (ps ++ qs) ≡ onto_first x ps ++ qs
onto_first-append x [] qs h = absurd (omega arith)
onto_first-append x (p ∷ ps) qs h = refl

parts-first : (q : Bool) (x : ℕ) (ps qs : List (List ℕ)) → 0 < length ps → cond q ([] ∷ (ps ++ qs)) (onto_first x (ps ++ qs)) ≡ cond q ([] ∷ ps) (onto_first x ps) ++ qs
parts-first true x ps qs h = refl
parts-first false x ps qs h = onto_first-append x ps qs h

pub some_parts : (xs : List ℕ) → 0 < length (parts xs)
some_parts xs = rw (length-slice_split (λ b. eqb b 46) xs) (omega arith)

pub parts-joined : (xs ys : List ℕ) → parts (joined xs ys) ≡ parts xs ++ parts ys
parts-joined [] ys = refl
parts-joined (x ∷ xs) ys =
    ap (λ ps. cond (eqb x 46) ([] ∷ ps) (onto_first x ps)) (parts-joined xs ys) ∙ parts-first (eqb x 46) x (parts xs) (parts ys) (some_parts xs)

pub parts-none : (xs : List ℕ) → NoDot xs → parts xs ≡ xs ∷ []
parts-none xs h = slice_split_none (λ b. eqb b 46) xs h

pub dotted-joined : (xs ys : List ℕ) → is_dotted (joined xs ys) ≡ (is_dotted xs && is_dotted ys)
unfolding is_dotted
dotted-joined xs ys = ap (list_all is_name) (parts-joined xs ys) ∙ list_all-append is_name (parts xs) (parts ys)

pub dotted-none : (xs : List ℕ) → NoDot xs → is_dotted xs ≡ is_name xs
unfolding is_dotted
dotted-none xs h = ap (list_all is_name) (parts-none xs h) ∙ and_true (is_name xs)

-- what the code knows of a text that it has cut
pub parent-cut : (name xs ys : List ℕ) → name ≡ joined xs ys → NoDot ys → parent_of name ≡ Some xs
parent-cut name xs ys e h = ap parent_of e ∙ parent-joined xs ys h

pub tail-cut : (name xs ys : List ℕ) → name ≡ joined xs ys → NoDot ys → tail_of name ≡ ys
tail-cut name xs ys e h = ap tail_of e ∙ tail-joined xs ys h

left : (a b : Bool) → a && b ≡ true → a ≡ true
left true b e = refl
left false b e = e

right : (a b : Bool) → a && b ≡ true → b ≡ true
right true b e = e
right false b e = cc

pub dotted-front : (name xs ys : List ℕ) → name ≡ joined xs ys → IsTrue (is_dotted name) → IsTrue (is_dotted xs)
dotted-front name xs ys e h = left _ (is_dotted ys) (sym (dotted-joined xs ys) ∙ ap is_dotted (sym e) ∙ h)

pub dotted-back : (name xs ys : List ℕ) → name ≡ joined xs ys → IsTrue (is_dotted name) → IsTrue (is_dotted ys)
dotted-back name xs ys e h = right (is_dotted xs) _ (sym (dotted-joined xs ys) ∙ ap is_dotted (sym e) ∙ h)

pub dotted-both : (xs ys : List ℕ) → IsTrue (is_dotted xs) → IsTrue (is_dotted ys) → IsTrue (is_dotted (joined xs ys))
dotted-both xs ys h k = dotted-joined xs ys ∙ ap (λ b. b && is_dotted ys) h ∙ k

-- the tail of a dotted name is one, of one part
pub dotted-tail : (name : List ℕ) → IsTrue (is_dotted name) → IsTrue (is_dotted (tail_of name))
dotted-tail name h = elim (cut name) [
  | inl k ↦ subst (λ t. IsTrue (is_dotted t)) (sym (tail-none name k)) h
  | inr w ↦ subst (λ t. IsTrue (is_dotted t)) (sym (tail-cut name w.0 w.1 w.2 w.3)) (dotted-back name w.0 w.1 w.2 h)
]

pub one-tail : (name : List ℕ) → parent_of (tail_of name) ≡ None
one-tail name = elim (cut name) [
  | inl k ↦ ap parent_of (tail-none name k) ∙ parent-none name k
  | inr w ↦ ap parent_of (tail-cut name w.0 w.1 w.2 w.3) ∙ parent-none w.1 w.3
]

-- without a dot the front is the whole
pub front-none : (name : List ℕ) → position_or_len (λ b. eqb b 46) name ≡ length name → front_of name ≡ name
front-none name e = ap (λ n. take n name) e ∙ take-length name

position-joined : (xs ys : List ℕ) → NoDot xs → position_or_len (λ b. eqb b 46) (joined xs ys) ≡ length xs
position-joined [] ys h = refl
position-joined (x ∷ xs) ys h =
    rw (first x xs h, position-joined xs ys (rest x xs h)) (omega arith)

front-joined : (xs ys : List ℕ) → NoDot xs → front_of (joined xs ys) ≡ xs
front-joined xs ys h = ap (λ n. take n (joined xs ys)) (position-joined xs ys h) ∙ take-joined xs ys

abbrev Begun : List ℕ → Type 0
Begun bs = NoDot bs ⊎ ((xs : List ℕ) × (ys : List ℕ) × (bs ≡ joined xs ys) × NoDot xs)

begun_here : (b : ℕ) (bs : List ℕ) → Begun bs → (q : Bool) → (b == 46) ≡ q → Begun (b ∷ bs)
begun_here b bs s true e = inr ([], bs, ap (λ c. c ∷ bs) (eqb-true b 46 e), λ k d low. absurd (omega arith))
begun_here b bs s false e = elim s [
  | inl h ↦ inl (more b bs e h)
  | inr w ↦ inr (b ∷ w.0, w.1, ap (λ cs. b ∷ cs) w.2, more b w.0 e w.3)
]

-- a text has no dot, or it begins with a part that has none
begun : (bs : List ℕ) → Begun bs
begun [] = inl (λ k d low. absurd (omega arith))
begun (b ∷ bs) = begun_here b bs (begun bs) (b == 46) refl

first-none : (name : List ℕ) → NoDot name → front_of name ≡ name
first-none name h =
    front-none name (position_or_len_is (λ b. eqb b 46) name (length name) 0 (omega arith) (λ k low. h k 0 low) (λ low. absurd (omega arith)))

-- the front of a dotted name is one, of one part
pub dotted-first : (name : List ℕ) → IsTrue (is_dotted name) → IsTrue (is_dotted (front_of name))
dotted-first name h = elim (begun name) [
  | inl k ↦ subst (λ t. IsTrue (is_dotted t)) (sym (first-none name k)) h
  | inr w ↦ subst (λ t. IsTrue (is_dotted t)) (sym (ap front_of w.2 ∙ front-joined w.0 w.1 w.3)) (dotted-front name w.0 w.1 w.2 h)
]

pub one-first : (name : List ℕ) → parent_of (front_of name) ≡ None
one-first name = elim (begun name) [
  | inl k ↦ ap parent_of (first-none name k) ∙ parent-none name k
  | inr w ↦ ap parent_of (ap front_of w.2 ∙ front-joined w.0 w.1 w.3) ∙ parent-none w.0 w.3
]

-- the code looks at the last part first
pub dotted_bad : (name xs ys : List ℕ) → name ≡ joined xs ys → NoDot ys → is_name ys ≡ false → is_dotted name ≡ false
dotted_bad name xs ys e h bad = ap is_dotted e ∙ dotted-joined xs ys ∙ ap (λ b. is_dotted xs && b) (dotted-none ys h ∙ bad) ∙ and_false (is_dotted xs)

pub dotted_good : (name xs ys : List ℕ) → name ≡ joined xs ys → NoDot ys → is_name ys ≡ true → is_dotted name ≡ is_dotted xs
dotted_good name xs ys e h good = ap is_dotted e ∙ dotted-joined xs ys ∙ ap (λ b. is_dotted xs && b) (dotted-none ys h ∙ good) ∙ and_true (is_dotted xs)
