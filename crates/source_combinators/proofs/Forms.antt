-- Shorter ways to put forms together.
use Rattle.std.proofs.Common.{◌≡◌, ℕ, zero, suc, ◌<◌, Bool, true, false, List, [], ◌∷◌, ◌++◌, length, Option, Result, Ok, Err, refl, sym, ap, subst, ◌∙◌, append_assoc, append-nil}
use Rattle.std.specs.Prelude.{if◌then◌else◌}
use Rattle.source_combinators.specs.declared.fault.Fault.{Fault}
use Rattle.source_combinators.specs.Reading.{Read, ◌>>=◌, given, refused, head_of}
use Rattle.source_combinators.specs.Many.{rounds}
use Rattle.source_combinators.proofs.Right.{alike, Found, Goes_on, Stuck, Right, chosen, IsSequence, sequence}
use Rattle.source_combinators.proofs.Steps.{nothing, IsNothing, nothing_right, nothing_goes_on, IsToken, token_goes_on}
use Rattle.source_combinators.proofs.Many.{IsRounds, bind_pairs, right_many}

-- what a relation has to be to stand before others
abbrev pub Grows : {T A : Type 0} → (ℕ → List T → A → Type 0) → Type 0
Grows {T} {A} Is = (room : ℕ) (ts : List T) (a : A) → Is room ts a → Is (suc room) ts a

-- the reader is right with this much room
abbrev pub AllRight : {T A : Type 0} → (List T → Read T A) → (ℕ → List T → A → Type 0) → ℕ → Type 0
AllRight {T} F Is room = (ts : List T) → Right F Is room ts (F ts)

-- F, and then G, which knows what F read, and whose value it is
pub right_then : {T A B : Type 0} (F : List T → Read T A) (IsA : ℕ → List T → A → Type 0) (G : A → List T → Read T B) (IsB : A → ℕ → List T → B → Type 0) (H : List T → Read T B) (IsC : ℕ → List T → B → Type 0) → ((ts : List T) → H ts ≡ (F ts >>= λ x. G x.0 x.1)) → ((room : ℕ) (xs ys : List T) (a : A) (b : B) → IsA room xs a → IsB a room ys b → IsC room (xs ++ ys) b) → Grows IsA → ((room : ℕ) (a : A) → Goes_on (IsB a) room []) → (room : ℕ) → AllRight F IsA room → ((a : A) → AllRight (G a) (IsB a) room) → AllRight H IsC room
right_then F IsA G IsB H IsC computes builds grows finishes room right later ts =
    sequence {p = []} {F = F} {IsA = IsA} {G = G} {IsB = IsB} {f = λ a b. b} {H = H} {IsC = IsC} (record {
      computes = λ us. computes us ∙ bind_pairs (F us) (λ x. G x.0 x.1);
      builds = builds;
      grows = grows;
      finishes = finishes;
    }) room ts (right ts) (λ a rest k. later a rest)

-- the tokens p, and then F
pub prefixed : {T A B : Type 0} (p : List T) (F : List T → Read T A) (IsA : ℕ → List T → A → Type 0) (f : A → B) (H : List T → Read T B) (IsC : ℕ → List T → B → Type 0) → ((ts : List T) → H (p ++ ts) ≡ (F ts >>= λ x. given (f x.0) x.1)) → ((room : ℕ) (xs : List T) (a : A) → IsA room xs a → IsC room (p ++ xs) (f a)) → Grows IsA → (room : ℕ) (ts : List T) → Right F IsA room ts (F ts) → Right H IsC room (p ++ ts) (H (p ++ ts))
prefixed p F IsA f H IsC computes builds grows room ts right =
    sequence {p = p} {F = F} {IsA = IsA} {G = λ a. nothing} {IsB = λ a. IsNothing} {f = λ a u. f a} {H = H} {IsC = IsC} (record {
      computes = computes;
      builds = λ n xs ys a u h e. subst (λ (l : List _). IsC n (p ++ l) (f a)) (sym (ap (λ (l : List _). xs ++ l) e ∙ append-nil xs)) (builds n xs a h);
      grows = grows;
      finishes = λ n a. nothing_goes_on n;
    }) room ts right (λ a rest k. nothing_right room rest)

-- the tokens p, then F, and then the token t
pub enclosed : {T A B : Type 0} (p : List T) (t : T) (F : List T → Read T A) (IsA : ℕ → List T → A → Type 0) (C : List T → Read T (Unit {0})) (f : A → B) (H : List T → Read T B) (IsC : ℕ → List T → B → Type 0) → ((ts : List T) → H (p ++ ts) ≡ (F ts >>= λ x. C x.1 >>= λ u. given (f x.0) u.1)) → ((room : ℕ) (xs : List T) (a : A) → IsA room xs a → IsC room (p ++ (xs ++ t ∷ [])) (f a)) → Grows IsA → (room : ℕ) → AllRight C (IsToken t) room → (ts : List T) → Right F IsA room ts (F ts) → Right H IsC room (p ++ ts) (H (p ++ ts))
enclosed p t F IsA C f H IsC computes builds grows room closes ts right =
    sequence {p = p} {F = F} {IsA = IsA} {G = λ a. C} {IsB = λ a. IsToken t} {f = λ a u. f a} {H = H} {IsC = IsC} (record {
      computes = computes;
      builds = λ n xs ys a u h e. subst (λ (l : List _). IsC n (p ++ (xs ++ l)) (f a)) (sym e) (builds n xs a h);
      grows = grows;
      finishes = λ n a. token_goes_on t n;
    }) room ts right (λ a rest k. closes rest)

-- ---- a form that begins with F and is extended by rounds on its right

abbrev pub IsRest : {T S : Type 0} → (ℕ → List T → S → Type 0) → S → ℕ → List T → S → Type 0
IsRest {T} Is s room ts t = (xs : List T) → Is room xs s → Is room (xs ++ ts) t

pub rest_none : {T S : Type 0} (Is : ℕ → List T → S → Type 0) (room : ℕ) (s : S) → IsRest Is s room [] s
rest_none Is room s xs h = subst (λ (l : List _). Is room l s) (sym (append-nil xs)) h

pub rest_goes_on : {T S : Type 0} (Is : ℕ → List T → S → Type 0) (room : ℕ) (s : S) → Goes_on (IsRest Is s) room []
rest_goes_on Is room s = record { more = []; value = s; spelled = rest_none Is room s }

pub left_rounds : {T S : Type 0} (begins : S → Option T → Bool) (reads : S → List T → Read T S) (IsRound : S → ℕ → List T → S → Type 0) (Is : ℕ → List T → S → Type 0) (room : ℕ) → ((s : S) (ts : List T) → begins s (head_of ts) ≡ true → Right (reads s) (IsRound s) room ts (reads s ts)) → ((s t : S) (ts : List T) → IsRound s room ts t → 0 < length ts) → ((n : ℕ) (s t : S) (ts : List T) → IsRound s n ts t → IsRound s (suc n) ts t) → ((n : ℕ) (s t : S) (xs ys : List T) → Is n xs s → IsRound s n ys t → Is n (xs ++ ys) t) → IsRounds begins reads IsRound (IsRest Is) room
left_rounds begins reads IsRound Is room right takes grows extend = record {
  right = right;
  takes = takes;
  grows = grows;
  none = λ n s. rest_none Is n s;
  more = λ n s t u xs ys h k zs q. subst (λ (l : List _). Is n l u) (append_assoc zs xs ys) (k (zs ++ xs) (extend n s t zs xs q h));
}

pub right_left : {T S : Type 0} (F : List T → Read T S) (IsFirst : ℕ → List T → S → Type 0) (begins : S → Option T → Bool) (reads : S → List T → Read T S) (IsRound : S → ℕ → List T → S → Type 0) (H : List T → Read T S) (Is : ℕ → List T → S → Type 0) (room : ℕ) → IsRounds begins reads IsRound (IsRest Is) room → ((ts : List T) → H ts ≡ (F ts >>= λ x. rounds begins reads x.0 x.1)) → ((n : ℕ) (xs : List T) (a : S) → IsFirst n xs a → Is n xs a) → Grows IsFirst → AllRight F IsFirst room → AllRight H Is room
right_left F IsFirst begins reads IsRound H Is room form computes first grows right ts =
    right_then F IsFirst (λ a. rounds begins reads a) (IsRest Is) H Is computes (λ n xs ys a b h k. k xs (first n xs a h)) grows (λ n a. rest_goes_on Is n a) room right (λ a rest. right_many form a rest) ts

-- ---- a form that may be left out, by the token ahead

if_true : {A : Type 0} (b : Bool) (x y : A) → b ≡ true → (if b then x else y) ≡ x
if_true true x y e = refl
if_true false x y e = absurd cc

if_false : {A : Type 0} (b : Bool) (x y : A) → b ≡ false → (if b then x else y) ≡ y
if_false true x y e = absurd cc
if_false false x y e = refl

decided_right : {T A : Type 0} (F H : List T → Read T A) (Is : ℕ → List T → A → Type 0) (begins : Option T → Bool) (none : A) (room : ℕ) (ts : List T) (b : Bool) → begins (head_of ts) ≡ b → ((us : List T) → H us ≡ (if begins (head_of us) then F us else given none us)) → Is room [] none → (begins (head_of ts) ≡ true → Right F Is room ts (F ts)) → Right H Is room ts (H ts)
decided_right {T} F H Is begins none room ts true e computes h right =
    let begun : (us : List T) → head_of us ≡ head_of ts → H us ≡ F us = λ us q. computes us ∙ if_true (begins (head_of us)) (F us) (given none us) (ap begins q ∙ e) in
    subst (Right H Is room ts) (sym (begun ts refl)) (chosen F H Is Is room ts (F ts) begun (λ n xs a k. k) (right e))
decided_right {T} F H Is begins none room ts false e computes h right =
    let left_out : (us : List T) → head_of us ≡ head_of ts → H us ≡ given none us = λ us q. computes us ∙ if_false (begins (head_of us)) (F us) (given none us) (ap begins q ∙ e) in
    let found : Found H Is room ts none ts = record { front = []; parts = refl; spelled = h; again = λ more q. left_out more q } in
    subst (Right H Is room ts) (sym (left_out ts refl)) found

pub right_optional : {T A : Type 0} (F H : List T → Read T A) (Is : ℕ → List T → A → Type 0) (begins : Option T → Bool) (none : A) (room : ℕ) → ((us : List T) → H us ≡ (if begins (head_of us) then F us else given none us)) → Is room [] none → ((ts : List T) → begins (head_of ts) ≡ true → Right F Is room ts (F ts)) → AllRight H Is room
right_optional F H Is begins none room computes h right ts = decided_right F H Is begins none room ts (begins (head_of ts)) refl computes h (right ts)

-- by another name
pub as_named : {T A : Type 0} (F H : List T → Read T A) (Is : ℕ → List T → A → Type 0) (room : ℕ) → ((us : List T) → H us ≡ F us) → AllRight F Is room → AllRight H Is room
as_named F H Is room e right ts = subst (Right H Is room ts) (sym (e ts)) (chosen F H Is Is room ts (F ts) (λ us k. e us) (λ n xs a q. q) (right ts))

-- as another form, whatever follows
pub widened : {T A : Type 0} (F : List T → Read T A) (Is IsWider : ℕ → List T → A → Type 0) (room : ℕ) → ((n : ℕ) (xs : List T) (a : A) → Is n xs a → IsWider n xs a) → AllRight F Is room → AllRight F IsWider room
widened F Is IsWider room i right ts = chosen F F Is IsWider room ts (F ts) (λ us k. refl) i (right ts)
