-- What reading came to: what is read is spelled so; where a token is refused, the tokens
-- before it can be completed; and no token behind the one that was looked at last
-- matters. Stated once for every form, with a lemma for each way to put forms together.
use Rattle.std.proofs.Common.{◌≡◌, ℕ, zero, suc, ◌+◌, ◌<◌, ◌≤◌, List, [], ◌∷◌, ◌++◌, length, Option, Some, None, Result, Ok, Err, refl, sym, ap, subst, ◌∙◌, append_assoc}
use Rattle.source_combinators.specs.declared.fault.Refusal.{Refusal}
use Rattle.source_combinators.specs.declared.fault.Refusal.TheVariants.{TooDeep, Syntax}
use Rattle.source_combinators.specs.declared.fault.Fault.{Fault}
use Rattle.source_combinators.specs.Reading.{Read, ◌>>=◌, given, refused, too_deep, head_of}

pub at_head : {T : Type 0} (P : List T → Type 0) (t : T) (more : List T) → head_of more ≡ Some t → ((tail : List T) → P (t ∷ tail)) → P more
at_head P t [] e f = absurd cc
at_head {T} P t (u ∷ tail) e f =
    let same : u ≡ t = cc in
    subst (λ (v : T). P (v ∷ tail)) (sym same) (f tail)

pub at_end : {T : Type 0} (P : List T → Type 0) (more : List T) → head_of more ≡ None → P [] → P more
at_end P [] e f = f
at_end P (u ∷ tail) e f = absurd cc

pub alike : {T : Type 0} (front more rest whole : List T) → whole ≡ front ++ rest → head_of more ≡ head_of rest → head_of (front ++ more) ≡ head_of whole
alike [] more rest whole p e = e ∙ ap head_of (sym p)
alike (t ∷ front) more rest whole p e = ap head_of (sym p)

-- a value was read
pub record Found {T A : Type 0} (F : List T → Read T A) (Is : ℕ → List T → A → Type 0) (room : ℕ) (ts : List T) (e : A) (rest : List T) : Type 0 where
  pub front : List T
  pub parts : ts ≡ front ++ rest
  pub spelled : Is room front e
  -- the same is read before any tokens that begin alike
  pub again : (more : List T) → head_of more ≡ head_of rest → F (front ++ more) ≡ Ok (e, more)

-- the tokens, with some more behind them, spell the form
pub record Goes_on {T A : Type 0} (Is : ℕ → List T → A → Type 0) (room : ℕ) (ts : List T) : Type 0 where
  pub more : List T
  pub value : A
  pub spelled : Is room (ts ++ more) value

-- a token was refused
pub record Stuck {T A : Type 0} (F : List T → Read T A) (Is : ℕ → List T → A → Type 0) (room : ℕ) (ts : List T) (fault : Fault) : Type 0 where
  pub front : List T
  pub rest : List T
  pub parts : ts ≡ front ++ rest
  pub left : fault.left ≡ length rest
  -- what was read can be completed
  pub before : Goes_on Is room front
  -- with one more level the refused token goes on too, where it is too deep
  pub deep : fault.kind ≡ TooDeep → (t : T) × (head_of rest ≡ Some t) × Goes_on Is (suc room) (front ++ t ∷ [])
  pub again : (more : List T) → head_of more ≡ head_of rest → F (front ++ more) ≡ Err (record { kind = fault.kind; left = length more })

abbrev pub Right : {T A : Type 0} → (List T → Read T A) → (ℕ → List T → A → Type 0) → ℕ → List T → Read T A → Type 0
Right F Is room ts (Ok x) = Found F Is room ts x.0 x.1
Right F Is room ts (Err fault) = Stuck F Is room ts fault

-- the token at the front is refused: something completes the form from nothing
pub refuses : {T A : Type 0} (F : List T → Read T A) (Is : ℕ → List T → A → Type 0) (room : ℕ) (t : T) (ts : List T) → Goes_on Is room [] → ((tail : List T) → F (t ∷ tail) ≡ refused (t ∷ tail)) → Stuck F Is room (t ∷ ts) (record { kind = Syntax; left = length (t ∷ ts) })
refuses F Is room t ts completed f = record {
  front = [];
  rest = t ∷ ts;
  parts = refl;
  left = refl;
  before = completed;
  deep = λ e. absurd cc;
  again = λ more e. at_head (λ m. F m ≡ refused m) t more e f;
}

pub refuses_end : {T A : Type 0} (F : List T → Read T A) (Is : ℕ → List T → A → Type 0) (room : ℕ) → Goes_on Is room [] → F [] ≡ refused [] → Stuck F Is room [] (record { kind = Syntax; left = 0 })
refuses_end F Is room completed f = record {
  front = [];
  rest = [];
  parts = refl;
  left = refl;
  before = completed;
  deep = λ e. absurd cc;
  again = λ more e. at_end (λ m. F m ≡ refused m) more e f;
}

pub refuses_level : {T A : Type 0} (F : List T → Read T A) (Is : ℕ → List T → A → Type 0) (room : ℕ) (t : T) (ts : List T) → Goes_on Is room [] → Goes_on Is (suc room) (t ∷ []) → ((tail : List T) → F (t ∷ tail) ≡ too_deep (t ∷ tail)) → Stuck F Is room (t ∷ ts) (record { kind = TooDeep; left = length (t ∷ ts) })
refuses_level F Is room t ts completed deeper f = record {
  front = [];
  rest = t ∷ ts;
  parts = refl;
  left = refl;
  before = completed;
  deep = λ e. (t, refl, deeper);
  again = λ more e. at_head (λ m. F m ≡ too_deep m) t more e f;
}

-- a form whose level is opened by its first token
pub level : {T A : Type 0} (F : List T → Read T A) (Is : ℕ → List T → A → Type 0) (room : ℕ) (ts : List T) (r : Read T A) → Right F (λ n. Is (suc n)) room ts r → Right F Is (suc room) ts r
level F Is room ts (Ok x) h = record { front = h.front; parts = h.parts; spelled = h.spelled; again = h.again }
level F Is room ts (Err fault) h = record {
  front = h.front;
  rest = h.rest;
  parts = h.parts;
  left = h.left;
  before = record { more = h.before.more; value = h.before.value; spelled = h.before.spelled };
  deep = λ k. let d = h.deep k in (d.0, d.1, record { more = d.2.more; value = d.2.value; spelled = d.2.spelled });
  again = h.again;
}

-- ---- one reader does as another where the first token says so

pub chosen : {T A : Type 0} (F H : List T → Read T A) (Is IsH : ℕ → List T → A → Type 0) (room : ℕ) (ts : List T) (r : Read T A) → ((us : List T) → head_of us ≡ head_of ts → H us ≡ F us) → ((n : ℕ) (xs : List T) (a : A) → Is n xs a → IsH n xs a) → Right F Is room ts r → Right H IsH room ts r
chosen F H Is IsH room ts (Ok x) c i h = record {
  front = h.front;
  parts = h.parts;
  spelled = i room h.front x.0 h.spelled;
  again = λ more e. c (h.front ++ more) (alike h.front more x.1 ts h.parts e) ∙ h.again more e;
}
chosen F H Is IsH room ts (Err fault) c i h = record {
  front = h.front;
  rest = h.rest;
  parts = h.parts;
  left = h.left;
  before = record { more = h.before.more; value = h.before.value; spelled = i room (h.front ++ h.before.more) h.before.value h.before.spelled };
  deep = λ k. let d = h.deep k in (d.0, d.1, record { more = d.2.more; value = d.2.value; spelled = i (suc room) ((h.front ++ d.0 ∷ []) ++ d.2.more) d.2.value d.2.spelled });
  again = λ more e. c (h.front ++ more) (alike h.front more h.rest ts h.parts e) ∙ h.again more e;
}

-- H reads the tokens p, then F, and then G, which knows what F read
pub record IsSequence {T A B C : Type 0} (p : List T) (F : List T → Read T A) (IsA : ℕ → List T → A → Type 0) (G : A → List T → Read T B) (IsB : A → ℕ → List T → B → Type 0) (f : A → B → C) (H : List T → Read T C) (IsC : ℕ → List T → C → Type 0) : Type 0 where
  pub computes : (ts : List T) → H (p ++ ts) ≡ (F ts >>= λ x. G x.0 x.1 >>= λ y. Ok (f x.0 y.0, y.1))
  pub builds : (room : ℕ) (xs ys : List T) (a : A) (b : B) → IsA room xs a → IsB a room ys b → IsC room (p ++ (xs ++ ys)) (f a b)
  pub grows : (room : ℕ) (xs : List T) (a : A) → IsA room xs a → IsA (suc room) xs a
  pub finishes : (room : ℕ) (a : A) → Goes_on (IsB a) room []

module _ {T A B C : Type 0} {p : List T} {F : List T → Read T A} {IsA : ℕ → List T → A → Type 0} {G : A → List T → Read T B} {IsB : A → ℕ → List T → B → Type 0} {f : A → B → C} {H : List T → Read T C} {IsC : ℕ → List T → C → Type 0} (s : IsSequence p F IsA G IsB f H IsC) where
  -- what completes the first part, and then the second
  first_goes_on : (room : ℕ) (ts : List T) → Goes_on IsA room ts → Goes_on IsC room (p ++ ts)
  first_goes_on room ts g =
      let fin = s.finishes room g.value in
      record {
        more = g.more ++ fin.more;
        value = f g.value fin.value;
        spelled = subst (λ (l : List T). IsC room l (f g.value fin.value)) (simp append_assoc) (s.builds room (ts ++ g.more) fin.more g.value fin.value g.spelled fin.spelled);
      }

  second_goes_on : (room : ℕ) (xs ts : List T) (a : A) → IsA room xs a → Goes_on (IsB a) room ts → Goes_on IsC room (p ++ (xs ++ ts))
  second_goes_on room xs ts a h g = record {
    more = g.more;
    value = f a g.value;
    spelled = subst (λ (l : List T). IsC room l (f a g.value)) (simp append_assoc) (s.builds room xs (ts ++ g.more) a g.value h g.spelled);
  }

  second : (room : ℕ) (ts : List T) (a : A) (rest : List T) (r : Read T B) → Found F IsA room ts a rest → Right (G a) (IsB a) room rest r → Right H IsC room (p ++ ts) (r >>= λ y. Ok (f a y.0, y.1))
  second room ts a rest (Ok y) h k = record {
    front = p ++ (h.front ++ k.front);
    parts = ap (λ (l : List T). p ++ l) (h.parts ∙ ap (λ (l : List T). h.front ++ l) k.parts) ∙ simp append_assoc;
    spelled = s.builds room h.front k.front a y.0 h.spelled k.spelled;
    again = λ more e.
        ap H (simp append_assoc) ∙ s.computes (h.front ++ (k.front ++ more))
        ∙ rw (h.again (k.front ++ more) (alike k.front more y.1 rest k.parts e), k.again more e) refl;
  }
  second room ts a rest (Err fault) h k = record {
    front = p ++ (h.front ++ k.front);
    rest = k.rest;
    parts = ap (λ (l : List T). p ++ l) (h.parts ∙ ap (λ (l : List T). h.front ++ l) k.parts) ∙ simp append_assoc;
    left = k.left;
    before = second_goes_on room h.front k.front a h.spelled k.before;
    deep = λ e.
        let d = k.deep e in
        (d.0, d.1, subst (λ (l : List T). Goes_on IsC (suc room) l) (simp append_assoc) (second_goes_on (suc room) h.front (k.front ++ d.0 ∷ []) a (s.grows room h.front a h.spelled) d.2));
    again = λ more e.
        ap H (simp append_assoc) ∙ s.computes (h.front ++ (k.front ++ more))
        ∙ rw (h.again (k.front ++ more) (alike k.front more k.rest rest k.parts e), k.again more e) refl;
  }

  sequence_from : (room : ℕ) (ts : List T) (r : Read T A) → Right F IsA room ts r → ((a : A) (rest : List T) → Found F IsA room ts a rest → Right (G a) (IsB a) room rest (G a rest)) → Right H IsC room (p ++ ts) (r >>= λ x. G x.0 x.1 >>= λ y. Ok (f x.0 y.0, y.1))
  sequence_from room ts (Ok x) h later =
      second room ts x.0 x.1 (G x.0 x.1) h (later x.0 x.1 h)
  sequence_from room ts (Err fault) h later = record {
    front = p ++ h.front;
    rest = h.rest;
    parts = ap (λ (l : List T). p ++ l) h.parts ∙ simp append_assoc;
    left = h.left;
    before = first_goes_on room h.front h.before;
    deep = λ e. let d = h.deep e in (d.0, d.1, subst (λ (l : List T). Goes_on IsC (suc room) l) (simp append_assoc) (first_goes_on (suc room) (h.front ++ d.0 ∷ []) d.2));
    again = λ more e. ap H (simp append_assoc) ∙ s.computes (h.front ++ more) ∙ rw (h.again more e) refl;
  }

  pub sequence : (room : ℕ) (ts : List T) → Right F IsA room ts (F ts) → ((a : A) (rest : List T) → Found F IsA room ts a rest → Right (G a) (IsB a) room rest (G a rest)) → Right H IsC room (p ++ ts) (H (p ++ ts))
  sequence room ts h later = subst (Right H IsC room (p ++ ts)) (sym (s.computes ts)) (sequence_from room ts (F ts) h later)
