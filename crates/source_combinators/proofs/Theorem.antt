-- A reader that is right, reads what is spelled, and reads the same with one more level answers exactly what is spelled,
-- and else the first refused token.
use Rattle.std.proofs.Common.{◌≡◌, ◌↔◌, ℕ, zero, suc, ◌+◌, List, [], ◌∷◌, ◌++◌, length, Option, Some, None, Result, Ok, Err, refl, sym, ap, subst, ◌∙◌, append_assoc, append-nil, arith}
use Rattle.std.specs.Prelude.{IfOk}
use Rattle.std.specs.Borrow.{Bor}
use Rattle.source_combinators.specs.declared.fault.Refusal.{Refusal}
use Rattle.source_combinators.specs.declared.fault.Refusal.TheVariants.{TooDeep, Syntax}
use Rattle.source_combinators.specs.declared.fault.Fault.{Fault}
use Rattle.source_combinators.specs.declared.fault.ReadError.{ReadError}
use Rattle.source_combinators.specs.declared.fault.ReadError.TheVariants.{NoMemory, Refused}
use Rattle.source_combinators.specs.Reading.{Read, ◌>>=◌, given, refused, head_of}
use Rattle.source_combinators.specs.Outcome.{Gives, GivesAt}
use Rattle.source_combinators.specs.Refusals.{IsFront, IsViable, IsFirstRefused}
use Rattle.source_combinators.proofs.Right.{Found, Goes_on, Stuck, Right}
use Rattle.source_combinators.proofs.Forms.{AllRight}
use Rattle.source_combinators.proofs.Agrees.{Agrees, AllAgree, same, agree_then}

pub record IsReader {T A : Type 0} (F : ℕ → List T → Read T A) (Spells : ℕ → List T → A → Type 0) : Type 0 where
  pub right : (room : ℕ) → AllRight (F room) Spells room
  pub complete : (room : ℕ) (ts : List T) (a : A) → Spells room ts a → F room ts ≡ given a []
  pub agrees : (room : ℕ) → AllAgree (F room) (F (suc room))

abbrev fault_at : {T : Type 0} → Refusal → List T → Fault
fault_at kind ts = record { kind = kind; left = length ts }

module _ {T A : Type 0} (F : ℕ → List T → Read T A) (Spells : ℕ → List T → A → Type 0) (reader : IsReader F Spells) where
  agree_more : (more room : ℕ) (ts : List T) → Agrees (F room ts) (F (room + more) ts)
  agree_more zero room ts = subst (λ (n : ℕ). Agrees (F room ts) (F n ts)) (omega arith) (same (F room ts))
  agree_more (suc more) room ts = subst (λ (n : ℕ). Agrees (F room ts) (F n ts)) (omega arith) (agree_then (F room ts) (F (room + more) ts) (F (suc (room + more)) ts) (agree_more more room ts) (reader.agrees (room + more) ts))

  pub sound : (room : ℕ) (ts : List T) (a : A) (rest : List T) → F room ts ≡ given a rest → IsFront Spells room ts a rest
  sound room ts a rest r =
      let found : Found (F room) Spells room ts a rest = subst (Right (F room) Spells room ts) r (reader.right room ts) in
      record { front = found.front; parts = found.parts; spelled = found.spelled }

  -- a list that is spelled is not refused
  never : (room : ℕ) (ts : List T) (a : A) (fault : Fault) → Spells room ts a → F room ts ≡ Err fault → ⊥
  never room ts a fault s r = let c = reader.complete room ts a s in absurd cc

  -- what goes on with the refused token is refused there
  refused_again : (room : ℕ) (ts : List T) (fault : Fault) (s : Stuck (F room) Spells room ts fault) (t : T) (tail more : List T) → s.rest ≡ t ∷ tail → F room ((s.front ++ t ∷ []) ++ more) ≡ Err (fault_at fault.kind (t ∷ more))
  refused_again room ts fault s t tail more p = ap (F room) (append_assoc s.front (t ∷ []) more) ∙ s.again (t ∷ more) (sym (ap head_of p))

  only_deep : (room : ℕ) (ts : List T) (kind : Refusal) (left : ℕ) (s : Stuck (F room) Spells room ts (record { kind = kind; left = left })) (t : T) (tail : List T) → s.rest ≡ t ∷ tail → (more : ℕ) → IsViable Spells (room + more) (s.front ++ t ∷ []) → kind ≡ TooDeep
  only_deep room ts TooDeep left s t tail p more v = refl
  only_deep room ts Syntax left s t tail p more v =
      let line = (s.front ++ t ∷ []) ++ v.rest in
      let again = refused_again room ts (record { kind = Syntax; left = left }) s t tail v.rest p in
      let agrees = subst (λ (r : Read T A). Agrees r (F (room + more) line)) again (agree_more more room line) in
      absurd (never (room + more) line v.value (fault_at Syntax (t ∷ v.rest)) v.spelled (agrees (λ (k : Syntax ≡ TooDeep). absurd cc)))

  viable_deep : (room : ℕ) (front : List T) (t u : T) (rest tail : List T) → head_of rest ≡ Some u → rest ≡ t ∷ tail → Goes_on Spells (suc room) (front ++ u ∷ []) → (more : ℕ) × IsViable Spells (room + more) (front ++ t ∷ [])
  viable_deep room front t u rest tail h p g =
      let heads : Some u ≡ Some t = sym h ∙ ap head_of p in
      let tokens : u ≡ t = cc in
      (1, subst (λ (v : T). IsViable Spells (room + 1) (front ++ v ∷ [])) tokens (record { rest = g.more; value = g.value; spelled = subst (λ (n : ℕ). Spells n ((front ++ u ∷ []) ++ g.more) g.value) (omega arith) g.spelled }))

  pub first_refused : (room : ℕ) (ts : List T) (fault : Fault) → F room ts ≡ Err fault → IsFirstRefused Spells room ts fault
  first_refused room ts fault r =
      let s : Stuck (F room) Spells room ts fault = subst (Right (F room) Spells room ts) r (reader.right room ts) in
      record {
        front = s.front;
        rest = s.rest;
        parts = s.parts;
        left = s.left;
        before = record { rest = s.before.more; value = s.before.value; spelled = s.before.spelled };
        after = λ t tail p v. never room ((s.front ++ t ∷ []) ++ v.rest) v.value (fault_at fault.kind (t ∷ v.rest)) v.spelled (refused_again room ts fault s t tail v.rest p);
        too_deep = λ t tail p. (
          λ k. let d = s.deep k in viable_deep room s.front t d.0 s.rest tail d.1 p d.2,
          λ h. only_deep room ts fault.kind fault.left s t tail p h.0 h.1,
        );
      }

  value_read : Read T A → A → A
  value_read (Ok x) a = x.0
  value_read (Err fault) a = a

  -- at most one value is spelled
  pub one_value : (room : ℕ) (ts : List T) (a b : A) → Spells room ts a → Spells room ts b → a ≡ b
  unfolding value_read
  one_value room ts a b s u = ap (λ (r : Read T A). value_read r a) (sym (reader.complete room ts a s) ∙ reader.complete room ts b u)

  -- ---- what code answers that gives what is read

  pub gives_spelled : (room : ℕ) (ts : List T) (r : Result (A × Bor (List T)) ReadError) → GivesAt (λ a. a) r (F room ts) → IfOk r (λ p. IsFront Spells room ts p.0 p.1.now)
  gives_spelled room ts (Ok p) h = sound room ts p.0 p.1.now h
  gives_spelled room ts (Err e) h = tt

  pub gives_only : (room : ℕ) (ts : List T) (r : Result (A × Bor (List T)) ReadError) (a : A) → GivesAt (λ a. a) r (F room ts) → Spells room ts a → GivesAt (λ a. a) r (given a [])
  gives_only room ts r a h s = subst (λ (q : Read T A). GivesAt (λ a. a) r q) (reader.complete room ts a s) h

  abbrev refuses : Fault → Result (A × Bor (List T)) ReadError
  refuses fault = Err (Refused fault)

  pub gives_refused : (room : ℕ) (ts : List T) (r : Result (A × Bor (List T)) ReadError) (fault : Fault) → GivesAt (λ a. a) r (F room ts) → r ≡ refuses fault → IsFirstRefused Spells room ts fault
  gives_refused room ts (Ok p) fault h e = absurd cc
  gives_refused room ts (Err NoMemory) fault h e = absurd cc
  gives_refused room ts (Err (Refused other)) fault h e =
      let k : other ≡ fault = cc in
      first_refused room ts fault (h ∙ ap (λ (f : Fault). Err f) k)
