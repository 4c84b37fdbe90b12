-- Rounds of a form are read rightly where each round is.
use Rattle.std.proofs.Common.{◌≡◌, ℕ, zero, suc, ◌+◌, ◌<◌, ◌≤◌, Bool, true, false, List, [], ◌∷◌, ◌++◌, length, Option, Some, None, Result, Ok, Err, refl, sym, ap, subst, ◌∙◌, append_assoc, append-nil, arith, length-append, ◌⊎◌, inl, inr}
use Rattle.std.specs.Prelude.{if◌then◌else◌}
use Rattle.source_combinators.specs.declared.fault.Fault.{Fault}
use Rattle.source_combinators.specs.Reading.{Read, ◌>>=◌, given, refused, head_of}
use Rattle.source_combinators.specs.Many.{many, rounds}
use Rattle.source_combinators.proofs.Right.{alike, Found, Goes_on, Stuck, Right, chosen, IsSequence, sequence}

-- reading a round leaves fewer tokens
abbrev pub Shrinks : {T S : Type 0} → (S → Option T → Bool) → (S → List T → Read T S) → Type 0
Shrinks {T} {S} begins reads = (s : S) (ts : List T) (x : S × List T) → begins s (head_of ts) ≡ true → reads s ts ≡ Ok x → length x.1 < length ts

-- What a form has to be for rounds of it. `IsAll` is what rounds in a row spell.
pub record IsRounds {T S : Type 0} (begins : S → Option T → Bool) (reads : S → List T → Read T S) (IsRound IsAll : S → ℕ → List T → S → Type 0) (room : ℕ) : Type 0 where
  pub right : (s : S) (ts : List T) → begins s (head_of ts) ≡ true → Right (reads s) (IsRound s) room ts (reads s ts)
  pub takes : (s t : S) (ts : List T) → IsRound s room ts t → 0 < length ts
  pub grows : (n : ℕ) (s t : S) (ts : List T) → IsRound s n ts t → IsRound s (suc n) ts t
  pub none : (n : ℕ) (s : S) → IsAll s n [] s
  pub more : (n : ℕ) (s t u : S) (xs ys : List T) → IsRound s n xs t → IsAll t n ys u → IsAll s n (xs ++ ys) u

decided : (b : Bool) → (b ≡ true) ⊎ (b ≡ false)
decided true = inl refl
decided false = inr refl

module _ {T S : Type 0} (begins : S → Option T → Bool) (reads : S → List T → Read T S) where
  more_enough : (n m : ℕ) (ts : List T) (r : Read T S) → ((x : S × List T) → r ≡ Ok x → length x.1 < length ts) → length ts ≤ n → length ts ≤ m → ((t : S) (us : List T) → length us < n → length us < m → many begins reads n t us ≡ many begins reads m t us) → (r >>= λ x. many begins reads n x.0 x.1) ≡ (r >>= λ x. many begins reads m x.0 x.1)
  more_enough n m ts (Ok x) f h k ih =
      let less : length x.1 < length ts = f x refl in
      ih x.0 x.1 (omega arith) (omega arith)
  more_enough n m ts (Err fault) f h k ih = refl

  -- where a round begins
  once : (n : ℕ) (s : S) (ts : List T) → begins s (head_of ts) ≡ true → many begins reads (suc n) s ts ≡ (reads s ts >>= λ x. many begins reads n x.0 x.1)
  unfolding many
  once n s ts e = rw e refl

  -- where none does
  pub stopped : (n : ℕ) (s : S) (ts : List T) → begins s (head_of ts) ≡ false → many begins reads (suc n) s ts ≡ given s ts
  unfolding many
  stopped n s ts e = rw e refl

  -- how many rounds may be read makes no difference, where there are fewer tokens
  pub enough : Shrinks begins reads → (n m : ℕ) (s : S) (ts : List T) → length ts < n → length ts < m → many begins reads n s ts ≡ many begins reads m s ts
  enough f zero m s ts h k = absurd (omega arith)
  enough f (suc n) zero s ts h k = absurd (omega arith)
  enough f (suc n) (suc m) s ts h k =
      elim (decided (begins s (head_of ts))) [
        | inl e ↦ once n s ts e ∙ more_enough n m ts (reads s ts) (λ x r. f s ts x e r) (omega arith) (omega arith) (λ t us p q. enough f n m t us p q) ∙ sym (once m s ts e)
        | inr e ↦ stopped n s ts e ∙ sym (stopped m s ts e)
      ]

  after_once : Shrinks begins reads → (s : S) (ts : List T) (r : Read T S) → begins s (head_of ts) ≡ true → reads s ts ≡ r → (r >>= λ x. many begins reads (length ts) x.0 x.1) ≡ (r >>= λ x. rounds begins reads x.0 x.1)
  after_once f s ts (Ok x) e r =
      let less : length x.1 < length ts = f s ts x e r in
      enough f (length ts) (suc (length x.1)) x.0 x.1 (omega arith) (omega arith)
  after_once f s ts (Err fault) e r = refl

  -- a round, and then the others
  pub one_round : Shrinks begins reads → (s : S) (ts : List T) → begins s (head_of ts) ≡ true → rounds begins reads s ts ≡ (reads s ts >>= λ x. rounds begins reads x.0 x.1)
  one_round f s ts e = once (length ts) s ts e ∙ after_once f s ts (reads s ts) e refl

  -- a round that is known, and then the others
  pub round_read : Shrinks begins reads → (s t : S) (ts us : List T) → begins s (head_of ts) ≡ true → reads s ts ≡ given t us → rounds begins reads s ts ≡ rounds begins reads t us
  round_read f s t ts us e r = one_round f s ts e ∙ rw r refl

-- the value and what is left, one after the other
pub bind_pair : {T A : Type 0} (r : Read T A) → r ≡ (r >>= λ y. given y.0 y.1)
bind_pair (Ok y) = refl
bind_pair (Err fault) = refl

pub bind_pairs : {T A B : Type 0} (r : Read T A) (g : A × List T → Read T B) → (r >>= g) ≡ (r >>= λ x. g x >>= λ y. given y.0 y.1)
bind_pairs (Ok x) g = bind_pair (g x)
bind_pairs (Err fault) g = refl

module _ {T S : Type 0} {begins : S → Option T → Bool} {reads : S → List T → Read T S} {IsRound IsAll : S → ℕ → List T → S → Type 0} {room : ℕ} (form : IsRounds begins reads IsRound IsAll room) where
  pub shrinks : Shrinks begins reads
  shrinks s ts x e r =
      let found : Found (reads s) (IsRound s) room ts x.0 x.1 = subst (Right (reads s) (IsRound s) room ts) r (form.right s ts e) in
      omega (arith, ap length found.parts ∙ length-append found.front x.1, form.takes s x.0 found.front found.spelled)

  -- a round, and then the others
  goes_on : S → List T → Read T S
  goes_on s ts = reads s ts >>= λ x. rounds begins reads x.0 x.1

  go_sequence : (s : S) → IsSequence [] (reads s) (IsRound s) (λ t. rounds begins reads t) (λ t. IsAll t) (λ t u. u) (goes_on s) (IsAll s)
  unfolding goes_on
  go_sequence s = record {
    computes = λ ts. bind_pairs (reads s ts) (λ x. rounds begins reads x.0 x.1);
    builds = λ n xs ys t u h k. form.more n s t u xs ys h k;
    grows = λ n xs t h. form.grows n s t xs h;
    finishes = λ n t. record { more = []; value = t; spelled = form.none n t };
  }

  as_goes_on : (s : S) (ts : List T) → begins s (head_of ts) ≡ true → rounds begins reads s ts ≡ goes_on s ts
  unfolding goes_on
  as_goes_on s ts e = one_round begins reads shrinks s ts e

  none_begun : (s : S) (ts : List T) → begins s (head_of ts) ≡ false → Found (rounds begins reads s) (IsAll s) room ts s ts
  none_begun s ts e = record { front = []; parts = refl; spelled = form.none room s; again = λ more h. stopped begins reads (length more) s more (ap (begins s) h ∙ e) }

  behind : (s t : S) (ts rest : List T) → Found (reads s) (IsRound s) room ts t rest → length rest < length ts
  behind s t ts rest k = omega (arith, ap length k.parts ∙ length-append k.front rest, form.takes s t k.front k.spelled)

  right_from : (n : ℕ) (s : S) (ts : List T) → length ts < n → Right (rounds begins reads s) (IsAll s) room ts (rounds begins reads s ts)
  unfolding goes_on
  right_from zero s ts h = absurd (omega arith)
  right_from (suc n) s ts h =
      elim (decided (begins s (head_of ts))) [
        | inr e ↦ subst (Right (rounds begins reads s) (IsAll s) room ts) (sym (stopped begins reads (length ts) s ts e)) (none_begun s ts e)
        | inl e ↦
            subst (Right (rounds begins reads s) (IsAll s) room ts) (sym (as_goes_on s ts e))
            (chosen (goes_on s) (rounds begins reads s) (IsAll s) (IsAll s) room ts (goes_on s ts)
            (λ us q. as_goes_on s us (ap (begins s) q ∙ e))
            (λ k xs t q. q)
            (sequence (go_sequence s) room ts (form.right s ts e) (λ t rest k. right_from n t rest (omega (arith, behind s t ts rest k)))))
      ]

  pub right_many : (s : S) (ts : List T) → Right (rounds begins reads s) (IsAll s) room ts (rounds begins reads s ts)
  right_many s ts = right_from (suc (length ts)) s ts (omega arith)
