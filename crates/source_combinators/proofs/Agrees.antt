-- With one more level the same is read, unless a token was too deep.
use Rattle.std.proofs.Common.{◌≡◌, ℕ, zero, suc, Bool, true, false, List, [], ◌∷◌, length, Option, Result, Ok, Err, refl, subst, sym}
use Rattle.std.specs.Prelude.{if◌then◌else◌}
use Rattle.source_combinators.specs.declared.fault.Refusal.TheVariants.{TooDeep, Syntax}
use Rattle.source_combinators.specs.declared.fault.Fault.{Fault}
use Rattle.source_combinators.specs.Reading.{Read, ◌>>=◌, given, refused, head_of}
use Rattle.source_combinators.specs.Many.{many}

abbrev pub Agrees : {A : Type 0} → Result A Fault → Result A Fault → Type 0
Agrees (Ok x) r = r ≡ Ok x
Agrees (Err fault) r = ¬ (fault.kind ≡ TooDeep) → r ≡ Err fault

pub same : {A : Type 0} (r : Result A Fault) → Agrees r r
same (Ok x) = refl
same (Err fault) = λ k. refl

pub agree : {A B : Type 0} (r s : Result A Fault) (g h : A → Result B Fault) → Agrees r s → ((x : A) → Agrees (g x) (h x)) → Agrees (r >>= g) (s >>= h)
agree {A} {B} (Ok x) s g h e f = subst (λ (v : Result A Fault). Agrees (g x) (v >>= h)) (sym e) (f x)
agree (Err fault) s g h e f = λ k. rw (e k) refl

pub agree_then : {A : Type 0} (r s u : Result A Fault) → Agrees r s → Agrees s u → Agrees r u
agree_then (Ok x) s u e f = subst (λ (v : Result _ Fault). Agrees v u) e f
agree_then (Err fault) s u e f = λ k. subst (λ (v : Result _ Fault). Agrees v u) (e k) f k

-- two readers, the second with one more level
abbrev pub AllAgree : {T A : Type 0} → (List T → Read T A) → (List T → Read T A) → Type 0
AllAgree {T} F G = (ts : List T) → Agrees (F ts) (G ts)

agree_if : {T S : Type 0} (b : Bool) (s : S) (ts : List T) (q r : Read T S) → Agrees q r → Agrees (if b then q else given s ts) (if b then r else given s ts)
agree_if true s ts q r h = h
agree_if false s ts q r h = refl

pub agree_many : {T S : Type 0} (begins : S → Option T → Bool) (reads others : S → List T → Read T S) → ((s : S) → AllAgree (reads s) (others s)) → (n : ℕ) (s : S) (ts : List T) → Agrees (many begins reads n s ts) (many begins others n s ts)
unfolding many
agree_many begins reads others h zero s ts = λ k. refl
agree_many begins reads others h (suc n) s ts =
    agree_if (begins s (head_of ts)) s ts (reads s ts >>= λ x. many begins reads n x.0 x.1) (others s ts >>= λ x. many begins others n x.0 x.1)
    (agree (reads s ts) (others s ts) _ _ (h s ts) (λ x. agree_many begins reads others h n x.0 x.1))
