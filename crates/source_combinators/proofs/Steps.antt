-- Readers of a single token.
use Rattle.std.proofs.Common.{◌≡◌, ℕ, zero, suc, List, [], ◌∷◌, ◌++◌, length, Option, Some, None, Result, Ok, Err, refl, sym, ap, subst, ◌∙◌}
use Rattle.source_combinators.specs.declared.fault.Refusal.TheVariants.{TooDeep, Syntax}
use Rattle.source_combinators.specs.declared.fault.Fault.{Fault}
use Rattle.source_combinators.specs.Reading.{Read, ◌>>=◌, given, refused, head_of}
use Rattle.source_combinators.proofs.Right.{at_head, at_end, Found, Goes_on, Stuck, Right, refuses, refuses_end}

-- nothing is read
abbrev pub nothing : {T : Type 0} → List T → Read T (Unit {0})
nothing ts = given tt ts

abbrev pub IsNothing : {T : Type 0} → ℕ → List T → Unit {0} → Type 0
IsNothing room ts u = ts ≡ []

pub nothing_right : {T : Type 0} (room : ℕ) (ts : List T) → Right nothing IsNothing room ts (nothing ts)
nothing_right room ts = record { front = []; parts = refl; spelled = refl; again = λ more e. refl }

pub nothing_goes_on : {T : Type 0} (room : ℕ) → Goes_on {T = T} IsNothing room []
nothing_goes_on room = record { more = []; value = tt; spelled = refl }

-- this token stands there
abbrev pub IsToken : {T : Type 0} → T → ℕ → List T → Unit {0} → Type 0
IsToken t room ts u = ts ≡ t ∷ []

pub token_goes_on : {T : Type 0} (t : T) (room : ℕ) → Goes_on (IsToken t) room []
token_goes_on t room = record { more = t ∷ []; value = tt; spelled = refl }

pub token_there : {T : Type 0} (F : List T → Read T (Unit {0})) (t : T) (room : ℕ) (ts : List T) → ((tail : List T) → F (t ∷ tail) ≡ given tt tail) → Found F (IsToken t) room (t ∷ ts) tt ts
token_there F t room ts f = record { front = t ∷ []; parts = refl; spelled = refl; again = λ more e. f more }

pub token_missing : {T : Type 0} (F : List T → Read T (Unit {0})) (t u : T) (room : ℕ) (ts : List T) → ((tail : List T) → F (u ∷ tail) ≡ refused (u ∷ tail)) → Stuck F (IsToken t) room (u ∷ ts) (record { kind = Syntax; left = length (u ∷ ts) })
token_missing F t u room ts f = refuses F (IsToken t) room u ts (token_goes_on t room) f

pub token_cut : {T : Type 0} (F : List T → Read T (Unit {0})) (t : T) (room : ℕ) → F [] ≡ refused [] → Stuck F (IsToken t) room [] (record { kind = Syntax; left = 0 })
token_cut F t room f = refuses_end F (IsToken t) room (token_goes_on t room) f

-- no token is read where the one ahead says so
pub none_read : {T A : Type 0} (F : List T → Read T A) (Is : ℕ → List T → A → Type 0) (room : ℕ) (a : A) (t : T) (ts : List T) → Is room [] a → ((tail : List T) → F (t ∷ tail) ≡ given a (t ∷ tail)) → Found F Is room (t ∷ ts) a (t ∷ ts)
none_read F Is room a t ts h f = record { front = []; parts = refl; spelled = h; again = λ more e. at_head (λ m. F m ≡ given a m) t more e f }

pub none_at_end : {T A : Type 0} (F : List T → Read T A) (Is : ℕ → List T → A → Type 0) (room : ℕ) (a : A) → Is room [] a → F [] ≡ given a [] → Found F Is room [] a []
none_at_end F Is room a h f = record { front = []; parts = refl; spelled = h; again = λ more e. at_end (λ m. F m ≡ given a m) more e f }

-- one token is read, whatever follows
pub one_read : {T A : Type 0} (F : List T → Read T A) (Is : ℕ → List T → A → Type 0) (room : ℕ) (a : A) (t : T) (ts : List T) → Is room (t ∷ []) a → ((tail : List T) → F (t ∷ tail) ≡ given a tail) → Found F Is room (t ∷ ts) a ts
one_read F Is room a t ts h f = record { front = t ∷ []; parts = refl; spelled = h; again = λ more e. f more }
