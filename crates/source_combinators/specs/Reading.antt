-- Reading by descent: a value and the tokens after it, or the first refusal with how many tokens are left from it on.
use Rattle.std.specs.Prelude.{ℕ, List, [], ◌∷◌, length, Option, Some, None, Result, Ok, Err}
use Rattle.source_combinators.specs.declared.fault.Refusal.TheVariants.{TooDeep, Syntax}
use Rattle.source_combinators.specs.declared.fault.Fault.{Fault}

-- what is read from the front of tokens, and the tokens after it, or the refusal
abbrev pub Read : Type 0 → Type 0 → Type 0
Read T A = Result (A × List T) Fault

infixl 10 ◌>>=◌
-- what comes next is read behind what was read; the first refusal is that of the whole
abbrev pub ◌>>=◌ : {A B : Type 0} → Result A Fault → (A → Result B Fault) → Result B Fault
(Ok x) >>= f = f x
(Err e) >>= f = Err e

-- this value is read, of no tokens
abbrev pub given : {T A : Type 0} → A → List T → Read T A
given a ts = Ok (a, ts)

-- the first of these tokens is refused
abbrev pub refused : {T A : Type 0} → List T → Read T A
refused ts = Err (record { kind = Syntax; left = length ts })

-- the first of these tokens opens one level too many
abbrev pub too_deep : {T A : Type 0} → List T → Read T A
too_deep ts = Err (record { kind = TooDeep; left = length ts })

-- the token ahead
abbrev pub head_of : {T : Type 0} → List T → Option T
head_of [] = None
head_of (t ∷ ts) = Some t
