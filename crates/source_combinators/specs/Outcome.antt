-- What code answers, beside what reading gives.
use Rattle.std.specs.Prelude.{◌≡◌, ℕ, ◌<◌, ◌≤◌, List, length, Result, Ok, Err, IfOk, MatchResult}
use Rattle.std.specs.Borrow.{Bor}
use Rattle.source_combinators.specs.declared.fault.ReadError.{ReadError}
use Rattle.source_combinators.specs.declared.fault.ReadError.TheVariants.{NoMemory, Refused}
use Rattle.source_combinators.specs.declared.fault.Fault.{Fault}
use Rattle.source_combinators.specs.Reading.{Read}

-- the error is what reading gives, unless memory ran out
abbrev pub Fails : {B : Type 0} → ReadError → Result B Fault → Type 0
Fails NoMemory read = Unit {0}
Fails (Refused fault) read = read ≡ Err fault

-- the result is what reading gives, seen through view, unless memory ran out
abbrev pub Gives : {A B : Type 0} → (A → B) → Result A ReadError → Result B Fault → Type 0
Gives view r read = MatchResult r (λ a. read ≡ Ok (view a)) (λ e. Fails e read)

-- the same of a value and the tokens after it
abbrev pub GivesAt : {T A B : Type 0} → (A → B) → Result (A × Bor (List T)) ReadError → Read T B → Type 0
GivesAt view r read = Gives (λ p. (view p.0, p.1.now)) r read

-- the same where only the tokens after it are answered
abbrev pub GivesRest : {T : Type 0} → Result (Bor (List T)) ReadError → Read T (Unit {0}) → Type 0
GivesRest r read = Gives (λ rest. (tt, rest.now)) r read

-- fewer tokens are left
abbrev pub Shortens : {T A : Type 0} → List T → Result (A × Bor (List T)) ReadError → Type 0
Shortens tokens r = IfOk r (λ p. length p.1.now < length tokens)

-- no more tokens are left
abbrev pub StaysWithin : {T A : Type 0} → List T → Result (A × Bor (List T)) ReadError → Type 0
StaysWithin tokens r = IfOk r (λ p. length p.1.now ≤ length tokens)
