-- Reading from left to right, with the cause of the first refused field.
use Rattle.std.specs.Prelude.{◌≡◌, ℕ, List, [], ◌∷◌, Bool, true, false, Option, Result, Ok, Err}
use Rattle.std.specs.Option.{ok_or}
use Rattle.trace_fields.specs.declared.refusal.Cause.{Cause}
use Rattle.trace_fields.specs.declared.refusal.Cause.TheVariants as cause
use Rattle.trace_fields.specs.declared.refusal.Refusal.{Refusal}
use Rattle.trace_fields.specs.declared.refusal.Refusal.TheVariants as refusal

-- the fields that are not read yet, from left to right
abbrev pub Fields : Type 0
Fields = List (List ℕ)

infixl 10 ◌>>=◌
-- reading goes on with what was read; the first refused field ends it, and its cause stays
abbrev pub ◌>>=◌ : {A B : Type 0} → Result A Cause → (A → Result B Cause) → Result B Cause
(Ok x) >>= f = f x
(Err e) >>= f = Err e

-- what a function refused, unless memory ran out
abbrev pub Fails : {Y : Type 0} → Refusal → Result Y Cause → Type 0
Fails refusal.NoMemory read = Unit {0}
Fails (refusal.Cause c) read = read ≡ Err c

-- what a function returned, seen by view, is what reading gives, unless memory ran out
abbrev pub Gives : {X Y : Type 0} → (X → Y) → Result X Refusal → Result Y Cause → Type 0
Gives view (Ok x) read = read ≡ Ok (view x)
Gives view (Err e) read = Fails e read

-- the first field and those behind it
abbrev pub first : Fields → Result (List ℕ × Fields) Cause
first [] = Err cause.Fields
first (field ∷ fields) = Ok (field, fields)

-- what the first field holds by `read`, and the fields behind it; where it holds nothing, the cause
abbrev pub taken : {X : Type 0} → Cause → (List ℕ → Option X) → Fields → Result (X × Fields) Cause
taken why read fields = first fields >>= λ f. ok_or (read f.0) why >>= λ x. Ok (x, f.1)
