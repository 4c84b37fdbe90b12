-- Rounds of a form, as long as the token ahead begins one: `{
-- .. }` of a grammar. A round may go by what was read before.
use Rattle.std.specs.Prelude.{ℕ, zero, suc, Bool, List, length, Option, if◌then◌else◌}
use Rattle.source_combinators.specs.Reading.{Read, ◌>>=◌, given, refused, head_of}

-- fewer than n rounds after s
unfoldable pub many : {T S : Type 0} → (S → Option T → Bool) → (S → List T → Read T S) → ℕ → S → List T → Read T S
many begins reads zero s ts = refused ts
many begins reads (suc n) s ts = if begins s (head_of ts) then (reads s ts >>= λ x. many begins reads n x.0 x.1) else given s ts

-- as many rounds as there are
abbrev pub rounds : {T S : Type 0} → (S → Option T → Bool) → (S → List T → Read T S) → S → List T → Read T S
rounds begins reads s ts = many begins reads (suc (length ts)) s ts
