-- One more round of a form, where code has read some of them.
use Rattle.std.proofs.Common.{◌≡◌, ℕ, zero, suc, ◌<◌, Bool, true, List, length, Option, Ok, Err, sym, ◌∙◌, arith}
use Rattle.source_combinators.specs.declared.fault.Fault.{Fault}
use Rattle.source_combinators.specs.declared.fault.ReadError.{ReadError}
use Rattle.source_combinators.specs.declared.fault.ReadError.TheVariants.{NoMemory, Refused}
use Rattle.source_combinators.specs.Reading.{Read, ◌>>=◌, head_of}
use Rattle.source_combinators.specs.Many.{many}
use Rattle.source_combinators.specs.Outcome.{Fails}

module _ {T S : Type 0} (begins : S → Option T → Bool) (reads : S → List T → Read T S) where
  -- the rounds behind one that was read come to the same
  pub round_read : (n : ℕ) (s t : S) (ts us : List T) (all : Read T S) → length ts < n → many begins reads n s ts ≡ all → begins s (head_of ts) ≡ true → reads s ts ≡ Ok (t, us) → length us < length ts → (m : ℕ) × (length us < m) × (many begins reads m t us ≡ all)
  unfolding many
  round_read zero s t ts us all h k e r less = absurd (omega arith)
  round_read (suc n) s t ts us all h k e r less = (n, omega arith, rw (e, r) at k)

  round_refused : (n : ℕ) (s : S) (ts : List T) (all : Read T S) (fault : Fault) → length ts < n → many begins reads n s ts ≡ all → begins s (head_of ts) ≡ true → reads s ts ≡ Err fault → all ≡ Err fault
  unfolding many
  round_refused zero s ts all fault h k e r = absurd (omega arith)
  round_refused (suc n) s ts all fault h k e r = sym (rw (e, r) at k)

  -- where a round is refused, all of them are
  pub round_fails : (n : ℕ) (s : S) (ts : List T) (all : Read T S) (e : ReadError) → length ts < n → many begins reads n s ts ≡ all → begins s (head_of ts) ≡ true → Fails e (reads s ts) → Fails e all
  round_fails n s ts all NoMemory h k b f = tt
  round_fails n s ts all (Refused fault) h k b f = round_refused n s ts all fault h k b f
