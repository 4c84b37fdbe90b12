-- Steps of loops.
use Rattle.std.proofs.Common.{◌≡◌, ℕ, zero, suc, ◌-◌, ◌<◌, List, [], ◌∷◌, ◌++◌, length, Result, Ok, Err, refl, sym, ◌∙◌, arith, append_assoc}
use Rattle.py_lexer.specs.declared.error.Fault.{Fault}
use Rattle.py_lexer.specs.declared.word.Tok.TheVariants.{Dedent}
use Rattle.py_lexer.specs.declared.word.Token.{Token}
use Rattle.py_lexer.specs.TokenList.{Outcome, dedents, mark}
use Rattle.py_lexer.specs.Reading.{State, step, scan, start, first_state, scan_text}
use Rattle.py_lexer.specs.declared.error.ScanError.{ScanError}
use Rattle.py_lexer.specs.declared.error.ScanError.TheVariants.{NoMemory, Refused}
use Rattle.py_lexer.specs.Scanning.{Stops}

pub dedent_more : (old new : List Token) (n line : ℕ) (target : List Token) → 0 < n → new ≡ old ++ record { kind = Dedent; line = line } ∷ [] → old ++ dedents n line ≡ target → new ++ dedents (n - 1) line ≡ target
dedent_more old new zero line target h p e = absurd (omega arith)
dedent_more old new (suc n) line target h p e =
    let less : suc n - 1 ≡ n = omega arith in
    rw (less, p) (append_assoc old (mark Dedent line) (dedents n line) ∙ e)

pub scan_more : (n : ℕ) (s t : State) (cs after : List ℕ) (target : Outcome) → length cs < n → 0 < length cs → step s cs ≡ Ok (t, after) → scan n s cs ≡ target → scan (n - 1) t after ≡ target
unfolding scan
scan_more zero s t cs after target h k p e = absurd (omega arith)
scan_more (suc n) s t [] after target h k p e = absurd (omega arith)
scan_more (suc n) s t (c ∷ cs) after target h k p e =
    let less : suc n - 1 ≡ n = omega arith in
    rw less (sym (rw p refl) ∙ e)

pub scan_stops : (n : ℕ) (s : State) (cs : List ℕ) (fault : Fault) (target : Outcome) → length cs < n → 0 < length cs → step s cs ≡ Err fault → scan n s cs ≡ target → target ≡ Err fault
unfolding scan
scan_stops zero s cs fault target h k p e = absurd (omega arith)
scan_stops (suc n) s [] fault target h k p e = absurd (omega arith)
scan_stops (suc n) s (c ∷ cs) fault target h k p e = sym e ∙ rw p refl

pub error_stops : (n : ℕ) (s : State) (cs : List ℕ) (error : ScanError) (target : Outcome) → length cs < n → 0 < length cs → Stops error (step s cs) → scan n s cs ≡ target → Stops error target
error_stops n s cs NoMemory target h k p e = tt
error_stops n s cs (Refused fault) target h k p e = scan_stops n s cs fault target h k p e

pub scan_begins : (r : Result State Fault) (s t : State) (cs after : List ℕ) → r ≡ Ok first_state → r ≡ Ok s → start s cs ≡ (t, after) → (n : ℕ) × (length after < n) × (scan n t after ≡ scan_text cs)
unfolding scan_text
scan_begins r s t cs after o p e =
    let same : first_state ≡ s = cc in
    (suc (length after), omega arith, rw (same, e) refl)
