-- What reading promises of a script, in terms of the grammar. Nothing is left behind one.
use Rattle.std.proofs.Common.{◌≡◌, ℕ, List, [], ◌∷◌, ◌++◌, Result, Ok, Err, refl, sym, ap, subst, ◌∙◌, append-nil}
use Rattle.std.specs.Prelude.{IfOk}
use Rattle.std.specs.Borrow.{Bor}
use Rattle.source_combinators.specs.declared.fault.Fault.{Fault}
use Rattle.source_combinators.specs.declared.fault.ReadError.{ReadError}
use Rattle.source_combinators.specs.declared.fault.ReadError.TheVariants.{NoMemory, Refused}
use Rattle.source_combinators.specs.Reading.{Read, ◌>>=◌, given}
use Rattle.source_combinators.specs.Outcome.{Gives, GivesAt}
use Rattle.source_combinators.specs.Refusals.{IsFront, IsFirstRefused}
use Rattle.source_combinators.proofs.Theorem.{sound, gives_refused}
use Rattle.py_syntax.specs.declared.lexeme.Lexeme.{Lexeme}
use Rattle.py_syntax.specs.declared.lexeme.Lexeme.TheVariants as token
use Rattle.py_syntax.specs.declared.stmt.Script.{Script}
use Rattle.py_syntax.specs.Grammar.{Spells}
use Rattle.source_spec_statements.specs.Reading.{Stmts, end, script}
use Rattle.source_spec_statements.proofs.Whole.{script_reader}
use Rattle.source_spec_statements.proofs.Complete.{complete_script}
use Rattle.source_parse_statements.specs.Views.{without_rest}

abbrev left_of : Read Lexeme Script → List Lexeme
left_of (Ok x) = x.1
left_of (Err fault) = []

-- the value that was read, or the other one
abbrev value_of : Script → Read Lexeme Script → Result Script Fault
value_of other (Ok x) = Ok x.0
value_of other (Err fault) = Ok other

then_end : (b s : Script) (us rest : List Lexeme) → (end us >>= λ u. given b u.1) ≡ given s rest → rest ≡ []
unfolding end
then_end b s [] rest h = absurd cc
then_end b s (token.End ∷ []) rest h = sym (ap left_of h)
then_end b s (token.End ∷ t ∷ ts) rest h = absurd cc
then_end b s (t ∷ ts) rest h = absurd cc

abbrev script_of : Stmts → Script
script_of s = record { body = s.0 }

ends_there : (x : Read Lexeme Stmts) (s : Script) (rest : List Lexeme) → (x >>= λ a. end a.1 >>= λ u. given (script_of a.0) u.1) ≡ given s rest → rest ≡ []
ends_there (Ok a) s rest h = then_end (script_of a.0) s a.1 rest h
ends_there (Err fault) s rest h = absurd cc

leaves_nothing : (room : ℕ) (ts rest : List Lexeme) (s : Script) → script room ts ≡ given s rest → rest ≡ []
unfolding script
leaves_nothing room ts rest s h = ends_there _ s rest h

abbrev Read_script : Type 0
Read_script = Result (Script × Bor (List Lexeme)) ReadError

pub is_spelled : (room : ℕ) (ts rest : List Lexeme) (s : Script) → script room ts ≡ given s rest → Spells room ts s
is_spelled room ts rest s h =
    let front : IsFront Spells room ts s rest = sound script Spells script_reader room ts s rest h in
    let whole : ts ≡ front.front = front.parts ∙ ap (λ (l : List Lexeme). front.front ++ l) (leaves_nothing room ts rest s h) ∙ append-nil front.front in
    subst (λ (l : List Lexeme). Spells room l s) (sym whole) front.spelled

spelled_of : (room : ℕ) (ts : List Lexeme) (r : Read_script) → GivesAt (λ x. x) r (script room ts) → IfOk (without_rest r) (λ s. Spells room ts s)
spelled_of room ts (Ok p) h = is_spelled room ts p.1.now p.0 h
spelled_of room ts (Err e) h = tt

only_of : (room : ℕ) (ts : List Lexeme) (r : Read_script) (s : Script) → GivesAt (λ x. x) r (given s []) → Gives (λ x. x) (without_rest r) (Ok s)
only_of room ts (Ok p) s h = ap (λ (q : Read Lexeme Script). value_of p.0 q) h
only_of room ts (Err NoMemory) s h = tt
only_of room ts (Err (Refused fault)) s h = absurd cc

pub script_spelled : (room : ℕ) (ts : List Lexeme) (r : Read_script) (q : Result Script ReadError) → q ≡ without_rest r → GivesAt (λ x. x) r (script room ts) → IfOk q (λ s. Spells room ts s)
script_spelled room ts r q e h = subst (λ (k : Result Script ReadError). IfOk k (λ s. Spells room ts s)) (sym e) (spelled_of room ts r h)

pub script_only : (room : ℕ) (ts : List Lexeme) (r : Read_script) (q : Result Script ReadError) (s : Script) → q ≡ without_rest r → GivesAt (λ x. x) r (script room ts) → Spells room ts s → Gives (λ x. x) q (Ok s)
script_only room ts r q s e h k =
    subst (λ (j : Result Script ReadError). Gives (λ x. x) j (Ok s)) (sym e) (only_of room ts r s (subst (λ (j : Read Lexeme Script). GivesAt (λ x. x) r j) (complete_script room ts s k) h))

was_refused : (r : Read_script) (fault : Fault) → without_rest r ≡ Err (Refused fault) → r ≡ Err (Refused fault)
was_refused (Ok p) fault e = absurd cc
was_refused (Err f) fault e = let k : f ≡ Refused fault = cc in ap (λ (g : ReadError). Err g) k

pub script_refused : (room : ℕ) (ts : List Lexeme) (r : Read_script) (q : Result Script ReadError) (fault : Fault) → q ≡ without_rest r → GivesAt (λ x. x) r (script room ts) → q ≡ Err (Refused fault) → IsFirstRefused Spells room ts fault
script_refused room ts r q fault e h k = gives_refused script Spells script_reader room ts r fault h (was_refused r fault (sym e ∙ k))
