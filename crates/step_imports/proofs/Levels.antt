-- Relative names.
use Rattle.std.proofs.Common.{◌≡◌, ◌∙◌, ◌↔◌, refl, sym, ap, ℕ, zero, suc, ◌-◌, ◌<◌, ◌==◌, nat_lt, List, [], ◌∷◌, length, Option, Some, None, Bool, true, false, not, IsTrue, Result, Ok, Err, arith, if◌then◌else◌}
use Rattle.std.proofs.lemmas.Bool.Decides.{nat_tests}
use Rattle.std.proofs.lemmas.List.Splits.{length-slice_split}
use Rattle.spec_core.specs.Identifiers.{is_dotted}
use Rattle.spec_core.specs.Names.{parts}
use Rattle.spec_core.specs.Relative.{Resolves, resolved, followed, front_parts}
use Rattle.spec_core.specs.declared.relative.RelativeError.{RelativeError}
use Rattle.spec_core.specs.declared.relative.RelativeError.TheVariants.{NoParent, BeyondTop, NoMemory}
use Rattle.py_syntax.specs.declared.stmt.Branch.{Branch}
use Rattle.py_syntax.specs.declared.stmt.FuncDef.{FuncDef}
use Rattle.py_syntax.specs.declared.stmt.Handler.{Handler}
use Rattle.py_syntax.specs.declared.stmt.ImportedNames.{ImportedNames}
use Rattle.py_syntax.specs.declared.stmt.Stmt.{Stmt, out-Stmt}
use Rattle.py_syntax.specs.declared.stmt.Stmt.TheOpen.{Stmt-F}
use Rattle.meaning_state.specs.declared.fault.Fault.TheVariants as fault
use Rattle.meaning_state.specs.declared.thread.State.{State}
use Rattle.py_frames.specs.Does.{from_at, from_some}
use Rattle.step_imports.specs.Parts.{from_layer, from_of}
use Rattle.meaning_script.specs.Pieces.{Onward, fails}
use Rattle.meaning_script.specs.Operators.{Around}
use Rattle.meaning_script.specs.ImportStatements.{dotted_name, optional_name, from_import}

below_one : (n : ℕ) → 0 < n → nat_lt n 1 ≡ nat_lt n 0
below_one zero h = absurd (omega (arith, h))
below_one (suc n) h = grind (arith, nat_tests)

-- no dot means what one dot means
pub level_zero : (p x : Option (List ℕ)) → resolved p 1 x ≡ resolved p 0 x
level_zero None x = refl
level_zero (Some base) x =
    let some : 0 < length (parts base) = omega (arith, length-slice_split (λ b. b == 46) base) in
    rw (below_one (length (parts base)) some) refl

-- a name behind what is meant without one
abbrev pub with_name : Result (List ℕ) RelativeError → Option (List ℕ) → Result (List ℕ) RelativeError
with_name (Ok base) x = Ok (followed base x)
with_name (Err e) x = Err e

named_by : (b c : Bool) (base : List ℕ) (x : Option (List ℕ))
    → (if b then Err NoParent else if c then Err BeyondTop else Ok (followed base x)) ≡ with_name (if b then Err NoParent else if c then Err BeyondTop else Ok base) x
named_by true c base x = refl
named_by false true base x = refl
named_by false false base x = refl

pub resolved_named : (p : Option (List ℕ)) (level : ℕ) (x : Option (List ℕ)) → resolved p level x ≡ with_name (resolved p level None) x
resolved_named None level x = refl
resolved_named (Some base) level x =
    named_by (not (is_dotted base)) (nat_lt (length (parts base)) level) (front_parts (length (parts base) - (level - 1)) base) x

pub meant_err : (p x : Option (List ℕ)) (level dots : ℕ) (e : RelativeError) → resolved p level x ≡ resolved p dots x
    → Resolves (resolved p level None) (Err e) → Resolves (resolved p dots x) (Err e)
meant_err p x level dots NoParent same h = sym same ∙ resolved_named p level x ∙ ap (λ (r : Result (List ℕ) RelativeError). with_name r x) h
meant_err p x level dots BeyondTop same h = sym same ∙ resolved_named p level x ∙ ap (λ (r : Result (List ℕ) RelativeError). with_name r x) h
meant_err p x level dots NoMemory same h = tt

pub meant_ok : (p x : Option (List ℕ)) (level dots : ℕ) (base name : List ℕ) → resolved p level x ≡ resolved p dots x
    → resolved p level None ≡ Ok base → name ≡ followed base x → resolved p dots x ≡ Ok name
meant_ok p x level dots base name same h is =
    sym same ∙ resolved_named p level x ∙ ap (λ (r : Result (List ℕ) RelativeError). with_name r x) h ∙ ap (λ (n : List ℕ). Ok n) (sym is)

pub named : (r : Bool) (xs : List (List ℕ)) → (IsTrue r ↔ (xs ≡ [])) → r ≡ false → optional_name xs ≡ Some (dotted_name xs)
named r [] h bare =
    let yes : r ≡ true = h.1 refl in
    absurd cc
named r (x ∷ xs) h bare = refl

-- ---- what a `from` statement says

from_other : (a : Around) (layer : Stmt-F Stmt Branch FuncDef Handler) (s : State) (k : Onward) → from_layer layer ≡ None → fails fault.NotInProfile s k ≡ from_at a layer s k
from_other a (Stmt-F.From dots parts names) s k h = absurd cc
from_other a layer s k h = refl

pub from_none : (a : Around) (o : Option Stmt) (s : State) (k : Onward) → from_of o ≡ None → fails fault.NotInProfile s k ≡ from_some a o s k
from_none a None s k h = refl
from_none a (Some stmt) s k h = from_other a (out-Stmt stmt) s k h

rebuilt : Option (ℕ × List (List ℕ) × ImportedNames) → Stmt-F Stmt Branch FuncDef Handler
rebuilt None = Stmt-F.Pass
rebuilt (Some (dots, parts, names)) = Stmt-F.From dots parts names

layer_is : (layer : Stmt-F Stmt Branch FuncDef Handler) (dots : ℕ) (parts : List (List ℕ)) (names : ImportedNames) → from_layer layer ≡ Some (dots, parts, names) → layer ≡ Stmt-F.From dots parts names
unfolding rebuilt
layer_is (Stmt-F.From d p n) dots parts names h = ap rebuilt h
layer_is layer dots parts names h = absurd cc

pub from_is : (a : Around) (o : Option Stmt) (dots : ℕ) (parts : List (List ℕ)) (names : ImportedNames) (s : State) (k : Onward) → from_of o ≡ Some (dots, parts, names)
    → from_import a dots parts names s k ≡ from_some a o s k
from_is a None dots parts names s k h = absurd cc
from_is a (Some stmt) dots parts names s k h = rw (layer_is (out-Stmt stmt) dots parts names h) refl
