-- A call where so many more may be open.
use Rattle.std.specs.Prelude.{ℕ, zero, suc, List, length, nat_eq, if◌then◌else◌, Option, Some, None}
use Rattle.std.specs.FinMap as maps
use Rattle.py_value.specs.declared.value.ModRef.{ModRef}
use Rattle.py_value.specs.declared.value.Value.{Value}
use Rattle.py_syntax.specs.declared.stmt.FuncDef.{FuncDef}
use Rattle.meaning_state.specs.declared.fault.Fault.TheVariants as fault
use Rattle.meaning_state.specs.declared.thread.Parsing.{Parsing}
use Rattle.meaning_script.specs.Pieces.{Piece, fails}
use Rattle.meaning_script.specs.Operators.{Around}
use Rattle.meaning_script.specs.Statements.{run_all}
use Rattle.meaning_script.specs.Meaning.{World, around_at, bound, placed, comes_back, sourced}

-- a function in the module of this number and the text of this load
abbrev pub runs_in : Around → ℕ → ℕ → FuncDef → List Value → Piece
runs_in around mid load f vs s k =
    run_all around f.body (placed s mid load (Some (record { function = f; locals = bound f.parameters vs maps.empty }))) (comes_back s k)

-- with as many arguments as it takes
abbrev pub enters_in : Around → ℕ → ℕ → List Value → FuncDef → Piece
enters_in around mid load vs f =
    if nat_eq (length vs) (length f.parameters)
    then runs_in around mid load f vs
    else fails (fault.Parameters f.name (length f.parameters) (length vs))

-- where there is one
abbrev pub enters_some : Around → ℕ → ℕ → List Value → Option FuncDef → Piece
enters_some around mid load vs None = fails fault.NotInProfile
enters_some around mid load vs (Some f) = enters_in around mid load vs f

-- the text of a load came, where so many more calls may be open
abbrev pub sourced_at : World → ℕ → ℕ → ℕ → List Value → ModRef → Parsing → Piece
sourced_at w zero load index vs m parsing = fails fault.TooDeep
sourced_at w (suc left) load index vs m parsing = sourced (around_at w left) load index vs m parsing
