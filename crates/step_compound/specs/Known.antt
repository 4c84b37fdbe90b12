-- Tests that have values of their own.
use Rattle.std.specs.Prelude.{ℕ, suc, drop, slice_get, List, Option, Some, None, if◌then◌else◌}
use Rattle.py_value.specs.Measures.{is_true}
use Rattle.py_value.specs.declared.value.Value.{Value}
use Rattle.py_syntax.specs.declared.expr.Expr.{Expr}
use Rattle.py_syntax.specs.declared.stmt.Branch.{Branch}
use Rattle.py_syntax.specs.declared.stmt.Stmt.{Stmt}
use Rattle.meaning_state.specs.declared.fault.Fault.TheVariants as fault
use Rattle.meaning_script.specs.Pieces.{Piece, fails, passes}
use Rattle.meaning_script.specs.Operators.{Around, eval}
use Rattle.meaning_script.specs.Statements.{looped, tests, turns, run_all}
use Rattle.py_frames.specs.Does.{branches}

-- the test of a branch has this value: the branch's block follows where it counts as true, and else `others`
abbrev pub picks : Around → Option Branch → Value → Piece → Piece
picks around None v others = fails fault.NotInProfile
picks around (Some b) v others = if is_true v then run_all around b.body else others

-- the branches behind one
abbrev pub behind : Around → List Branch → ℕ → List Stmt → Piece
behind around bs at otherwise = tests (branches around (drop (suc at) bs)) (run_all around otherwise)

-- the same of the branch at a place: else the branches behind it follow, and then the block of `else`
abbrev pub picked : Around → List Branch → ℕ → List Stmt → Value → Piece
picked around bs at otherwise v = picks around (slice_get bs at) v (behind around bs at otherwise)

-- a turn, and the others behind it
abbrev pub turn_more : Around → Expr → List Stmt → ℕ → Piece
turn_more around test body n s k = run_all around body s (looped k (turns n (eval around test) (run_all around body)))

-- the test of a `while` has this value (Language Reference 8.2): its block follows and at most `n` turns, or its end
abbrev pub loops : Around → Expr → List Stmt → ℕ → Value → Piece
loops around test body n v = if is_true v then turn_more around test body n else passes
