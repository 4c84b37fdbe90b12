-- What the parts of a `try` do, by their trees.
use Rattle.std.specs.Prelude.{ℕ, suc, List, slice_get, Option, Bool}
use Rattle.py_value.specs.declared.value.Raised.{Raised as Error}
use Rattle.py_syntax.specs.declared.stmt.Handler.{Handler}
use Rattle.py_syntax.specs.declared.stmt.Stmt.{Stmt}
use Rattle.meaning_state.specs.declared.flow.Flow.{Flow}
use Rattle.meaning_script.specs.Pieces.{Piece}
use Rattle.meaning_script.specs.Operators.{Around}
use Rattle.meaning_script.specs.Statements.{catches_kind, tried, handling, handled, unbinds, run_all}
use Rattle.py_frames.specs.Does.{handlers, chosen_some, catches_from}

-- an error of the first block
abbrev pub meets : Around → List Handler → Error → Piece
meets around hs error = catches_kind (handlers around hs) error error.kind

-- how the first block ended
abbrev pub behind : Around → List Handler → List Stmt → Flow → Piece
behind around hs otherwise flow s k = tried (handlers around hs) (run_all around otherwise) k flow s

-- the handler at a place, if it takes the error, else the next ones
abbrev pub chosen_at : Around → List Handler → ℕ → Error → Option Bool → Piece
chosen_at around hs at error taken = chosen_some around (slice_get hs at) error (catches_from around hs (suc at) error) taken

-- a handler's block, with the error, and then its name is unset
abbrev pub handles_by : Around → Handler → Error → Piece
handles_by around h error s k = run_all around h.body (handling error s) (λ flow s. unbinds h.bound flow (handled s) k)
