-- Simple statements on operands that have values of their own, and the operand in whose place a list comes, or which is
-- none.
use Rattle.std.specs.Prelude.{ℕ, List, [], ◌∷◌, Option, Some, None, Bool, true, false, if◌then◌else◌}
use Rattle.py_value.specs.declared.value.Value.{Value, out-Value}
use Rattle.py_value.specs.declared.value.Value.TheOpen.{Value-F}
use Rattle.py_syntax.specs.declared.expr.Expr.{Expr, out-Expr}
use Rattle.py_syntax.specs.declared.expr.Expr.TheOpen.{Expr-F}
use Rattle.py_syntax.specs.declared.stmt.Branch.{Branch}
use Rattle.py_syntax.specs.declared.stmt.FuncDef.{FuncDef}
use Rattle.py_syntax.specs.declared.stmt.Handler.{Handler}
use Rattle.py_syntax.specs.declared.stmt.Stmt.{Stmt, out-Stmt}
use Rattle.py_syntax.specs.declared.stmt.Stmt.TheOpen.{Stmt-F}
use Rattle.meaning_state.specs.declared.fault.Fault.TheVariants as fault
use Rattle.meaning_state.specs.declared.flow.Flow.TheVariants.{Left}
use Rattle.meaning_state.specs.declared.flow.Leave.TheVariants.{Break, Continue}
use Rattle.meaning_script.specs.Pieces.{Piece, fails, passes, with_one, with_two, with_three}
use Rattle.meaning_script.specs.Entries.{sets_entry, deletes_entry}
use Rattle.meaning_script.specs.Names.{stores, deletes, sets_member, deletes_member}
use Rattle.meaning_script.specs.Operators.{Around}
use Rattle.meaning_script.specs.Statements.{refuses_item, augments, returns, raises_at, raises_again, leaves}
use Rattle.py_frames.specs.Does.{or_fails}
use Rattle.py_frames.specs.Few.{is_cache}
use Rattle.py_frames.specs.Listing.{is_listed}

-- what stands for the search path
abbrev pub is_path_at : Value-F Value → Bool
is_path_at Value-F.SysPath = true
is_path_at v = false

-- whether a value stands for the search path, `sys.path`
abbrev pub is_path : Value → Bool
is_path v = is_path_at (out-Value v)

-- ---- statements

-- `o[i] = v`: an entry of the cache is set; what is no cache refuses, since no other value has items that can be set
abbrev pub sets_known : Value → Value → Value → Piece
sets_known o i v = if is_cache o then sets_entry i v else refuses_item o

-- `del o[i]`: an entry of the cache is deleted; no other value has items that can be deleted
abbrev pub deletes_known : Value → Value → Piece
deletes_known o i = if is_cache o then deletes_entry i else refuses_item o

-- `o[i] = e` on the values of `e`, `o` and `i`, in the order of evaluation (Language Reference 6.16)
abbrev pub assigns_item : List Value → Piece
assigns_item vs = with_three vs (λ v o i. sets_known o i v)

-- `o.x = e` on the values of `e` and `o`, in the order of evaluation (Language Reference 6.16)
abbrev pub assigns_member : Around → List ℕ → List Value → Piece
assigns_member around x vs = with_two vs (λ v o. sets_member around.access o x v)

-- an assignment by its target (Language Reference 7.2), on the value and then those of the target's operands
abbrev pub assigns_known : Around → Expr-F Expr → List Value → Piece
assigns_known around (Expr-F.Name x) vs = with_one vs (λ v. stores x v)
assigns_known around (Expr-F.Attribute object x) vs = assigns_member around x vs
assigns_known around (Expr-F.Subscript object index) vs = assigns_item vs
assigns_known around target vs = fails fault.NotInProfile

-- an assignment to a whole target, on the same values
abbrev pub assigns : Around → Expr → List Value → Piece
assigns around target vs = assigns_known around (out-Expr target) vs

-- `del o.x` on the value of `o`
abbrev pub removes_member : Around → List ℕ → List Value → Piece
removes_member around x vs = with_one vs (λ o. deletes_member around.access o x)

-- a deletion by its target (Language Reference 7.5), on the values of the target's operands, of which a name has none
abbrev pub removes_known : Around → Expr-F Expr → List Value → Piece
removes_known around (Expr-F.Name x) vs = deletes x
removes_known around (Expr-F.Attribute object x) vs = removes_member around x vs
removes_known around (Expr-F.Subscript object index) vs = with_two vs deletes_known
removes_known around target vs = fails fault.NotInProfile

-- a deletion of what a whole target names, on the same values
abbrev pub removes : Around → Expr → List Value → Piece
removes around target vs = removes_known around (out-Expr target) vs

-- `raise` (Language Reference 7.8): alone it raises the innermost error that is handled again, else its operand, which
-- is an error or a kind of errors
abbrev pub raises_known : List Value → Piece
raises_known [] = λ s k. raises_again s.handling s k
raises_known vs = with_one vs (λ v. raises_at (out-Value v))

-- a simple statement on the values of its operands (Language Reference chapter 7); imports and compound statements have
-- steps of their own, and do not get here
abbrev pub performs_known : Around → Stmt-F Stmt Branch FuncDef Handler → List Value → Piece
performs_known around (Stmt-F.Evaluate e) vs = passes
performs_known around (Stmt-F.Assign target e) vs = assigns around target vs
performs_known around (Stmt-F.Augment x o e) vs = augments x o vs
performs_known around (Stmt-F.Delete target) vs = removes around target vs
performs_known around Stmt-F.Pass vs = passes
performs_known around Stmt-F.Break vs = leaves (Left Break)
performs_known around Stmt-F.Continue vs = leaves (Left Continue)
performs_known around (Stmt-F.Return e) vs = returns vs
performs_known around (Stmt-F.Raise e) vs = raises_known vs
performs_known around stmt vs = fails fault.NotInProfile

-- the same of a whole statement
abbrev pub performs : Around → Stmt → List Value → Piece
performs around s vs = performs_known around (out-Stmt s) vs

-- the same of the statement at a place of a block, where there is one
abbrev pub performs_some : Around → Option Stmt → List Value → Piece
performs_some around o vs = or_fails (λ (s : Stmt). performs around s vs) o

-- ---- the place of the operand in whose place a list comes, or which is none

-- of a value, an object and an index: the place of the object, where it stands for the search path
abbrev pub place_behind : List Value → Option ℕ
place_behind (v ∷ o ∷ i ∷ []) = if is_path o then Some 1 else None
place_behind vs = None

-- of an object and an index: the place of the object, where it stands for the search path
abbrev pub place_before : List Value → Option ℕ
place_before (o ∷ i ∷ []) = if is_path o then Some 0 else None
place_before vs = None

-- of one operand: its place, where it stands for the search path or the cache
abbrev pub place_of_one : List Value → Option ℕ
place_of_one (v ∷ []) = if is_listed v then Some 0 else None
place_of_one vs = None

-- in an assignment: only the object of `o[i]` can be such an operand; the value is taken as it is
abbrev pub place_assigned : Expr-F Expr → List Value → Option ℕ
place_assigned (Expr-F.Subscript object index) vs = place_behind vs
place_assigned target vs = None

-- in a deletion: only the object of `o[i]` can be such an operand
abbrev pub place_removed : Expr-F Expr → List Value → Option ℕ
place_removed (Expr-F.Subscript object index) vs = place_before vs
place_removed target vs = None

-- of a statement: what `raise` raises can be such an operand too; `x op= e` sees to its operands in a step of its own,
-- and all others take theirs as they are
abbrev pub place_at : Stmt-F Stmt Branch FuncDef Handler → List Value → Option ℕ
place_at (Stmt-F.Assign target e) vs = place_assigned (out-Expr target) vs
place_at (Stmt-F.Delete target) vs = place_removed (out-Expr target) vs
place_at (Stmt-F.Raise e) vs = place_of_one vs
place_at stmt vs = None

-- the same of the statement at a place of a block, where there is one
abbrev pub place_some : Option Stmt → List Value → Option ℕ
place_some None vs = None
place_some (Some s) vs = place_at (out-Stmt s) vs
