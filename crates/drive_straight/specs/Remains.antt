-- What remains of a script, and what is done of it in place.
use Rattle.std.specs.Prelude.{◌≡◌, ℕ, ◌+◌, List, [], Option, Some, None, Bool, true, false, not, Result, IfOk, IfSome, slice_get}
use Rattle.base_types.specs.declared.no_memory.NoMemory.{NoMemory}
use Rattle.tree_files.specs.Files.{Files}
use Rattle.py_value.specs.declared.value.Value.{Value}
use Rattle.py_value.specs.declared.value.Value.TheVariants as values
use Rattle.machine_events.specs.declared.event.Event.{Event}
use Rattle.machine_events.specs.declared.event.Reply.{Reply}
use Rattle.meaning_runs.specs.Runs.{Run}
use Rattle.py_syntax.specs.declared.expr.Expr.{Expr, out-Expr}
use Rattle.py_syntax.specs.declared.expr.Expr.TheOpen.{Expr-F}
use Rattle.py_syntax.specs.declared.stmt.Branch.{Branch}
use Rattle.py_syntax.specs.declared.stmt.FuncDef.{FuncDef}
use Rattle.py_syntax.specs.declared.stmt.Handler.{Handler}
use Rattle.py_syntax.specs.declared.stmt.Stmt.{Stmt, out-Stmt}
use Rattle.py_syntax.specs.declared.stmt.Stmt.TheOpen.{Stmt-F}
use Rattle.meaning_state.specs.declared.flow.Flow.{Flow}
use Rattle.meaning_state.specs.declared.flow.Flow.TheVariants.{Left, Went}
use Rattle.meaning_script.specs.Pieces.{pay}
use Rattle.meaning_script.specs.Meaning.{World, first_state}
use Rattle.step_calls.specs.Sources.{sources}
use Rattle.py_frames.specs.Does.{Rest, frame_does, want_does, rest}
use Rattle.py_frames.specs.declared.want.Want.{Want}
use Rattle.py_frames.specs.declared.want.Want.TheVariants as want
use Rattle.py_frames.specs.declared.work.Frame.{Frame}
use Rattle.py_frames.specs.declared.work.Item.{Item}
use Rattle.py_frames.specs.declared.work.Item.TheVariants as it
use Rattle.drive_account.specs.At.{At}
use Rattle.drive_account.specs.Holds.{held_in}
use Rattle.drive_account.specs.declared.payments.Budget.{Budget}
use Rattle.step_straight.specs.Costs.{Costs}
use Rattle.step_straight.specs.Comes.{Comes, given_does}
use Rattle.step_straight.specs.declared.given.Given.{Given}
use Rattle.drive_straight.specs.declared.blocks.Operand.{Operand}
use Rattle.drive_straight.specs.declared.blocks.Operand.TheVariants as operand
use Rattle.drive_straight.specs.declared.coming.Use.{Use}
use Rattle.drive_straight.specs.declared.coming.Use.TheVariants as uses
use Rattle.drive_straight.specs.declared.execution.Execution.{Execution}
use Rattle.drive_straight.specs.declared.next.Next.{Next}
use Rattle.drive_straight.specs.declared.next.Next.TheVariants as next

-- nothing was done yet
pub record Fresh (script fuel : ℕ) (c : Execution) : Type 0 where
  pub budget : c.budget ≡ record { left = fuel; read = None; of_tree = false }
  pub held : held_in c.held ≡ []
  pub thread : c.thread ≡ record { left = 200; state = first_state script }
  pub work : c.work ≡ []

-- what remains of a script that wants this
abbrev pub remains : Execution → Want → Run
remains c want = want_does sources c.thread.left want (rest sources c.work) c.thread.state

-- whatever script stood at `run` stands at what is wanted
abbrev pub Moves : Budget → Run → Execution → Want → Type 0
Moves budget run c w = (files : Option Files) (whole : Run) (fuel : ℕ) (mine : List (Event × Reply))
    → At files whole fuel mine budget run → At files whole fuel mine c.budget (remains c w)

-- what there is to do in a state, and then the work that waits
abbrev pub Due : Type 0
Due = Execution → Run

-- a piece of work begins
abbrev pub begins : Item → Due
begins item c = remains c (want.Then item)

-- a way on comes to a frame that was taken off
abbrev pub goes_on : Frame → Flow → Due
goes_on f flow c = frame_does sources c.thread.left f (rest sources c.work) flow c.thread.state

-- a value comes to the work that waits
abbrev pub gives : Value → Due
gives v c = remains c (want.Go (Went v))

-- what comes next
abbrev pub due : Next → Due
due (next.Went v) c = gives v c
due (next.Left leave) c = remains c (want.Go (Left leave))
due (next.Evaluate e) c = begins (it.Eval e) c
due (next.Block stmts) c = begins (it.Block stmts 0) c
due (next.ReadGlobal x) c = begins (it.ReadGlobal x) c
due (next.Store x v) c = begins (it.Store x v) c
due (next.Member m x) c = begins (it.Member (values.Module m) x) c
due (next.Call callee arguments) c = begins (it.Call callee arguments) c
due (next.Apply e vs) c = begins (it.Apply e vs) c
due (next.Begun stmts at) c = begins (it.Begun stmts at) c
due (next.Piece item) c = begins item c
due (next.Frame waiting) c = goes_on waiting.0 waiting.1 c
due (next.Wanted want) c = remains c want

-- what the expression came to, and then the work that waits
abbrev pub comes : Expr → Given → Due
comes e given c = given_does sources c.thread.left e given (rest sources c.work) c.thread.state

-- whatever script stood at what was due stands at what comes next
abbrev pub LeadsTo : Execution → Due → Execution → Next → Type 0
LeadsTo old was new next = (files : Option Files) (whole : Run) (fuel : ℕ) (mine : List (Event × Reply))
    → At files whole fuel mine old.budget (was old) → At files whole fuel mine new.budget (due next new)

-- the same, if memory was not wanted
abbrev pub Leads : Execution → Due → Execution → Result Next NoMemory → Type 0
Leads old was new r = IfOk r (LeadsTo old was new)

-- so many units were paid: whatever script stood at a run that costs them stands where that goes on
abbrev pub Affords : Budget → Budget → ℕ → Type 0
Affords old new units = (files : Option Files) (whole : Run) (fuel : ℕ) (mine : List (Event × Reply)) (run next : Run)
    → Costs units run next → At files whole fuel mine old run → At files whole fuel mine new next

-- behind one unit more the expression has this value, for so many units in all
abbrev pub IsValueOf : Expr → Execution → Value → ℕ → Type 0
IsValueOf e c v units = (w : World) (next : Rest)
    → Costs units (pay 1 (want_does w c.thread.left (want.Then (it.Eval e)) next c.thread.state))
    (next c.thread.left (Went v) c.thread.state)

-- what the expression of a statement comes to at once
abbrev pub IsOperand : Expr → Execution → Operand → Type 0
IsOperand e c (operand.Value v units) = IsValueOf e c v units
IsOperand e c (operand.Other found) = IfSome found (λ priced. Comes e c.thread priced)

-- an assignment of the expression to the name stands at the place
pub record Assigns (stmts : List Stmt) (at : ℕ) (x : List ℕ) (e : Expr) : Type 0 where
  pub stmt : Stmt
  pub there : slice_get stmts at ≡ Some stmt
  pub target : Expr
  pub form : out-Stmt stmt ≡ Stmt-F.Assign target e
  pub name : out-Expr target ≡ Expr-F.Name x

-- the expression that a statement returns the value of
abbrev pub returned_of : Stmt-F Stmt Branch FuncDef Handler → Option Expr
returned_of (Stmt-F.Return e) = e
returned_of stmt = None

-- the same of a statement that may be missing
abbrev pub returned_at : Option Stmt → Option Expr
returned_at None = None
returned_at (Some stmt) = returned_of (out-Stmt stmt)

-- the statement at the place returns the value of an expression that has it, for so many units in all
pub record Returns (stmts : List Stmt) (at : ℕ) (c : Execution) (v : Value) (units : ℕ) : Type 0 where
  pub expr : Expr
  pub there : returned_at (slice_get stmts at) ≡ Some expr
  pub value : IsValueOf expr c v units

-- the place in a block behind a statement that was done, or of one that was not
abbrev pub place_behind : ℕ → Bool → ℕ
place_behind at true = at + 1
place_behind at false = at

-- whatever script stood at the statements from a place on stands behind the first of them, if that was done
abbrev pub Did : Execution → List Stmt → ℕ → Execution → Bool → Type 0
Did old stmts at new is_done =
    Moves old.budget (remains old (want.Then (it.Block stmts at))) new
    (want.Then (it.Block stmts (place_behind at is_done)))

-- the first operand of a simple statement that has one and may be begun with it; of `x += e` the name is read first,
-- and `del` begins with its target
abbrev pub first_operand : Stmt-F Stmt Branch FuncDef Handler → Option Expr
first_operand (Stmt-F.Evaluate e) = Some e
first_operand (Stmt-F.Assign target e) = Some e
first_operand (Stmt-F.Return e) = e
first_operand (Stmt-F.Raise e) = e
first_operand stmt = None

-- the same of a statement that may be missing
abbrev pub operand_at : Option Stmt → Option Expr
operand_at None = None
operand_at (Some stmt) = first_operand (out-Stmt stmt)

-- the name that a target is; any other target is none
abbrev pub target_name : Expr-F Expr → Option (List ℕ)
target_name (Expr-F.Name x) = Some x
target_name target = None

-- what a statement does that binds a value to a target
abbrev pub binding : Option (List ℕ) → Use
binding (Some x) = uses.Bind x
binding None = uses.Other

-- what a statement does with the value of its only operand
abbrev pub use_of : Stmt-F Stmt Branch FuncDef Handler → Use
use_of (Stmt-F.Assign target e) = binding (target_name (out-Expr target))
use_of (Stmt-F.Evaluate e) = uses.Discard
use_of (Stmt-F.Return e) = uses.Return
use_of (Stmt-F.Raise e) = uses.Raise
use_of stmt = uses.Other

-- the same of a statement that may be missing
abbrev pub use_at : Option Stmt → Use
use_at None = uses.Other
use_at (Some stmt) = use_of (out-Stmt stmt)

-- a `while`, which pays before each test instead of when it begins, and a `def`
abbrev pub is_left_at : Stmt-F Stmt Branch FuncDef Handler → Bool
is_left_at (Stmt-F.While test body) = true
is_left_at (Stmt-F.Def f) = true
is_left_at stmt = false

-- the same of a statement that may be missing
abbrev pub is_left : Option Stmt → Bool
is_left None = false
is_left (Some stmt) = is_left_at (out-Stmt stmt)

-- an `if` with these branches and this block behind `else` stands at the place
pub record IsIf (stmts : List Stmt) (at : ℕ) (bs : List Branch) (otherwise : List Stmt) : Type 0 where
  pub stmt : Stmt
  pub there : slice_get stmts at ≡ Some stmt
  pub form : out-Stmt stmt ≡ Stmt-F.If bs otherwise

-- the form `object.name`
abbrev pub is_attribute : Expr-F Expr → Bool
is_attribute (Expr-F.Attribute object x) = true
is_attribute form = false

-- the name of an attribute
abbrev pub attribute_name : Expr-F Expr → Option (List ℕ)
attribute_name (Expr-F.Attribute object x) = Some x
attribute_name form = None

-- an expression begins with its first operand; but a call of an attribute begins with the object of that, and `and` and
-- `or` may leave out an operand
abbrev pub is_operated : Expr-F Expr → Bool
is_operated (Expr-F.Call callee es) = not (is_attribute (out-Expr callee))
is_operated (Expr-F.Tuple es) = true
is_operated (Expr-F.List es) = true
is_operated (Expr-F.Attribute object x) = true
is_operated (Expr-F.Subscript object index) = true
is_operated (Expr-F.Negative a) = true
is_operated (Expr-F.Not a) = true
is_operated (Expr-F.Binary o a b) = true
is_operated (Expr-F.Compare c a b) = true
is_operated form = false
