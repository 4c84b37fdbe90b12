-- Statements (Language Reference chapters 7 and 8).
use Rattle.std.specs.Prelude.{ℕ, zero, suc, List, [], ◌∷◌, map, Option, Some, None, Bool, true, false, ◌||◌, if◌then◌else◌}
use Rattle.std.specs.Str.{bytes_eq}
use Rattle.py_value.specs.Kinds.{parent}
use Rattle.py_value.specs.Names.{kind_name}
use Rattle.py_value.specs.declared.kind.Kind.{Kind}
use Rattle.py_value.specs.declared.kind.Kind.TheVariants as kinds
use Rattle.py_value.specs.declared.value.Raised.{Raised as Error}
use Rattle.py_value.specs.declared.value.Value.{Value, out-Value}
use Rattle.py_value.specs.declared.value.Value.TheVariants as values
use Rattle.py_value.specs.declared.value.Value.TheOpen.{Value-F}
use Rattle.value_operators.specs.Arithmetic.{augmented}
use Rattle.machine_events.specs.declared.event.Event.TheVariants as e
use Rattle.py_syntax.specs.declared.expr.BinaryOp.{BinaryOp}
use Rattle.py_syntax.specs.declared.expr.Expr.{Expr, out-Expr}
use Rattle.py_syntax.specs.declared.expr.Expr.TheVariants as tree
use Rattle.py_syntax.specs.declared.expr.Expr.TheOpen.{Expr-F}
use Rattle.py_syntax.specs.declared.stmt.Stmt.{Stmt}
use Rattle.py_syntax.specs.declared.stmt.Stmt.TheOpen.{Stmt-F, Branch-F, FuncDef-F, Handler-F}
use Rattle.py_syntax.specs.declared.stmt.Stmt.TheFolds.{fold-Stmt, fold-Branch, fold-Handler}
use Rattle.py_syntax.specs.declared.stmt.Branch.{Branch}
use Rattle.py_syntax.specs.declared.stmt.Handler.{Handler}
use Rattle.meaning_state.specs.Faults.{raised}
use Rattle.meaning_state.specs.declared.fault.Fault.TheVariants as fault
use Rattle.meaning_state.specs.declared.flow.Leave.TheVariants.{Raised, Return, Break, Continue}
use Rattle.meaning_state.specs.declared.flow.Flow.{Flow}
use Rattle.meaning_state.specs.declared.flow.Flow.TheVariants.{Went, Left}
use Rattle.meaning_state.specs.declared.thread.State.{State}
use Rattle.meaning_script.specs.Pieces.{Piece, Onward, pay, calls, most, on_value, done, passes, fails, gives, sized, gathers, in_order, listed, all_listed, decides, with_one, with_two, with_three}
use Rattle.meaning_script.specs.Names.{Access, is_local_name, without_local, stores, deletes, sets_member, deletes_member}
use Rattle.py_value.specs.Names.{type_of}
use Rattle.meaning_script.specs.Entries.{sets_entry, deletes_entry}
use Rattle.meaning_script.specs.Operators.{Around, operator_of, eval}
use Rattle.meaning_script.specs.ImportStatements.{imports_all, from_import}

-- goes on at once in this way, with the state as it is
abbrev pub leaves : Flow → Piece
leaves flow s k = k flow s

-- Targets (7.2 and 7.5): the operands of a target come behind the value.

-- an attribute has its object as operand, a subscription its object and then its index, and a name has none
abbrev pub target_operands_at : Expr-F Expr → List Expr
target_operands_at (Expr-F.Attribute object x) = object ∷ []
target_operands_at (Expr-F.Subscript object index) = object ∷ index ∷ []
target_operands_at target = []

-- the same of an expression
abbrev pub target_operands : Expr → List Expr
target_operands target = target_operands_at (out-Expr target)

-- items of a list are not in the profile, and no other value has any that can be set or deleted, but for the cache
abbrev pub refuses_item_at : Value → Value-F Value → Piece
refuses_item_at object (Value-F.List items) = fails fault.NotInProfile
refuses_item_at object v = fails (fault.NoItemAssignment (type_of object))

-- the same of a value
abbrev pub refuses_item : Value → Piece
refuses_item object = refuses_item_at object (out-Value object)

-- `object[index] = v`, by the object: only the cache has items that can be set; `sys.path` is refused as a list is
abbrev pub sets_item_at : Value-F Value → Value → Value → Value → Piece
sets_item_at Value-F.SysModules object index v = sets_entry index v
sets_item_at other object index v = listed object refuses_item

-- the same of a value
abbrev pub sets_item : Value → Value → Value → Piece
sets_item object index v = sets_item_at (out-Value object) object index v

-- `del object[index]`, by the object: only the cache has items that can be deleted
abbrev pub deletes_item_at : Value-F Value → Value → Value → Piece
deletes_item_at Value-F.SysModules object index = deletes_entry index
deletes_item_at other object index = listed object refuses_item

-- the same of a value
abbrev pub deletes_item : Value → Value → Piece
deletes_item object index = deletes_item_at (out-Value object) object index

-- `target = v`, with the value first and then the operands of the target:
-- a name is bound, an attribute or an item of the object is set (7.2)
abbrev pub assigns_at : Access → Expr-F Expr → List Value → Piece
assigns_at access (Expr-F.Name x) vs = with_one vs (λ v. stores x v)
assigns_at access (Expr-F.Attribute object x) vs = with_two vs (λ v o. sets_member access o x v)
assigns_at access (Expr-F.Subscript object index) vs = with_three vs (λ v o i. sets_item o i v)
assigns_at access target vs = fails fault.NotInProfile

-- the same of an expression
abbrev pub assigns : Access → Expr → List Value → Piece
assigns access target vs = assigns_at access (out-Expr target) vs

-- `del target`, with the operands of the target: a name, an attribute or an item of the object is deleted (7.5)
abbrev pub removes_at : Access → Expr-F Expr → List Value → Piece
removes_at access (Expr-F.Name x) vs = deletes x
removes_at access (Expr-F.Attribute object x) vs = with_one vs (λ o. deletes_member access o x)
removes_at access (Expr-F.Subscript object index) vs = with_two vs (λ o i. deletes_item o i)
removes_at access target vs = fails fault.NotInProfile

-- the same of an expression
abbrev pub removes : Access → Expr → List Value → Piece
removes access target vs = removes_at access (out-Expr target) vs

-- `x op= e` pays as its name, its expression and its operator
abbrev pub augment : List ℕ → BinaryOp → List Value → Piece
augment x o vs s k =
    all_listed vs (λ vs. with_two vs (λ a b. gives (augmented (operator_of o) a b))) s (sized (on_value k (λ v s. stores x v s k)))

-- the same with the unit of its operator, which is paid behind the operands
abbrev pub augments : List ℕ → BinaryOp → List Value → Piece
augments x o vs s k = pay 1 (augment x o vs s k)

-- `return` (7.6)
abbrev pub returns : List Value → Piece
returns [] = leaves (Left (Return values.Nothing))
returns vs = with_one vs (λ v. leaves (Left (Return v)))

-- `raise` (7.8): a kind is called without arguments
abbrev pub raises_at : Value-F Value → Piece
raises_at (Value-F.Kind kind) = leaves (Left (Raised (raised kind [])))
raises_at (Value-F.Error error) = leaves (Left (Raised error))
raises_at v = fails fault.NoException

-- the same of a value; `sys.path` is a list here, which is no exception
abbrev pub raises_value : Value → Piece
raises_value v = listed v (λ v. raises_at (out-Value v))

-- the innermost of the errors that are handled is raised once more; where none is, RuntimeError (7.8)
abbrev pub raises_again : List Error → Piece
raises_again [] = fails fault.NothingToRaise
raises_again (error ∷ errors) = leaves (Left (Raised error))

-- `raise` alone, and `raise` with an expression
abbrev pub raises : List Value → Piece
raises [] = λ s k. raises_again s.handling s k
raises vs = with_one vs (λ v. raises_value v)

-- an expression that may be left out is one operand or none
abbrev pub optional : Option Expr → List Expr
optional None = []
optional (Some e) = e ∷ []

-- The simple statements: their operands, and what they do with the values of these.

-- the value comes before the operands of its target (7.2); of `x op=
-- e` the name is read before the expression is evaluated (7.2.1)
abbrev pub stmt_operands_at : {B F H S : Type 0} → Stmt-F S B F H → List Expr
stmt_operands_at (Stmt-F.Evaluate e) = e ∷ []
stmt_operands_at (Stmt-F.Assign target e) = e ∷ target_operands target
stmt_operands_at (Stmt-F.Augment x o e) = tree.Name x ∷ e ∷ []
stmt_operands_at (Stmt-F.Delete target) = target_operands target
stmt_operands_at (Stmt-F.Return e) = optional e
stmt_operands_at (Stmt-F.Raise e) = optional e
stmt_operands_at stmt = []

-- what is no simple statement gets here nowhere
abbrev pub performs_at : {B F H S : Type 0} → Access → Stmt-F S B F H → List Value → Piece
performs_at access (Stmt-F.Evaluate e) vs = passes
performs_at access (Stmt-F.Assign target e) vs = assigns access target vs
performs_at access (Stmt-F.Augment x o e) vs = augments x o vs
performs_at access (Stmt-F.Delete target) vs = removes access target vs
performs_at access Stmt-F.Pass vs = passes
performs_at access Stmt-F.Break vs = leaves (Left Break)
performs_at access Stmt-F.Continue vs = leaves (Left Continue)
performs_at access (Stmt-F.Return e) vs = returns vs
performs_at access (Stmt-F.Raise e) vs = raises vs
performs_at access stmt vs = fails fault.NotInProfile

-- `if` and `while` (8.1 and 8.2).

-- a test with its block
pub record BranchPiece : Type 0 where
  pub test : Piece
  pub body : Piece

-- the tests one by one until one is true, whose block then runs; where none is, what `else` has (8.1)
abbrev pub tests : List BranchPiece → Piece → Piece
tests [] otherwise = otherwise
tests (b ∷ bs) otherwise = λ s k. b.test s (on_value k (λ v s. decides v b.body (tests bs otherwise) s k))

-- how a loop goes on behind its block
abbrev pub looped : Onward → Piece → Onward
looped k again (Went v) s = again s k
looped k again (Left Continue) s = again s k
looped k again (Left Break) s = k done s
looped k again (Left (Raised error)) s = k (Left (Raised error)) s
looped k again (Left (Return v)) s = k (Left (Return v)) s

-- a turn, and behind it the others
abbrev pub turn : Piece → Piece → Piece → Piece
turn test body again s k = test s (on_value k (λ v s. decides v (λ s k. body s (looped k again)) passes s k))

-- at most so many turns, and then a payment of more than is left; each turn pays a unit before its test
abbrev pub turns : ℕ → Piece → Piece → Piece
turns zero test body = λ s k. pay most (k done s)
turns (suc n) test body = λ s k. pay 1 (turn test body (turns n test body) s k)

-- `try` (8.4).

-- an `except`: what the expression of its kinds does, where it has one, the name behind `as`, and its block
pub record HandlerPiece : Type 0 where
  pub kinds : Option Piece
  pub bound : Option (List ℕ)
  pub body : Piece

-- an error is handled
abbrev pub handling : Error → State → State
handling error s = record { scope = s.scope; kept = s.kept; handling = error ∷ s.handling }

-- the errors that are handled further out than the innermost one
abbrev pub tail_of : List Error → List Error
tail_of [] = []
tail_of (error ∷ errors) = errors

-- the innermost error is no longer handled
abbrev pub handled : State → State
handled s = record { scope = s.scope; kept = s.kept; handling = tail_of s.handling }

-- whether a kind is the other or below it: above one kind stand at most three others
abbrev pub is_within : ℕ → Option Kind → Kind → Bool
is_within zero kind other = false
is_within (suc n) None other = false
is_within (suc n) (Some kind) other = if bytes_eq (kind_name kind) (kind_name other) then true else is_within n (parent kind) other

-- the kind that a value is, if it is one
abbrev pub kind_at : Value-F Value → Option Kind
kind_at (Value-F.Kind kind) = Some kind
kind_at v = None

-- whether an `except` that names this value takes an error of the kind; None where it names what is no kind
abbrev pub takes_kind : Kind → Option Kind → Option Bool
takes_kind kind None = None
takes_kind kind (Some other) = Some (is_within 4 (Some kind) other)

-- whether one of two takes the error; None where one of the two is no kind
abbrev pub either : Option Bool → Option Bool → Option Bool
either None others = None
either (Some one) None = None
either (Some one) (Some others) = Some (one || others)

-- of a tuple one kind has to take it; None where any item is no kind, also behind one that takes it
abbrev pub takes_any : Kind → List Value → Option Bool
takes_any kind [] = Some false
takes_any kind (v ∷ vs) = either (takes_kind kind (kind_at (out-Value v))) (takes_any kind vs)

-- what an `except` names is a kind or a tuple of kinds (8.4.1)
abbrev pub takes_at : Kind → Value-F Value → Option Bool
takes_at kind (Value-F.Tuple vs) = takes_any kind vs
takes_at kind v = takes_kind kind (kind_at v)

-- the same of a value
abbrev pub takes : Kind → Value → Option Bool
takes kind v = takes_at kind (out-Value v)

-- the name of an `as` is unset; that it is unset already is no fault
abbrev pub unbinds_name : List ℕ → Flow → Piece
unbinds_name x flow s k =
    if is_local_name s x then k flow (without_local s x) else calls (e.DelVar s.scope.mid x true) (λ _. k flow s)

-- without an `as` there is no name to unset
abbrev pub unbinds : Option (List ℕ) → Flow → Piece
unbinds None flow = leaves flow
unbinds (Some x) flow = unbinds_name x flow

-- a handler's block, with the error, and then its name is unset however it ends
abbrev pub handles : HandlerPiece → Error → Piece
handles h error s k = h.body (handling error s) (λ flow s. unbinds h.bound flow (handled s) k)

-- the error is bound to the name behind `as`, where there is one, and then the block runs (8.4.1)
abbrev pub binds_error : HandlerPiece → Error → Option (List ℕ) → Piece
binds_error h error None = handles h error
binds_error h error (Some x) = λ s k. stores x (values.Error error) s (on_value k (λ _ s. handles h error s k))

-- a handler that takes the error, else the next ones
abbrev pub chosen : HandlerPiece → Error → Piece → Option Bool → Piece
chosen h error others None = fails fault.NotCaught
chosen h error others (Some true) = binds_error h error h.bound
chosen h error others (Some false) = others

-- a handler without kinds takes each error; else its expression is evaluated, and its value decides
abbrev pub tries_handler : HandlerPiece → Error → Piece → Option Piece → Piece
tries_handler h error others None = binds_error h error h.bound
tries_handler h error others (Some kinds) = λ s k. kinds s (on_value k (λ v s. listed v (λ v. chosen h error others (takes error.kind v)) s k))

-- the handlers in order; an error that none takes goes on
abbrev pub catches : List HandlerPiece → Error → Piece
catches [] error = leaves (Left (Raised error))
catches (h ∷ hs) error = tries_handler h error (catches hs error) h.kinds

-- no handler takes a ProfileError
abbrev pub catches_kind : List HandlerPiece → Error → Kind → Piece
catches_kind hs error kinds.ProfileError = leaves (Left (Raised error))
catches_kind hs error kind = catches hs error

-- behind the first block: the handlers at an error, the block of `else` at its end
abbrev pub tried : List HandlerPiece → Piece → Onward → Onward
tried hs otherwise k (Went v) s = otherwise s k
tried hs otherwise k (Left (Raised error)) s = catches_kind hs error error.kind s k
tried hs otherwise k (Left (Return v)) s = k (Left (Return v)) s
tried hs otherwise k (Left Break) s = k (Left Break) s
tried hs otherwise k (Left Continue) s = k (Left Continue) s

-- a `try` but for its `finally`: the first block, and what follows by how that ended
abbrev pub tries : Piece → List HandlerPiece → Piece → Piece
tries body hs otherwise s k = body s (tried hs otherwise k)

-- a `finally` block that is entered by an error handles it
abbrev pub enters : Flow → State → State
enters (Left (Raised error)) s = handling error s
enters flow s = s

-- behind such a block that error is handled no longer
abbrev pub exits : Flow → State → State
exits (Left (Raised error)) s = handled s
exits flow s = s

-- its own way out replaces the one before; else that goes on
abbrev pub after : Flow → Flow → Flow
after flow (Went v) = flow
after flow (Left leave) = Left leave

-- at the end of the `finally` block: the end that was kept back, or the block's own leave, goes on (8.4.4)
abbrev pub resumes : Flow → Onward → Onward
resumes flow k last s = k (after flow last) (exits flow s)

-- the `finally` block runs behind every end of what it guards, which is kept back meanwhile (8.4.4)
abbrev pub finishes : Piece → Onward → Onward
finishes last k flow s = last (enters flow s) (resumes flow k)

-- with the `finally` block, where there is one
abbrev pub guards : List Piece → Piece → Piece
guards [] p = p
guards (b ∷ bs) p = λ s k. p s (finishes (in_order (b ∷ bs)) k)

-- Definitions (8.7). Of a function only its number and its name count where it is defined.
pub record DefPiece : Type 0 where
  pub number : ℕ
  pub name : List ℕ

-- `def` binds the name to the function: the load whose text has it, its number in that text, and its name
abbrev pub defines : DefPiece → Piece
defines f s k = stores f.name (values.Func s.scope.load f.number f.name) s k

-- All statements.

-- what a compound statement does once its unit is paid, and a simple one too
abbrev pub paid_at : Around → Stmt-F Piece BranchPiece DefPiece HandlerPiece → Piece
paid_at around (Stmt-F.Import items) = imports_all around items
paid_at around (Stmt-F.From dots parts names) = from_import around dots parts names
paid_at around (Stmt-F.If branches otherwise) = tests branches (in_order otherwise)
paid_at around (Stmt-F.Try body hs otherwise last) = guards last (tries (in_order body) hs (in_order otherwise))
paid_at around (Stmt-F.Def f) = defines f
paid_at around stmt = gathers (map (eval around) (stmt_operands_at stmt)) [] (performs_at around.access stmt)

-- a statement pays a unit when it starts; a `while` pays one before each test instead
abbrev pub stmt_at : Around → Stmt-F Piece BranchPiece DefPiece HandlerPiece → Piece
stmt_at around (Stmt-F.While test body) = turns most (eval around test) (in_order body)
stmt_at around stmt = λ s k. pay 1 (paid_at around stmt s k)

-- the test is what its expression does, and the block its statements in order
abbrev pub branch_at : Around → Branch-F Piece BranchPiece DefPiece HandlerPiece → BranchPiece
branch_at around b = record { test = eval around b.test; body = in_order b.body }

-- what an expression does that may be left out
abbrev pub eval_some : Around → Option Expr → Option Piece
eval_some around None = None
eval_some around (Some e) = Some (eval around e)

-- the kinds are what their expression does, where there is one, and the block its statements in order
abbrev pub handler_at : Around → Handler-F Piece BranchPiece DefPiece HandlerPiece → HandlerPiece
handler_at around h = record { kinds = eval_some around h.kinds; bound = h.bound; body = in_order h.body }

-- what is defined; the function's body does not run here (8.7)
abbrev pub def_at : FuncDef-F Piece BranchPiece DefPiece HandlerPiece → DefPiece
def_at f = record { number = f.number; name = f.name }

-- what a statement, a branch and a handler do
abbrev pub run : Around → Stmt → Piece
run around = fold-Stmt Piece BranchPiece DefPiece HandlerPiece (stmt_at around) (branch_at around) def_at (handler_at around)

-- the same of a branch
abbrev pub branch : Around → Branch → BranchPiece
branch around = fold-Branch Piece BranchPiece DefPiece HandlerPiece (stmt_at around) (branch_at around) def_at (handler_at around)

-- the same of a handler
abbrev pub handler : Around → Handler → HandlerPiece
handler around = fold-Handler Piece BranchPiece DefPiece HandlerPiece (stmt_at around) (branch_at around) def_at (handler_at around)

-- a block
abbrev pub run_all : Around → List Stmt → Piece
run_all around stmts = in_order (map (run around) stmts)
