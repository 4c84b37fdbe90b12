-- Simple statements, `if` and `while` are safe.
use Rattle.std.proofs.Common.{ℕ, zero, suc, List, [], ◌∷◌, refl}
use Rattle.py_value.specs.declared.value.Raised.{Raised as Error}
use Rattle.py_value.specs.declared.value.Value.{Value, out-Value}
use Rattle.py_value.specs.declared.value.Value.TheVariants as values
use Rattle.py_value.specs.declared.value.Value.TheOpen.{Value-F}
use Rattle.py_value.specs.Names.{type_of}
use Rattle.value_operators.specs.Arithmetic.{augmented}
use Rattle.machine_shown.specs.Shown.{Shown}
use Rattle.meaning_safety.proofs.Parts.{plain}
use Rattle.meaning_safety.proofs.Operators.{operators}
use Rattle.py_syntax.specs.declared.expr.BinaryOp.{BinaryOp}
use Rattle.py_syntax.specs.declared.expr.Expr.{Expr, out-Expr}
use Rattle.py_syntax.specs.declared.expr.Expr.TheOpen.{Expr-F}
use Rattle.py_syntax.specs.declared.stmt.Stmt.TheOpen.{Stmt-F}
use Rattle.meaning_state.specs.Faults.{raised}
use Rattle.meaning_state.specs.declared.fault.Fault.TheVariants as fault
use Rattle.meaning_state.specs.declared.flow.Leave.TheVariants.{Raised, Return, Break, Continue}
use Rattle.meaning_state.specs.declared.flow.Flow.TheVariants.{Went, Left}
use Rattle.meaning_script.specs.Pieces.{Piece, Onward, most, on_value, done, passes, gives, sized, decides, with_two}
use Rattle.meaning_script.specs.Names.{Access, stores, sets_member, deletes_member}
use Rattle.meaning_script.specs.Operators.{operator_of}
use Rattle.meaning_script.specs.Statements.{leaves, refuses_item_at, refuses_item, sets_item_at, sets_item, deletes_item_at, deletes_item, assigns_at, removes_at, augment, returns, raises_at, raises_value, raises_again, raises, performs_at, BranchPiece, tests, looped, turn, turns, DefPiece, defines}
use Rattle.meaning_safety.specs.Known.{KnowsValue}
use Rattle.meaning_safety.proofs.Pieces.{SafeOn, SafeAt, Always, SafeOf, on_later, goes_safe, fails_safe, passes_safe, pay_safe, behind, on_value_safe, sized_on, listed_safe, all_listed_safe, decides_safe, with_one_safe, with_two_safe, with_three_safe}
use Rattle.meaning_safety.proofs.Values.{nothing_known, gives_safe}
use Rattle.meaning_safety.proofs.Names.{SafeAccess, stores_safe, deletes_safe, sets_member_safe, deletes_member_safe}
use Rattle.meaning_safety.proofs.Entries.{sets_entry_safe, deletes_entry_safe}

-- ---- simple statements

refuses_item_safe : (object : Value) → Always (refuses_item object)
refuses_item_safe object s = at (out-Value object)
  where
    at : (layer : Value-F Value) → SafeAt s (refuses_item_at object layer)
    at (Value-F.List items) = fails_safe fault.NotInProfile s
    at layer = fails_safe (fault.NoItemAssignment (type_of object)) s

sets_item_safe : (s : Shown) (object index v : Value) → KnowsValue s object → KnowsValue s index → KnowsValue s v → SafeAt s (sets_item object index v)
sets_item_safe s object index v ho hi hv = at (out-Value object)
  where
    at : (layer : Value-F Value) → SafeAt s (sets_item_at layer object index v)
    at Value-F.SysModules = sets_entry_safe s index v hi hv
    at layer = listed_safe s object ho refuses_item (λ s' g u known. refuses_item_safe u s')

deletes_item_safe : (s : Shown) (object index : Value) → KnowsValue s object → KnowsValue s index → SafeAt s (deletes_item object index)
deletes_item_safe s object index ho hi = at (out-Value object)
  where
    at : (layer : Value-F Value) → SafeAt s (deletes_item_at layer object index)
    at Value-F.SysModules = deletes_entry_safe s index hi
    at layer = listed_safe s object ho refuses_item (λ s' g u known. refuses_item_safe u s')

module _ (access : Access) (safe_access : SafeAccess access) where
  assigns_safe : (target : Expr-F Expr) → SafeOf (assigns_at access target)
  assigns_safe (Expr-F.Name x) s vs h = with_one_safe s vs h (λ v. stores x v) (λ v known. stores_safe s x v known)
  assigns_safe (Expr-F.Attribute object x) s vs h = with_two_safe s vs h (λ v o. sets_member access o x v) (λ v o hv ho. sets_member_safe access safe_access s o x v ho hv)
  assigns_safe (Expr-F.Subscript object index) s vs h = with_three_safe s vs h (λ v o i. sets_item o i v) (λ v o i hv ho hi. sets_item_safe s o i v ho hi hv)
  assigns_safe target s vs h = fails_safe fault.NotInProfile s

  removes_safe : (target : Expr-F Expr) → SafeOf (removes_at access target)
  removes_safe (Expr-F.Name x) s vs h = deletes_safe x s
  removes_safe (Expr-F.Attribute object x) s vs h = with_one_safe s vs h (λ o. deletes_member access o x) (λ o ho. deletes_member_safe access safe_access s o x ho)
  removes_safe (Expr-F.Subscript object index) s vs h = with_two_safe s vs h (λ o i. deletes_item o i) (λ o i ho hi. deletes_item_safe s o i ho hi)
  removes_safe target s vs h = fails_safe fault.NotInProfile s

augment_safe : (x : List ℕ) (o : BinaryOp) → SafeOf (augment x o)
augment_safe x o s vs h run st knows k safe =
    all_listed_safe s vs h (λ us. with_two us (λ a b. gives (augmented (operator_of o) a b)))
    (λ s' g us all. with_two_safe s' us all (λ a b. gives (augmented (operator_of o) a b)) (λ a b ha hb. gives_safe s' (augmented (operator_of o) a b) ((operators s').augmented (operator_of o) a b ha.0 hb.0)))
    run st knows (sized (on_value k (λ v st'. stores x v st' k)))
    (sized_on s (on_value k (λ v st'. stores x v st' k))
    (on_value_safe s k (λ v st'. stores x v st' k) safe (λ s' f v known st' knows'. stores_safe s' x v known f.runs st' knows' k (on_later s s' k f safe))))

returns_safe : SafeOf returns
returns_safe s [] h = goes_safe s (Left (Return values.Nothing)) (nothing_known s)
returns_safe s (v ∷ vs) h = with_one_safe s (v ∷ vs) h (λ w. leaves (Left (Return w))) (λ w known. goes_safe s (Left (Return w)) known)

raises_at_safe : (layer : Value-F Value) → Always (raises_at layer)
raises_at_safe (Value-F.Kind kind) s = goes_safe s (Left (Raised (raised kind []))) tt
raises_at_safe (Value-F.Error error) s = goes_safe s (Left (Raised error)) tt
raises_at_safe layer s = fails_safe fault.NoException s

raises_value_safe : (s : Shown) (v : Value) → KnowsValue s v → SafeAt s (raises_value v)
raises_value_safe s v known = listed_safe s v known (λ u. raises_at (out-Value u)) (λ s' g u known'. raises_at_safe (out-Value u) s')

raises_again_safe : (errors : List Error) → Always (raises_again errors)
raises_again_safe [] s = fails_safe fault.NothingToRaise s
raises_again_safe (error ∷ errors) s = goes_safe s (Left (Raised error)) tt

raises_safe : SafeOf raises
raises_safe s [] h = λ run st knows k safe. raises_again_safe st.handling s run st knows k safe
raises_safe s (v ∷ vs) h = with_one_safe s (v ∷ vs) h (λ w. raises_value w) (λ w known. raises_value_safe s w known)

pub performs_safe : {B F H S : Type 0} (access : Access) → SafeAccess access → (stmt : Stmt-F S B F H) → SafeOf (performs_at access stmt)
performs_safe access safe (Stmt-F.Evaluate e) s vs h = passes_safe s
performs_safe access safe (Stmt-F.Assign target e) s vs h = assigns_safe access safe (out-Expr target) s vs h
performs_safe access safe (Stmt-F.Augment x o e) s vs h = pay_safe s 1 (augment x o vs) (augment_safe x o s vs h)
performs_safe access safe (Stmt-F.Delete target) s vs h = removes_safe access safe (out-Expr target) s vs h
performs_safe access safe Stmt-F.Pass s vs h = passes_safe s
performs_safe access safe Stmt-F.Break s vs h = goes_safe s (Left Break) tt
performs_safe access safe Stmt-F.Continue s vs h = goes_safe s (Left Continue) tt
performs_safe access safe (Stmt-F.Return e) s vs h = returns_safe s vs h
performs_safe access safe (Stmt-F.Raise e) s vs h = raises_safe s vs h
performs_safe access safe stmt s vs h = fails_safe fault.NotInProfile s

-- ---- `if` and `while`

pub record SafeBranch (b : BranchPiece) : Type 0 where
  pub test : Always b.test
  pub body : Always b.body

abbrev pub AllBranches : List BranchPiece → Type 0
AllBranches [] = Unit {0}
AllBranches (b ∷ bs) = SafeBranch b × AllBranches bs

pub tests_safe : (bs : List BranchPiece) → AllBranches bs → (otherwise : Piece) → Always otherwise → Always (tests bs otherwise)
tests_safe [] all otherwise safe s = safe s
tests_safe (b ∷ bs) all otherwise safe s =
    behind s b.test (λ v. decides v b.body (tests bs otherwise)) (all.0.test s) (λ s' g v known. decides_safe s' v known b.body (tests bs otherwise) all.0.body (tests_safe bs all.1 otherwise safe))

looped_on : (s : Shown) (k : Onward) (again : Piece) → SafeOn s k → Always again → SafeOn s (looped k again)
looped_on s k again safe more s' f (Went v) known st knows = more s' f.runs st knows k (on_later s s' k f safe)
looped_on s k again safe more s' f (Left Continue) known st knows = more s' f.runs st knows k (on_later s s' k f safe)
looped_on s k again safe more s' f (Left Break) known st knows = safe s' f done (nothing_known s') st knows
looped_on s k again safe more s' f (Left (Raised error)) known st knows = safe s' f (Left (Raised error)) tt st knows
looped_on s k again safe more s' f (Left (Return v)) known st knows = safe s' f (Left (Return v)) known st knows

turn_safe : (test body again : Piece) → Always test → Always body → Always again → Always (turn test body again)
turn_safe test body again test_safe body_safe more s =
    behind s test (λ v. decides v (λ st k. body st (looped k again)) passes) (test_safe s)
    (λ s' g v known. decides_safe s' v known (λ st k. body st (looped k again)) passes
    (λ later run st knows k safe. body_safe later run st knows (looped k again) (looped_on later k again safe more)) passes_safe)

pub turns_safe : (n : ℕ) (test body : Piece) → Always test → Always body → Always (turns n test body)
turns_safe zero test body test_safe body_safe s = pay_safe s most passes (passes_safe s)
turns_safe (suc n) test body test_safe body_safe s =
    pay_safe s 1 (turn test body (turns n test body)) (turn_safe test body (turns n test body) test_safe body_safe (turns_safe n test body test_safe body_safe) s)

-- ---- definitions

pub defines_safe : (f : DefPiece) → Always (defines f)
defines_safe f s run st knows k safe =
    stores_safe s f.name (values.Func st.scope.load f.number f.name) ((plain s).function st.scope.load f.number f.name knows.load, refl) run st knows k safe
