-- Operands that come, and what waits for them.
use Rattle.std.proofs.Common.{◌≡◌, ◌<◌, ◌-◌, ℕ, zero, suc, ◌+◌, List, [], ◌∷◌, ◌++◌, map, drop, length, length-append, remove, slice_get, Bool, true, false, if◌then◌else◌, Option, Some, None, Result, refl, sym, subst, ◌∙◌, ap, arith}
use Rattle.std.proofs.lemmas.Bool.{false≢true, not-true}
use Rattle.std.proofs.lemmas.Option.{slice_get_within}
use Rattle.std.proofs.lemmas.Result.{IfOk-weaker}
use Rattle.base_types.specs.declared.no_memory.NoMemory.{NoMemory}
use Rattle.tree_files.specs.Files.{Files}
use Rattle.py_value.specs.Measures.{is_true}
use Rattle.py_value.specs.declared.value.Value.{Value}
use Rattle.machine_events.specs.declared.event.Event.{Event}
use Rattle.machine_events.specs.declared.event.Reply.{Reply}
use Rattle.meaning_runs.specs.Runs.{Run}
use Rattle.meaning_state.specs.declared.flow.Flow.TheVariants.{Left, Went}
use Rattle.meaning_state.specs.declared.flow.Leave.TheVariants.{Return}
use Rattle.meaning_state.specs.declared.thread.State.{State}
use Rattle.meaning_script.specs.Meaning.{around_at}
use Rattle.meaning_script.specs.Names.{member}
use Rattle.meaning_script.specs.Operators.{Around, applies_at, calls_first, eval, operands_at}
use Rattle.meaning_script.specs.Pieces.{Piece, Onward, applied_on, gathers, in_order, on_value, operates, passes, pay, sized}
use Rattle.meaning_script.specs.Statements.{BranchPiece, DefPiece, HandlerPiece, branch_at, def_at, handler_at, looped, returns, run, run_all, stmt_at, tests, turns}
use Rattle.step_calls.specs.Sources.{sources}
use Rattle.step_expressions.proofs.Layers.{eval_is}
use Rattle.step_expressions.proofs.Places.{drop_more, drop_some}
use Rattle.step_expressions.specs.Forms.{eval_at, eval_call}
use Rattle.step_expressions.specs.OperatorForms.{is_call}
use Rattle.py_frames.proofs.Options.{some_same}
use Rattle.py_frames.proofs.Places.{drop_none, order_goes}
use Rattle.py_frames.specs.Listing.{is_listed}
use Rattle.py_frames.specs.Does.{begun, begun_at, branches, completes, Rest, rest}
use Rattle.py_frames.specs.declared.work.Form.TheVariants.{Expression, Statement}
use Rattle.py_frames.specs.declared.want.Want.TheVariants as want
use Rattle.py_frames.specs.declared.work.Frame.{Frame}
use Rattle.py_frames.specs.declared.work.Frame.TheVariants as frame
use Rattle.py_frames.specs.declared.work.Item.TheVariants as it
use Rattle.py_syntax.specs.declared.expr.Expr.{Expr, out-Expr}
use Rattle.py_syntax.specs.declared.expr.Expr.TheOpen.{Expr-F}
use Rattle.py_syntax.specs.declared.stmt.Branch.{Branch}
use Rattle.py_syntax.specs.declared.stmt.FuncDef.{FuncDef}
use Rattle.py_syntax.specs.declared.stmt.Handler.{Handler}
use Rattle.py_syntax.specs.declared.stmt.Stmt.{Stmt, out-Stmt, roll-Stmt, roll-out-Stmt}
use Rattle.py_syntax.specs.declared.stmt.Stmt.TheOpen.{Stmt-F}
use Rattle.py_syntax.specs.declared.stmt.Stmt.TheFolds.{fold-roll-Stmt}
use Rattle.drive_account.specs.At.{At}
use Rattle.drive_account.specs.declared.payments.Budget.{Budget}
use Rattle.step_straight.proofs.Paying.{costs_as}
use Rattle.step_straight.specs.Comes.{Comes, Gives, Resumes}
use Rattle.step_straight.specs.declared.given.Given.{Given}
use Rattle.step_straight.specs.declared.given.Given.TheVariants as given
use Rattle.step_straight.specs.declared.given.Priced.{Priced}
use Rattle.drive_straight.specs.Remains.{Affords, Due, IsIf, Leads, Moves, Returns, attribute_name, comes, first_operand, gives, goes_on, is_attribute, is_left, is_left_at, is_operated, operand_at, remains, returned_at, returned_of}
use Rattle.drive_straight.specs.declared.execution.Execution.{Execution}
use Rattle.drive_straight.specs.declared.next.Next.{Next}
use Rattle.drive_straight.proofs.AtOnce.{decided, moves_paid, operands_begin, runs_rolled, test_comes}

-- whatever script stood at the first run stands at the other
abbrev pub Reaches : Budget → Run → Budget → Run → Type 0
Reaches p run q next = (files : Option Files) (whole : Run) (fuel : ℕ) (mine : List (Event × Reply)) → At files whole fuel mine p run → At files whole fuel mine q next

-- what follows a way that was gone
pub leads_behind : (old mid new : Execution) (was between : Due) (r : Result Next NoMemory) → Reaches old.budget (was old) mid.budget (between mid) → Leads mid between new r → Leads old was new r
leads_behind old mid new was between r first =
    IfOk-weaker r _ _ (λ next second files whole fuel mine a. second files whole fuel mine (first files whole fuel mine a))

-- the same run in other words
pub same_run : (p : Budget) (run next : Run) → run ≡ next → Reaches p run p next
same_run p run next is files whole fuel mine a = subst (λ (r : Run). At files whole fuel mine p r) is a

-- one way behind the other
pub reaches_on : (p q r : Budget) (run mid next : Run) → Reaches p run q mid → Reaches q mid r next → Reaches p run r next
reaches_on p q r run mid next first second files whole fuel mine a = second files whole fuel mine (first files whole fuel mine a)

-- ---- operands

-- the operand behind those that have values has its value, which is paid
pub operand_paid : (c c' : Execution) (e operand : Expr) (vs vs' : List Value) (v : Value) (units : ℕ) (budget : Budget) → slice_get (operands_at (out-Expr e)) (length vs) ≡ Some operand → Gives operand c.thread.state v units
    → Affords c.budget budget units → vs' ≡ vs ++ v ∷ [] → c' ≡ record { budget = budget; held = c.held; thread = c.thread; work = c.work }
    → Moves c.budget (remains c (want.Then (it.Operands (Expression e) vs))) c' (want.Then (it.Operands (Expression e) vs'))
operand_paid c c' e operand vs vs' v units budget there value affords more is =
    let s = c.thread.state in
    let d = c.thread.left in
    let a = around_at sources d in
    let k = rest sources c.work d in
    let es = operands_at (out-Expr e) in
    let go = completes a (Expression e) in
    rw more (moves_paid c c' (it.Operands (Expression e) vs) (want.Then (it.Operands (Expression e) (vs ++ v ∷ []))) budget units c.thread c.work affords
    (costs_as
    (ap (λ (es : List Expr). gathers (map (eval a) es) vs go s k) (drop_some es (length vs) operand there))
    (ap (λ (es : List Expr). gathers (map (eval a) es) (vs ++ v ∷ []) go s k) (sym (drop_more es vs v)))
    (value a (on_value k (λ v s. gathers (map (eval a) (drop (suc (length vs)) es)) (vs ++ v ∷ []) go s k)))) is)

-- it is waited for
pub operand_waits : (c c' : Execution) (e operand : Expr) (vs : List Value) → slice_get (operands_at (out-Expr e)) (length vs) ≡ Some operand
    → c' ≡ record { budget = c.budget; held = c.held; thread = c.thread; work = frame.Operands (Expression e) vs ∷ c.work }
    → remains c (want.Then (it.Operands (Expression e) vs)) ≡ remains c' (want.Then (it.Eval operand))
operand_waits c c' e operand vs there is =
    let a = around_at sources c.thread.left in
    rw is (ap (λ (es : List Expr). gathers (map (eval a) es) vs (completes a (Expression e)) c.thread.state (rest sources c.work c.thread.left)) (drop_some (operands_at (out-Expr e)) (length vs) operand there))

-- all have values, and the unit of the expression is paid
pub applied : (c c' : Execution) (e : Expr) (vs : List Value) (budget : Budget) → slice_get (operands_at (out-Expr e)) (length vs) ≡ None → Affords c.budget budget 1
    → c' ≡ record { budget = budget; held = c.held; thread = c.thread; work = c.work } → Moves c.budget (remains c (want.Then (it.Operands (Expression e) vs))) c' (want.Then (it.Apply e vs))
applied c c' e vs budget none affords is =
    let a = around_at sources c.thread.left in
    moves_paid c c' (it.Operands (Expression e) vs) (want.Then (it.Apply e vs)) budget 1 c.thread c.work affords
    (costs_as (ap (λ (es : List Expr). gathers (map (eval a) es) vs (completes a (Expression e)) c.thread.state (rest sources c.work c.thread.left)) (drop_none (operands_at (out-Expr e)) (length vs) none)) refl
    (record { payments = 1 ∷ []; all = refl; same = refl })) is

-- the next one has come
pub operand_came : (c : Execution) (e : Expr) (vs vs' : List Value) (v : Value) → vs' ≡ vs ++ v ∷ []
    → goes_on (frame.Operands (Expression e) vs) (Went v) c ≡ remains c (want.Then (it.Operands (Expression e) vs'))
operand_came c e vs vs' v more =
    let a = around_at sources c.thread.left in
    let es = operands_at (out-Expr e) in
    rw more (ap (λ (es : List Expr). gathers (map (eval a) es) (vs ++ v ∷ []) (completes a (Expression e)) c.thread.state (rest sources c.work c.thread.left)) (sym (drop_more es vs v)))

-- fewer are left behind one that has its value
pub fewer_left : (es : List Expr) (vs vs' : List Value) (v : Value) (e : Expr) → slice_get es (length vs) ≡ Some e → vs' ≡ vs ++ v ∷ [] → length es - length vs' < length es - length vs
fewer_left es vs vs' v e there is =
    let within : length vs < length es = slice_get_within es (length vs) e there in
    let more : length vs' ≡ length vs + 1 = ap length is ∙ length-append vs (v ∷ []) in
    omega (arith, within, more)

-- ---- expressions that begin with their first operand

call_at : (around : Around) (callee : Expr) (form : Expr-F Expr) (es : List Expr) → is_attribute form ≡ false → eval_call around callee form es ≡ operates (eval around callee ∷ map (eval around) es) (calls_first around)
call_at around callee (Expr-F.Attribute object x) es h = absurd (cc h)
call_at around callee form es h = refl

operated_at : (around : Around) (d : Expr-F Expr) (s : State) (k : Onward) → is_operated d ≡ true → eval_at around d s k ≡ gathers (map (eval around) (operands_at d)) [] (applied_on (applies_at around d)) s k
operated_at around (Expr-F.Call f es) s k h = ap (λ (p : Piece). p s k) (call_at around f (out-Expr f) es (not-true (is_attribute (out-Expr f)) h))
operated_at around (Expr-F.Tuple es) s k h = refl
operated_at around (Expr-F.List es) s k h = refl
operated_at around (Expr-F.Attribute a x) s k h = refl
operated_at around (Expr-F.Subscript a b) s k h = refl
operated_at around (Expr-F.Negative a) s k h = refl
operated_at around (Expr-F.Not a) s k h = refl
operated_at around (Expr-F.Binary o a b) s k h = refl
operated_at around (Expr-F.Compare c a b) s k h = refl
operated_at around (Expr-F.Name x) s k h = absurd (false≢true h)
operated_at around (Expr-F.Number n) s k h = absurd (false≢true h)
operated_at around (Expr-F.Str text) s k h = absurd (false≢true h)
operated_at around Expr-F.Nothing s k h = absurd (false≢true h)
operated_at around Expr-F.True s k h = absurd (false≢true h)
operated_at around Expr-F.False s k h = absurd (false≢true h)
operated_at around (Expr-F.And a b) s k h = absurd (false≢true h)
operated_at around (Expr-F.Or a b) s k h = absurd (false≢true h)

pub operated : (c : Execution) (e : Expr) (none : List Value) → is_operated (out-Expr e) ≡ true → none ≡ [] → remains c (want.Then (it.Eval e)) ≡ remains c (want.Then (it.Operands (Expression e) none))
operated c e none h empty =
    let s = c.thread.state in
    let a = around_at sources c.thread.left in
    let k = rest sources c.work c.thread.left in
    rw empty (ap (λ (p : Piece). p s k) (eval_is a e) ∙ operated_at a (out-Expr e) s k h)

-- ---- what came to its price

pub expression_came : (c c' : Execution) (e : Expr) (p : Priced) (budget : Budget) → Affords c.budget budget p.units → Comes e c.thread p → c' ≡ record { budget = budget; held = c.held; thread = c.thread; work = c.work }
    → Reaches c.budget (remains c (want.Then (it.Eval e))) c'.budget (comes e p.given c')
expression_came c c' e p budget affords priced is files whole fuel mine a =
    rw is (affords files whole fuel mine _ _ (priced sources (rest sources c.work)) a)

pub operator_came : (c c' : Execution) (e : Expr) (vs : List Value) (v : Value) (p : Priced) (budget : Budget) → Affords c.budget budget p.units → Resumes e vs v c.thread p
    → c' ≡ record { budget = budget; held = c.held; thread = c.thread; work = c.work } → Reaches c.budget (goes_on (frame.Operands (Expression e) vs) (Went v) c) c'.budget (comes e p.given c')
operator_came c c' e vs v p budget affords priced is files whole fuel mine a =
    rw is (affords files whole fuel mine _ _ (priced sources (rest sources c.work)) a)

-- ---- frames

-- a value comes to the frame that is taken off
pub taken : (c : Execution) (f : Frame) (frames : List Frame) (v : Value) → c.work ≡ f ∷ frames → gives v c ≡ goes_on f (Went v) (record { budget = c.budget; held = c.held; thread = c.thread; work = frames })
taken c f frames v is = ap (λ (fs : List Frame). rest sources fs c.thread.left (Went v) c.thread.state) is

-- or to the one that is put back
pub put_back : (c : Execution) (f : Frame) (frames work : List Frame) (v : Value) → c.work ≡ f ∷ frames → work ≡ f ∷ frames
    → gives v c ≡ gives v (record { budget = c.budget; held = c.held; thread = c.thread; work = work })
put_back c f frames work v is back = ap (λ (fs : List Frame). rest sources fs c.thread.left (Went v) c.thread.state) (is ∙ sym back)

-- what an expression waits for, before the frame that was pushed
pub operand_given : (c c' : Execution) (e : Expr) (g : Given) (operand : Expr) (vs : List Value) → g ≡ given.Waits operand vs
    → c' ≡ record { budget = c.budget; held = c.held; thread = c.thread; work = frame.Operands (Expression e) vs ∷ c.work } → comes e g c ≡ remains c' (want.Then (it.Eval operand))
operand_given c c' e g operand vs same is = rw (same, is) refl

-- ---- tests

abbrev again : Around → Expr → List Stmt → ℕ → Piece
again a test body n s k = run_all a body s (looped k (turns n (eval a test) (run_all a body)))

pub test_holds : (c c' : Execution) (test : Expr) (body stmts : List Stmt) (n : ℕ) (v : Value) → stmts ≡ body → is_listed v ≡ false → is_true v ≡ true
    → c' ≡ record { budget = c.budget; held = c.held; thread = c.thread; work = frame.Loop test body n ∷ c.work } → goes_on (frame.Decide test body n) (Went v) c ≡ remains c' (want.Then (it.Block stmts 0))
test_holds c c' test body stmts n v same plain holds is =
    let s = c.thread.state in
    let a = around_at sources c.thread.left in
    let k = rest sources c.work c.thread.left in
    rw (same, is) (ap (λ (p : Piece). p s k) (decided v (again a test body n) passes plain) ∙ ap (λ (b : Bool). (if b then again a test body n else passes) s k) holds)

-- ---- `if`

runs_if : (a : Around) (stmt : Stmt) (bs : List Branch) (otherwise : List Stmt) → out-Stmt stmt ≡ Stmt-F.If bs otherwise → run a stmt ≡ (λ s k. pay 1 (tests (branches a bs) (run_all a otherwise) s k))
runs_if a stmt bs otherwise is =
    ap (run a) (sym (roll-out-Stmt stmt) ∙ ap roll-Stmt is)
    ∙ fold-roll-Stmt Piece BranchPiece DefPiece HandlerPiece (stmt_at a) (branch_at a) def_at (handler_at a) (Stmt-F.If bs otherwise)

-- its unit is paid, and its branches come
pub if_begins : (c c' : Execution) (stmts : List Stmt) (at : ℕ) (bs : List Branch) (otherwise : List Stmt) (budget : Budget) → IsIf stmts at bs otherwise → Affords c.budget budget 1
    → c' ≡ record { budget = budget; held = c.held; thread = c.thread; work = frame.Block stmts (at + 1) ∷ c.work } → Moves c.budget (remains c (want.Then (it.Block stmts at))) c' (want.Then (it.Branches bs 0 otherwise))
if_begins c c' stmts at bs otherwise budget form affords is =
    let s = c.thread.state in
    let d = c.thread.left in
    let a = around_at sources d in
    let k = rest sources c.work d in
    let behind : Onward = on_value k (λ _ s. in_order (map (run a) (drop (at + 1) stmts)) s k) in
    moves_paid c c' (it.Block stmts at) (want.Then (it.Branches bs 0 otherwise)) budget 1 c.thread (frame.Block stmts (at + 1) ∷ c.work) affords
    (costs_as
    (sym (order_goes (run a) stmts at form.stmt s k form.there) ∙ ap (λ (p : Piece). p s behind) (runs_if a form.stmt bs otherwise form.form))
    refl
    (record { payments = 1 ∷ []; all = refl; same = refl })) is

-- ---- other statements

runs_begun : (a : Around) (d : Stmt-F Stmt Branch FuncDef Handler) → is_left_at d ≡ false → run a (roll-Stmt d) ≡ (λ s k. pay 1 (begun_at a d s k))
runs_begun a (Stmt-F.While test body) h = absurd (false≢true (sym h))
runs_begun a (Stmt-F.Evaluate e) h = fold-roll-Stmt Piece BranchPiece DefPiece HandlerPiece (stmt_at a) (branch_at a) def_at (handler_at a) (Stmt-F.Evaluate e)
runs_begun a (Stmt-F.Assign target e) h = fold-roll-Stmt Piece BranchPiece DefPiece HandlerPiece (stmt_at a) (branch_at a) def_at (handler_at a) (Stmt-F.Assign target e)
runs_begun a (Stmt-F.Augment x o e) h = fold-roll-Stmt Piece BranchPiece DefPiece HandlerPiece (stmt_at a) (branch_at a) def_at (handler_at a) (Stmt-F.Augment x o e)
runs_begun a (Stmt-F.Delete target) h = fold-roll-Stmt Piece BranchPiece DefPiece HandlerPiece (stmt_at a) (branch_at a) def_at (handler_at a) (Stmt-F.Delete target)
runs_begun a (Stmt-F.Return e) h = fold-roll-Stmt Piece BranchPiece DefPiece HandlerPiece (stmt_at a) (branch_at a) def_at (handler_at a) (Stmt-F.Return e)
runs_begun a (Stmt-F.Raise e) h = fold-roll-Stmt Piece BranchPiece DefPiece HandlerPiece (stmt_at a) (branch_at a) def_at (handler_at a) (Stmt-F.Raise e)
runs_begun a Stmt-F.Pass h = fold-roll-Stmt Piece BranchPiece DefPiece HandlerPiece (stmt_at a) (branch_at a) def_at (handler_at a) Stmt-F.Pass
runs_begun a Stmt-F.Break h = fold-roll-Stmt Piece BranchPiece DefPiece HandlerPiece (stmt_at a) (branch_at a) def_at (handler_at a) Stmt-F.Break
runs_begun a Stmt-F.Continue h = fold-roll-Stmt Piece BranchPiece DefPiece HandlerPiece (stmt_at a) (branch_at a) def_at (handler_at a) Stmt-F.Continue
runs_begun a (Stmt-F.Import items) h = fold-roll-Stmt Piece BranchPiece DefPiece HandlerPiece (stmt_at a) (branch_at a) def_at (handler_at a) (Stmt-F.Import items)
runs_begun a (Stmt-F.From dots parts names) h = fold-roll-Stmt Piece BranchPiece DefPiece HandlerPiece (stmt_at a) (branch_at a) def_at (handler_at a) (Stmt-F.From dots parts names)
runs_begun a (Stmt-F.If bs otherwise) h = fold-roll-Stmt Piece BranchPiece DefPiece HandlerPiece (stmt_at a) (branch_at a) def_at (handler_at a) (Stmt-F.If bs otherwise)
runs_begun a (Stmt-F.Try body hs otherwise last) h = fold-roll-Stmt Piece BranchPiece DefPiece HandlerPiece (stmt_at a) (branch_at a) def_at (handler_at a) (Stmt-F.Try body hs otherwise last)
runs_begun a (Stmt-F.Def f) h = absurd (false≢true (sym h))

within_some : (stmts : List Stmt) (at : ℕ) → at < length stmts → (stmt : Stmt) × (slice_get stmts at ≡ Some stmt)
within_some [] at h = absurd (omega (arith, h))
within_some (stmt ∷ stmts) zero h = (stmt, refl)
within_some (stmt ∷ stmts) (suc at) h = within_some stmts at (omega (arith, h))

-- its unit is paid
pub other_begins : (c c' : Execution) (stmts : List Stmt) (at : ℕ) (budget : Budget) → at < length stmts → is_left (slice_get stmts at) ≡ false → Affords c.budget budget 1
    → c' ≡ record { budget = budget; held = c.held; thread = c.thread; work = frame.Block stmts (at + 1) ∷ c.work } → Moves c.budget (remains c (want.Then (it.Block stmts at))) c' (want.Then (it.Begun stmts at))
other_begins c c' stmts at budget within plain affords is =
    let s = c.thread.state in
    let d = c.thread.left in
    let a = around_at sources d in
    let k = rest sources c.work d in
    let behind : Onward = on_value k (λ _ s. in_order (map (run a) (drop (at + 1) stmts)) s k) in
    let found = within_some stmts at within in
    let plain_at : is_left_at (out-Stmt found.0) ≡ false = ap is_left (sym found.1) ∙ plain in
    moves_paid c c' (it.Block stmts at) (want.Then (it.Begun stmts at)) budget 1 c.thread (frame.Block stmts (at + 1) ∷ c.work) affords
    (costs_as
    (sym (order_goes (run a) stmts at found.0 s k found.1) ∙ ap (λ (p : Piece). p s behind) (ap (run a) (sym (roll-out-Stmt found.0)) ∙ runs_begun a (out-Stmt found.0) plain_at))
    (ap (λ (o : Option Stmt). begun a o s behind) (sym found.1))
    (record { payments = 1 ∷ []; all = refl; same = refl })) is

-- ---- what a statement returns

abbrev return_of : Option Expr → Stmt-F Stmt Branch FuncDef Handler
return_of o = Stmt-F.Return o

return_form : (d : Stmt-F Stmt Branch FuncDef Handler) (e : Expr) → returned_of d ≡ Some e → d ≡ Stmt-F.Return (Some e)
return_form (Stmt-F.Return o) e h = ap return_of h
return_form d e h = absurd (cc h)

return_stmt : (o : Option Stmt) (e : Expr) → returned_at o ≡ Some e → (stmt : Stmt) × ((o ≡ Some stmt) × (out-Stmt stmt ≡ Stmt-F.Return (Some e)))
return_stmt None e h = absurd (cc h)
return_stmt (Some stmt) e h = (stmt, (refl, return_form (out-Stmt stmt) e h))

pub returned_at_once : (c c' : Execution) (stmts : List Stmt) (at : ℕ) (v : Value) (units : ℕ) (budget : Budget) → Returns stmts at c v units → Affords c.budget budget units
    → c' ≡ record { budget = budget; held = c.held; thread = c.thread; work = c.work } → Moves c.budget (remains c (want.Then (it.Block stmts at))) c' (want.Go (Left (Return v)))
returned_at_once c c' stmts at v units budget back affords is =
    let s = c.thread.state in
    let d = c.thread.left in
    let a = around_at sources d in
    let k = rest sources c.work d in
    let behind : Onward = on_value k (λ _ s. in_order (map (run a) (drop (at + 1) stmts)) s k) in
    let go : Rest = λ _. on_value behind (λ v s. returns (v ∷ []) s behind) in
    let found = return_stmt (slice_get stmts at) back.expr back.there in
    let facts = found.1 in
    moves_paid c c' (it.Block stmts at) (want.Go (Left (Return v))) budget units c.thread c.work affords
    (costs_as
    (sym (order_goes (run a) stmts at found.0 s k facts.0)
    ∙ ap (λ (p : Piece). p s behind) (ap (run a) (sym (roll-out-Stmt found.0) ∙ ap roll-Stmt facts.1) ∙ runs_rolled a (Stmt-F.Return (Some back.expr)) back.expr refl))
    refl
    (back.value sources go)) is

-- ---- calls

call_layer : (a : Around) (d : Expr-F Expr) (v : Value) (vs : List Value) → is_call d ≡ true → applies_at a d (v ∷ vs) ≡ a.called v vs
call_layer a (Expr-F.Call f es) v vs h = refl
call_layer a (Expr-F.Name x) v vs h = absurd (false≢true h)
call_layer a (Expr-F.Number n) v vs h = absurd (false≢true h)
call_layer a (Expr-F.Str text) v vs h = absurd (false≢true h)
call_layer a Expr-F.Nothing v vs h = absurd (false≢true h)
call_layer a Expr-F.True v vs h = absurd (false≢true h)
call_layer a Expr-F.False v vs h = absurd (false≢true h)
call_layer a (Expr-F.Tuple es) v vs h = absurd (false≢true h)
call_layer a (Expr-F.List es) v vs h = absurd (false≢true h)
call_layer a (Expr-F.Attribute e x) v vs h = absurd (false≢true h)
call_layer a (Expr-F.Subscript e f) v vs h = absurd (false≢true h)
call_layer a (Expr-F.Negative e) v vs h = absurd (false≢true h)
call_layer a (Expr-F.Binary o e f) v vs h = absurd (false≢true h)
call_layer a (Expr-F.Compare c e f) v vs h = absurd (false≢true h)
call_layer a (Expr-F.Not e) v vs h = absurd (false≢true h)
call_layer a (Expr-F.And e f) v vs h = absurd (false≢true h)
call_layer a (Expr-F.Or e f) v vs h = absurd (false≢true h)

first_and_rest : (vs rest : List Value) (v : Value) → slice_get vs 0 ≡ Some v → rest ≡ remove vs 0 → vs ≡ v ∷ rest
first_and_rest [] rest v h r = absurd (cc h)
first_and_rest (u ∷ vs) rest v h r = ap (λ (x : Value). x ∷ vs) (some_same h) ∙ ap (λ (xs : List Value). v ∷ xs) (sym r)

-- the first value is called with the others
pub call_applied : (c c' : Execution) (e : Expr) (vs others : List Value) (v : Value) → is_call (out-Expr e) ≡ true → slice_get vs 0 ≡ Some v → others ≡ remove vs 0
    → c' ≡ record { budget = c.budget; held = c.held; thread = c.thread; work = frame.Sized ∷ c.work } → remains c (want.Then (it.Apply e vs)) ≡ remains c' (want.Then (it.Call v others))
call_applied c c' e vs others v h first behind is =
    let s = c.thread.state in
    let a = around_at sources c.thread.left in
    let k = sized (rest sources c.work c.thread.left) in
    rw is (ap (λ (vs : List Value). applies_at a (out-Expr e) vs s k) (first_and_rest vs others v first behind) ∙ ap (λ (p : Piece). p s k) (call_layer a (out-Expr e) v others h))

-- ---- attributes

attribute_layer : (a : Around) (d : Expr-F Expr) (x : List ℕ) (v : Value) → attribute_name d ≡ Some x → applies_at a d (v ∷ []) ≡ member a.access v x
attribute_layer a (Expr-F.Attribute e y) x v h = ap (λ (z : List ℕ). member a.access v z) (some_same h)
attribute_layer a d x v h = absurd (cc h)

only : (vs : List Value) (v : Value) → length vs ≡ 1 → slice_get vs 0 ≡ Some v → vs ≡ v ∷ []
only [] v one h = absurd (cc h)
only (u ∷ []) v one h = ap (λ (x : Value). x ∷ []) (some_same h)
only (u ∷ w ∷ vs) v one h = absurd (omega (arith, one))

-- the attribute of the one value is read
pub member_applied : (c c' : Execution) (e : Expr) (vs : List Value) (v : Value) (x : List ℕ) → attribute_name (out-Expr e) ≡ Some x → length vs ≡ 1 → slice_get vs 0 ≡ Some v
    → c' ≡ record { budget = c.budget; held = c.held; thread = c.thread; work = frame.Sized ∷ c.work } → remains c (want.Then (it.Apply e vs)) ≡ remains c' (want.Then (it.Member v x))
member_applied c c' e vs v x name one first is =
    let s = c.thread.state in
    let a = around_at sources c.thread.left in
    let k = sized (rest sources c.work c.thread.left) in
    rw is (ap (λ (vs : List Value). applies_at a (out-Expr e) vs s k) (only vs v one first) ∙ ap (λ (p : Piece). p s k) (attribute_layer a (out-Expr e) x v name))

-- ---- work that begins with an expression

operand_stmt : (o : Option Stmt) (e : Expr) → operand_at o ≡ Some e → (stmt : Stmt) × ((o ≡ Some stmt) × (first_operand (out-Stmt stmt) ≡ Some e))
operand_stmt None e h = absurd (cc h)
operand_stmt (Some stmt) e h = (stmt, (refl, h))

-- the first operand of a statement comes
pub statement_begins : (c blocked ready : Execution) (stmts : List Stmt) (at : ℕ) (operand : Expr) (none : List Value) (budget : Budget) → none ≡ [] → operand_at (slice_get stmts at) ≡ Some operand → Affords c.budget budget 1
    → blocked ≡ record { budget = budget; held = c.held; thread = c.thread; work = frame.Block stmts (at + 1) ∷ c.work }
    → ready ≡ record { budget = blocked.budget; held = blocked.held; thread = blocked.thread; work = frame.Operands (Statement stmts at) none ∷ blocked.work }
    → Reaches c.budget (remains c (want.Then (it.Block stmts at))) ready.budget (remains ready (want.Then (it.Eval operand)))
statement_begins c blocked ready stmts at operand none budget empty first affords is-blocked is =
    let found = operand_stmt (slice_get stmts at) operand first in
    let facts = found.1 in
    rw is (operands_begin c blocked stmts at found.0 operand operand none budget refl empty facts.0 facts.1 affords is-blocked)

-- the test of a turn comes
pub test_begins : (c ready : Execution) (test test' : Expr) (body : List Stmt) (n m : ℕ) (budget : Budget) → m ≡ suc n → test' ≡ test → Affords c.budget budget 1
    → ready ≡ record { budget = budget; held = c.held; thread = c.thread; work = frame.Decide test body n ∷ c.work }
    → Reaches c.budget (remains c (want.Then (it.Turn test body m))) ready.budget (remains ready (want.Then (it.Eval test')))
test_begins c ready test test' body n m budget more same affords is =
    rw is (test_comes c (record { budget = budget; held = c.held; thread = c.thread; work = c.work }) test test' body n m budget more same affords refl)
