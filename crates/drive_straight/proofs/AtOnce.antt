-- What is done at once, and paid in one sum.
use Rattle.std.proofs.Common.{◌≡◌, ◌≤◌, ◌-◌, ℕ, suc, ◌+◌, List, [], ◌∷◌, map, drop, length, slice_get, Bool, true, false, if◌then◌else◌, Option, Some, None, refl, sym, subst, ◌∙◌, ap, arith}
use Rattle.std.proofs.Math.ListN.{drop_of_length-le}
use Rattle.tree_files.specs.Files.{Files}
use Rattle.py_value.specs.Measures.{is_true}
use Rattle.py_value.specs.declared.value.Value.{Value}
use Rattle.py_value.specs.declared.value.Value.TheVariants as values
use Rattle.machine_events.specs.declared.event.Event.{Event}
use Rattle.machine_events.specs.declared.event.Reply.{Reply}
use Rattle.meaning_runs.specs.Runs.{Run, Stands}
use Rattle.meaning_runs.specs.Costs.{units_of}
use Rattle.meaning_runs.proofs.Stand.{stands_paid}
use Rattle.meaning_state.specs.declared.flow.Flow.{Flow}
use Rattle.meaning_state.specs.declared.flow.Flow.TheVariants.{Went}
use Rattle.meaning_state.specs.declared.thread.State.{State}
use Rattle.meaning_state.specs.declared.thread.Thread.{Thread}
use Rattle.meaning_script.specs.Meaning.{around_at}
use Rattle.meaning_script.specs.Names.{is_local_name, reads, reads_global, stores, with_local}
use Rattle.meaning_script.specs.Operators.{Around, eval}
use Rattle.meaning_script.specs.Pieces.{Piece, Onward, decides, done, gathers, in_order, on_value, passes, pay, sized}
use Rattle.meaning_script.specs.Statements.{BranchPiece, DefPiece, HandlerPiece, assigns_at, branch_at, def_at, handler_at, looped, performs_at, run, run_all, stmt_at, stmt_operands_at, target_operands_at, turns}
use Rattle.step_calls.specs.Sources.{sources}
use Rattle.py_frames.specs.Listing.{is_listed}
use Rattle.py_frames.proofs.Operands.{unlisted}
use Rattle.py_frames.proofs.Options.{some_same}
use Rattle.py_frames.proofs.Places.{order_goes}
use Rattle.py_frames.specs.Does.{Rest, operands_of_stmt, performs, rest}
use Rattle.py_frames.specs.declared.work.Form.TheVariants.{Statement}
use Rattle.py_frames.specs.declared.want.Want.{Want}
use Rattle.py_frames.specs.declared.want.Want.TheVariants as want
use Rattle.py_frames.specs.declared.work.Frame.{Frame}
use Rattle.py_frames.specs.declared.work.Frame.TheVariants as frame
use Rattle.py_frames.specs.declared.work.Item.{Item}
use Rattle.py_frames.specs.declared.work.Item.TheVariants as it
use Rattle.py_syntax.specs.declared.expr.Expr.{Expr, out-Expr, out-roll-Expr}
use Rattle.py_syntax.specs.declared.expr.Expr.TheVariants as tree
use Rattle.py_syntax.specs.declared.expr.Expr.TheVariants.{rolls-Name}
use Rattle.py_syntax.specs.declared.expr.Expr.TheOpen.{Expr-F}
use Rattle.py_syntax.specs.declared.stmt.Branch.{Branch}
use Rattle.py_syntax.specs.declared.stmt.FuncDef.{FuncDef}
use Rattle.py_syntax.specs.declared.stmt.Handler.{Handler}
use Rattle.py_syntax.specs.declared.stmt.Stmt.{Stmt, out-Stmt, roll-Stmt, roll-out-Stmt}
use Rattle.py_syntax.specs.declared.stmt.Stmt.TheOpen.{Stmt-F}
use Rattle.py_syntax.specs.declared.stmt.Stmt.TheFolds.{fold-roll-Stmt}
use Rattle.step_expressions.specs.Forms.{eval_at}
use Rattle.step_expressions.proofs.Layers.{eval_is}
use Rattle.drive_account.specs.At.{At, MayBeUnread}
use Rattle.drive_account.specs.declared.payments.Budget.{Budget}
use Rattle.step_straight.specs.Costs.{Costs, in_all, paying}
use Rattle.step_straight.proofs.Paying.{costs_as}
use Rattle.step_straight.specs.Comes.{Comes, given_does}
use Rattle.step_straight.specs.declared.given.Given.{Given}
use Rattle.step_straight.specs.declared.given.Given.TheVariants as given
use Rattle.drive_straight.specs.Remains.{Affords, Assigns, Did, IsValueOf, Moves, first_operand, goes_on, remains}
use Rattle.drive_straight.specs.declared.execution.Execution.{Execution}

stands_behind : {files : Option Files} {whole : Run} {fuel : ℕ} {mine : List (Event × Reply)} {next : Run} (ns : List ℕ) (b : ℕ) → in_all ns ≤ b
    → Stands files whole fuel mine b (paying ns next) → Stands files whole fuel mine (b - in_all ns) next
stands_behind {files} {whole} {fuel} {mine} {next} [] b enough s =
    subst (λ (n : ℕ). Stands files whole fuel mine n next) (omega arith) s
stands_behind {files} {whole} {fuel} {mine} {next} (n ∷ ns) b enough s =
    subst (λ (n : ℕ). Stands files whole fuel mine n next) (omega (arith, enough))
    (stands_behind ns (b - n) (omega (arith, enough)) (stands_paid {n = n} (omega (arith, enough)) s))

-- units that are there are paid in one sum
pub affords : (old new : Budget) (units : ℕ) → units ≤ old.left → new.left ≡ old.left - units → new.read ≡ None → Affords old new units
affords old new units enough left told files whole fuel mine run next costs a = record {
  stands =
      subst (λ (b : ℕ). Stands files whole fuel mine b next) (ap (λ (n : ℕ). old.left - n) costs.all ∙ sym left)
      (stands_behind costs.payments old.left (omega (arith, costs.all, enough)) (subst (λ (r : Run). Stands files whole fuel mine old.left r) costs.same a.stands));
  unread = subst (λ (o : Option ℕ). MayBeUnread files whole fuel mine o) (sym told) tt;
}

-- what was paid for stands behind, in other words
pub moves_paid : (c c' : Execution) (item : Item) (w : Want) (budget : Budget) (units : ℕ) (thread : Thread) (work : List Frame) → Affords c.budget budget units
    → Costs units (remains c (want.Then item)) (remains (record { budget = budget; held = c.held; thread = thread; work = work }) w)
    → c' ≡ record { budget = budget; held = c.held; thread = thread; work = work } → Moves c.budget (remains c (want.Then item)) c' w
moves_paid c c' item w budget units thread work affords costs is =
    subst (λ (after : Execution). Moves c.budget (remains c (want.Then item)) after w) (sym is) (λ files whole fuel mine a. affords files whole fuel mine _ _ costs a)

-- one move behind the other
pub moves_on : (budget : Budget) (run : Run) (c c' : Execution) (w : Want) (next : Run) → Moves budget run c w
    → ((files : Option Files) (whole : Run) (fuel : ℕ) (mine : List (Event × Reply)) → At files whole fuel mine c.budget (remains c w) → At files whole fuel mine c'.budget next)
    → (files : Option Files) (whole : Run) (fuel : ℕ) (mine : List (Event × Reply)) → At files whole fuel mine budget run → At files whole fuel mine c'.budget next
moves_on budget run c c' w next first second files whole fuel mine a = second files whole fuel mine (first files whole fuel mine a)

-- a statement was not done, or was
pub did_not : (c c' : Execution) (stmts : List Stmt) (at : ℕ) (b : Bool) → b ≡ false → Did c stmts at c' b
    → Moves c.budget (remains c (want.Then (it.Block stmts at))) c' (want.Then (it.Block stmts at))
did_not c c' stmts at b is did = subst (λ (b : Bool). Did c stmts at c' b) is did

pub did_one : (c c' : Execution) (stmts : List Stmt) (at : ℕ) (b : Bool) → b ≡ true → Did c stmts at c' b
    → Moves c.budget (remains c (want.Then (it.Block stmts at))) c' (want.Then (it.Block stmts (at + 1)))
did_one c c' stmts at b is did = subst (λ (b : Bool). Did c stmts at c' b) is did

-- an expression that came to a value, behind one unit more
pub valued : (c : Execution) (e : Expr) (g : Given) (n sum : ℕ) (v : Value) → g ≡ given.Value v → sum ≡ n + 1 → Comes e c.thread (record { given = g; units = n }) → IsValueOf e c v sum
valued c e g n sum v is more comes w next =
    let h = comes w next in
    record {
      payments = 1 ∷ h.payments;
      all = omega (arith, h.all, more);
      same = ap (λ (r : Run). pay 1 r) (h.same ∙ ap (λ (g : Given). paying h.payments (given_does w c.thread.left e g next c.thread.state)) is);
    }

-- the size of a value is paid
pub paid_size : (c : Execution) (flow : Flow) (v : Value) (units : ℕ) (budget : Budget) → flow ≡ Went v → units ≡ units_of v → Affords c.budget budget units
    → (files : Option Files) (whole : Run) (fuel : ℕ) (mine : List (Event × Reply)) → At files whole fuel mine c.budget (goes_on frame.Sized flow c)
    → At files whole fuel mine budget (rest sources c.work c.thread.left (Went v) c.thread.state)
paid_size c flow v units budget is size affords files whole fuel mine a =
    affords files whole fuel mine _ _ (record { payments = units_of v ∷ []; all = omega (arith, size); same = ap (λ (f : Flow). goes_on frame.Sized f c) is }) a

-- lists of none and of one
pub none_of : (vs : List Value) → slice_get vs 0 ≡ None → [] ≡ vs
none_of [] h = refl
none_of (v ∷ vs) h = absurd (cc h)

pub one_of : (vs : List Value) (x : Value) → slice_get vs 0 ≡ Some x → length vs ≡ 1 → x ∷ [] ≡ vs
one_of [] x h n = absurd (cc h)
one_of (v ∷ []) x h n = ap (λ (x : Value). x ∷ []) (sym (some_same h))
one_of (v ∷ u ∷ vs) x h n = absurd (omega (arith, n))

-- ---- assignments

runs_assign : (a : Around) (stmt : Stmt) (target e : Expr) → out-Stmt stmt ≡ Stmt-F.Assign target e
    → run a stmt ≡ (λ s k. pay 1 (gathers (eval a e ∷ map (eval a) (target_operands_at (out-Expr target))) [] (λ vs. assigns_at a.access (out-Expr target) vs) s k))
runs_assign a stmt target e is =
    ap (run a) (sym (roll-out-Stmt stmt) ∙ ap roll-Stmt is)
    ∙ fold-roll-Stmt Piece BranchPiece DefPiece HandlerPiece (stmt_at a) (branch_at a) def_at (handler_at a) (Stmt-F.Assign target e)

-- behind an assignment to a local variable
stored_local : (s : State) (x : List ℕ) (v : Value) (k : Onward) → is_local_name s x ≡ true → stores x v s k ≡ k done (with_local s x v)
stored_local s x v k local = rw local refl

pub assigned : (c c' : Execution) (stmts : List Stmt) (at : ℕ) (x : List ℕ) (e : Expr) (v : Value) (units : ℕ) (budget : Budget) → Assigns stmts at x e → is_local_name c.thread.state x ≡ true
    → IsValueOf e c v units → Affords c.budget budget units
    → c' ≡ record { budget = budget; held = c.held; thread = record { left = c.thread.left; state = with_local c.thread.state x v }; work = c.work }
    → Moves c.budget (remains c (want.Then (it.Block stmts at))) c' (want.Then (it.Block stmts (at + 1)))
assigned c c' stmts at x e v units budget form local value affords is =
    let s = c.thread.state in
    let d = c.thread.left in
    let a = around_at sources d in
    let k = rest sources c.work d in
    let behind : Onward = on_value k (λ _ s. in_order (map (run a) (drop (at + 1) stmts)) s k) in
    let go : Expr-F Expr → Rest = λ t _. on_value behind (λ v s. gathers (map (eval a) (target_operands_at t)) (v ∷ []) (λ vs. assigns_at a.access t vs) s behind) in
    moves_paid c c' (it.Block stmts at) (want.Then (it.Block stmts (at + 1))) budget units
    (record { left = d; state = with_local s x v }) c.work affords
    (costs_as
    (sym (order_goes (run a) stmts at form.stmt s k form.there)
    ∙ ap (λ (p : Piece). p s behind) (runs_assign a form.stmt form.target e form.form)
    ∙ ap (λ (t : Expr-F Expr). pay 1 (eval a e s (go t d))) form.name)
    (stored_local s x v behind local)
    (value sources (go (Expr-F.Name x)))) is

-- ---- statements that are begun with an operand

pub runs_rolled : (a : Around) (d : Stmt-F Stmt Branch FuncDef Handler) (e : Expr) → first_operand d ≡ Some e
    → run a (roll-Stmt d) ≡ (λ s k. pay 1 (gathers (eval a e ∷ map (eval a) (drop 1 (stmt_operands_at {B = Branch} {F = FuncDef} {H = Handler} {S = Stmt} d))) [] (performs_at {B = Branch} {F = FuncDef} {H = Handler} {S = Stmt} a.access d) s k))
runs_rolled a (Stmt-F.Evaluate e') e h =
    fold-roll-Stmt Piece BranchPiece DefPiece HandlerPiece (stmt_at a) (branch_at a) def_at (handler_at a) (Stmt-F.Evaluate e')
    ∙ ap (λ (x : Expr). λ s k. pay 1 (gathers (eval a x ∷ []) [] (performs_at {B = Branch} {F = FuncDef} {H = Handler} {S = Stmt} a.access (Stmt-F.Evaluate e')) s k)) (some_same h)
runs_rolled a (Stmt-F.Assign target e') e h =
    fold-roll-Stmt Piece BranchPiece DefPiece HandlerPiece (stmt_at a) (branch_at a) def_at (handler_at a) (Stmt-F.Assign target e')
    ∙ ap (λ (x : Expr). λ s k. pay 1 (gathers (eval a x ∷ map (eval a) (target_operands_at (out-Expr target))) [] (performs_at {B = Branch} {F = FuncDef} {H = Handler} {S = Stmt} a.access (Stmt-F.Assign target e')) s k)) (some_same h)
runs_rolled a (Stmt-F.Return o) e h = rw h
    (fold-roll-Stmt Piece BranchPiece DefPiece HandlerPiece (stmt_at a) (branch_at a) def_at (handler_at a) (Stmt-F.Return (Some e)))
runs_rolled a (Stmt-F.Raise o) e h = rw h
    (fold-roll-Stmt Piece BranchPiece DefPiece HandlerPiece (stmt_at a) (branch_at a) def_at (handler_at a) (Stmt-F.Raise (Some e)))
runs_rolled a (Stmt-F.Augment x o e') e h = absurd (cc h)
runs_rolled a (Stmt-F.Delete target) e h = absurd (cc h)
runs_rolled a Stmt-F.Pass e h = absurd (cc h)
runs_rolled a Stmt-F.Break e h = absurd (cc h)
runs_rolled a Stmt-F.Continue e h = absurd (cc h)
runs_rolled a (Stmt-F.Import items) e h = absurd (cc h)
runs_rolled a (Stmt-F.From dots parts names) e h = absurd (cc h)
runs_rolled a (Stmt-F.If bs otherwise) e h = absurd (cc h)
runs_rolled a (Stmt-F.While test body) e h = absurd (cc h)
runs_rolled a (Stmt-F.Try body hs otherwise last) e h = absurd (cc h)
runs_rolled a (Stmt-F.Def f) e h = absurd (cc h)

-- the unit of a statement is paid, and its first operand comes
pub operands_begin : (c c' : Execution) (stmts : List Stmt) (at : ℕ) (stmt : Stmt) (e operand : Expr) (none : List Value) (budget : Budget) → operand ≡ e → none ≡ [] → slice_get stmts at ≡ Some stmt → first_operand (out-Stmt stmt) ≡ Some e
    → Affords c.budget budget 1 → c' ≡ record { budget = budget; held = c.held; thread = c.thread; work = frame.Block stmts (at + 1) ∷ c.work }
    → Moves c.budget (remains c (want.Then (it.Block stmts at))) c' (want.Both (it.Eval operand) (frame.Operands (Statement stmts at) none))
operands_begin c c' stmts at stmt e operand none budget same empty there first affords is =
    let s = c.thread.state in
    let d = c.thread.left in
    let a = around_at sources d in
    let k = rest sources c.work d in
    let behind : Onward = on_value k (λ _ s. in_order (map (run a) (drop (at + 1) stmts)) s k) in
    let go : Option Stmt → Run = λ o. eval a e s (on_value behind (λ v s. gathers (map (eval a) (drop 1 (operands_of_stmt o))) (v ∷ []) (performs a o) s behind)) in
    rw (same, empty) (moves_paid c c' (it.Block stmts at) (want.Both (it.Eval e) (frame.Operands (Statement stmts at) [])) budget 1 c.thread (frame.Block stmts (at + 1) ∷ c.work) affords
    (costs_as
    (sym (order_goes (run a) stmts at stmt s k there)
    ∙ ap (λ (p : Piece). p s behind) (ap (run a) (sym (roll-out-Stmt stmt)) ∙ runs_rolled a (out-Stmt stmt) e first))
    (ap go (sym there))
    (record { payments = 1 ∷ []; all = refl; same = refl })) is)

-- a block is over
pub block_over : (c : Execution) (stmts : List Stmt) (at : ℕ) → length stmts ≤ at → remains c (want.Then (it.Block stmts at)) ≡ remains c (want.Go (Went values.Nothing))
block_over c stmts at past =
    ap (λ (stmts : List Stmt). run_all (around_at sources c.thread.left) stmts c.thread.state (rest sources c.work c.thread.left)) (drop_of_length-le stmts past)

-- ---- names of the module

reads_module : (s : State) (a : Around) (x : List ℕ) (k : Onward) → is_local_name s x ≡ false → reads a.access x s k ≡ reads_global a.access x s k
reads_module s a x k other = rw other refl

-- a name, and the same in a text of its own
pub named : (e : Expr) (x y : List ℕ) → e ≡ tree.Name x → y ≡ x → out-Expr e ≡ Expr-F.Name y
named e x y is same = ap out-Expr (is ∙ sym (rolls-Name x)) ∙ out-roll-Expr (Expr-F.Name x) ∙ ap (λ (x : List ℕ). Expr-F.Name x) (sym same)

pub global_asked : (c c' : Execution) (e : Expr) (x : List ℕ) (budget : Budget) → out-Expr e ≡ Expr-F.Name x → is_local_name c.thread.state x ≡ false → Affords c.budget budget 1
    → c' ≡ record { budget = budget; held = c.held; thread = c.thread; work = frame.Sized ∷ c.work }
    → Moves c.budget (remains c (want.Then (it.Eval e))) c' (want.Then (it.ReadGlobal x))
global_asked c c' e x budget is other affords same =
    let s = c.thread.state in
    let d = c.thread.left in
    let a = around_at sources d in
    let k = rest sources c.work d in
    moves_paid c c' (it.Eval e) (want.Then (it.ReadGlobal x)) budget 1 c.thread (frame.Sized ∷ c.work) affords
    (costs_as
    (ap (λ (p : Piece). p s k) (eval_is a e) ∙ ap (λ (t : Expr-F Expr). eval_at a t s k) is ∙ ap (λ (r : Run). pay 1 r) (reads_module s a x (sized k) other))
    refl
    (record { payments = 1 ∷ []; all = refl; same = refl })) same

-- ---- turns

-- the unit of a turn is paid, and its test comes
pub test_comes : (c c' : Execution) (test test' : Expr) (body : List Stmt) (n m : ℕ) (budget : Budget) → m ≡ suc n → test' ≡ test → Affords c.budget budget 1
    → c' ≡ record { budget = budget; held = c.held; thread = c.thread; work = c.work }
    → Moves c.budget (remains c (want.Then (it.Turn test body m))) c' (want.Both (it.Eval test') (frame.Decide test body n))
test_comes c c' test test' body n m budget more same affords is =
    rw (more, same) (moves_paid c c' (it.Turn test body (suc n)) (want.Both (it.Eval test) (frame.Decide test body n)) budget 1 c.thread c.work affords
    (record { payments = 1 ∷ []; all = refl; same = refl }) is)

pub decided : (v : Value) (good bad : Piece) → is_listed v ≡ false → decides v good bad ≡ (if is_true v then good else bad)
decided v good bad plain = unlisted v (λ u. if is_true u then good else bad) plain

turned : (c : Execution) (test : Expr) (body : List Stmt) (n : ℕ) (v : Value) (units : ℕ) → IsValueOf test c v units → is_listed v ≡ false
    → let a = around_at sources c.thread.left in let k = rest sources c.work c.thread.left in
    Costs units (remains c (want.Then (it.Turn test body (suc n))))
    ((if is_true v then (λ (s : State) (k : Onward). run_all a body s (looped k (turns n (eval a test) (run_all a body)))) else passes) c.thread.state k)
turned c test body n v units value plain =
    let s = c.thread.state in
    let d = c.thread.left in
    let a = around_at sources d in
    let k = rest sources c.work d in
    let good : Piece = λ s k. run_all a body s (looped k (turns n (eval a test) (run_all a body))) in
    costs_as refl (ap (λ (p : Piece). p s k) (decided v good passes plain)) (value sources (λ _. on_value k (λ v s. decides v good passes s k)))

-- the test does not hold: the loop is over
pub loop_over : (c c' : Execution) (test : Expr) (body : List Stmt) (n m : ℕ) (v : Value) (units : ℕ) (budget : Budget) → m ≡ suc n → IsValueOf test c v units → is_listed v ≡ false → is_true v ≡ false
    → Affords c.budget budget units → c' ≡ record { budget = budget; held = c.held; thread = c.thread; work = c.work }
    → Moves c.budget (remains c (want.Then (it.Turn test body m))) c' (want.Go (Went values.Nothing))
loop_over c c' test body n m v units budget more value plain fails affords is =
    let good : Piece = λ (s : State) (k : Onward). run_all (around_at sources c.thread.left) body s (looped k (turns n (eval (around_at sources c.thread.left) test) (run_all (around_at sources c.thread.left) body))) in
    rw more (moves_paid c c' (it.Turn test body (suc n)) (want.Go (Went values.Nothing)) budget units c.thread c.work affords
    (costs_as refl (ap (λ (b : Bool). (if b then good else passes) c.thread.state (rest sources c.work c.thread.left)) fails)
    (turned c test body n v units value plain)) is)

-- it holds: the block comes
pub loop_turns : (c c' : Execution) (test : Expr) (body : List Stmt) (n m : ℕ) (v : Value) (units : ℕ) (budget : Budget) → m ≡ suc n → IsValueOf test c v units → is_listed v ≡ false → is_true v ≡ true
    → Affords c.budget budget units → c' ≡ record { budget = budget; held = c.held; thread = c.thread; work = frame.Loop test body n ∷ c.work }
    → Moves c.budget (remains c (want.Then (it.Turn test body m))) c' (want.Then (it.Block body 0))
loop_turns c c' test body n m v units budget more value plain holds affords is =
    let good : Piece = λ (s : State) (k : Onward). run_all (around_at sources c.thread.left) body s (looped k (turns n (eval (around_at sources c.thread.left) test) (run_all (around_at sources c.thread.left) body))) in
    rw more (moves_paid c c' (it.Turn test body (suc n)) (want.Then (it.Block body 0)) budget units c.thread (frame.Loop test body n ∷ c.work) affords
    (costs_as refl (ap (λ (b : Bool). (if b then good else passes) c.thread.state (rest sources c.work c.thread.left)) holds)
    (turned c test body n v units value plain)) is)
