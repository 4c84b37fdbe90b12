-- What stands in a form, by its parts.
use Rattle.std.proofs.Common.{◌≡◌, ◌∙◌, refl, sym, ap, subst, List, [], ◌∷◌, ◌++◌, map, append_assoc}
use Rattle.py_syntax.specs.declared.expr.Expr.{Expr}
use Rattle.py_syntax.specs.declared.stmt.Stmt.{Stmt, roll-Stmt, map-Stmt}
use Rattle.py_syntax.specs.declared.stmt.Stmt.TheVariants as tree
use Rattle.py_syntax.specs.declared.stmt.Stmt.TheVariants.{rolls-If, rolls-While, rolls-Try, rolls-Def}
use Rattle.py_syntax.specs.declared.stmt.Stmt.TheOpen.{Stmt-F}
use Rattle.py_syntax.specs.declared.stmt.Stmt.TheFolds.{fold-roll-Stmt, ind-Stmt}
use Rattle.py_syntax.specs.declared.stmt.Branch.{Branch, fold-roll-Branch}
use Rattle.py_syntax.specs.declared.stmt.FuncDef.{FuncDef, fold-roll-FuncDef}
use Rattle.py_syntax.specs.declared.stmt.Handler.{Handler, fold-roll-Handler}
use Rattle.source_functions.specs.Functions.{Beside, alone, stmt_at, branch_at, function_at, handler_at, stmt_beside, branch_beside, function_beside, handler_beside, in_stmt, in_stmts, in_branches, in_handlers}

abbrev Layer : Type 0
Layer = Stmt-F Stmt Branch FuncDef Handler

abbrev layer_beside : Layer → Stmt-F (Beside Stmt) (Beside Branch) (Beside FuncDef) (Beside Handler)
layer_beside d = map-Stmt Stmt Branch FuncDef Handler (Beside Stmt) (Beside Branch) (Beside FuncDef) (Beside Handler) stmt_beside branch_beside function_beside handler_beside d

pub stmt_layer : (d : Layer) (s : Stmt) → roll-Stmt d ≡ s → stmt_beside s ≡ stmt_at (layer_beside d)
stmt_layer d s is = ap stmt_beside (sym is) ∙ fold-roll-Stmt (Beside Stmt) (Beside Branch) (Beside FuncDef) (Beside Handler) stmt_at branch_at function_at handler_at d

branch_layer : (b : Branch) → branch_beside b ≡ (record { test = b.test; body = alone (map stmt_beside b.body) }, in_stmts b.body)
branch_layer b = fold-roll-Branch (Beside Stmt) (Beside Branch) (Beside FuncDef) (Beside Handler) stmt_at branch_at function_at handler_at (record { test = b.test; body = b.body })

handler_layer : (h : Handler) → handler_beside h ≡ (record { kinds = h.kinds; bound = h.bound; body = alone (map stmt_beside h.body) }, in_stmts h.body)
handler_layer h = fold-roll-Handler (Beside Stmt) (Beside Branch) (Beside FuncDef) (Beside Handler) stmt_at branch_at function_at handler_at (record { kinds = h.kinds; bound = h.bound; body = h.body })

abbrev with_body : FuncDef → List Stmt → FuncDef
with_body f ss = record { number = f.number; name = f.name; parameters = f.parameters; globals = f.globals; body = ss }

function_layer : (f : FuncDef) → function_beside f ≡ (with_body f (alone (map stmt_beside f.body)), with_body f (alone (map stmt_beside f.body)) ∷ in_stmts f.body)
function_layer f = fold-roll-FuncDef (Beside Stmt) (Beside Branch) (Beside FuncDef) (Beside Handler) stmt_at branch_at function_at handler_at (record { number = f.number; name = f.name; parameters = f.parameters; globals = f.globals; body = f.body })

-- ---- what stands beside its functions is the form itself

abbrev SameStmt : Stmt → Type 0
SameStmt s = (stmt_beside s).0 ≡ s

abbrev SameBranch : Branch → Type 0
SameBranch b = (branch_beside b).0 ≡ b

abbrev SameFunction : FuncDef → Type 0
SameFunction f = (function_beside f).0 ≡ f

abbrev SameHandler : Handler → Type 0
SameHandler h = (handler_beside h).0 ≡ h

all_same : {T : Type 0} (beside : T → Beside T) (xs : List ((x : T) × ((beside x).0 ≡ x))) → alone (map beside (map (λ e. e.0) xs)) ≡ map (λ e. e.0) xs
all_same beside [] = refl
all_same beside (x ∷ xs) = ap (λ y. y ∷ alone (map beside (map (λ e. e.0) xs))) x.1 ∙ ap (λ l. x.0 ∷ l) (all_same beside xs)

abbrev Told : Type 0
Told = Stmt-F ((s : Stmt) × SameStmt s) ((b : Branch) × SameBranch b) ((f : FuncDef) × SameFunction f) ((h : Handler) × SameHandler h)

abbrev forms : Told → Layer
forms y = map-Stmt ((s : Stmt) × SameStmt s) ((b : Branch) × SameBranch b) ((f : FuncDef) × SameFunction f) ((h : Handler) × SameHandler h) Stmt Branch FuncDef Handler (λ e. e.0) (λ e. e.0) (λ e. e.0) (λ e. e.0) y

abbrev layer_alone : Stmt-F (Beside Stmt) (Beside Branch) (Beside FuncDef) (Beside Handler) → Layer
layer_alone d = map-Stmt (Beside Stmt) (Beside Branch) (Beside FuncDef) (Beside Handler) Stmt Branch FuncDef Handler (λ x. x.0) (λ x. x.0) (λ x. x.0) (λ x. x.0) d

layer_same : (y : Told) → layer_alone (layer_beside (forms y)) ≡ forms y
layer_same (Stmt-F.If bs ss) =
    ap (λ l. Stmt-F.If l (alone (map stmt_beside (map (λ e. e.0) ss)))) (all_same branch_beside bs)
    ∙ ap (λ l. Stmt-F.If (map (λ e. e.0) bs) l) (all_same stmt_beside ss)
layer_same (Stmt-F.While e ss) = ap (λ l. Stmt-F.While e l) (all_same stmt_beside ss)
layer_same (Stmt-F.Try ss hs es fs) =
    ap (λ l. Stmt-F.Try l (alone (map handler_beside (map (λ e. e.0) hs))) (alone (map stmt_beside (map (λ e. e.0) es))) (alone (map stmt_beside (map (λ e. e.0) fs)))) (all_same stmt_beside ss)
    ∙ ap (λ l. Stmt-F.Try (map (λ e. e.0) ss) l (alone (map stmt_beside (map (λ e. e.0) es))) (alone (map stmt_beside (map (λ e. e.0) fs)))) (all_same handler_beside hs)
    ∙ ap (λ l. Stmt-F.Try (map (λ e. e.0) ss) (map (λ e. e.0) hs) l (alone (map stmt_beside (map (λ e. e.0) fs)))) (all_same stmt_beside es)
    ∙ ap (λ l. Stmt-F.Try (map (λ e. e.0) ss) (map (λ e. e.0) hs) (map (λ e. e.0) es) l) (all_same stmt_beside fs)
layer_same (Stmt-F.Def f) = ap (λ g. Stmt-F.Def g) f.1
layer_same d = refl

same_stmt : (y : Told) → SameStmt (roll-Stmt (forms y))
same_stmt y = ap (λ x. x.0) (stmt_layer (forms y) (roll-Stmt (forms y)) refl) ∙ ap roll-Stmt (layer_same y)

same_body : {T : Type 0} (of : List Stmt → T) (ss : List ((s : Stmt) × SameStmt s)) → of (alone (map stmt_beside (map (λ e. e.0) ss))) ≡ of (map (λ e. e.0) ss)
same_body of ss = ap of (all_same stmt_beside ss)

pub stmt_same : (s : Stmt) → SameStmt s
stmt_same =
    ind-Stmt SameStmt SameBranch SameFunction SameHandler
    (λ x y is. subst (λ z. SameStmt (roll-Stmt z)) is (same_stmt y))
    (λ x y is. subst (λ z. SameBranch (record { test = z.test; body = z.body })) is
    (ap (λ p. p.0) (branch_layer (record { test = y.test; body = map (λ e. e.0) y.body })) ∙ same_body (λ ss. record { test = y.test; body = ss }) y.body))
    (λ x y is. subst (λ z. SameFunction (record { number = z.number; name = z.name; parameters = z.parameters; globals = z.globals; body = z.body })) is
    (ap (λ p. p.0) (function_layer (record { number = y.number; name = y.name; parameters = y.parameters; globals = y.globals; body = map (λ e. e.0) y.body }))
    ∙ same_body (λ ss. record { number = y.number; name = y.name; parameters = y.parameters; globals = y.globals; body = ss }) y.body))
    (λ x y is. subst (λ z. SameHandler (record { kinds = z.kinds; bound = z.bound; body = z.body })) is
    (ap (λ p. p.0) (handler_layer (record { kinds = y.kinds; bound = y.bound; body = map (λ e. e.0) y.body })) ∙ same_body (λ ss. record { kinds = y.kinds; bound = y.bound; body = ss }) y.body))

stmts_same : (ss : List Stmt) → alone (map stmt_beside ss) ≡ ss
stmts_same [] = refl
stmts_same (s ∷ ss) = ap (λ r. r ∷ alone (map stmt_beside ss)) (stmt_same s) ∙ ap (λ l. s ∷ l) (stmts_same ss)

-- ---- what stands in each form

pub in_if : (bs : List Branch) (ss : List Stmt) → in_stmt (tree.If bs ss) ≡ in_branches bs ++ in_stmts ss
in_if bs ss = ap (λ x. x.1) (stmt_layer (Stmt-F.If bs ss) (tree.If bs ss) (rolls-If bs ss))

pub in_while : (e : Expr) (ss : List Stmt) → in_stmt (tree.While e ss) ≡ in_stmts ss
in_while e ss = ap (λ x. x.1) (stmt_layer (Stmt-F.While e ss) (tree.While e ss) (rolls-While e ss))

pub in_try : (ss : List Stmt) (hs : List Handler) (es fs : List Stmt) → in_stmt (tree.Try ss hs es fs) ≡ in_stmts ss ++ (in_handlers hs ++ (in_stmts es ++ in_stmts fs))
in_try ss hs es fs = ap (λ x. x.1) (stmt_layer (Stmt-F.Try ss hs es fs) (tree.Try ss hs es fs) (rolls-Try ss hs es fs))

pub in_function : (f : FuncDef) → (function_beside f).1 ≡ f ∷ in_stmts f.body
in_function f = ap (λ x. x.1) (function_layer f) ∙ ap (λ ss. with_body f ss ∷ in_stmts f.body) (stmts_same f.body)

pub in_def : (f : FuncDef) → in_stmt (tree.Def f) ≡ f ∷ in_stmts f.body
in_def f = ap (λ x. x.1) (stmt_layer (Stmt-F.Def f) (tree.Def f) (rolls-Def f)) ∙ in_function f

pub in_branch : (b : Branch) → (branch_beside b).1 ≡ in_stmts b.body
in_branch b = ap (λ x. x.1) (branch_layer b)

pub in_handler : (h : Handler) → (handler_beside h).1 ≡ in_stmts h.body
in_handler h = ap (λ x. x.1) (handler_layer h)

four : (out a b c d : List FuncDef) → (((out ++ a) ++ b) ++ c) ++ d ≡ out ++ (a ++ (b ++ (c ++ d)))
four out a b c d = simp append_assoc

pub try_put : (out : List FuncDef) (ss : List Stmt) (hs : List Handler) (es fs : List Stmt) → (((out ++ in_stmts ss) ++ in_handlers hs) ++ in_stmts es) ++ in_stmts fs ≡ out ++ in_stmt (tree.Try ss hs es fs)
try_put out ss hs es fs = four out (in_stmts ss) (in_handlers hs) (in_stmts es) (in_stmts fs) ∙ ap (λ l. out ++ l) (sym (in_try ss hs es fs))
