-- What a statement does that is no compound one and imports nothing.
use Rattle.std.proofs.Common.{◌≡◌, ◌∙◌, refl, sym, ap, ℕ, List, [], map, slice_get, Option, Some}
use Rattle.py_syntax.specs.declared.stmt.Alias.{Alias}
use Rattle.py_syntax.specs.declared.stmt.Branch.{Branch}
use Rattle.py_syntax.specs.declared.stmt.FuncDef.{FuncDef}
use Rattle.py_syntax.specs.declared.stmt.Handler.{Handler}
use Rattle.py_syntax.specs.declared.stmt.ImportedNames.{ImportedNames}
use Rattle.py_syntax.specs.declared.stmt.Stmt.{Stmt, roll-Stmt, out-Stmt, roll-out-Stmt}
use Rattle.py_syntax.specs.declared.stmt.Stmt.TheVariants as tree
use Rattle.py_syntax.specs.declared.stmt.Stmt.TheVariants.{rolls-Import, rolls-From, rolls-If, rolls-Try, rolls-Def}
use Rattle.py_syntax.specs.declared.stmt.Stmt.TheOpen.{Stmt-F}
use Rattle.meaning_state.specs.declared.thread.State.{State}
use Rattle.meaning_script.specs.Pieces.{Piece, Onward, gathers}
use Rattle.meaning_script.specs.Operators.{Around, eval}
use Rattle.meaning_script.specs.Statements.{stmt_operands_at, performs_at}
use Rattle.py_frames.specs.Does.{begun_at, operands_of_stmt, performs}

rolled : (s : Stmt) (d : Stmt-F Stmt Branch FuncDef Handler) → out-Stmt s ≡ d → s ≡ roll-Stmt d
rolled s d h = sym (roll-out-Stmt s) ∙ ap roll-Stmt h

others_at : (a : Around) (s : Stmt) (d : Stmt-F Stmt Branch FuncDef Handler) → out-Stmt s ≡ d
    → ((x : List Alias) → s ≡ tree.Import x → ⊥) → ((x : ℕ) (y : List (List ℕ)) (z : ImportedNames) → s ≡ tree.From x y z → ⊥)
    → ((x : List Branch) (y : List Stmt) → s ≡ tree.If x y → ⊥) → ((x : List Stmt) (y : List Handler) (z u : List Stmt) → s ≡ tree.Try x y z u → ⊥)
    → ((x : FuncDef) → s ≡ tree.Def x → ⊥)
    → gathers (map (eval a) (stmt_operands_at d)) [] (performs_at a.access d) ≡ begun_at a d
others_at a s (Stmt-F.Import x) is i f b t g = absurd (i x (rolled s (Stmt-F.Import x) is ∙ rolls-Import x))
others_at a s (Stmt-F.From x y z) is i f b t g = absurd (f x y z (rolled s (Stmt-F.From x y z) is ∙ rolls-From x y z))
others_at a s (Stmt-F.If x y) is i f b t g = absurd (b x y (rolled s (Stmt-F.If x y) is ∙ rolls-If x y))
others_at a s (Stmt-F.Try x y z u) is i f b t g = absurd (t x y z u (rolled s (Stmt-F.Try x y z u) is ∙ rolls-Try x y z u))
others_at a s (Stmt-F.Def x) is i f b t g = absurd (g x (rolled s (Stmt-F.Def x) is ∙ rolls-Def x))
others_at a s d is i f b t g = refl

-- its operands, and then what it does with their values
pub others : (a : Around) (stmts : List Stmt) (at : ℕ) (s : Stmt) (st : State) (k : Onward) → slice_get stmts at ≡ Some s
    → ((x : List Alias) → s ≡ tree.Import x → ⊥) → ((x : ℕ) (y : List (List ℕ)) (z : ImportedNames) → s ≡ tree.From x y z → ⊥)
    → ((x : List Branch) (y : List Stmt) → s ≡ tree.If x y → ⊥) → ((x : List Stmt) (y : List Handler) (z u : List Stmt) → s ≡ tree.Try x y z u → ⊥)
    → ((x : FuncDef) → s ≡ tree.Def x → ⊥)
    → gathers (map (eval a) (operands_of_stmt (slice_get stmts at))) [] (performs a (slice_get stmts at)) st k ≡ begun_at a (out-Stmt s) st k
others a stmts at s st k is i f b t g =
    ap (λ (o : Option Stmt). gathers (map (eval a) (operands_of_stmt o)) [] (performs a o) st k) is
    ∙ ap (λ (p : Piece). p st k) (others_at a s (out-Stmt s) refl i f b t g)
