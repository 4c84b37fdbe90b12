-- The handlers of an error, one by one.
use Rattle.std.proofs.Common.{◌≡◌, ◌∙◌, refl, sym, ap, ℕ, suc, ◌+◌, List, slice_get, Option, Some, None, true, arith}
use Rattle.py_value.specs.declared.value.Raised.{Raised as Error}
use Rattle.py_syntax.specs.declared.expr.Expr.{Expr}
use Rattle.py_syntax.specs.declared.stmt.Handler.{Handler, fold-roll-Handler}
use Rattle.meaning_state.specs.declared.flow.Leave.TheVariants.{Raised}
use Rattle.meaning_state.specs.declared.flow.Flow.TheVariants.{Left}
use Rattle.meaning_state.specs.declared.thread.State.{State}
use Rattle.meaning_script.specs.Pieces.{Piece, Onward, on_value, listed}
use Rattle.meaning_script.specs.Operators.{Around, eval}
use Rattle.meaning_script.specs.Statements.{BranchPiece, DefPiece, HandlerPiece, stmt_at, branch_at, def_at, handler_at, leaves, handling, handled, takes, catches, tries_handler, binds_error, unbinds, eval_some, handler, run_all}
use Rattle.py_frames.specs.Does.{handlers, binds_some, handles_some, chosen_some, catches_from}
use Rattle.py_frames.proofs.Places.{drop_none, drop_some}
use Rattle.step_compound.specs.Parts.{chosen_at, handles_by}

handler_is : (a : Around) (h : Handler) → handler a h ≡ record { kinds = eval_some a h.kinds; bound = h.bound; body = run_all a h.body }
handler_is a h =
    fold-roll-Handler Piece BranchPiece DefPiece HandlerPiece (stmt_at a) (branch_at a) def_at (handler_at a)
    (record { kinds = h.kinds; bound = h.bound; body = h.body })

pub catches_none : (a : Around) (hs : List Handler) (at : ℕ) (error : Error) → slice_get hs at ≡ None → leaves (Left (Raised error)) ≡ catches_from a hs at error
catches_none a hs at error h = ap (λ (ys : List Handler). catches (handlers a ys) error) (sym (drop_none hs at h))

abbrev others : Around → List Handler → ℕ → Error → Piece
others a hs at error = catches_from a hs (suc at) error

-- the first handler and the others
first : (a : Around) (hs : List Handler) (at : ℕ) (h : Handler) (error : Error) → slice_get hs at ≡ Some h
    → tries_handler (handler a h) error (others a hs at error) (eval_some a h.kinds) ≡ catches_from a hs at error
first a hs at h error is =
    ap (λ (ks : Option Piece). tries_handler (handler a h) error (others a hs at error) ks) (sym (ap (λ (p : HandlerPiece). p.kinds) (handler_is a h)))
    ∙ ap (λ (ys : List Handler). catches (handlers a ys) error) (sym (drop_some hs at h is))

-- a handler that takes the error binds its name
pub binds_taken : (a : Around) (o : Option Handler) (error : Error) (next : Piece) → binds_some a o error ≡ chosen_some a o error next (Some true)
binds_taken a None error next = refl
binds_taken a (Some h) error next = ap (λ (b : Option (List ℕ)). binds_error (handler a h) error b) (sym (ap (λ (p : HandlerPiece). p.bound) (handler_is a h)))

-- a handler without kinds takes each error
pub catches_all : (a : Around) (hs : List Handler) (at : ℕ) (h : Handler) (error : Error) → slice_get hs at ≡ Some h → h.kinds ≡ None
    → binds_some a (slice_get hs at) error ≡ catches_from a hs at error
catches_all a hs at h error is none =
    ap (λ (o : Option Handler). binds_some a o error) is
    ∙ binds_taken a (Some h) error (others a hs at error)
    ∙ ap (λ (ks : Option Expr). tries_handler (handler a h) error (others a hs at error) (eval_some a ks)) (sym none)
    ∙ first a hs at h error is

-- else its kinds come first
pub catches_kinds : (a : Around) (hs : List Handler) (at : ℕ) (h : Handler) (error : Error) (e : Expr) (s : State) (k : Onward) → slice_get hs at ≡ Some h → h.kinds ≡ Some e
    → eval a e s (on_value k (λ v s. listed v (λ v. chosen_at a hs at error (takes error.kind v)) s k))
    ≡ catches_from a hs at error s k
catches_kinds a hs at h error e s k is some =
    ap (λ (o : Option Handler). eval a e s (on_value k (λ v s. listed v (λ v. chosen_some a o error (others a hs at error) (takes error.kind v)) s k))) is
    ∙ ap (λ (ks : Option Expr). tries_handler (handler a h) error (others a hs at error) (eval_some a ks) s k) (sym some)
    ∙ ap (λ (p : Piece). p s k) (first a hs at h error is)

-- the block of a handler
pub handles_block : (a : Around) (hs : List Handler) (at : ℕ) (h : Handler) (error : Error) (s : State) (k : Onward) → slice_get hs at ≡ Some h
    → handles_by a h error s k ≡ handles_some a (slice_get hs at) error s k
handles_block a hs at h error s k is =
    ap (λ (p : HandlerPiece). p.body (handling error s) (λ flow s. unbinds p.bound flow (handled s) k)) (sym (handler_is a h))
    ∙ ap (λ (o : Option Handler). handles_some a o error s k) (sym is)

pub catches_next : (a : Around) (hs : List Handler) (at : ℕ) (error : Error) → catches_from a hs (at + 1) error ≡ others a hs at error
catches_next a hs at error =
    let next : at + 1 ≡ suc at = omega arith in
    ap (λ (n : ℕ). catches_from a hs n error) next
