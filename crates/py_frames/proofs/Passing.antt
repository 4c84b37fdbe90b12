-- A leave passes each frame that does not stop it.
use Rattle.std.proofs.Common.{◌≡◌, ℕ, Bool, true, false, if◌then◌else◌, slice_get, List, [], ◌∷◌, Option, Some, None, refl, ◌∙◌, sym}
use Rattle.py_value.specs.declared.kind.Kind.{Kind}
use Rattle.py_value.specs.declared.kind.Kind.TheVariants as kinds
use Rattle.py_value.specs.declared.value.Raised.{Raised as Error}
use Rattle.py_syntax.specs.declared.stmt.Branch.{Branch}
use Rattle.py_syntax.specs.declared.stmt.FuncDef.{FuncDef}
use Rattle.py_syntax.specs.declared.stmt.Handler.{Handler}
use Rattle.py_syntax.specs.declared.stmt.Stmt.{Stmt, out-Stmt}
use Rattle.py_syntax.specs.declared.stmt.Stmt.TheOpen.{Stmt-F}
use Rattle.meaning_state.specs.declared.flow.Leave.{Leave}
use Rattle.meaning_state.specs.declared.flow.Leave.TheVariants.{Raised, Return, Break, Continue}
use Rattle.meaning_state.specs.declared.flow.Flow.TheVariants.{Left}
use Rattle.meaning_state.specs.declared.thread.State.{State}
use Rattle.py_value.specs.declared.value.Value.{Value}
use Rattle.py_value.specs.declared.value.Value.TheVariants as values
use Rattle.meaning_state.specs.declared.flow.Flow.{Flow}
use Rattle.meaning_script.specs.Pieces.{Piece, Onward}
use Rattle.meaning_script.specs.Operators.{Around}
use Rattle.meaning_script.specs.Calls.{missing_at, defaulting}
use Rattle.meaning_script.specs.Statements.{HandlerPiece, catches_kind, tried, run_all}
use Rattle.meaning_script.specs.Meaning.{World, around_at}
use Rattle.py_frames.specs.Does.{Rest, frame_does, rest, tried_at, tried_some, handlers}
use Rattle.py_frames.specs.Unwind.{stops, unwound, is_taken, is_taken_kind, is_missing, is_missing_kind}
use Rattle.py_frames.specs.declared.work.Frame.{Frame}
use Rattle.py_frames.specs.declared.work.Frame.TheVariants as frame

no_kind_taken : (hs : List HandlerPiece) (error : Error) (kind : Kind) (s : State) (k : Onward) → is_taken_kind kind ≡ false → catches_kind hs error kind s k ≡ k (Left (Raised error)) s
no_kind_taken hs error kinds.BaseException s k is = absurd (cc is)
no_kind_taken hs error kinds.Exception s k is = absurd (cc is)
no_kind_taken hs error kinds.ArithmeticError s k is = absurd (cc is)
no_kind_taken hs error kinds.ZeroDivisionError s k is = absurd (cc is)
no_kind_taken hs error kinds.AttributeError s k is = absurd (cc is)
no_kind_taken hs error kinds.ImportError s k is = absurd (cc is)
no_kind_taken hs error kinds.ModuleNotFoundError s k is = absurd (cc is)
no_kind_taken hs error kinds.LookupError s k is = absurd (cc is)
no_kind_taken hs error kinds.IndexError s k is = absurd (cc is)
no_kind_taken hs error kinds.KeyError s k is = absurd (cc is)
no_kind_taken hs error kinds.NameError s k is = absurd (cc is)
no_kind_taken hs error kinds.UnboundLocalError s k is = absurd (cc is)
no_kind_taken hs error kinds.RuntimeError s k is = absurd (cc is)
no_kind_taken hs error kinds.RecursionError s k is = absurd (cc is)
no_kind_taken hs error kinds.DeadlockError s k is = absurd (cc is)
no_kind_taken hs error kinds.SyntaxError s k is = absurd (cc is)
no_kind_taken hs error kinds.TypeError s k is = absurd (cc is)
no_kind_taken hs error kinds.ValueError s k is = absurd (cc is)
no_kind_taken hs error kinds.ProfileError s k is = refl

no_kind_missing : (k : Onward) (v : Value) (error : Error) (kind : Kind) (flow : Flow) (s : State) → is_missing_kind kind ≡ false → missing_at k v error kind flow s ≡ k flow s
no_kind_missing k v error kinds.BaseException flow s is = refl
no_kind_missing k v error kinds.Exception flow s is = refl
no_kind_missing k v error kinds.ArithmeticError flow s is = refl
no_kind_missing k v error kinds.ZeroDivisionError flow s is = refl
no_kind_missing k v error kinds.AttributeError flow s is = absurd (cc is)
no_kind_missing k v error kinds.ImportError flow s is = refl
no_kind_missing k v error kinds.ModuleNotFoundError flow s is = refl
no_kind_missing k v error kinds.LookupError flow s is = refl
no_kind_missing k v error kinds.IndexError flow s is = refl
no_kind_missing k v error kinds.KeyError flow s is = refl
no_kind_missing k v error kinds.NameError flow s is = refl
no_kind_missing k v error kinds.UnboundLocalError flow s is = refl
no_kind_missing k v error kinds.RuntimeError flow s is = refl
no_kind_missing k v error kinds.RecursionError flow s is = refl
no_kind_missing k v error kinds.DeadlockError flow s is = refl
no_kind_missing k v error kinds.SyntaxError flow s is = refl
no_kind_missing k v error kinds.TypeError flow s is = refl
no_kind_missing k v error kinds.ValueError flow s is = refl
no_kind_missing k v error kinds.ProfileError flow s is = refl

defaulting_passes : (k : Onward) (v : Value) (leave : Leave) (s : State) → is_missing leave ≡ false → defaulting k v (Left leave) s ≡ k (Left leave) s
defaulting_passes k v (Raised error) s is = no_kind_missing k v error error.kind (Left (Raised error)) s is
defaulting_passes k v (Return value) s is = refl
defaulting_passes k v Break s is = refl
defaulting_passes k v Continue s is = refl

tried_passes : (hs : List HandlerPiece) (otherwise : Piece) (k : Onward) (leave : Leave) (s : State) → is_taken leave ≡ false → tried hs otherwise k (Left leave) s ≡ k (Left leave) s
tried_passes hs otherwise k (Raised error) s is = no_kind_taken hs error error.kind s k is
tried_passes hs otherwise k (Return value) s is = refl
tried_passes hs otherwise k Break s is = refl
tried_passes hs otherwise k Continue s is = refl

form_passes : (around : Around) (form : Stmt-F Stmt Branch FuncDef Handler) (k : Onward) (leave : Leave) (s : State) → is_taken leave ≡ false → tried_at around form k (Left leave) s ≡ k (Left leave) s
form_passes around (Stmt-F.Try body hs otherwise last) k leave s is = tried_passes (handlers around hs) (run_all around otherwise) k leave s is
form_passes around (Stmt-F.Evaluate e) k leave s is = refl
form_passes around (Stmt-F.Assign target e) k leave s is = refl
form_passes around (Stmt-F.Augment x o e) k leave s is = refl
form_passes around (Stmt-F.Delete e) k leave s is = refl
form_passes around Stmt-F.Pass k leave s is = refl
form_passes around Stmt-F.Break k leave s is = refl
form_passes around Stmt-F.Continue k leave s is = refl
form_passes around (Stmt-F.Return e) k leave s is = refl
form_passes around (Stmt-F.Raise e) k leave s is = refl
form_passes around (Stmt-F.Import items) k leave s is = refl
form_passes around (Stmt-F.From dots parts names) k leave s is = refl
form_passes around (Stmt-F.If branches otherwise) k leave s is = refl
form_passes around (Stmt-F.While test body) k leave s is = refl
form_passes around (Stmt-F.Def f) k leave s is = refl

statement_passes : (around : Around) (stmt : Option Stmt) (k : Onward) (leave : Leave) (s : State) → is_taken leave ≡ false → tried_some around stmt k (Left leave) s ≡ k (Left leave) s
statement_passes around None k leave s is = refl
statement_passes around (Some stmt) k leave s is = form_passes around (out-Stmt stmt) k leave s is

pub frame_passes : (w : World) (d : ℕ) (leave : Leave) (f : Frame) (next : Rest) (s : State) → stops leave f ≡ false → frame_does w d f next (Left leave) s ≡ next d (Left leave) s
frame_passes w d leave frame.Sized next s is = refl
frame_passes w d leave (frame.Operands form vs) next s is = refl
frame_passes w d leave (frame.Callee e) next s is = refl
frame_passes w d leave (frame.Listed item at) next s is = refl
frame_passes w d leave (frame.Roused event o) next s is = refl
frame_passes w d leave (frame.Second e) next s is = refl
frame_passes w d leave (frame.Block stmts at) next s is = refl
frame_passes w d leave (frame.Test bs at otherwise) next s is = refl
frame_passes w d leave (frame.Decide test body n) next s is = refl
frame_passes w d (Raised error) (frame.Loop test body n) next s is = refl
frame_passes w d (Return v) (frame.Loop test body n) next s is = refl
frame_passes w d Break (frame.Loop test body n) next s is = absurd (cc is)
frame_passes w d Continue (frame.Loop test body n) next s is = absurd (cc is)
frame_passes w d leave (frame.Handlers stmts at) next s is = statement_passes (around_at w d) (slice_get stmts at) (next d) leave s is
frame_passes w d leave (frame.Catch hs at error) next s is = refl
frame_passes w d leave (frame.Handle hs at error) next s is = refl
frame_passes w d leave (frame.EndHandler bound) next s is = absurd (cc is)
frame_passes w d leave (frame.Finally block) next s is = absurd (cc is)
frame_passes w d leave (frame.Resume flow) next s is = absurd (cc is)
frame_passes w d leave (frame.Store x) next s is = refl
frame_passes w d leave (frame.Imports stmts at place) next s is = refl
frame_passes w d leave (frame.Front stmts at place) next s is = refl
frame_passes w d leave (frame.Fronted stmts at place) next s is = refl
frame_passes w d leave (frame.Parts stmts at place part) next s is = refl
frame_passes w d leave (frame.From stmts at) next s is = refl
frame_passes w d leave (frame.Submodules m xs at) next s is = refl
frame_passes w d leave (frame.TriedSubmodule n) next s is = absurd (cc is)
frame_passes w d leave (frame.Bindings m stmts at place) next s is = refl
frame_passes w d leave (frame.Stars m xs at) next s is = refl
frame_passes w d leave (frame.Imported left) next s is = absurd (cc is)
frame_passes w d leave (frame.Open p) next s is = absurd (cc is)
frame_passes w d leave (frame.Back scope left) next s is = absurd (cc is)
frame_passes w d leave frame.HasAttr next s is = defaulting_passes (next d) (values.Bool false) leave s is
frame_passes w d leave (frame.GetAttr v) next s is = defaulting_passes (next d) v leave s is

-- so a leave comes to the first frame that stops it
pub rest_unwound : (w : World) (leave : Leave) (fs : List Frame) (d : ℕ) (s : State) → rest w (unwound leave fs) d (Left leave) s ≡ rest w fs d (Left leave) s
rest_unwound w leave [] d s = refl
rest_unwound w leave (f ∷ fs) d s = from (stops leave f) refl (rest_unwound w leave fs d s)
  where
    from : (stopped : Bool) → stops leave f ≡ stopped → rest w (unwound leave fs) d (Left leave) s ≡ rest w fs d (Left leave) s
        → rest w (if stopped then f ∷ fs else unwound leave fs) d (Left leave) s ≡ rest w (f ∷ fs) d (Left leave) s
    from true e later = refl
    from false e later = later ∙ sym (frame_passes w d leave f (rest w fs) s e)
