-- Where only an AttributeError is met, every other leave goes on.
use Rattle.std.proofs.Common.{◌≡◌, ◌∙◌, true, false, if◌then◌else◌, refl, ap}
use Rattle.py_value.specs.declared.kind.Kind.{Kind}
use Rattle.py_value.specs.declared.kind.Kind.TheVariants as kinds
use Rattle.py_value.specs.declared.value.Raised.{Raised as Error}
use Rattle.py_value.specs.declared.value.Value.{Value}
use Rattle.meaning_state.specs.declared.flow.Flow.{Flow}
use Rattle.meaning_state.specs.declared.flow.Flow.TheVariants.{Went, Left}
use Rattle.meaning_state.specs.declared.flow.Leave.{Leave}
use Rattle.meaning_state.specs.declared.flow.Leave.TheVariants.{Raised, Return, Break, Continue}
use Rattle.meaning_state.specs.declared.thread.State.{State}
use Rattle.meaning_script.specs.Pieces.{Onward}
use Rattle.meaning_script.specs.Calls.{missing_at, defaulting}
use Rattle.py_frames.specs.Unwind.{is_missing, is_missing_kind}

by_kind : (k : Onward) (d : Value) (error : Error) (kind : Kind) (flow : Flow) (s : State) → missing_at k d error kind flow s ≡ (if is_missing_kind kind then k (Went d) s else k flow s)
by_kind k d error kinds.BaseException flow s = refl
by_kind k d error kinds.Exception flow s = refl
by_kind k d error kinds.ArithmeticError flow s = refl
by_kind k d error kinds.ZeroDivisionError flow s = refl
by_kind k d error kinds.AttributeError flow s = refl
by_kind k d error kinds.ImportError flow s = refl
by_kind k d error kinds.ModuleNotFoundError flow s = refl
by_kind k d error kinds.LookupError flow s = refl
by_kind k d error kinds.IndexError flow s = refl
by_kind k d error kinds.KeyError flow s = refl
by_kind k d error kinds.NameError flow s = refl
by_kind k d error kinds.UnboundLocalError flow s = refl
by_kind k d error kinds.RuntimeError flow s = refl
by_kind k d error kinds.RecursionError flow s = refl
by_kind k d error kinds.DeadlockError flow s = refl
by_kind k d error kinds.SyntaxError flow s = refl
by_kind k d error kinds.TypeError flow s = refl
by_kind k d error kinds.ValueError flow s = refl
by_kind k d error kinds.ProfileError flow s = refl

by_leave : (k : Onward) (d : Value) (leave : Leave) (s : State) → defaulting k d (Left leave) s ≡ (if is_missing leave then k (Went d) s else k (Left leave) s)
by_leave k d (Raised error) s = by_kind k d error error.kind (Left (Raised error)) s
by_leave k d (Return value) s = refl
by_leave k d Break s = refl
by_leave k d Continue s = refl

pub met : (k : Onward) (d : Value) (leave : Leave) (s : State) → is_missing leave ≡ true → defaulting k d (Left leave) s ≡ k (Went d) s
met k d leave s is = by_leave k d leave s ∙ ap (λ b. if b then k (Went d) s else k (Left leave) s) is

pub passed : (k : Onward) (d : Value) (leave : Leave) (s : State) → is_missing leave ≡ false → defaulting k d (Left leave) s ≡ k (Left leave) s
passed k d leave s is = by_leave k d leave s ∙ ap (λ b. if b then k (Went d) s else k (Left leave) s) is
