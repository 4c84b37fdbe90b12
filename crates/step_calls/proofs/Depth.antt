-- Where one more call may be open.
use Rattle.std.proofs.Common.{◌≡◌, ℕ, zero, suc, ◌-◌, ◌<◌, List, ap, refl, sym, arith, Some, None, Option}
use Rattle.std.specs.FinMap as maps
use Rattle.py_value.specs.declared.value.ModRef.{ModRef}
use Rattle.py_value.specs.declared.value.Value.{Value}
use Rattle.py_syntax.specs.declared.stmt.FuncDef.{FuncDef}
use Rattle.meaning_state.specs.declared.thread.Parsing.{Parsing}
use Rattle.meaning_state.specs.declared.thread.Source.{Source}
use Rattle.machine_events.specs.declared.event.Event.TheVariants as e
use Rattle.meaning_state.specs.declared.thread.State.{State}
use Rattle.meaning_script.specs.Operators.{Around}
use Rattle.meaning_script.specs.Meaning.{World, around_at, functions_at, calls_function, with_source, enters, sourced}
use Rattle.py_frames.specs.Does.{Rest, want_does}
use Rattle.py_frames.specs.declared.replies.OnReply.TheVariants as on
use Rattle.py_frames.specs.declared.want.Want.TheVariants as want
use Rattle.step_calls.specs.Depth.{enters_some, sourced_at}

pub functions_more : (w : World) (left load index : ℕ) (vs : List Value) → 0 < left → functions_at w left load index vs ≡ calls_function w (around_at w (left - 1)) load index vs
functions_more w zero load index vs some = absurd (omega (arith, some))
functions_more w (suc left) load index vs some =
    let same : left ≡ suc left - 1 = omega arith in
    ap (λ n. calls_function w (around_at w n) load index vs) same

pub sourced_more : (w : World) (left load index : ℕ) (vs : List Value) (m : ModRef) (parsing : Parsing) → 0 < left
    → sourced_at w left load index vs m parsing ≡ sourced (around_at w (left - 1)) load index vs m parsing
sourced_more w zero load index vs m parsing some = absurd (omega (arith, some))
sourced_more w (suc left) load index vs m parsing some =
    let same : left ≡ suc left - 1 = omega arith in
    ap (λ n. sourced (around_at w n) load index vs m parsing) same

pub enters_is : (around : Around) (source : Source) (load : ℕ) (vs : List Value) (f : Option FuncDef) → enters around source load vs f ≡ enters_some around source.mid load vs f
enters_is around source load vs None = refl
enters_is around source load vs (Some f) = refl

-- the text of a load that the thread does not have is asked for
pub asks : (w : World) (left load index : ℕ) (vs : List Value) (s : State) (next : Rest) → 0 < left → maps.get s.kept load ≡ None → want_does w left (want.Call (e.Source load) (on.Sourced load index vs)) next s ≡ functions_at w left load index vs s (next left)
asks w zero load index vs s next some none = absurd (omega (arith, some))
asks w (suc left) load index vs s next some none = ap (λ o. with_source w (around_at w left) load index vs o s (next (suc left))) (sym none)
