-- Where one more import may be open.
use Rattle.std.proofs.Common.{◌≡◌, ◌∙◌, ℕ, zero, suc, ◌-◌, ◌<◌, Bool, false, List, Option, Some, None, Result, Ok, Err, IfOk, MatchOption, refl, sym, ap, arith}
use Rattle.spec_core.specs.Identifiers.{is_dotted}
use Rattle.find_load.specs.Means.{lazily}
use Rattle.meaning_state.specs.declared.fault.Fault.TheVariants as fault
use Rattle.meaning_state.specs.declared.thread.State.{State}
use Rattle.meaning_state.specs.declared.thread.Thread.{Thread}
use Rattle.meaning_script.specs.Pieces.{Onward, fails}
use Rattle.meaning_script.specs.Meaning.{World, imports_name, imports_at, inside_at}
use Rattle.py_frames.specs.Does.{Does, begins, pieces}
use Rattle.py_frames.specs.declared.work.Item.TheVariants as it
use Rattle.py_frames.specs.declared.want.Want.{Want}

imports_more : (w : World) (left : ℕ) (is_parent is_lazy : Bool) (n : List ℕ) (s : State) (k : Onward) → 0 < left
    → imports_at w left is_parent is_lazy n s k ≡ imports_name (lazily is_lazy (inside_at w (left - 1))) is_parent n s k
imports_more w zero is_parent is_lazy n s k some = absurd (omega (arith, some))
imports_more w (suc left) is_parent is_lazy n s k some =
    let same : left ≡ suc left - 1 = omega arith in
    ap (λ (m : ℕ). imports_name (lazily is_lazy (inside_at w m)) is_parent n s k) same

-- any other text
imports_other : (w : World) (left : ℕ) (is_parent is_lazy : Bool) (n : List ℕ) (s : State) (k : Onward) → 0 < left → is_dotted n ≡ false
    → imports_at w left is_parent is_lazy n s k ≡ fails fault.NotInProfile s k
imports_other w left is_parent is_lazy n s k some other = imports_more w left is_parent is_lazy n s k some ∙ rw other refl

-- the import of such a text begins by failing
pub not_dotted : {E : Type 0} (th : Thread) (n : List ℕ) (is_parent is_lazy : Bool) → 0 < th.left → is_dotted n ≡ false → (result : Result Want E)
    → IfOk result (Does th (pieces (λ w d. fails fault.NotInProfile) th)) → IfOk result (Does th (begins (it.Import n is_parent is_lazy) th))
not_dotted th n is_parent is_lazy some other (Ok want) h =
    record { does = λ w next. h.does w next ∙ sym (imports_other w th.left is_parent is_lazy n th.state (next th.left) some other) }
not_dotted th n is_parent is_lazy some other (Err e) h = tt

pub none_is : {T : Type 0} {P : Type 0} (Q : T → Type 0) (o : Option T) → MatchOption o P Q → o ≡ None → P
none_is Q None h is = h
none_is Q (Some x) h is = absurd cc
