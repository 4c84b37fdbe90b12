use Rattle.std.proofs.Common.{◌∙◌, ap, List, ℕ, true}
use Rattle.py_value.specs.declared.value.ModRef.{ModRef}
use Rattle.machine_events.specs.declared.event.Event.TheVariants as e
use Rattle.py_frames.specs.declared.replies.OnReply.TheVariants as ons
use Rattle.py_frames.proofs.Awake.{awake_again}
use Rattle.step_from_names.proofs.submodules.wake_for_submodule.Goals as goal

pub returns : goal.returns
returns c =
    let m = c.args.«module».now in
    let x = c.args.name.now in
    let owner = c.in_ok-owner.owner in
    let asked = c.in_ok-asked.asked in
    let event = λ (n : List ℕ). e.GetVar m.mid n true in
    let on = ap (λ (o : ModRef). ons.Submodule o asked true) c.in_ok-owner.ensures ∙ ap (λ (n : List ℕ). ons.Submodule m n true) c.in_ok-asked.ensures in
    awake_again c.args.thread.now m c.in_ok-lazy.lazy (e.GetVar c.mid.result c.in_ok-read.read true) (event x) (ons.Submodule owner asked true) (ons.Submodule m x true) c.rouse.result
    c.in_ok-lazy.ensures (ap (λ (k : ℕ). e.GetVar k c.in_ok-read.read true) c.mid.ensures ∙ ap event c.in_ok-read.ensures) on c.rouse.ensures
