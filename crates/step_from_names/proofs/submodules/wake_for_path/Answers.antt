use Rattle.std.proofs.Common.{◌∙◌, refl, ap, codes, List, ℕ, true}
use Rattle.machine_events.specs.declared.event.Event.TheVariants as e
use Rattle.py_frames.specs.declared.replies.OnReply.TheVariants as ons
use Rattle.py_frames.proofs.Awake.{awake_again}
use Rattle.step_from_names.proofs.submodules.wake_for_path.Goals as goal

pub returns : goal.returns
returns c =
    let m = c.args.«module» in
    let event = λ (n : List ℕ). e.GetVar m.mid n true in
    let on = ons.IfPackage m c.args.names true in
    awake_again c.args.thread.now m c.in_ok-lazy.lazy (e.GetVar c.mid.result c.in_ok-name.name true) (event (codes "__path__")) on on c.rouse.result
    c.in_ok-lazy.ensures (ap (λ (k : ℕ). e.GetVar k c.in_ok-name.name true) c.mid.ensures ∙ ap event c.in_ok-name.ensures) refl c.rouse.ensures
