use Rattle.std.proofs.Common.{◌∙◌, sym, ap, ℕ, ◌-◌}
use Rattle.machine_events.specs.declared.event.Event.TheVariants as e
use Rattle.meaning_script.specs.Pieces.{calls}
use Rattle.meaning_script.specs.Lazy.{rouses, rousing}
use Rattle.run_module.proofs.Turns.{rouses_more}
use Rattle.run_module.proofs.rouse.look.Goals as goal

pub returns : goal.returns
returns c =
    let p = c.args.p.now in
    record {
      goes = record {
        goes = λ inside s k.
            c.wait_for.ensures.goes.goes inside s k
            ∙ ap (λ (mid : ℕ). calls (e.Rouse mid) (λ reply. rousing inside.body (rouses inside.body (p.turns - 1) p.«module») p.«module» reply s k)) c.mid.ensures
            ∙ sym (rouses_more inside.body p.turns p.«module» s k c.requires);
      };
    }
