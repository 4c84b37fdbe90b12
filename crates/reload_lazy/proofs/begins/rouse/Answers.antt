use Rattle.std.proofs.Common.{◌≡◌, ◌∙◌, ap, refl}
use Rattle.py_value.specs.declared.value.ModRef.{ModRef}
use Rattle.meaning_script.specs.Imports.{roused}
use Rattle.find_load.specs.declared.words.In.TheVariants as given
use Rattle.reload_lazy.specs.Reload.{awaits}
use Rattle.reload_lazy.specs.Reloading.{called}
use Rattle.reload_lazy.specs.declared.reloader.Awaited.TheVariants as await
use Rattle.reload_lazy.proofs.Roused.{rouses}
use Rattle.reload_lazy.proofs.begins.rouse.Goals as goal

pub returns : goal.returns
returns c =
    let p = c.args.p.now in
    let m : ModRef = called p c.args.name in
    let same : c.in_ok-module.module ≡ m = rw (c.in_ok-module.ensures, c.mid.ensures, c.in_ok-owned.ensures, c.in_ok-place.ensures, c.place.ensures) refl in
    record {
      goes = record {
        goes = λ inside s k.
            c.wait_for.ensures.goes.goes inside s k
            ∙ ap (λ (o : ModRef). roused inside o s (λ flow s. awaits inside p.turns m await.Roused (given.Ended flow) s k)) same
            ∙ rouses inside p.turns m s k;
      };
    }
