-- The first use of a lazy module, as what its reload goes on by.
use Rattle.std.proofs.Common.{◌≡◌, ℕ, true, refl, ap}
use Rattle.py_value.specs.declared.value.ModRef.{ModRef}
use Rattle.machine_events.specs.declared.event.Event.TheVariants as e
use Rattle.meaning_state.specs.declared.flow.Flow.{Flow}
use Rattle.meaning_state.specs.declared.flow.Flow.TheVariants.{Went, Left}
use Rattle.meaning_state.specs.declared.thread.State.{State}
use Rattle.meaning_script.specs.Pieces.{Onward, calls, on_value}
use Rattle.meaning_script.specs.Imports.{Inside, roused}
use Rattle.meaning_script.specs.Reload.{begun}
use Rattle.find_load.specs.declared.words.In.TheVariants as given
use Rattle.reload_lazy.specs.Reload.{awaits}
use Rattle.reload_lazy.specs.declared.reloader.Awaited.TheVariants as await

ended : (inside : Inside) (turns : ℕ) (m : ModRef) (k : Onward) (flow : Flow) (s : State)
    → awaits inside turns m await.Roused (given.Ended flow) s k
    ≡ on_value k (λ _ s. calls (e.ReloadBegin m.mid true) (λ r. begun inside m r s k)) flow s
ended inside turns m k (Went v) s = refl
ended inside turns m k (Left leave) s = refl

pub rouses : (inside : Inside) (turns : ℕ) (m : ModRef) (s : State) (k : Onward)
    → roused inside m s (λ flow s. awaits inside turns m await.Roused (given.Ended flow) s k)
    ≡ roused inside m s (on_value k (λ _ s. calls (e.ReloadBegin m.mid true) (λ r. begun inside m r s k)))
rouses inside turns m s k = ap (roused inside m s) (λ i flow s. ended inside turns m k flow s i)
