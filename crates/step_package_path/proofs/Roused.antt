-- The first use of a lazy module, as what the reading of its path goes on by.
use Rattle.std.proofs.Common.{◌≡◌, ℕ, true, refl, ap, codes}
use Rattle.py_value.specs.declared.value.ModRef.{ModRef}
use Rattle.machine_events.specs.declared.event.Event.TheVariants as e
use Rattle.meaning_state.specs.declared.flow.Flow.{Flow}
use Rattle.meaning_state.specs.declared.flow.Flow.TheVariants.{Went, Left}
use Rattle.meaning_state.specs.declared.thread.State.{State}
use Rattle.meaning_script.specs.Pieces.{Onward, calls, on_value}
use Rattle.meaning_script.specs.Imports.{Inside, roused}
use Rattle.meaning_script.specs.Paths.{path_read}
use Rattle.find_load.specs.declared.words.In.TheVariants as given
use Rattle.step_package_path.specs.Means.{above, does}
use Rattle.step_package_path.specs.declared.reader.Stage.TheVariants as stage

ended : (inside : Inside) (turns : ℕ) (m : ModRef) (k : Onward) (flow : Flow) (s : State)
    → does inside turns m stage.Roused (given.Ended flow) s k
    ≡ on_value k (λ _ s. calls (e.GetVar m.mid (codes "__path__") true) (λ r. path_read (above inside turns) m r s k)) flow s
ended inside turns m k (Went v) s = refl
ended inside turns m k (Left leave) s = refl

pub rouses : (inside : Inside) (turns : ℕ) (m : ModRef) (s : State) (k : Onward)
    → roused inside m s (λ flow s. does inside turns m stage.Roused (given.Ended flow) s k)
    ≡ roused inside m s (on_value k (λ _ s. calls (e.GetVar m.mid (codes "__path__") true) (λ r. path_read (above inside turns) m r s k)))
rouses inside turns m s k = ap (roused inside m s) (λ i flow s. ended inside turns m k flow s i)
