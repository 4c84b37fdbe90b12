-- The path of the module above, as what the reading below it goes on by.
use Rattle.std.proofs.Common.{◌≡◌, ℕ, refl, ap}
use Rattle.py_value.specs.declared.value.ModRef.{ModRef}
use Rattle.meaning_state.specs.declared.flow.Flow.{Flow}
use Rattle.meaning_state.specs.declared.flow.Flow.TheVariants.{Went, Left}
use Rattle.meaning_state.specs.declared.thread.State.{State}
use Rattle.meaning_script.specs.Pieces.{Onward, on_value}
use Rattle.meaning_script.specs.Imports.{Inside}
use Rattle.meaning_script.specs.Paths.{below_value}
use Rattle.find_load.specs.declared.words.In.TheVariants as given
use Rattle.step_package_path.specs.Means.{above as paths_above, does, named}
use Rattle.step_package_path.specs.declared.reader.Namespace.{Namespace}
use Rattle.step_package_path.specs.declared.reader.Stage.TheVariants as stage

ended : (inside : Inside) (turns : ℕ) (m : ModRef) (namespace : Namespace) (k : Onward) (flow : Flow) (s : State)
    → does inside turns m (stage.Above namespace) (given.Ended flow) s k
    ≡ on_value k (λ v s. below_value (named m namespace) namespace.state namespace.epoch v s k) flow s
ended inside turns m namespace k (Went v) s = refl
ended inside turns m namespace k (Left leave) s = refl

pub above : (inside : Inside) (turns : ℕ) (p m : ModRef) (namespace : Namespace) (s : State) (k : Onward)
    → paths_above inside turns p s (λ flow s. does inside turns m (stage.Above namespace) (given.Ended flow) s k)
    ≡ paths_above inside turns p s (on_value k (λ v s. below_value (named m namespace) namespace.state namespace.epoch v s k))
above inside turns p m namespace s k = ap (paths_above inside turns p s) (λ i flow s. ended inside turns m namespace k flow s i)
