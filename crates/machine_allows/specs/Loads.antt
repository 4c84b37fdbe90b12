-- Which events make loads, and how many loads are those of scripts.
use Rattle.std.specs.Prelude.{◌≡◌, ◌⊎◌, ℕ, ◌+◌, List, [], ◌∷◌, ◌++◌, map, if◌then◌else◌}
use Rattle.machine_events.specs.declared.event.Event.{Event}
use Rattle.machine_events.specs.declared.event.Event.TheVariants as events
use Rattle.module_table.specs.declared.module.Load.{Load}
use Rattle.module_table.specs.declared.module.LoadKind.{LoadKind}
use Rattle.module_table.specs.declared.module.LoadKind.TheVariants as load_kinds
use Rattle.machine_spec.specs.Parts.{is_main}

-- what each load is for, in the order of their numbers
abbrev pub kinds_of : List Load → List LoadKind
kinds_of loads = map (λ l. l.kind) loads

-- after the event the loads have the kinds that they had, with at most one more
abbrev pub WithOne : LoadKind → List LoadKind → List LoadKind → Type 0
WithOne kind before after = (after ≡ before) ⊎ (after ≡ before ++ kind ∷ [])

-- Add, AddLazy and ReloadTake make at most one load, each of its own kind; no other event makes one
abbrev pub MadeBy : Event → List LoadKind → List LoadKind → Type 0
MadeBy (events.Add spec text) before after = WithOne load_kinds.Plain before after
MadeBy (events.AddLazy spec text) before after = WithOne load_kinds.Lazy before after
MadeBy (events.ReloadTake mid spec text) before after = WithOne load_kinds.Reload before after
MadeBy event before after = after ≡ before

-- how many are of scripts
abbrev pub mains : List LoadKind → ℕ
mains [] = 0
mains (k ∷ ks) = (if is_main k then 1 else 0) + mains ks
