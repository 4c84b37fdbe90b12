-- Which events a thread's own events with their replies show to be allowed.
use Rattle.std.specs.Prelude.{◌≡◌, ◌⊎◌, ◌≤◌, ℕ, false, None, List, [], ◌∷◌, flat_map, length}
use Rattle.py_value.specs.declared.value.Value.{Value}
use Rattle.py_value.specs.declared.value.Value.TheVariants as values
use Rattle.py_value.specs.declared.value.ModRef.{ModRef}
use Rattle.spec_core.specs.declared.spec.SpecKind.{SpecKind}
use Rattle.spec_core.specs.declared.spec.SpecKind.TheVariants as kinds
use Rattle.machine_events.specs.declared.module.Slot.{Slot}
use Rattle.machine_events.specs.declared.module.Slot.TheVariants as slots
use Rattle.machine_events.specs.declared.event.Event.{Event}
use Rattle.machine_events.specs.declared.event.Event.TheVariants as e
use Rattle.machine_events.specs.declared.event.Reply.{Reply}
use Rattle.machine_shown.specs.Holdings.{Taken, Loading, Reloading}
use Rattle.machine_shown.specs.Shown.{Shown, Running, Waiting, shown, modules_in, loads_in, is_namespace_path}

-- some item of a list is this one
abbrev pub Has : {X : Type 0} → List X → X → Type 0
Has [] x = ⊥
Has (y ∷ ys) x = (x ≡ y) ⊎ Has ys x

-- each item of the second list is one of the first
abbrev pub HasAll : {X : Type 0} → List X → List X → Type 0
HasAll xs [] = Unit {0}
HasAll xs (y ∷ ys) = Has xs y × HasAll xs ys

-- a module of this number exists
abbrev pub HasMid : Shown → ℕ → Type 0
HasMid s mid = Has s.mids mid ⊎ ((m : ModRef) × Has s.modules m × (m.mid ≡ mid))

-- a module of this number exists and has this name
abbrev pub HasName : Shown → ℕ → List ℕ → Type 0
HasName s mid n = (m : ModRef) × Has s.modules m × (m.mid ≡ mid) × (m.name ≡ n)

-- each module that the value holds exists, with this name and place, and each load whose function it holds exists
abbrev pub KnowsAll : Shown → Value → Type 0
KnowsAll s v = HasAll s.modules (modules_in v) × HasAll s.loads (loads_in v)

-- the same, of each of these values
abbrev pub KnowsItems : Shown → List Value → Type 0
KnowsItems s items = HasAll s.modules (flat_map modules_in items) × HasAll s.loads (flat_map loads_in items)

-- an entry for the cache
abbrev pub KnowsSlot : Shown → Slot → Type 0
KnowsSlot s slots.Absent = ⊥
KnowsSlot s slots.Halted = Unit {0}
KnowsSlot s (slots.Module m) = Has s.modules m

-- a value that may stand in the search path
abbrev pub MayBeSearched : Value → Type 0
MayBeSearched values.SysModules = ⊥
MayBeSearched values.SysPath = ⊥
MayBeSearched values.NsPath = ⊥
MayBeSearched v = Unit {0}

-- a module of this kind may be loaded, with this text
abbrev pub MayAdd : SpecKind → List ℕ → Type 0
MayAdd kinds.Builtin text = ⊥
MayAdd (kinds.Source file) text = Unit {0}
MayAdd (kinds.Package file path) text = Unit {0}
MayAdd (kinds.Namespace path) text = text ≡ []

-- a module of this kind may wait for its first use
abbrev pub MayBeLazy : SpecKind → Type 0
MayBeLazy kinds.Builtin = ⊥
MayBeLazy (kinds.Source file) = Unit {0}
MayBeLazy (kinds.Package file path) = Unit {0}
MayBeLazy (kinds.Namespace path) = ⊥

-- a module of this kind may run as a program
abbrev pub MayBeMain : SpecKind → Type 0
MayBeMain kinds.Builtin = ⊥
MayBeMain (kinds.Source file) = Unit {0}
MayBeMain (kinds.Package file path) = ⊥
MayBeMain (kinds.Namespace path) = ⊥

-- what is shown is enough for an event of a running thread
abbrev pub Enough : Shown → Event → Type 0
Enough s (e.Ask n) = Unit {0}
Enough s (e.Take n) = Unit {0}
Enough s e.Wake = ⊥
Enough s (e.Add spec text) = Has s.held (Taken spec.name) × MayAdd spec.kind text
Enough s (e.Finish load good) = Has s.held (Loading load)
Enough s (e.Release n) = Has s.held (Taken n)
Enough s (e.GetVar mid x raw) = HasMid s mid
Enough s (e.SetVar raw mid x v) = HasMid s mid × (is_namespace_path v ≡ false) × KnowsAll s v
Enough s (e.DelVar mid x raw) = HasMid s mid
Enough s (e.Names mid) = HasMid s mid
Enough s (e.Source load) = Has s.loads load
Enough s (e.Print text) = length text ≤ 65536
Enough s e.PathGet = Unit {0}
Enough s (e.PathAdd at v) = MayBeSearched v × KnowsAll s v
Enough s (e.DirGet dir part) = Unit {0}
Enough s (e.DirSet dir listing) = Unit {0}
Enough s e.Invalidate = Unit {0}
Enough s (e.NsGet mid) = Has s.namespaces mid
Enough s (e.NsSet mid state) = Has s.namespaces mid × KnowsItems s state.parent_path
Enough s (e.TabGet n) = Unit {0}
Enough s (e.TabSet n slot) = KnowsSlot s slot
Enough s (e.TabDel n) = Unit {0}
Enough s (e.ReloadBegin mid raw) = HasMid s mid
Enough s (e.ReloadTake mid spec text) = Has s.held (Reloading mid None) × HasName s mid spec.name × MayAdd spec.kind text
Enough s (e.ReloadEnd mid load) = Has s.held (Reloading mid load)
Enough s (e.AddLazy spec text) = Has s.held (Taken spec.name) × MayBeLazy spec.kind
Enough s (e.Rouse mid) = HasMid s mid
Enough s (e.Main spec text) = MayBeMain spec.kind
Enough s (e.End outcome spent) = s.held ≡ []

-- the thread neither waits nor has ended, and what is shown is enough
abbrev pub IsShown : Shown → Event → Type 0
IsShown s event = (s.doing ≡ Running) × Enough s event

-- the thread's own pairs show that the event is allowed; a Wake is never shown so
abbrev pub Knows : ℕ → List (Event × Reply) → Event → Type 0
Knows t pairs event = IsShown (shown t pairs) event

-- they show that the thread waits
abbrev pub Waits : ℕ → List (Event × Reply) → Type 0
Waits t pairs = (shown t pairs).doing ≡ Waiting
