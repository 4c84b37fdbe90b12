-- What holds in every state of the machine.
use Rattle.std.specs.Prelude.{◌≡◌, ◌<◌, ◌≤◌, ℕ, true, false, is_some, length, List, Option, Some, None, slice_get}
use Rattle.std.specs.FinMap.{get}
use Rattle.module_lock.specs.Cycles.{IsAcyclic}
use Rattle.module_lock.specs.Table.{owner_of}
use Rattle.module_table.specs.declared.module.LoadKind.{LoadKind}
use Rattle.module_table.specs.declared.module.LoadKind.TheVariants as load_kinds
use Rattle.module_table.specs.declared.module.LoadStage.{LoadStage}
use Rattle.module_table.specs.declared.module.LoadStage.TheVariants as stages
use Rattle.module_table.specs.declared.module.Phase.{Phase}
use Rattle.module_table.specs.declared.module.Phase.TheVariants as phases
use Rattle.module_table.specs.declared.module.Reload.{Reload}
use Rattle.machine_spec.specs.declared.state.State.{State}
use Rattle.machine_spec.specs.Parts.{is_open, is_main, is_imported}
use Rattle.machine_laws.specs.Bones.{Bones, Module, Body, bones, opens, held}

-- how far a module is, by the stage of the load that it was made with
abbrev pub phase_of : LoadStage → Phase
phase_of stages.Resting = phases.Lazy
phase_of stages.Open = phases.Initialising
phase_of stages.Ended = phases.Ready

-- the load that the module was made with, and the one that says how far it is
abbrev pub IsMadeBy : ℕ → Body → Module → Type 0
IsMadeBy i l m = (m.load ≡ Some i) × (m.phase ≡ phase_of l.stage)

-- a load of a script or of a reload never rests
abbrev pub Begins : LoadStage → Type 0
Begins stages.Resting = ⊥
Begins stages.Open = Unit {0}
Begins stages.Ended = Unit {0}

-- an imported module's load is the one that it was made with, and tells how far it is; any other load has begun
abbrev pub FitsKind : ℕ → Body → Module → LoadKind → Type 0
FitsKind i l m load_kinds.Main = Begins l.stage
FitsKind i l m load_kinds.Plain = IsMadeBy i l m
FitsKind i l m load_kinds.Lazy = IsMadeBy i l m
FitsKind i l m load_kinds.Reload = Begins l.stage

-- each load is of a module; one of kind Plain or Lazy is the one that it was made with
abbrev pub FitsModule : Bones → ℕ → Body → Type 0
FitsModule b i l = (m : Module) × (slice_get b.modules l.mid ≡ Some m) × FitsKind i l m l.kind

-- the load that the module was made with is of kind Plain or Lazy, and of this module
abbrev pub HasBody : Bones → ℕ → Module → Type 0
HasBody b mid m = (i : ℕ) × (l : Body) × (m.load ≡ Some i) × (slice_get b.bodies i ≡ Some l) × (l.mid ≡ mid) × (is_imported l.kind ≡ true)

-- a module that is not ready has the load that will make it so; of a ready one nothing is asked
abbrev pub FitsPhase : Bones → ℕ → Module → Phase → Type 0
FitsPhase b mid m phases.Ready = Unit {0}
FitsPhase b mid m phases.Initialising = HasBody b mid m
FitsPhase b mid m phases.Lazy = HasBody b mid m

-- the load of a reload is open, of kind Reload, and by the thread and of the module of the reload; it may have none yet
abbrev pub FitsLoad : Bones → Reload → Option ℕ → Type 0
FitsLoad b r None = Unit {0}
FitsLoad b r (Some i) = slice_get b.bodies i ≡ Some (record { kind = load_kinds.Reload; thread = r.thread; mid = r.mid; stage = stages.Open })

-- a reload that runs is of a module of this name, and its load is open
abbrev pub FitsReload : Bones → List ℕ → Reload → Type 0
FitsReload b n r = (m : Module) × (slice_get b.modules r.mid ≡ Some m) × (m.name ≡ n) × FitsLoad b r r.load

-- a thread that has not ended, in a round that has begun
pub record IsRunning (b : Bones) (t : ℕ) : Type 0 where
  pub first : ℕ
  pub round : slice_get b.rounds t ≡ Some first
  pub going : is_some (get b.ended t) ≡ false
  pub earlier : (u : ℕ) → u < first → is_some (get b.ended u) ≡ true

-- the facts that hold at the opening and that each legal event keeps
pub record AreSound (b : Bones) : Type 0 where
  -- there are at most 16 scripts
  pub few : length b.rounds ≤ 16
  -- no threads wait for one another in a cycle
  pub acyclic : IsAcyclic b.locks
  -- a thread owns a lock at least as often as it has open loads of that name, Main aside
  pub covered : (t : ℕ) (n : List ℕ) → opens b t n ≤ held b.locks t n
  -- loads and modules fit each other
  pub bodies : (i : ℕ) (l : Body) → slice_get b.bodies i ≡ Some l → FitsModule b i l
  pub modules : (mid : ℕ) (m : Module) → slice_get b.modules mid ≡ Some m → FitsPhase b mid m m.phase
  pub reloads : (n : List ℕ) (r : Reload) → get b.reloads n ≡ Some r → FitsReload b n r
  -- an owner of a lock has not ended, and its round has begun
  pub owners : (n : List ℕ) (t : ℕ) → owner_of b.locks n ≡ Some t → IsRunning b t
  -- a thread that has ended has no open load but its Main
  pub alive : (i : ℕ) (l : Body) → slice_get b.bodies i ≡ Some l → is_open l.stage ≡ true → is_main l.kind ≡ false → is_some (get b.ended l.thread) ≡ false

-- they hold of a state where they hold of its bones
abbrev pub IsSound : State → Type 0
IsSound s = AreSound (bones s)
