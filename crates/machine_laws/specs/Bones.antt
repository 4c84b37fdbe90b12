-- What the facts on all states speak of: who owns and awaits which lock,
-- how far each module and each load is, and which threads have ended.
use Rattle.std.specs.Prelude.{ℕ, ◌==◌, ◌&&◌, not, count_by, nat_eq, Bool, false, List, Option, Some, None, map, slice_get, if◌then◌else◌}
use Rattle.std.specs.Ordering.{nat_cmp}
use Rattle.std.specs.Cmp.Lexicographic.{slice_cmp, pointwise}
use Rattle.std.specs.FinMap.{FinMap}
use Rattle.module_lock.specs.Table.{Table}
use Rattle.module_table.specs.declared.module.Object.{Object}
use Rattle.module_table.specs.declared.module.Load.{Load}
use Rattle.module_table.specs.declared.module.LoadKind.{LoadKind}
use Rattle.module_table.specs.declared.module.LoadStage.{LoadStage}
use Rattle.module_table.specs.declared.module.Phase.{Phase}
use Rattle.module_table.specs.declared.module.Reload.{Reload}
use Rattle.module_lock.specs.declared.locks.Lock.{Lock}
use Rattle.module_lock.specs.Table.{lock_of}
use Rattle.machine_spec.specs.Parts.{is_open, is_main}
use Rattle.machine_spec.specs.declared.state.State.{State}

-- a module: its name, how far it is, and the load that it was made with
pub record Module : Type 0 where
  pub name : List ℕ
  pub phase : Phase
  pub load : Option ℕ

-- a load without its text
pub record Body : Type 0 where
  pub kind : LoadKind
  pub thread : ℕ
  pub mid : ℕ
  pub stage : LoadStage

-- what the facts on states need of a state
pub record Bones : Type 0 where
  pub locks : Table
  pub modules : List Module
  pub bodies : List Body
  pub reloads : FinMap (slice_cmp nat_cmp) Reload
  pub ended : FinMap nat_cmp (Unit {0})
  pub rounds : List ℕ

-- a module without its variables, the kind of its spec and the state of its search
abbrev pub module_bone : Object → Module
module_bone o = record { name = o.spec.name; phase = o.phase; load = o.load }

-- a load without its text
abbrev pub body_bone : Load → Body
body_bone l = record { kind = l.kind; thread = l.thread; mid = l.mid; stage = l.stage }

-- a state without its cache, its search path with the epoch, and its listings
abbrev pub bones : State → Bones
bones s = record {
  locks = s.locks;
  modules = map module_bone s.table.objects;
  bodies = map body_bone s.table.loads;
  reloads = s.table.reloading;
  ended = s.table.ended;
  rounds = s.rounds;
}

-- the module exists and has this name
abbrev pub is_named : Option Module → List ℕ → Bool
is_named None n = false
is_named (Some m) n = pointwise nat_eq m.name n

-- an open load of t, Main aside, of a module of this name
abbrev pub counts_in : Bones → ℕ → List ℕ → Body → Bool
counts_in b t n l = (is_open l.stage && (l.thread == t) && not (is_main l.kind)) && is_named (slice_get b.modules l.mid) n

-- how many of them there are
abbrev pub opens : Bones → ℕ → List ℕ → ℕ
opens b t n = count_by (counts_in b t n) b.bodies

-- how often t owns a lock
abbrev pub held_by : ℕ → Option Lock → ℕ
held_by t None = 0
held_by t (Some lock) = if lock.owner == t then lock.count else 0

-- the same, by the name of the lock
abbrev pub held : Table → ℕ → List ℕ → ℕ
held table t n = held_by t (lock_of table n)
