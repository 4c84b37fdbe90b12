-- What a thread shows to exist of all that it holds: its place, its variables, its sources, and what it goes on with.
use Rattle.std.specs.Prelude.{◌≡◌, ℕ, false, List, Option, Some, None}
use Rattle.std.specs.FinMap as maps
use Rattle.py_value.specs.declared.value.Value.{Value}
use Rattle.machine_shown.specs.Shown.{Shown, is_namespace_path}
use Rattle.machine_shown.specs.Knowing.{Has, HasMid, KnowsAll}
use Rattle.meaning_state.specs.declared.flow.Leave.{Leave}
use Rattle.meaning_state.specs.declared.flow.Leave.TheVariants.{Return}
use Rattle.meaning_state.specs.declared.flow.Flow.{Flow}
use Rattle.meaning_state.specs.declared.flow.Flow.TheVariants.{Went, Left}
use Rattle.meaning_state.specs.declared.thread.FunctionScope.{FunctionScope}
use Rattle.meaning_state.specs.declared.thread.Source.{Source}
use Rattle.meaning_state.specs.declared.thread.State.{State}

-- all that a value holds exists, and it is not the path of a namespace, which no variable may be set to
abbrev pub KnowsValue : Shown → Value → Type 0
KnowsValue s v = KnowsAll s v × (is_namespace_path v ≡ false)

-- all that a local variable holds exists, for each that is set; outside a call there is none
abbrev pub KnowsLocals : Shown → Option FunctionScope → Type 0
KnowsLocals s None = Unit {0}
KnowsLocals s (Some f) = (x : List ℕ) (v : Value) → maps.get f.locals x ≡ Some v → KnowsValue s v

-- the module and the load that a state stands in, its locals, and the modules of the sources that it keeps
pub record Knows (s : Shown) (state : State) : Type 0 where
  pub mid : HasMid s state.scope.mid
  pub load : Has s.loads state.scope.load
  pub locals : KnowsLocals s state.scope.function
  pub kept : (load : ℕ) (source : Source) → maps.get state.kept load ≡ Some source → HasMid s source.mid

-- a value that work ends with; an error holds nothing
abbrev pub KnowsLeave : Shown → Leave → Type 0
KnowsLeave s (Return v) = KnowsValue s v
KnowsLeave s leave = Unit {0}

-- a value that work goes on with, or that it leaves with
abbrev pub KnowsFlow : Shown → Flow → Type 0
KnowsFlow s (Went v) = KnowsValue s v
KnowsFlow s (Left leave) = KnowsLeave s leave
