-- Who is answered a module that is initialising, and who of a round can go on.
use Rattle.std.specs.Prelude.{◌≡◌, ◌<◌, ◌≤◌, ℕ, true, false, is_some, List, Some, None, slice_get}
use Rattle.std.specs.FinMap.{get}
use Rattle.module_lock.specs.Table.{owns, next}
use Rattle.module_table.specs.declared.module.Load.{Load}
use Rattle.module_table.specs.declared.module.LoadStage.{LoadStage}
use Rattle.module_table.specs.declared.module.LoadStage.TheVariants as stages
use Rattle.machine_spec.specs.declared.state.State.{State}
use Rattle.machine_spec.specs.Parts.{is_open, is_imported}

-- t owns the lock of this name, and the open load of the module is t's
pub record IsOwn (s : State) (t mid : ℕ) (n : List ℕ) : Type 0 where
  pub lock : owns s.locks t n ≡ true
  pub load : (i : ℕ) (l : Load) → slice_get s.table.loads i ≡ Some l → l.mid ≡ mid → is_open l.stage ≡ true → is_imported l.kind ≡ true → l.thread ≡ t

-- t has not ended, and all threads of the rounds before its own have
pub record IsInFirstRound (s : State) (t first : ℕ) : Type 0 where
  pub round : slice_get s.rounds t ≡ Some first
  pub going : is_some (get s.table.ended t) ≡ false
  pub earlier : (u : ℕ) → u < first → is_some (get s.table.ended u) ≡ true

-- some thread of that round has not ended, and waits for nothing or for a lock that nobody owns
pub record SomeoneGoesOn (s : State) (first : ℕ) : Type 0 where
  pub thread : ℕ
  pub round : slice_get s.rounds thread ≡ Some first
  pub going : is_some (get s.table.ended thread) ≡ false
  pub free : next s.locks thread ≡ None

-- how far a load is
abbrev pub rank : LoadStage → ℕ
rank stages.Resting = 0
rank stages.Open = 1
rank stages.Ended = 2

-- loads are never taken away, keep their kinds and modules, and only go on, from resting to open to ended
pub record GoOn (before after : List Load) : Type 0 where
  pub kept : (i : ℕ) (l : Load) → slice_get before i ≡ Some l → (k : Load) × (slice_get after i ≡ Some k) × (k.kind ≡ l.kind) × (k.mid ≡ l.mid) × (rank l.stage ≤ rank k.stage)

-- the module has one load of kind Plain or Lazy, at this stage
pub record HasOneLoad (s : State) (mid : ℕ) (stage : LoadStage) : Type 0 where
  pub number : ℕ
  pub load : Load
  pub there : slice_get s.table.loads number ≡ Some load
  pub of_it : load.mid ≡ mid
  pub imported : is_imported load.kind ≡ true
  pub at : load.stage ≡ stage
  pub only : (j : ℕ) (k : Load) → slice_get s.table.loads j ≡ Some k → k.mid ≡ mid → is_imported k.kind ≡ true → j ≡ number
