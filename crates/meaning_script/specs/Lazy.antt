-- The first use of a lazy module: its body runs (*LazyLoader* of `importlib.util`; the locking is this project's own).
use Rattle.std.specs.Prelude.{ℕ, zero, suc, List, true, false}
use Rattle.py_value.specs.declared.value.ModRef.{ModRef}
use Rattle.machine_events.specs.declared.event.Event.TheVariants as e
use Rattle.machine_events.specs.declared.event.Reply.{Reply}
use Rattle.machine_events.specs.declared.event.Reply.TheVariants as r
use Rattle.meaning_runs.specs.Runs.{Makes}
use Rattle.meaning_state.specs.declared.fault.Fault.TheVariants as fault
use Rattle.meaning_state.specs.declared.flow.Flow.{Flow}
use Rattle.meaning_state.specs.declared.flow.Flow.TheVariants.{Went, Left}
use Rattle.meaning_script.specs.Pieces.{Piece, pay, calls, fails, passes, most}

-- the body of a module, with the module's number, its load, its name and its text
abbrev pub Body : Type 0
Body = ℕ → ℕ → List ℕ → List ℕ → Piece

-- its body ended, and with it its load
abbrev pub woken : ℕ → Flow → Piece
woken load (Went v) = λ s k. calls (e.Finish load true) (λ _. passes s k)
woken load (Left leave) = λ s k. calls (e.Finish load false) (λ _. k (Left leave) s)

-- the reply to a first use: a module that is loaded, or that waiting for would close a circle, is used as it is;
-- a load of another thread is waited for, and then it is asked again; a load of its own runs the body
abbrev pub rousing : Body → Piece → ModRef → Reply → Piece
rousing body again m r.Ready = passes
rousing body again m (r.Cycle other) = passes
rousing body again m (r.Wait l) = λ s k. Makes e.Wake (λ _. again s k)
rousing body again m r.Deadlock = fails (fault.Deadlock m.name)
rousing body again m (r.Yours load text) = λ s k. body m.mid load m.name text s (λ flow s. woken load flow s k)
rousing body again m reply = fails fault.NotInProfile

-- at most so many turns, and then a payment of more than is left
abbrev pub rouses : Body → ℕ → ModRef → Piece
rouses body zero m = λ s k. pay most (fails fault.NotInProfile s k)
rouses body (suc turns) m = λ s k. calls (e.Rouse m.mid) (λ reply. rousing body (rouses body turns m) m reply s k)
