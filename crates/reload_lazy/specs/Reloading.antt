-- What a reload that is under way goes on by.
use Rattle.std.specs.Prelude.{ℕ, List, codes, Option, Bool}
use Rattle.py_value.specs.declared.value.ModRef.{ModRef}
use Rattle.py_value.specs.declared.value.NsState.{NsState}
use Rattle.machine_events.specs.declared.event.Event.{Event}
use Rattle.machine_events.specs.declared.event.Event.TheVariants as e
use Rattle.machine_events.specs.declared.module.Slot.{Slot}
use Rattle.meaning_state.specs.declared.fault.Fault.{Fault}
use Rattle.meaning_state.specs.declared.fault.Fault.TheVariants as fault
use Rattle.meaning_script.specs.Pieces.{Piece}
use Rattle.meaning_script.specs.Imports.{Inside}
use Rattle.meaning_script.specs.Reload.{spec_found, text_found, loads_again, reads_path, on_parent, stops, ends, keeps_space}
use Rattle.find_load.specs.declared.words.In.{In}
use Rattle.reload_lazy.specs.Reload.{awaits, meant, named, takes}
use Rattle.reload_lazy.specs.declared.reloader.Awaited.{Awaited}
use Rattle.reload_lazy.specs.declared.reloader.Finding.{Finding}
use Rattle.reload_lazy.specs.declared.reloader.Reloader.{Reloader}

-- its module, under this name
abbrev pub called : Reloader → List ℕ → ModRef
called p n = named p.module n

-- what it does by what it is fed where it waits for this
abbrev pub does_at : Reloader → List ℕ → Awaited → In → Inside → Piece
does_at p n at input inside = awaits inside p.turns (called p n) at input

-- the same by whatever it is fed
abbrev pub goes_on_by : Reloader → List ℕ → Awaited → Inside → In → Piece
goes_on_by p n at inside input = awaits inside p.turns (called p n) at input

-- its next turn: the lock is asked for
abbrev pub again : Reloader → List ℕ → ℕ → Finding → Inside → Piece
again p n epoch finding inside = takes inside p.turns (called p n) epoch finding

-- the event that asks for it, for what was found
abbrev pub take_event : ModRef → Finding → Event
take_event m finding = e.ReloadTake m.mid (spec_found m (meant finding)) (text_found (meant finding))

-- with the lock, what was found is loaded
abbrev pub loads_found : Reloader → List ℕ → ℕ → Finding → ℕ → ℕ → Inside → Piece
loads_found p n epoch finding load mid inside = loads_again inside (called p n) epoch (meant finding) load mid

-- the path is read by the name of the parent, if there is one; what stands in the parent's entry
abbrev pub reads_path_of : Reloader → List ℕ → ℕ → Option (List ℕ) → Inside → Piece
reads_path_of p n epoch parent inside = reads_path inside (called p n) epoch parent

-- the path of the module that stands there; without an entry ImportError is raised (`importlib.reload`), and
-- AttributeError where it is `None`
abbrev pub on_entry_of : Reloader → List ℕ → ℕ → List ℕ → Slot → Inside → Piece
on_entry_of p n epoch parent slot inside = on_parent inside (called p n) epoch parent slot

-- the reload is ended, and the error is raised
abbrev pub stops_at : Reloader → List ℕ → Fault → Inside → Piece
stops_at p n f inside = stops (called p n) f

-- the same where the parent has no path, and so lacks the attribute; whether it is initialising
abbrev pub lacks_path : Reloader → List ℕ → ModRef → Bool → Inside → Piece
lacks_path p n parent init inside = stops (called p n) (fault.NoAttribute init parent.name (codes "__path__"))

-- its body in the same namespace, and its end
abbrev pub body_again : Reloader → List ℕ → ℕ → List ℕ → Inside → Piece
body_again p n load text inside s k = inside.body p.module.mid load n text s (λ flow s. ends (called p n) load flow s k)

-- this state of the namespace with this number is kept, and the reload ends
abbrev pub keeps_state : ModRef → NsState → ℕ → ℕ → Piece
keeps_state m state load mid = keeps_space m state.epoch state.parent_path state.portions load mid
