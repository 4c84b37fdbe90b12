-- What a reload does from each stage on.
use Rattle.std.specs.Prelude.{ℕ, List, Some, None, true, false}
use Rattle.py_value.specs.declared.value.ModRef.{ModRef}
use Rattle.machine_events.specs.declared.event.Event.TheVariants as e
use Rattle.meaning_state.specs.declared.fault.Fault.TheVariants as fault
use Rattle.meaning_state.specs.declared.flow.Flow.TheVariants.{Went, Left}
use Rattle.meaning_script.specs.Pieces.{Piece, calls, done, fails}
use Rattle.meaning_script.specs.Imports.{Inside}
use Rattle.meaning_script.specs.Reload as words
use Rattle.meaning_script.specs.Reload.{HasText, HasPortions, reloads, begin_came, begun, on_search_path, on_entry, on_parent_path, discovers, has_source, took, retakes, ends, ended, stops}
use Rattle.find_load.specs.Means.{GoesOn}
use Rattle.find_load.specs.declared.words.In.{In}
use Rattle.find_load.specs.declared.words.In.TheVariants as given
use Rattle.find_load.specs.declared.words.Want.{Want}
use Rattle.reload_lazy.specs.declared.reloader.Awaited.{Awaited}
use Rattle.reload_lazy.specs.declared.reloader.Awaited.TheVariants as await
use Rattle.reload_lazy.specs.declared.reloader.Finding.{Finding}
use Rattle.reload_lazy.specs.declared.reloader.Finding.TheVariants as found
use Rattle.reload_lazy.specs.declared.reloader.ReloadStage.{ReloadStage}
use Rattle.reload_lazy.specs.declared.reloader.ReloadStage.TheVariants as stage
use Rattle.reload_lazy.specs.declared.reloader.Reloader.{Reloader}

-- what was found, in the words of the meaning
abbrev pub meant : Finding → words.Finding
meant (found.Source spec text) = HasText spec text
meant (found.Space path portions) = HasPortions path portions

-- the beginning of the reload of a lazy module that was loaded
abbrev pub begins_raw : Inside → ModRef → Piece
begins_raw inside m s k = calls (e.ReloadBegin m.mid true) (λ r. begun inside m r s k)

-- the lock is asked for, where so many more turns may follow
abbrev pub takes : Inside → ℕ → ModRef → ℕ → Finding → Piece
takes inside turns m epoch finding = retakes inside turns m epoch (meant finding)

-- once it has begun, by what is fed
abbrev pub awaits : Inside → ℕ → ModRef → Awaited → In → Piece
awaits inside turns m await.Asked (given.Replied r) = begin_came inside false m r
awaits inside turns m await.Roused (given.Ended (Went v)) = begins_raw inside m
awaits inside turns m await.Roused (given.Ended (Left leave)) = λ s k. k (Left leave) s
awaits inside turns m await.AskedRaw (given.Replied r) = begun inside m r
awaits inside turns m (await.SearchPath epoch) (given.Replied r) = on_search_path inside m epoch r
awaits inside turns m (await.ParentEntry epoch p) (given.Replied r) = on_entry inside m epoch p r
awaits inside turns m (await.ParentPath epoch parent) (given.Ended flow) = on_parent_path inside m epoch parent flow
awaits inside turns m (await.Searched epoch path) (given.Found answer) = discovers inside m epoch path answer
awaits inside turns m (await.File epoch spec) (given.Opened None) = stops m (fault.NoSpec m.name)
awaits inside turns m (await.File epoch spec) (given.Opened (Some text)) = has_source inside m epoch spec text
awaits inside turns m (await.Took epoch finding) (given.Replied r) = took inside (takes inside turns m epoch finding) m epoch (meant finding) r
awaits inside turns m (await.Waits epoch finding) given.Woken = takes inside turns m epoch finding
awaits inside turns m await.Spent given.Paid = stops m fault.NotInProfile
awaits inside turns m (await.Running load) (given.Ended flow) = ends m load flow
awaits inside turns m (await.SpaceKept load) (given.Replied r) = ends m load done
awaits inside turns m (await.Ended flow) (given.Replied r) = ended m flow r
awaits inside turns m (await.Stopped f) (given.Replied r) = fails f
awaits inside turns m (await.Left flow) (given.Replied r) = λ s k. k flow s
awaits inside turns m other input = fails fault.NotInProfile

-- the module under the dotted name that its own was read as
abbrev pub named : ModRef → List ℕ → ModRef
named m n = record { mid = m.mid; name = n; place = m.place }

-- a reload from its stage on: at first it takes a start alone, and then goes on under the module's dotted name
abbrev pub does : Inside → ℕ → ModRef → ReloadStage → In → Piece
does inside turns m stage.Begins given.Start = reloads inside m
does inside turns m stage.Begins input = fails fault.NotInProfile
does inside turns m (stage.Awaits n at) input = awaits inside turns (named m n) at input
does inside turns m stage.Over input = fails fault.NotInProfile

-- a reload that is under way goes on by what it is fed, with its own module, turns and stage
abbrev pub means : Inside → Reloader → In → Piece
means inside p = does inside p.turns p.module p.stage

-- the run goes on by what is wanted, from what the reload means after it
pub record ReloadGoes (run : Inside → Piece) (after : Reloader) (w : Want) : Type 0 where
  pub goes : GoesOn run (λ inside. means inside after) w
