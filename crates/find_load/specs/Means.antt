-- What an import does from each stage on.
use Rattle.std.specs.Prelude.{◌≡◌, ℕ, List, [], Some, None, Bool, false}
use Rattle.machine_events.specs.declared.event.Event.TheVariants as e
use Rattle.meaning_runs.specs.Runs.{Pays, Looks, Makes, StampOf}
use Rattle.path_finder.specs.Steps.{searches}
use Rattle.meaning_script.specs.Searches.{searches_in}
use Rattle.meaning_state.specs.declared.fault.Fault.TheVariants as fault
use Rattle.meaning_state.specs.declared.flow.Flow.TheVariants.{Went, Left}
use Rattle.meaning_state.specs.declared.thread.State.{State}
use Rattle.meaning_script.specs.Pieces.{Piece, Onward, calls, fails}
use Rattle.meaning_script.specs.Paths.{paths}
use Rattle.meaning_script.specs.Imports.{Inside, roused, added_lazy, asks, asked, misses, takes, taken, has_lock, finds, on_search_path, on_entry, on_parent_path, discovers, opens, has_text, added, namespace_added, namespace_made, gives_back, finishes, finished}
use Rattle.find_load.specs.declared.words.In.{In}
use Rattle.find_load.specs.declared.words.In.TheVariants as given
use Rattle.find_load.specs.declared.words.Want.{Want}
use Rattle.find_load.specs.declared.words.Want.TheVariants as want
use Rattle.find_load.specs.declared.import.Stage.{Stage}
use Rattle.find_load.specs.declared.import.Stage.TheVariants as stage
use Rattle.find_load.specs.declared.import.Importer.{Importer}

-- from a stage on, by what is fed, where `again` is the next turn
abbrev pub goes : Inside → Piece → List ℕ → Stage → In → Piece
goes inside again n (stage.Asked is_parent) (given.Replied r) = asked again (misses inside again n) is_parent n r
goes inside again n stage.Parent (given.Ended (Went v)) = takes inside again n
goes inside again n stage.Parent (given.Ended (Left leave)) = λ s k. k (Left leave) s
goes inside again n stage.Taken (given.Replied r) = taken again (has_lock inside again n) n r
goes inside again n stage.Waits given.Woken = again
goes inside again n (stage.SearchPath epoch) (given.Replied r) = on_search_path (finds inside again n epoch) n r
goes inside again n (stage.ParentEntry epoch p) (given.Replied r) = on_entry inside (finds inside again n epoch) n p r
goes inside again n (stage.ParentPath epoch p) (given.Ended flow) = on_parent_path (finds inside again n epoch) n p flow
goes inside again n (stage.Searched epoch path) (given.Found answer) = discovers inside again n epoch path answer
goes inside again n (stage.File spec) (given.Opened None) = gives_back n (fault.NotFound n)
goes inside again n (stage.File spec) (given.Opened (Some text)) = has_text inside again n spec text
goes inside again n (stage.Added text) (given.Replied r) = added inside again n text r
goes inside again n stage.AddedLazy (given.Replied r) = added_lazy n r
goes inside again n (stage.Running load) (given.Ended flow) = finishes load again n flow
goes inside again n (stage.NamespaceAdded epoch path portions) (given.Replied r) = namespace_added again n epoch path portions r
goes inside again n (stage.NamespaceKept load) (given.Replied r) = namespace_made again n load
goes inside again n stage.Finished (given.Replied r) = finished again n r
goes inside again n (stage.Released f) (given.Replied r) = fails f
goes inside again n (stage.Left flow) (given.Replied r) = λ s k. k flow s
goes inside again n other input = fails fault.NotInProfile

-- the import of n, with so many turns left: its first look may be that of a parent, and later looks are not
abbrev pub does : Inside → ℕ → List ℕ → Stage → In → Piece
does inside turns n (stage.Begins is_parent) given.Start = asks inside turns is_parent n
does inside turns n other input = goes inside (asks inside turns false n) n other input

-- inside an import of a lazy module, or of another one
abbrev pub lazily : Bool → Inside → Inside
lazily is_lazy inside = record { body = inside.body; parent = inside.parent; is_lazy = is_lazy }

-- an import that is under way goes on by what it is fed, with its own name, turns, stage and laziness
abbrev pub means : Inside → Importer → In → Piece
means inside p = does (lazily p.is_lazy inside) p.turns p.name p.stage

-- what is wanted, where `go` goes on by what is fed then
abbrev pub wants : Inside → Want → (In → Piece) → Piece
wants inside (want.Call event) go = λ s k. calls event (λ r. go (given.Replied r) s k)
wants inside want.Wait go = λ s k. Makes e.Wake (λ _. go given.Woken s k)
wants inside (want.Pay of_tree units) go = λ s k. Pays of_tree units (go given.Paid s k)
wants inside (want.Find n path) go = λ s k. searches_in (searches n path []) (λ answer. go (given.Found answer) s k)
wants inside (want.File path) go =
    λ s k. Looks (StampOf path) (opens path (go (given.Opened None) s k) (λ o. go (given.Opened (Some o)) s k))
wants inside (want.Body mid load n text) go = λ s k. inside.body mid load n text s (λ flow s. go (given.Ended flow) s k)
wants inside (want.Import n) go = λ s k. inside.parent n s (λ flow s. go (given.Ended flow) s k)
wants inside (want.Path m turns) go = λ s k. paths (roused inside) turns m s (λ flow s. go (given.Ended flow) s k)
wants inside (want.Rouse m) go = λ s k. roused inside m s (λ flow s. go (given.Ended flow) s k)
wants inside (want.End flow) go = λ s k. k flow s

-- the run goes on by what is wanted, from what the procedure means after it
abbrev pub GoesOn : (Inside → Piece) → (Inside → In → Piece) → Want → Type 0
GoesOn run after w = (inside : Inside) (s : State) (k : Onward) → wants inside w (after inside) s k ≡ run inside s k

-- the run goes on by what is wanted, from what the import means after it
pub record Goes (run : Inside → Piece) (after : Importer) (w : Want) : Type 0 where
  pub goes : GoesOn run (λ inside. means inside after) w
