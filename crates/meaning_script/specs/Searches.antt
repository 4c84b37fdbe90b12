-- A search as a part of a run: the tree of its steps with the payments, events and questions of a script.
use Rattle.std.specs.Prelude.{◌≡◌, ℕ, List, Option, Some, None}
use Rattle.machine_events.specs.declared.event.Event.TheVariants as e
use Rattle.machine_events.specs.declared.event.Reply.{Reply}
use Rattle.machine_events.specs.declared.event.Reply.TheVariants as r
use Rattle.tree_files.specs.declared.tree.Stamp.{Stamp}
use Rattle.machine_shown.specs.Shown.{Shown, Running}
use Rattle.py_value.specs.declared.value.ModRef.{ModRef}
use Rattle.machine_shown.specs.Knowing.{Has}
use Rattle.path_finder.specs.Steps.{Search}
use Rattle.path_finder.specs.Steps as search
use Rattle.path_finder.specs.declared.words.Probe.{Probe}
use Rattle.path_finder.specs.declared.words.Found.{Found}
use Rattle.path_finder.specs.declared.words.Found.TheVariants as found
use Rattle.meaning_runs.specs.Runs.{Run, Pays, Looks, Makes, StampOf, NamesOf}
use Rattle.meaning_runs.specs.Costs.{pay, texts_units, calls}

-- what a listing's reply tells; any other tells of none
abbrev pub probe_of : Reply → Option Probe
probe_of (r.Listing time bare file) = Some (record { time = time; bare = bare; file = file })
probe_of reply = None

-- the run that makes the search and goes on by its answer, which is what is found of the whole path: that is the law
-- `a_search_ends_in_what_is_found` of `path_finder`. An event is paid for but DirSet, after which its names are
abbrev pub searches_in : Search → (Option Found → Run) → Run
searches_in (search.Ends answer) k = k answer
searches_in (search.Pays of_tree next) k = Pays of_tree 1 (searches_in next k)
searches_in (search.Asks dir part next) k = calls (e.DirGet dir part) (λ reply. searches_in (next (probe_of reply)) k)
searches_in (search.Keeps dir listing next) k = Makes (e.DirSet dir listing) (λ _. pay (texts_units listing.names) (searches_in next k))
searches_in (search.Stamps path next) k = Looks (StampOf path) (λ stamp. searches_in (next stamp) k)
searches_in (search.Lists dir next) k = Looks (NamesOf dir) (λ names. searches_in (next names) k)

-- an answer that is a module or a regular package has this name
abbrev pub IsNamed : List ℕ → Option Found → Type 0
IsNamed name None = Unit {0}
IsNamed name (Some (found.Spec spec)) = spec.name ≡ name
IsNamed name (Some (found.Portions portions)) = Unit {0}

-- the search is about to have a listing kept
abbrev pub IsKeeping : Search → Type 0
IsKeeping (search.Keeps dir listing next) = Unit {0}
IsKeeping (search.Ends answer) = ⊥
IsKeeping (search.Pays of_tree next) = ⊥
IsKeeping (search.Asks dir part next) = ⊥
IsKeeping (search.Stamps path next) = ⊥
IsKeeping (search.Lists dir next) = ⊥

-- whatever the tree and the replies are, the search has each listing kept as soon as it is made
abbrev pub KeepsAll : Search → Type 0
KeepsAll (search.Ends answer) = Unit {0}
KeepsAll (search.Pays of_tree next) = KeepsAll next
KeepsAll (search.Asks dir part next) = (reply : Option Probe) → KeepsAll (next reply)
KeepsAll (search.Keeps dir listing next) = KeepsAll next
KeepsAll (search.Stamps path next) = (stamp : Stamp) → KeepsAll (next stamp)
KeepsAll (search.Lists dir next) = (names : List (List ℕ)) → IsKeeping (next names) × KeepsAll (next names)

-- what the events of a search leave shown: what is held and what
-- the thread does is as it was, and what exists still exists
pub record Same (s later : Shown) : Type 0 where
  pub held : later.held ≡ s.held
  pub runs : later.doing ≡ Running
  pub modules : (m : ModRef) → Has s.modules m → Has later.modules m
  pub mids : (mid : ℕ) → Has s.mids mid → Has later.mids mid
  pub loads : (load : ℕ) → Has s.loads load → Has later.loads load
  pub namespaces : (mid : ℕ) → Has s.namespaces mid → Has later.namespaces mid
