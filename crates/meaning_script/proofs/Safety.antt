-- A search is safe where what follows it is.
use Rattle.std.proofs.Common.{◌≡◌, ℕ, ◌==◌, Bool, true, false, List, [], ◌∷◌, ◌++◌, if◌then◌else◌, Option, Some, None, refl, inr}
use Rattle.base_types.specs.Path.{Path}
use Rattle.base_types.specs.declared.path.Listing.{Listing}
use Rattle.py_value.specs.declared.value.Value.{Value}
use Rattle.machine_events.specs.declared.event.Event.{Event}
use Rattle.machine_events.specs.declared.event.Event.TheVariants as e
use Rattle.machine_events.specs.declared.event.Reply.{Reply}
use Rattle.machine_events.specs.declared.event.Reply.TheVariants as r
use Rattle.machine_shown.specs.Shown.{Shown, Running, shown_more, named, numbered, load_numbered}
use Rattle.machine_shown.specs.Knowing.{Has}
use Rattle.spec_core.specs.Names.{tail_of}
use Rattle.tree_files.specs.Files.{has_name}
use Rattle.tree_files.specs.declared.tree.Stamp.{Stamp}
use Rattle.tree_files.specs.declared.tree.Stamp.TheVariants as stamp
use Rattle.path_finder.specs.Entries.{entry_path}
use Rattle.path_finder.specs.Find.{with_suffix}
use Rattle.path_finder.specs.Steps.{Search, Onward, passes, module_tried, tries_module, package_tried, folder_tried, tries, probes, keeps, lists, replied, stamped, enters, searches, is_dir_stamp, is_file_stamp}
use Rattle.path_finder.specs.Steps as search
use Rattle.path_finder.specs.declared.words.Probe.{Probe}
use Rattle.path_finder.specs.declared.words.Found.{Found}
use Rattle.meaning_runs.specs.Runs.{Run, Safe, due}
use Rattle.meaning_runs.specs.Costs.{after_reply}
use Rattle.meaning_script.specs.Searches.{searches_in, probe_of, IsNamed, IsKeeping, KeepsAll, Same}
use Rattle.meaning_script.proofs.Naming.{AllNamed, searches_named}

-- ---- each listing of a search is kept at once

abbrev KeepsOn : Onward → Type 0
KeepsOn go = (portions : List (List ℕ)) → KeepsAll (go portions)

passes_keep : (name : List ℕ) (dir : Path) (portion : Bool) (portions : List (List ℕ)) (go : Onward) → KeepsOn go → KeepsAll (passes name dir portion portions go)
passes_keep name dir true portions go all = all _
passes_keep name dir false portions go all = all _

module_keeps : (name : List ℕ) (dir : Path) (portion : Bool) (portions : List (List ℕ)) (go : Onward) (is : Bool) → KeepsOn go → KeepsAll (module_tried name dir portion portions go is)
module_keeps name dir portion portions go true all = tt
module_keeps name dir portion portions go false all = passes_keep name dir portion portions go all

tries_module_keeps : (name : List ℕ) (dir : Path) (portion file : Bool) (portions : List (List ℕ)) (go : Onward) → KeepsOn go → KeepsAll (tries_module name dir portion file portions go)
tries_module_keeps name dir portion true portions go all = λ s. module_keeps name dir portion portions go (is_file_stamp s) all
tries_module_keeps name dir portion false portions go all = passes_keep name dir portion portions go all

package_keeps : (name : List ℕ) (dir : Path) (file : Bool) (portions : List (List ℕ)) (go : Onward) (is : Bool) → KeepsOn go → KeepsAll (package_tried name dir file portions go is)
package_keeps name dir file portions go true all = tt
package_keeps name dir file portions go false all = tries_module_keeps name dir true file portions go all

folder_keeps : (name : List ℕ) (dir : Path) (file : Bool) (portions : List (List ℕ)) (go : Onward) (is : Bool) → KeepsOn go → KeepsAll (folder_tried name dir file portions go is)
folder_keeps name dir file portions go true all = λ s. package_keeps name dir file portions go (is_file_stamp s) all
folder_keeps name dir file portions go false all = tries_module_keeps name dir false file portions go all

tries_keep : (name : List ℕ) (dir : Path) (bare file : Bool) (portions : List (List ℕ)) (go : Onward) → KeepsOn go → KeepsAll (tries name dir bare file portions go)
tries_keep name dir true file portions go all = λ s. folder_keeps name dir file portions go (is_dir_stamp s) all
tries_keep name dir false file portions go all = tries_module_keeps name dir false file portions go all

lists_keep : (name : List ℕ) (dir : Path) (time : ℕ) (portions : List (List ℕ)) (go : Onward) → KeepsOn go → KeepsAll (lists name dir time portions go)
lists_keep name dir time portions go all = λ names. (tt, tries_keep name dir (has_name names (tail_of name)) (has_name names (with_suffix (tail_of name))) portions go all)

probed_keep : (name : List ℕ) (dir : Path) (time : ℕ) (portions : List (List ℕ)) (go : Onward) (bare file fresh : Bool) → KeepsOn go
    → KeepsAll (if fresh then probes name dir bare file portions go else lists name dir time portions go)
probed_keep name dir time portions go bare file true all = tries_keep name dir bare file portions go all
probed_keep name dir time portions go bare file false all = lists_keep name dir time portions go all

replied_keep : (name : List ℕ) (dir : Path) (time : ℕ) (portions : List (List ℕ)) (go : Onward) (reply : Option Probe) → KeepsOn go → KeepsAll (replied name dir time portions go reply)
replied_keep name dir time portions go (Some probe) all = probed_keep name dir time portions go probe.bare probe.file (probe.time == time) all
replied_keep name dir time portions go None all = lists_keep name dir time portions go all

stamped_keep : (name : List ℕ) (dir : Path) (portions : List (List ℕ)) (go : Onward) (s : Stamp) → KeepsOn go → KeepsAll (stamped name dir portions go s)
stamped_keep name dir portions go (stamp.Dir time) all = λ reply. replied_keep name dir time portions go reply all
stamped_keep name dir portions go (stamp.File size) all = all _
stamped_keep name dir portions go stamp.Absent all = all _

enters_keep : (name : List ℕ) (path : Option Path) (portions : List (List ℕ)) (go : Onward) → KeepsOn go → KeepsAll (enters name path portions go)
enters_keep name (Some dir) portions go all = λ s. stamped_keep name dir portions go s all
enters_keep name None portions go all = all _

pub searches_keep : (name : List ℕ) (path : List Value) (portions : List (List ℕ)) → KeepsAll (searches name path portions)
searches_keep name [] portions = tt
searches_keep name (entry ∷ path) portions = enters_keep name (entry_path entry) portions (searches name path) (searches_keep name path)

-- ---- safety

has_after : {X : Type 0} (xs ys : List X) (x : X) → Has ys x → Has (xs ++ ys) x
has_after [] ys x h = h
has_after (y ∷ xs) ys x h = inr (has_after xs ys x h)

same_first : (s : Shown) → s.doing ≡ Running → Same s s
same_first s runs = record { held = refl; runs = runs; modules = λ m h. h; mids = λ mid h. h; loads = λ load h. h; namespaces = λ mid h. h }

-- what is the same after one more reply, to an event that is no more than a search's
got : (s later : Shown) (dir : Path) (part : List ℕ) (reply : Reply) → Same (shown_more s (e.DirGet dir part, reply)) later → Same s later
got s later dir part reply same = record {
  held = same.held;
  runs = same.runs;
  modules = λ m h. same.modules m (has_after (named reply) s.modules m h);
  mids = λ mid h. same.mids mid (has_after (numbered reply) s.mids mid h);
  loads = λ load h. same.loads load (has_after (load_numbered reply) s.loads load h);
  namespaces = same.namespaces;
}

kept : (s later : Shown) (dir : Path) (listing : Listing) (reply : Reply) → Same (shown_more s (e.DirSet dir listing, reply)) later → Same s later
kept s later dir listing reply same = record {
  held = same.held;
  runs = same.runs;
  modules = λ m h. same.modules m (has_after (named reply) s.modules m h);
  mids = λ mid h. same.mids mid (has_after (numbered reply) s.mids mid h);
  loads = λ load h. same.loads load (has_after (load_numbered reply) s.loads load h);
  namespaces = same.namespaces;
}

is_due : (it : Search) (k : Option Found → Run) → IsKeeping it → due (searches_in it k) ≡ 1
is_due (search.Keeps dir listing next) k keeping = refl
is_due (search.Ends answer) k keeping = absurd keeping
is_due (search.Pays of_tree next) k keeping = absurd keeping
is_due (search.Asks dir part next) k keeping = absurd keeping
is_due (search.Stamps path next) k keeping = absurd keeping
is_due (search.Lists dir next) k keeping = absurd keeping

-- what is paid for a reply changes nothing
safe_reply : (s : Shown) (reply : Reply) (next : Run) → s.doing ≡ Running → Safe s next → Safe s (after_reply reply next)
safe_reply s (r.Wait l) next runs h = h
safe_reply s reply next runs h = (runs, h)

-- the rest is safe behind an answer of this name, while what is held stays
abbrev pub SafeBehind : List ℕ → Shown → (Option Found → Run) → Type 0
SafeBehind name s k = (later : Shown) → Same s later → (answer : Option Found) → IsNamed name answer → Safe later (k answer)

safe_searches : (name : List ℕ) (it : Search) → KeepsAll it → AllNamed name it → (s : Shown) (k : Option Found → Run) → s.doing ≡ Running → SafeBehind name s k → Safe s (searches_in it k)
safe_searches name (search.Ends answer) all named s k runs after = after s (same_first s runs) answer named
safe_searches name (search.Pays of_tree next) all named s k runs after = (runs, safe_searches name next all named s k runs after)
safe_searches name (search.Asks dir part next) all named s k runs after = (
  runs,
  (
    (runs, tt),
    λ reply.
        safe_reply (shown_more s (e.DirGet dir part, reply)) reply (searches_in (next (probe_of reply)) k) runs
        (safe_searches name (next (probe_of reply)) (all (probe_of reply)) (named (probe_of reply)) (shown_more s (e.DirGet dir part, reply)) k runs
        (λ later same. after later (got s later dir part reply same))),
  ),
)
safe_searches name (search.Keeps dir listing next) all named s k runs after = (
  (runs, tt),
  λ reply.
      (runs, safe_searches name next all named (shown_more s (e.DirSet dir listing, reply)) k runs (λ later same. after later (kept s later dir listing reply same))),
)
safe_searches name (search.Stamps path next) all named s k runs after = (runs, λ stamp. safe_searches name (next stamp) (all stamp) (named stamp) s k runs after)
safe_searches name (search.Lists dir next) all named s k runs after =
    (runs, λ names. (is_due (next names) k (all names).0, safe_searches name (next names) (all names).1 (named names) s k runs after))

pub safe_search : (name : List ℕ) (path : List Value) (portions : List (List ℕ)) (s : Shown) (k : Option Found → Run) → s.doing ≡ Running → SafeBehind name s k → Safe s (searches_in (searches name path portions) k)
safe_search name path portions s k runs after = safe_searches name (searches name path portions) (searches_keep name path portions) (searches_named name path portions) s k runs after
