-- Import of one name (`importlib._bootstrap._find_and_load`): its
-- parent first, then its lock, then the search on the parent's path.
use Rattle.std.specs.Prelude.{ℕ, zero, suc, List, [], Option, Some, None, Bool, true, false, if◌then◌else◌}
use Rattle.base_types.specs.Path.{Path}
use Rattle.py_value.specs.declared.value.ModRef.{ModRef}
use Rattle.py_value.specs.declared.value.Value.{Value, out-Value}
use Rattle.py_value.specs.declared.value.Value.TheVariants as values
use Rattle.py_value.specs.declared.value.Value.TheOpen.{Value-F}
use Rattle.spec_core.specs.Names.{parent_of}
use Rattle.spec_core.specs.declared.spec.Spec.{Spec}
use Rattle.spec_core.specs.declared.spec.SpecKind.{SpecKind}
use Rattle.spec_core.specs.declared.spec.SpecKind.TheVariants as kinds
use Rattle.tree_files.specs.declared.tree.Stamp.{Stamp}
use Rattle.tree_files.specs.declared.tree.Stamp.TheVariants as stamps
use Rattle.machine_events.specs.declared.event.Event.TheVariants as e
use Rattle.machine_events.specs.declared.event.Reply.{Reply}
use Rattle.machine_events.specs.declared.event.Reply.TheVariants as r
use Rattle.machine_events.specs.declared.module.Slot.{Slot}
use Rattle.machine_events.specs.declared.module.Slot.TheVariants as slots
use Rattle.path_finder.specs.Entries as entries
use Rattle.path_finder.specs.Steps as search
use Rattle.path_finder.specs.declared.words.Found.{Found}
use Rattle.path_finder.specs.declared.words.Found.TheVariants as found
use Rattle.meaning_script.specs.Searches.{searches_in}
use Rattle.meaning_runs.specs.Runs.{Run, Pays, Looks, Makes, StampOf, TextOf}
use Rattle.meaning_state.specs.declared.fault.Fault.{Fault}
use Rattle.meaning_state.specs.declared.fault.Fault.TheVariants as fault
use Rattle.meaning_state.specs.declared.flow.Flow.{Flow}
use Rattle.meaning_state.specs.declared.flow.Flow.TheVariants.{Went, Left}
use Rattle.meaning_script.specs.Pieces.{Piece, pay, calls, fails, passes, on_value, most}
use Rattle.meaning_script.specs.Paths.{paths}
use Rattle.meaning_script.specs.Lazy.{Body, rouses}

-- what an import goes into: the body of a module, the import of a parent, and whether the module is lazy
pub record Inside : Type 0 where
  pub body : Body
  pub parent : List ℕ → Piece
  pub is_lazy : Bool

-- the first use of a lazy module
abbrev pub roused : Inside → ModRef → Piece
roused inside = rouses inside.body most

-- the path of a module
abbrev pub path_of : Inside → ModRef → Piece
path_of inside = paths (roused inside) most

-- an import is answered by a module
abbrev pub answers : ModRef → Piece
answers m s k = k (Went (values.Module m)) s

-- ---- looks into the cache

-- what a look leads to: the module, an error, or a wait and then another look
abbrev pub met : Piece → List ℕ → Reply → Piece
met again n (r.Module m) = answers m
met again n (r.Cycle m) = answers m
met again n r.Halted = fails (fault.Halted n)
met again n r.Deadlock = fails (fault.Deadlock n)
met again n (r.Wait l) = λ s k. Makes e.Wake (λ _. again s k)
met again n reply = fails fault.NotInProfile

-- of a parent whose entry is `None` at its first look nothing is raised: its child's import tells of it
abbrev pub halts : Bool → List ℕ → Piece
halts true n = passes
halts false n = fails (fault.Halted n)

-- the look that takes no lock: where the cache has nothing the parent and the lock come next (5.3.1)
abbrev pub asked : Piece → Piece → Bool → List ℕ → Reply → Piece
asked again missing is_parent n r.Missing = missing
asked again missing is_parent n r.Halted = halts is_parent n
asked again missing is_parent n reply = met again n reply

-- what the look that takes the lock leads to: where the cache still has nothing, this thread loads the module
abbrev pub taken : Piece → (ℕ → Piece) → List ℕ → Reply → Piece
taken again mine n (r.Mine epoch) = mine epoch
taken again mine n reply = met again n reply

-- ---- with the lock

-- it is given back, and the error is raised
abbrev pub gives_back : List ℕ → Fault → Piece
gives_back n f s k = calls (e.Release n) (λ _. fails f s k)

-- it is given back, and the leave goes on
abbrev pub gives_back_and : List ℕ → Flow → Piece
gives_back_and n flow s k = calls (e.Release n) (λ _. k flow s)

-- the entry of the parent is gone, which is a KeyError with its name (`_find_and_load_unlocked`)
abbrev pub lost_parent : List ℕ → Option (List ℕ) → Piece
lost_parent n (Some p) = fails (fault.Lost p)
lost_parent n None = fails fault.NotInProfile

-- how the load ended: an entry that is still there is asked for from the start; where it is gone (`_load_unlocked`),
-- or its parent's is (`_find_and_load_unlocked`), KeyError is raised
abbrev pub finished : Piece → List ℕ → Reply → Piece
finished again n (r.Kept slot) = again
finished again n r.Lost = fails (fault.Lost n)
finished again n r.LostParent = lost_parent n (parent_of n)
finished again n reply = fails fault.NotInProfile

-- a load whose body ended is good; one that an error left is bad, its entry is dropped, and the error goes on (5.4)
abbrev pub finishes : ℕ → Piece → List ℕ → Flow → Piece
finishes load again n (Went v) = λ s k. calls (e.Finish load true) (λ reply. finished again n reply s k)
finishes load again n (Left leave) = λ s k. calls (e.Finish load false) (λ _. k (Left leave) s)

-- a module of a file is made, and its body runs
abbrev pub added : Inside → Piece → List ℕ → List ℕ → Reply → Piece
added inside again n text (r.Load load mid) = λ s k. inside.body mid load n text s (λ flow s. finishes load again n flow s k)
added inside again n text reply = gives_back n fault.NotInProfile

-- the module "will exist in sys.modules before the loader executes the module code" (5.4)
abbrev pub adds : Inside → Piece → List ℕ → Spec → List ℕ → Piece
adds inside again n spec text s k = calls (e.Add spec text) (λ reply. added inside again n text reply s k)

-- a lazy module is made, and is the answer; its body runs at its first use
abbrev pub added_lazy : List ℕ → Reply → Piece
added_lazy n (r.Module m) = answers m
added_lazy n reply = fails fault.NotInProfile

-- a lazy module is in the cache before its body runs, and the lock is given back in the same event
abbrev pub adds_lazy : List ℕ → Spec → List ℕ → Piece
adds_lazy n spec text s k = calls (e.AddLazy spec text) (λ reply. added_lazy n reply s k)

-- an import by `pyimport.lazy` leaves the body for the first use; any other runs it now
abbrev pub makes : Inside → Piece → List ℕ → Spec → List ℕ → Piece
makes inside again n spec text = if inside.is_lazy then adds_lazy n spec text else adds inside again n spec text

-- the file is read. The text of a file that is too long for a source is none
abbrev pub has_text : Inside → Piece → List ℕ → Spec → Option (List ℕ) → Piece
has_text inside again n spec None = gives_back n fault.TooLong
has_text inside again n spec (Some text) = makes inside again n spec text

-- the text of the file at a path, for one unit, if a file stands there
abbrev pub opens : Path → Run → (Option (List ℕ) → Run) → Stamp → Run
opens path none go (stamps.File size) = Pays true 1 (Looks (TextOf path) go)
opens path none go stamp = none

-- where the file's text spells no tree path, or no file stands there any more, it counts as not found
abbrev pub reads_file : Inside → Piece → List ℕ → Spec → Option Path → Piece
reads_file inside again n spec None = gives_back n (fault.NotFound n)
reads_file inside again n spec (Some path) = λ s k.
    Looks (StampOf path) (opens path (gives_back n (fault.NotFound n) s k) (λ text. has_text inside again n spec text s k))

-- a namespace is made: it has no body, and what is kept of it is the path that it was found on
abbrev pub namespace_made : Piece → List ℕ → ℕ → Piece
namespace_made again n load s k = finishes load again n (Went values.Nothing) s k

-- beside the portions the path and the epoch are kept that they were found with; they tell when to search again
abbrev pub namespace_added : Piece → List ℕ → ℕ → List Value → List (List ℕ) → Reply → Piece
namespace_added again n epoch path portions (r.Load load mid) = λ s k.
    calls (e.NsSet mid (record { parent_path = path; epoch = epoch; portions = portions })) (λ _. namespace_made again n load s k)
namespace_added again n epoch path portions reply = gives_back n fault.NotInProfile

-- what is found of a namespace is its name and its portions (PEP 420)
abbrev pub namespace_of : List ℕ → List (List ℕ) → Spec
namespace_of n portions = record { name = n; kind = kinds.Namespace portions }

-- the module of a namespace is made, from no file and so without a text (5.2.2)
abbrev pub adds_namespace : Piece → List ℕ → ℕ → List Value → List (List ℕ) → Piece
adds_namespace again n epoch path portions s k =
    calls (e.Add (namespace_of n portions) []) (λ reply. namespace_added again n epoch path portions reply s k)

-- by what the search found
abbrev pub loads : Inside → Piece → List ℕ → Spec → SpecKind → Piece
loads inside again n spec (kinds.Source file) = reads_file inside again n spec (entries.path_of file)
loads inside again n spec (kinds.Package file path) = reads_file inside again n spec (entries.path_of file)
loads inside again n spec kind = gives_back n fault.NotInProfile

-- nothing was found: ModuleNotFoundError; a file: it is loaded; portions alone: a namespace package (PEP 420)
abbrev pub discovers : Inside → Piece → List ℕ → ℕ → List Value → Option Found → Piece
discovers inside again n epoch path None = gives_back n (fault.NotFound n)
discovers inside again n epoch path (Some (found.Spec spec)) = loads inside again n spec spec.kind
discovers inside again n epoch path (Some (found.Portions portions)) = adds_namespace again n epoch path portions

-- the name is searched for in the entries of the path (`_find_spec`)
abbrev pub finds : Inside → Piece → List ℕ → ℕ → List Value → Piece
finds inside again n epoch path s k =
    searches_in (search.searches n path []) (λ answer. discovers inside again n epoch path answer s k)

-- ---- the path

-- a name without a dot is searched on the search path
abbrev pub on_search_path : (List Value → Piece) → List ℕ → Reply → Piece
on_search_path go n (r.Path items) = go items
on_search_path go n reply = gives_back n fault.NotInProfile

-- any other on the path of the module that the cache has for its parent's name
abbrev pub on_path : (List Value → Piece) → List ℕ → List ℕ → Value-F Value → Piece
on_path go n p (Value-F.List items) = go items
on_path go n p v = gives_back n (fault.NotPackage n p)

-- the path that the parent has; an error at its read goes on, and the lock is given back
abbrev pub on_parent_path : (List Value → Piece) → List ℕ → List ℕ → Flow → Piece
on_parent_path go n p (Went v) = on_path go n p (out-Value v)
on_parent_path go n p (Left leave) = gives_back_and n (Left leave)

-- a parent that has no entry any more is a KeyError; the entry `None` has no path, and so is no package
abbrev pub on_parent : Inside → (List Value → Piece) → List ℕ → List ℕ → Slot → Piece
on_parent inside go n p slots.Absent = gives_back n (fault.Lost p)
on_parent inside go n p slots.Halted = gives_back n (fault.NotPackage n p)
on_parent inside go n p (slots.Module m) = λ s k. path_of inside m s (λ flow s. on_parent_path go n p flow s k)

-- the reply to the look at the parent's entry: what is next goes by the entry
abbrev pub on_entry : Inside → (List Value → Piece) → List ℕ → List ℕ → Reply → Piece
on_entry inside go n p (r.Slot slot) = on_parent inside go n p slot
on_entry inside go n p reply = gives_back n fault.NotInProfile

-- by whether the name has a parent: without one the search path, with one its entry in the cache
abbrev pub reads_path : Inside → (List Value → Piece) → List ℕ → Option (List ℕ) → Piece
reads_path inside go n None = λ s k. calls e.PathGet (λ reply. on_search_path go n reply s k)
reads_path inside go n (Some p) = λ s k. calls (e.TabGet p) (λ reply. on_entry inside go n p reply s k)

-- with the lock the path comes first, and then the search on it (`_find_and_load_unlocked`)
abbrev pub has_lock : Inside → Piece → List ℕ → ℕ → Piece
has_lock inside again n epoch = reads_path inside (finds inside again n epoch) n (parent_of n)

-- ---- the whole

-- the lock of the name is taken and the cache is looked at in one event (`_ModuleLockManager`)
abbrev pub takes : Inside → Piece → List ℕ → Piece
takes inside again n s k = calls (e.Take n) (λ reply. taken again (has_lock inside again n) n reply s k)

-- the parent is imported first, and waited for before the lock of its child is taken
abbrev pub after_parent : Inside → Piece → Option (List ℕ) → Piece
after_parent inside next None = next
after_parent inside next (Some p) = λ s k. inside.parent p s (on_value k (λ _ s. next s k))

-- first the parent is imported, if the name has one (5.3), and then the lock is taken
abbrev pub misses : Inside → Piece → List ℕ → Piece
misses inside again n = after_parent inside (takes inside again n) (parent_of n)

-- at most so many turns of a look into the cache and what follows it, and then a payment of more than is left
abbrev pub asks : Inside → ℕ → Bool → List ℕ → Piece
asks inside zero is_parent n = λ s k. pay most (fails fault.NotInProfile s k)
asks inside (suc turns) is_parent n = λ s k.
    calls (e.Ask n) (λ reply. asked (asks inside turns false n) (misses inside (asks inside turns false n) n) is_parent n reply s k)
