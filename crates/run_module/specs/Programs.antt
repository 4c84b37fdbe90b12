-- Modules as programs, `python -m` (after `runpy._run_module_as_main`, `runpy._get_module_details`): the parent of the name
-- is imported, the name is searched for on its path, and the body of the file that is found runs as that of a script. Of a
-- package the module `__main__` in it is run. The kinds of the errors are this project's own.
use Rattle.std.specs.Prelude.{ℕ, List, [], ◌∷◌, ◌++◌, ◌||◌, codes, Option, Some, None, Bool, if◌then◌else◌, true, false}
use Rattle.std.specs.Str.{bytes_eq}
use Rattle.base_types.specs.Path.{Path}
use Rattle.py_value.specs.declared.kind.Kind.TheVariants as kinds
use Rattle.py_value.specs.declared.value.Raised.{Raised}
use Rattle.py_value.specs.declared.value.Value.{Value, out-Value}
use Rattle.py_value.specs.declared.value.Value.TheOpen.{Value-F}
use Rattle.spec_core.specs.Names.{parent_of, tail_of, joined}
use Rattle.spec_core.specs.declared.spec.Spec.{Spec}
use Rattle.spec_core.specs.declared.spec.SpecKind.{SpecKind}
use Rattle.spec_core.specs.declared.spec.SpecKind.TheVariants as kind
use Rattle.machine_events.specs.declared.event.Event.TheVariants as e
use Rattle.machine_events.specs.declared.event.Reply.{Reply}
use Rattle.machine_events.specs.declared.event.Reply.TheVariants as r
use Rattle.machine_events.specs.declared.module.Slot.{Slot}
use Rattle.machine_events.specs.declared.module.Slot.TheVariants as slots
use Rattle.path_finder.specs.Entries as entries
use Rattle.path_finder.specs.Steps as search
use Rattle.path_finder.specs.declared.words.Found.{Found}
use Rattle.path_finder.specs.declared.words.Found.TheVariants as found
use Rattle.meaning_script.specs.Searches.{searches_in}
use Rattle.meaning_runs.specs.Runs.{Run, Looks, StampOf}
use Rattle.meaning_state.specs.Faults.{raised}
use Rattle.meaning_state.specs.declared.fault.Fault.TheVariants as fault
use Rattle.meaning_state.specs.declared.flow.Flow.{Flow}
use Rattle.meaning_state.specs.declared.flow.Flow.TheVariants.{Went, Left}
use Rattle.meaning_script.specs.Pieces.{Piece, calls, fails}
use Rattle.meaning_script.specs.Imports.{Inside, after_parent, path_of, opens}
use Rattle.meaning_script.specs.Meaning.{World, bodies_at, imports_at, first_state, ends}

-- ---- the errors

-- a name cannot be run as a program, and this is why
abbrev pub refuses : List ℕ → Piece
refuses text = fails (fault.Given (raised kinds.ImportError text))

-- the last part of a package's name in whose place it is run
abbrev pub main_name : List ℕ
main_name = codes "__main__"

-- nothing was found of the name; where it is that of a package's `__main__`, the package is told too
abbrev pub absent_text : Option (List ℕ) → List ℕ → List ℕ
absent_text None n = codes "No module named " ++ n
absent_text (Some home) n =
    codes "No module named " ++ (n ++ (codes "; '" ++ (home ++ codes "' is a package and cannot be directly executed")))

-- a package was found whose name is that of a program
abbrev pub main_text : List ℕ
main_text = codes "Cannot use package as __main__ module"

-- the module of the name is in no file
abbrev pub built_in_text : List ℕ → List ℕ
built_in_text n = codes "No code object available for " ++ n

-- the three modules that are in no file
abbrev pub is_built_in : List ℕ → Bool
is_built_in n = bytes_eq n (codes "sys") || (bytes_eq n (codes "importlib") || bytes_eq n (codes "pyimport"))

-- ---- a file, or a package

-- the thread's own module gets the file and its text, and then the body runs in it, as that of a script
abbrev pub runs_text : Inside → ℕ → Spec → List ℕ → Piece
runs_text inside t spec text s k = calls (e.Main spec text) (λ reply. inside.body t t main_name text s k)

-- what is found: the source of a module, or that of a package, of which `packaged` is run
abbrev pub runs_kind : Inside → ℕ → Piece → Spec → SpecKind → List ℕ → Piece
runs_kind inside t packaged spec (kind.Source file) text = runs_text inside t spec text
runs_kind inside t packaged spec (kind.Package file path) text = packaged
runs_kind inside t packaged spec other text = fails fault.NotInProfile

-- the text of the file; where there is none, it was too long for a source
abbrev pub has_text : Inside → ℕ → Piece → Spec → Option (List ℕ) → Piece
has_text inside t packaged spec None = fails fault.TooLong
has_text inside t packaged spec (Some text) = runs_kind inside t packaged spec spec.kind text

-- the file is read; that none stands at the path that it spells, or that it spells none, is as if nothing was found
abbrev pub reads_file : Inside → ℕ → Piece → Piece → Spec → Option Path → Piece
reads_file inside t absent packaged spec None = absent
reads_file inside t absent packaged spec (Some path) = λ s k.
    Looks (StampOf path) (opens path (absent s k) (λ text. has_text inside t packaged spec text s k))

-- a module and a package have a file, and a search finds no other kinds of specs
abbrev pub loads : Inside → ℕ → Piece → Piece → Spec → SpecKind → Piece
loads inside t absent packaged spec (kind.Source file) = reads_file inside t absent packaged spec (entries.path_of file)
loads inside t absent packaged spec (kind.Package file path) = reads_file inside t absent packaged spec (entries.path_of file)
loads inside t absent packaged spec other = fails fault.NotInProfile

-- nothing was found; or a file; or portions, which are a package without a file
abbrev pub discovers : Inside → ℕ → Piece → Piece → Option Found → Piece
discovers inside t absent packaged None = absent
discovers inside t absent packaged (Some (found.Spec spec)) = loads inside t absent packaged spec spec.kind
discovers inside t absent packaged (Some (found.Portions portions)) = packaged

-- ---- the path, as an import has it, but without a lock

-- the search path was asked for
abbrev pub on_search_path : (List Value → Piece) → Reply → Piece
on_search_path go (r.Path items) = go items
on_search_path go reply = fails fault.NotInProfile

-- a parent without a path is no package
abbrev pub on_path : (List Value → Piece) → List ℕ → List ℕ → Value-F Value → Piece
on_path go n p (Value-F.List items) = go items
on_path go n p v = fails (fault.NotPackage n p)

-- the path that the parent has; an error at its read goes on
abbrev pub on_parent_path : (List Value → Piece) → List ℕ → List ℕ → Flow → Piece
on_parent_path go n p (Went v) = on_path go n p (out-Value v)
on_parent_path go n p (Left leave) = λ s k. k (Left leave) s

-- a parent that has no entry any more is a KeyError; the entry `None` has no path, and so is no package
abbrev pub on_parent : Inside → (List Value → Piece) → List ℕ → List ℕ → Slot → Piece
on_parent inside go n p slots.Absent = fails (fault.Lost p)
on_parent inside go n p slots.Halted = fails (fault.NotPackage n p)
on_parent inside go n p (slots.Module m) = λ s k. path_of inside m s (λ flow s. on_parent_path go n p flow s k)

-- the reply to the look at the parent's entry
abbrev pub on_entry : Inside → (List Value → Piece) → List ℕ → List ℕ → Reply → Piece
on_entry inside go n p (r.Slot slot) = on_parent inside go n p slot
on_entry inside go n p reply = fails fault.NotInProfile

-- a name without a dot is searched on the search path, any other on its parent's
abbrev pub reads_path : Inside → (List Value → Piece) → List ℕ → Option (List ℕ) → Piece
reads_path inside go n None = λ s k. calls e.PathGet (λ reply. on_search_path go reply s k)
reads_path inside go n (Some p) = λ s k. calls (e.TabGet p) (λ reply. on_entry inside go n p reply s k)

-- ---- the whole

-- the name is searched for in these entries
abbrev pub finds : Inside → ℕ → Piece → Piece → List ℕ → List Value → Piece
finds inside t absent packaged n path s k =
    searches_in (search.searches n path []) (λ answer. discovers inside t absent packaged answer s k)

-- the parent is imported first, as an `import` of it does, and then its path is searched
abbrev pub starts : Inside → ℕ → Piece → Piece → List ℕ → Piece
starts inside t absent packaged n =
    if is_built_in n then refuses (built_in_text n)
    else after_parent inside (reads_path inside (finds inside t absent packaged n) n (parent_of n)) (parent_of n)

-- the module `__main__` of a package; a package of that name is not run
abbrev pub runs_main : Inside → ℕ → List ℕ → Piece
runs_main inside t home =
    starts inside t (refuses (absent_text (Some home) (joined home main_name))) (refuses main_text) (joined home main_name)

-- what is run of a package that was found: its `__main__`, where it is not one itself
abbrev pub packaged : Inside → ℕ → Option (List ℕ) → List ℕ → Piece
packaged inside t (Some home) n = refuses main_text
packaged inside t None n = if bytes_eq (tail_of n) main_name then refuses main_text else runs_main inside t n

-- a name is run as a program: one that was named, or the `__main__` of a package that was
abbrev pub runs : Inside → ℕ → Option (List ℕ) → List ℕ → Piece
runs inside t home n = starts inside t (refuses (absent_text home n)) (packaged inside t home n) n

-- what a name that is run goes into: its parent is imported as an `import` does that stands in a script, where so many
-- more bodies, calls and imports may be open
abbrev pub program_inside : World → ℕ → Inside
program_inside w left = record { body = bodies_at w left; parent = imports_at w left false false; is_lazy = false }

-- what the thread t does that runs a name; running it opens nothing itself
unfoldable pub meaning_of_name : World → ℕ → List ℕ → Run
meaning_of_name w t n = runs (program_inside w 200) t None n (first_state t) ends
