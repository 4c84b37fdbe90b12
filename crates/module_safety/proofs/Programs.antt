-- Modules that run as programs are safe: no lock is held from the look at the parent on, and the thread's own module and
-- load exist from the start.
use Rattle.std.proofs.Common.{◌≡◌, inl, ℕ, false, List, Option, Some, None, refl, sym, subst}
use Rattle.std.specs.Str.{bytes_eq}
use Rattle.base_types.specs.Path.{Path}
use Rattle.tree_files.specs.declared.tree.Stamp.{Stamp}
use Rattle.tree_files.specs.declared.tree.Stamp.TheVariants as stamps
use Rattle.py_value.specs.declared.kind.Kind.TheVariants as kinds
use Rattle.py_value.specs.declared.value.Value.{Value, out-Value}
use Rattle.py_value.specs.declared.value.Value.TheOpen.{Value-F}
use Rattle.spec_core.specs.Names.{parent_of, tail_of, joined}
use Rattle.spec_core.specs.declared.spec.Spec.{Spec}
use Rattle.spec_core.specs.declared.spec.SpecKind.{SpecKind}
use Rattle.spec_core.specs.declared.spec.SpecKind.TheVariants as kind
use Rattle.machine_events.specs.declared.event.Event.TheVariants as e
use Rattle.machine_events.specs.declared.event.Reply.{Reply}
use Rattle.machine_events.specs.declared.event.Reply.TheVariants as r
use Rattle.machine_events.specs.declared.module.Slot.{Slot}
use Rattle.machine_events.specs.declared.module.Slot.TheVariants as slots
use Rattle.machine_shown.specs.Shown.{Shown, shown_first, shown_more}
use Rattle.machine_shown.specs.Knowing.{Has, HasMid, MayBeMain}
use Rattle.path_finder.specs.Entries as entries
use Rattle.path_finder.specs.declared.words.Found.{Found}
use Rattle.path_finder.specs.declared.words.Found.TheVariants as found
use Rattle.meaning_state.specs.Faults.{raised}
use Rattle.meaning_state.specs.declared.fault.Fault.TheVariants as fault
use Rattle.meaning_state.specs.declared.flow.Flow.{Flow}
use Rattle.meaning_state.specs.declared.flow.Flow.TheVariants.{Went, Left}
use Rattle.meaning_script.specs.Pieces.{Piece, fails}
use Rattle.meaning_script.specs.Imports.{Inside, after_parent, path_of, opens}
use Rattle.meaning_script.specs.Meaning.{World, first_state, ends}
use Rattle.meaning_safety.specs.Known.{KnowsFlow}
use Rattle.meaning_safety.proofs.Growth.{Grows, grows_more, mid_grows, state_grows}
use Rattle.meaning_safety.proofs.Pieces.{SafeAt, Always, on_later, goes_safe, fails_safe, pick_safe, steady, behind, flows_safe}
use Rattle.meaning_safety.proofs.Searches.{search_safe}
use Rattle.meaning_safety.proofs.Imports.{SafeInside, path_of_safe}
use Rattle.meaning_safety.proofs.Meaning.{bodies_safe, imports_safe, first_known, ends_safe}
use Rattle.run_module.specs.Programs.{refuses, main_name, absent_text, main_text, built_in_text, is_built_in, runs_text, runs_kind, has_text, reads_file, loads, discovers, on_search_path, on_path, on_parent_path, on_parent, on_entry, reads_path, finds, starts, runs_main, packaged, runs, program_inside, meaning_of_name}
use Rattle.module_safety.specs.Law.{ModuleIsSafe}

-- the module and the load of thread t exist
abbrev Own : ℕ → Shown → Type 0
Own t s = HasMid s t × Has s.loads t

own_grows : (t : ℕ) (s s' : Shown) → Grows s s' → Own t s → Own t s'
own_grows t s s' g own = (mid_grows s s' g t own.0, g.loads t own.1)

-- a piece is safe wherever these exist
abbrev Owned : ℕ → Piece → Type 0
Owned t p = (s : Shown) → Own t s → SafeAt s p

refuses_safe : (text : List ℕ) → Always (refuses text)
refuses_safe text = fails_safe (fault.Given (raised kinds.ImportError text))

module _ (inside : Inside) (safe_inside : SafeInside inside) (t : ℕ) where
  -- ---- a file

  runs_text_safe : (spec : Spec) (text : List ℕ) → MayBeMain spec.kind → Owned t (runs_text inside t spec text)
  runs_text_safe spec text may s own = λ run.
      steady s (e.Main spec text) (λ reply. inside.body t t main_name text) (run, may) (λ reply. refl) (λ reply. run)
      (λ reply. let next : Shown = shown_more s (e.Main spec text, reply) in
      let there : Own t next = own_grows t s next (grows_more s (e.Main spec text) reply) own in
      safe_inside.body next t t main_name text there.0 there.1) run

  module _ (absent : Piece) (safe_absent : Always absent) (packaged : Piece) (safe_packaged : Owned t packaged) where
    runs_kind_safe : (spec : Spec) (text : List ℕ) (it : SpecKind) → spec.kind ≡ it → Owned t (runs_kind inside t packaged spec it text)
    runs_kind_safe spec text (kind.Source file) is = runs_text_safe spec text (subst (λ (it : SpecKind). MayBeMain it) (sym is) tt)
    runs_kind_safe spec text (kind.Package file path) is = safe_packaged
    runs_kind_safe spec text other is = λ s own. fails_safe fault.NotInProfile s

    has_text_safe : (spec : Spec) (text : Option (List ℕ)) → Owned t (has_text inside t packaged spec text)
    has_text_safe spec None = λ s own. fails_safe fault.TooLong s
    has_text_safe spec (Some text) = runs_kind_safe spec text spec.kind refl

    abbrev opened : Spec → Path → Stamp → Piece
    opened spec path at st k = opens path (absent st k) (λ text. has_text inside t packaged spec text st k) at

    opens_safe : (spec : Spec) (path : Path) (at : Stamp) → Owned t (opened spec path at)
    opens_safe spec path (stamps.File size) s own run st knows k safe = (run, (run, λ text. has_text_safe spec text s own run st knows k safe))
    opens_safe spec path (stamps.Dir time) s own run st knows k safe = safe_absent s run st knows k safe
    opens_safe spec path stamps.Absent s own run st knows k safe = safe_absent s run st knows k safe

    reads_file_safe : (spec : Spec) (path : Option Path) → Owned t (reads_file inside t absent packaged spec path)
    reads_file_safe spec None = λ s own. safe_absent s
    reads_file_safe spec (Some path) = λ s own run st knows k safe. (run, λ at. opens_safe spec path at s own run st knows k safe)

    loads_safe : (spec : Spec) (it : SpecKind) → Owned t (loads inside t absent packaged spec it)
    loads_safe spec (kind.Source file) = reads_file_safe spec (entries.path_of file)
    loads_safe spec (kind.Package file path) = reads_file_safe spec (entries.path_of file)
    loads_safe spec other = λ s own. fails_safe fault.NotInProfile s

    discovers_safe : (answer : Option Found) → Owned t (discovers inside t absent packaged answer)
    discovers_safe None = λ s own. safe_absent s
    discovers_safe (Some (found.Spec spec)) = loads_safe spec spec.kind
    discovers_safe (Some (found.Portions portions)) = safe_packaged

    finds_safe : (n : List ℕ) (path : List Value) → Owned t (finds inside t absent packaged n path)
    finds_safe n path s own run st knows k safe =
        search_safe s n path (λ answer. discovers inside t absent packaged answer st k) run
        (λ later f answer named. discovers_safe answer later (own_grows t s later f.grows own) f.runs st (state_grows s later f.grows st knows) k (on_later s later k f safe))

  -- ---- the path

  module _ (n : List ℕ) (go : List Value → Piece) (safe_go : (items : List Value) → Owned t (go items)) where
    on_search_path_safe : (reply : Reply) → Owned t (on_search_path go reply)
    on_search_path_safe (r.Path items) = safe_go items
    on_search_path_safe reply = λ s own. fails_safe fault.NotInProfile s

    on_path_safe : (p : List ℕ) (it : Value-F Value) → Owned t (on_path go n p it)
    on_path_safe p (Value-F.List items) = safe_go items
    on_path_safe p other = λ s own. fails_safe (fault.NotPackage n p) s

    on_parent_path_safe : (p : List ℕ) (s : Shown) → Own t s → (flow : Flow) → KnowsFlow s flow → SafeAt s (on_parent_path go n p flow)
    on_parent_path_safe p s own (Went v) known = on_path_safe p (out-Value v) s own
    on_parent_path_safe p s own (Left leave) known = goes_safe s (Left leave) known

    on_entry_safe : (p : List ℕ) (s : Shown) → Own t s → (reply : Reply) → SafeAt (shown_more s (e.TabGet p, reply)) (on_entry inside go n p reply)
    on_entry_safe p s own (r.Slot slot) = at slot
      where
        at : (slot : Slot) → SafeAt (shown_more s (e.TabGet p, r.Slot slot)) (on_parent inside go n p slot)
        at slots.Absent = fails_safe (fault.Lost p) (shown_more s (e.TabGet p, r.Slot slots.Absent))
        at slots.Halted = fails_safe (fault.NotPackage n p) (shown_more s (e.TabGet p, r.Slot slots.Halted))
        at (slots.Module m) =
            let next : Shown = shown_more s (e.TabGet p, r.Slot (slots.Module m)) in
            let there : Own t next = own_grows t s next (grows_more s (e.TabGet p) (r.Slot (slots.Module m))) own in
            flows_safe next (path_of inside m) (λ flow. on_parent_path go n p flow) (path_of_safe inside safe_inside next m (inl refl))
            (λ later g flow known. on_parent_path_safe p later (own_grows t next later g there) flow known)
    on_entry_safe p s own reply = fails_safe fault.NotInProfile (shown_more s (e.TabGet p, reply))

    reads_path_safe : (parent : Option (List ℕ)) → Owned t (reads_path inside go n parent)
    reads_path_safe None s own = λ run.
        steady s e.PathGet (λ reply. on_search_path go reply) (run, tt) (λ reply. refl) (λ reply. run)
        (λ reply. on_search_path_safe reply (shown_more s (e.PathGet, reply)) (own_grows t s (shown_more s (e.PathGet, reply)) (grows_more s e.PathGet reply) own)) run
    reads_path_safe (Some p) s own = λ run.
        steady s (e.TabGet p) (λ reply. on_entry inside go n p reply) (run, tt) (λ reply. refl) (λ reply. run) (λ reply. on_entry_safe p s own reply) run

  -- ---- the whole

  after_parent_safe : (next : Piece) → Owned t next → (parent : Option (List ℕ)) → Owned t (after_parent inside next parent)
  after_parent_safe next safe None s own = safe s own
  after_parent_safe next safe (Some p) s own = behind s (inside.parent p) (λ _. next) (safe_inside.parent p s) (λ s' g v known. safe s' (own_grows t s s' g own))

  starts_safe : (absent : Piece) → Always absent → (packaged : Piece) → Owned t packaged → (n : List ℕ) → Owned t (starts inside t absent packaged n)
  starts_safe absent safe_absent packaged safe_packaged n s own =
      let path : Piece = reads_path inside (finds inside t absent packaged n) n (parent_of n) in
      let safe_path : Owned t path = reads_path_safe n (finds inside t absent packaged n) (finds_safe absent safe_absent packaged safe_packaged n) (parent_of n) in
      pick_safe s (is_built_in n) (refuses (built_in_text n)) (after_parent inside path (parent_of n)) (refuses_safe (built_in_text n) s) (after_parent_safe path safe_path (parent_of n) s own)

  main_refused : Owned t (refuses main_text)
  main_refused s own = refuses_safe main_text s

  runs_main_safe : (home : List ℕ) → Owned t (runs_main inside t home)
  runs_main_safe home =
      starts_safe (refuses (absent_text (Some home) (joined home main_name))) (refuses_safe (absent_text (Some home) (joined home main_name))) (refuses main_text) main_refused (joined home main_name)

  packaged_safe : (home : Option (List ℕ)) (n : List ℕ) → Owned t (packaged inside t home n)
  packaged_safe (Some home) n = main_refused
  packaged_safe None n = λ s own. pick_safe s (bytes_eq (tail_of n) main_name) (refuses main_text) (runs_main inside t n) (main_refused s own) (runs_main_safe n s own)

  runs_safe : (home : Option (List ℕ)) (n : List ℕ) → Owned t (runs inside t home n)
  runs_safe home n = starts_safe (refuses (absent_text home n)) (refuses_safe (absent_text home n)) (packaged inside t home n) (packaged_safe home n) n

pub module_safe : ModuleIsSafe
unfolding meaning_of_name
module_safe w t n =
    let safe_inside : SafeInside (program_inside w 200) = record { body = bodies_safe w 200; parent = imports_safe w 200 false false } in
    runs_safe (program_inside w 200) safe_inside t None n (shown_first t) (inl (inl refl), inl refl) refl (first_state t) (first_known t) ends (ends_safe (shown_first t) refl)
