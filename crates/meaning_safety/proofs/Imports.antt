-- The import of one name is safe: the lock is held from Take to Add, AddLazy or Release, and the load from Add to Finish.
use Rattle.std.proofs.Common.{◌≡◌, inl, ℕ, zero, suc, Bool, true, false, List, [], ◌∷◌, Option, Some, None, refl, sym, subst, ◌∙◌}
use Rattle.base_types.specs.Path.{Path}
use Rattle.py_value.specs.declared.value.NsState.{NsState}
use Rattle.py_value.specs.declared.value.Value.{Value, out-Value}
use Rattle.py_value.specs.declared.value.Value.TheOpen.{Value-F}
use Rattle.py_value.specs.declared.value.Value.TheVariants as values
use Rattle.spec_core.specs.Names.{parent_of}
use Rattle.spec_core.specs.declared.spec.Spec.{Spec}
use Rattle.spec_core.specs.declared.spec.SpecKind.{SpecKind}
use Rattle.spec_core.specs.declared.spec.SpecKind.TheVariants as kinds
use Rattle.tree_files.specs.declared.tree.Stamp.{Stamp}
use Rattle.tree_files.specs.declared.tree.Stamp.TheVariants as stamps
use Rattle.machine_events.specs.declared.event.Event.{Event}
use Rattle.machine_events.specs.declared.event.Event.TheVariants as e
use Rattle.machine_events.specs.declared.event.Reply.{Reply}
use Rattle.machine_events.specs.declared.event.Reply.TheVariants as r
use Rattle.machine_events.specs.declared.module.Slot.{Slot}
use Rattle.machine_events.specs.declared.module.Slot.TheVariants as slots
use Rattle.machine_shown.specs.Holdings.{Taken, Loading}
use Rattle.machine_shown.specs.Shown.{Shown, Running, shown_more, holds, does, answered}
use Rattle.machine_shown.specs.Knowing.{Has, KnowsItems, MayAdd, MayBeLazy}
use Rattle.path_finder.specs.Entries as entries
use Rattle.path_finder.specs.declared.words.Found.{Found}
use Rattle.path_finder.specs.declared.words.Found.TheVariants as found
use Rattle.meaning_script.specs.Searches.{IsNamed}
use Rattle.meaning_runs.specs.Runs.{Safe}
use Rattle.meaning_state.specs.declared.fault.Fault.{Fault}
use Rattle.meaning_state.specs.declared.fault.Fault.TheVariants as fault
use Rattle.meaning_state.specs.declared.flow.Flow.{Flow}
use Rattle.meaning_state.specs.declared.flow.Flow.TheVariants.{Went, Left}
use Rattle.meaning_state.specs.declared.thread.State.{State}
use Rattle.meaning_script.specs.Pieces.{Piece, Onward, most, calls, fails, raise, after_reply}
use Rattle.meaning_script.specs.Imports.{Inside, roused, path_of, answers, met, halts, asked, taken, gives_back, gives_back_and, lost_parent, finished, finishes, added, adds, added_lazy, adds_lazy, makes, has_text, opens, reads_file, namespace_made, namespace_added, namespace_of, adds_namespace, loads, discovers, finds, on_search_path, on_path, on_parent_path, on_parent, on_entry, reads_path, has_lock, takes, after_parent, misses, asks}
use Rattle.meaning_safety.specs.Known.{Knows, KnowsFlow}
use Rattle.meaning_safety.proofs.Growth.{Grows, Later, fits_refl, grows_more, later_more, items_grow, state_grows, flow_grows}
use Rattle.meaning_safety.proofs.Given.{path_answered, list_items}
use Rattle.meaning_safety.proofs.Pieces.{SafeOn, SafeAt, SafeModules, Always, on_later, fails_safe, passes_safe, pay_safe, calls_safe, behind}
use Rattle.meaning_safety.proofs.Values.{nothing_known}
use Rattle.meaning_safety.proofs.Paths.{paths_safe}
use Rattle.meaning_safety.proofs.Within.{SafeBody, answers_safe, WithinAt, Within, released_first, loaded_first, loaded_named, lazy_named, holds_first, pick_within, steady_within, flows_within, searches_within, after, again_after}
use Rattle.meaning_safety.proofs.Lazy.{good_finish, bad_finish, rouses_safe}

-- the bodies of modules that exist and the imports of parents are safe
pub record SafeInside (inside : Inside) : Type 0 where
  pub body : SafeBody inside.body
  pub parent : (n : List ℕ) → Always (inside.parent n)

pub roused_safe : (inside : Inside) → SafeInside inside → SafeModules (roused inside)
roused_safe inside safe = rouses_safe inside.body safe.body most

pub path_of_safe : (inside : Inside) → SafeInside inside → SafeModules (path_of inside)
path_of_safe inside safe = paths_safe (roused inside) (roused_safe inside safe) most

-- ---- the lock is given back

gives_back_and_safe : (s : Shown) (n : List ℕ) (s' : Shown) (flow : Flow) → KnowsFlow s' flow → WithinAt s (Taken n) s' (gives_back_and n flow)
gives_back_and_safe s n s' flow known f st knows k safe =
    calls_safe s' (e.Release n) (λ _. k flow st) f.runs (f.runs, holds_first s s' (Taken n) f) (λ reply. f.runs)
    (λ reply. let next : Shown = shown_more s' (e.Release n, reply) in
    let g : Grows s' next = grows_more s' (e.Release n) reply in
    safe next (later_more s s' (Taken n ∷ s.held) s.held (e.Release n) reply f (released_first n s.held) f.runs) flow (flow_grows s' next g flow known) st (state_grows s' next g st knows))

gives_back_safe : (s : Shown) (n : List ℕ) (f : Fault) → Within s (Taken n) (gives_back n f)
gives_back_safe s n f s' = gives_back_and_safe s n s' (raise f) tt

-- ---- after a body

lost_parent_safe : (n : List ℕ) (parent : Option (List ℕ)) → Always (lost_parent n parent)
lost_parent_safe n (Some p) s = fails_safe (fault.Lost p) s
lost_parent_safe n None s = fails_safe fault.NotInProfile s

finished_safe : (again : Piece) → Always again → (n : List ℕ) (reply : Reply) → Always (finished again n reply)
finished_safe again more n (r.Kept slot) s = more s
finished_safe again more n r.Lost s = fails_safe (fault.Lost n) s
finished_safe again more n r.LostParent s = lost_parent_safe n (parent_of n) s
finished_safe again more n reply s = fails_safe fault.NotInProfile s

finishes_safe : (s : Shown) (load : ℕ) (again : Piece) → Always again → (n : List ℕ) (s' : Shown) (flow : Flow) → KnowsFlow s' flow → WithinAt s (Loading load) s' (finishes load again n flow)
finishes_safe s load again more n s' (Went v) known = good_finish s load s' (finished again n) (finished_safe again more n)
finishes_safe s load again more n s' (Left leave) known = bad_finish s load s' leave known

-- ---- the path

-- what goes on with a path is safe where its entries are known
abbrev SafeGo : Shown → List ℕ → (List Value → Piece) → Type 0
SafeGo s n go = (s' : Shown) (items : List Value) → KnowsItems s' items → WithinAt s (Taken n) s' (go items)

module _ (inside : Inside) (safe_inside : SafeInside inside) (s : Shown) (n : List ℕ) (go : List Value → Piece) (safe_go : SafeGo s n go) where
  on_search_path_safe : (s' : Shown) (reply : Reply) → WithinAt s (Taken n) (shown_more s' (e.PathGet, reply)) (on_search_path go n reply)
  on_search_path_safe s' (r.Path items) = safe_go (shown_more s' (e.PathGet, r.Path items)) items (path_answered s' e.PathGet items)
  on_search_path_safe s' reply = gives_back_safe s n fault.NotInProfile (shown_more s' (e.PathGet, reply))

  on_parent_path_safe : (s' : Shown) (p : List ℕ) (flow : Flow) → KnowsFlow s' flow → WithinAt s (Taken n) s' (on_parent_path go n p flow)
  on_parent_path_safe s' p (Went v) known = at (out-Value v) refl
    where
      at : (layer : Value-F Value) → out-Value v ≡ layer → WithinAt s (Taken n) s' (on_path go n p layer)
      at (Value-F.List items) is = safe_go s' items (list_items s' v known.0 items is)
      at layer is = gives_back_safe s n (fault.NotPackage n p) s'
  on_parent_path_safe s' p (Left leave) known = gives_back_and_safe s n s' (Left leave) known

  on_entry_safe : (s' : Shown) (p : List ℕ) (reply : Reply) → WithinAt s (Taken n) (shown_more s' (e.TabGet p, reply)) (on_entry inside go n p reply)
  on_entry_safe s' p (r.Slot slot) = at slot
    where
      at : (slot : Slot) → WithinAt s (Taken n) (shown_more s' (e.TabGet p, r.Slot slot)) (on_parent inside go n p slot)
      at slots.Absent = gives_back_safe s n (fault.Lost p) (shown_more s' (e.TabGet p, r.Slot slots.Absent))
      at slots.Halted = gives_back_safe s n (fault.NotPackage n p) (shown_more s' (e.TabGet p, r.Slot slots.Halted))
      at (slots.Module m) =
          let next : Shown = shown_more s' (e.TabGet p, r.Slot (slots.Module m)) in
          flows_within s (Taken n) next (path_of inside m) (λ flow. on_parent_path go n p flow) (path_of_safe inside safe_inside next m (inl refl)) (λ later g flow known. on_parent_path_safe later p flow known)
  on_entry_safe s' p reply = gives_back_safe s n fault.NotInProfile (shown_more s' (e.TabGet p, reply))

  reads_path_safe : (parent : Option (List ℕ)) → Within s (Taken n) (reads_path inside go n parent)
  reads_path_safe None s' f =
      steady_within s (Taken n) s' e.PathGet (λ reply. on_search_path go n reply) (f.runs, tt) (λ reply. refl) (λ reply. f.runs) (on_search_path_safe s') f
  reads_path_safe (Some p) s' f =
      steady_within s (Taken n) s' (e.TabGet p) (λ reply. on_entry inside go n p reply) (f.runs, tt) (λ reply. refl) (λ reply. f.runs) (on_entry_safe s' p) f

module _ (inside : Inside) (safe_inside : SafeInside inside) (again : Piece) (more : Always again) (n : List ℕ) where
  -- ---- a module of a file

  module _ (s : Shown) (spec : Spec) (named : spec.name ≡ n) where
    added_safe : (text : List ℕ) (s' : Shown) → Later s s' (Taken n ∷ s.held) → (st : State) → Knows s' st → (k : Onward) → SafeOn s k → (reply : Reply)
        → Safe (shown_more s' (e.Add spec text, reply)) (added inside again n text reply st k)
    added_safe text s' f st knows k safe (r.Load load mid) =
        let event : Event = e.Add spec text in
        let next : Shown = shown_more s' (event, r.Load load mid) in
        let loading : Later s next (Loading load ∷ s.held) = later_more s s' (Taken n ∷ s.held) (Loading load ∷ s.held) event (r.Load load mid) f (loaded_named load spec.name n s.held named) f.runs in
        flows_within s (Loading load) next (inside.body mid load n text) (λ flow. finishes load again n flow) (safe_inside.body next mid load n text (inl (inl refl)) (inl refl))
        (λ later g flow known. finishes_safe s load again more n later flow known) loading st (state_grows s' next (grows_more s' event (r.Load load mid)) st knows) k safe
    added_safe text s' f st knows k safe reply =
        let event : Event = e.Add spec text in
        let next : Shown = shown_more s' (event, reply) in
        gives_back_safe s n fault.NotInProfile next (later_more s s' (Taken n ∷ s.held) (Taken n ∷ s.held) event reply f refl f.runs) st (state_grows s' next (grows_more s' event reply) st knows) k safe

    -- the lock is held under the name of what was found
    holds_named : (s' : Shown) → Later s s' (Taken n ∷ s.held) → Has s'.held (Taken spec.name)
    holds_named s' f = subst (λ (x : List ℕ). Has s'.held (Taken x)) (sym named) (holds_first s s' (Taken n) f)

    adds_safe : (text : List ℕ) → MayAdd spec.kind text → Within s (Taken n) (adds inside again n spec text)
    adds_safe text may s' f st knows k safe =
        calls_safe s' (e.Add spec text) (λ reply. added inside again n text reply st k) f.runs (f.runs, (holds_named s' f, may)) (λ reply. f.runs) (added_safe text s' f st knows k safe)

    added_lazy_safe : (event : Event) (s' : Shown) (reply : Reply) → SafeAt (shown_more s' (event, reply)) (added_lazy n reply)
    added_lazy_safe event s' (r.Module m) = answers_safe (shown_more s' (event, r.Module m)) m (inl refl)
    added_lazy_safe event s' reply = fails_safe fault.NotInProfile (shown_more s' (event, reply))

    adds_lazy_safe : (text : List ℕ) → MayBeLazy spec.kind → Within s (Taken n) (adds_lazy n spec text)
    adds_lazy_safe text may s' f st knows k safe =
        let event : Event = e.AddLazy spec text in
        calls_safe s' event (λ reply. added_lazy n reply st k) f.runs (f.runs, (holds_named s' f, may)) (λ reply. f.runs)
        (λ reply. let next : Shown = shown_more s' (event, reply) in
        added_lazy_safe event s' reply f.runs st (state_grows s' next (grows_more s' event reply) st knows) k
        (on_later s next k (later_more s s' (Taken n ∷ s.held) s.held event reply f (lazy_named spec.name n s.held named) f.runs) safe))

    -- a module of any text may be made
    record MayMakeAny : Type 0 where
      now : (text : List ℕ) → MayAdd spec.kind text
      later : MayBeLazy spec.kind

    makes_safe : MayMakeAny → (text : List ℕ) → Within s (Taken n) (makes inside again n spec text)
    makes_safe may text s' =
        pick_within s (Taken n) s' inside.is_lazy (adds_lazy n spec text) (adds inside again n spec text) (adds_lazy_safe text may.later s') (adds_safe text (may.now text) s')

    has_text_safe : MayMakeAny → (text : Option (List ℕ)) → Within s (Taken n) (has_text inside again n spec text)
    has_text_safe may None = gives_back_safe s n fault.TooLong
    has_text_safe may (Some text) = makes_safe may text

    abbrev opened : Path → Stamp → Piece
    opened path at st k = opens path (gives_back n (fault.NotFound n) st k) (λ text. has_text inside again n spec text st k) at

    opens_safe : MayMakeAny → (path : Path) (at : Stamp) → Within s (Taken n) (opened path at)
    opens_safe may path (stamps.File size) s' f st knows k safe = (f.runs, (f.runs, λ text. has_text_safe may text s' f st knows k safe))
    opens_safe may path (stamps.Dir time) s' f st knows k safe = gives_back_safe s n (fault.NotFound n) s' f st knows k safe
    opens_safe may path stamps.Absent s' f st knows k safe = gives_back_safe s n (fault.NotFound n) s' f st knows k safe

    reads_file_safe : MayMakeAny → (path : Option Path) → Within s (Taken n) (reads_file inside again n spec path)
    reads_file_safe may None = gives_back_safe s n (fault.NotFound n)
    reads_file_safe may (Some path) = λ s' f st knows k safe. (f.runs, λ at. opens_safe may path at s' f st knows k safe)

    may_make : (kind : SpecKind) → spec.kind ≡ kind → ((text : List ℕ) → MayAdd kind text) → MayBeLazy kind → MayMakeAny
    may_make kind is now later = record {
      now = λ text. subst (λ (kind : SpecKind). MayAdd kind text) (sym is) (now text);
      later = subst (λ (kind : SpecKind). MayBeLazy kind) (sym is) later;
    }

    loads_safe : (kind : SpecKind) → spec.kind ≡ kind → Within s (Taken n) (loads inside again n spec kind)
    loads_safe (kinds.Source file) is = reads_file_safe (may_make (kinds.Source file) is (λ text. tt) tt) (entries.path_of file)
    loads_safe (kinds.Package file path) is = reads_file_safe (may_make (kinds.Package file path) is (λ text. tt) tt) (entries.path_of file)
    loads_safe kind is = gives_back_safe s n fault.NotInProfile

  -- ---- a namespace

  module _ (s : Shown) (epoch : ℕ) (path : List Value) (portions : List (List ℕ)) where
    abbrev adding : Event
    adding = e.Add (namespace_of n portions) []

    -- what is kept of it
    abbrev kept : NsState
    kept = record { parent_path = path; epoch = epoch; portions = portions }

    made_safe : (load : ℕ) → Within s (Loading load) (namespace_made again n load)
    made_safe load s' = finishes_safe s load again more n s' (Went values.Nothing) (nothing_known s')

    keeps_safe : (load mid : ℕ) (s' : Shown) → Has s'.namespaces mid → KnowsItems s' path → WithinAt s (Loading load) s' (λ st k. calls (e.NsSet mid kept) (λ _. namespace_made again n load st k))
    keeps_safe load mid s' has known f =
        steady_within s (Loading load) s' (e.NsSet mid kept) (λ _. namespace_made again n load) (f.runs, (has, known)) (λ reply. refl) (λ reply. f.runs)
        (λ reply. made_safe load (shown_more s' (e.NsSet mid kept, reply))) f

    namespace_added_safe : (s' : Shown) → KnowsItems s' path → Later s s' (Taken n ∷ s.held) → (st : State) → Knows s' st → (k : Onward) → SafeOn s k → (reply : Reply)
        → Safe (shown_more s' (adding, reply)) (namespace_added again n epoch path portions reply st k)
    namespace_added_safe s' known f st knows k safe (r.Load load mid) =
        let next : Shown = shown_more s' (adding, r.Load load mid) in
        let g : Grows s' next = grows_more s' adding (r.Load load mid) in
        let loading : Later s next (Loading load ∷ s.held) = later_more s s' (Taken n ∷ s.held) (Loading load ∷ s.held) adding (r.Load load mid) f (loaded_first load n s.held) f.runs in
        keeps_safe load mid next (inl refl) (items_grow s' next g path known) loading st (state_grows s' next g st knows) k safe
    namespace_added_safe s' known f st knows k safe reply =
        let next : Shown = shown_more s' (adding, reply) in
        gives_back_safe s n fault.NotInProfile next (later_more s s' (Taken n ∷ s.held) (Taken n ∷ s.held) adding reply f refl f.runs) st (state_grows s' next (grows_more s' adding reply) st knows) k safe

    adds_namespace_safe : (s' : Shown) → KnowsItems s' path → WithinAt s (Taken n) s' (adds_namespace again n epoch path portions)
    adds_namespace_safe s' known f st knows k safe =
        calls_safe s' adding (λ reply. namespace_added again n epoch path portions reply st k) f.runs (f.runs, (holds_first s s' (Taken n) f, refl)) (λ reply. f.runs)
        (namespace_added_safe s' known f st knows k safe)

  -- ---- with the lock

  discovers_safe : (s : Shown) (epoch : ℕ) (path : List Value) (s' : Shown) → KnowsItems s' path → (answer : Option Found) → IsNamed n answer → WithinAt s (Taken n) s' (discovers inside again n epoch path answer)
  discovers_safe s epoch path s' known None named = gives_back_safe s n (fault.NotFound n) s'
  discovers_safe s epoch path s' known (Some (found.Spec spec)) named = loads_safe s spec named spec.kind refl s'
  discovers_safe s epoch path s' known (Some (found.Portions portions)) named = adds_namespace_safe s epoch path portions s' known

  finds_safe : (s : Shown) (epoch : ℕ) → SafeGo s n (finds inside again n epoch)
  finds_safe s epoch s' path known =
      searches_within s (Taken n) s' n path (λ answer. discovers inside again n epoch path answer)
      (λ later g answer named. discovers_safe s epoch path later (items_grow s' later g path known) answer named)

  has_lock_safe : (s : Shown) (epoch : ℕ) → Within s (Taken n) (has_lock inside again n epoch)
  has_lock_safe s epoch = reads_path_safe inside safe_inside s n (finds inside again n epoch) (finds_safe s epoch) (parent_of n)

  -- ---- looks into the cache

  module _ (s : Shown) (run : s.doing ≡ Running) (st : State) (knows : Knows s st) (k : Onward) (safe : SafeOn s k) where
    -- a piece that is safe after one more pair
    next_safe : (event : Event) (reply : Reply) (p : Piece) → holds event reply s.held ≡ s.held → does event reply s.doing ≡ Running → SafeAt (shown_more s (event, reply)) p → Safe (shown_more s (event, reply)) (p st k)
    next_safe = after s run st knows k safe

    -- a look whose reply may be that the thread is to wait
    met_safe : (event : Event) (reply : Reply) → holds event reply s.held ≡ s.held → does event reply s.doing ≡ answered reply s.doing → Safe (shown_more s (event, reply)) (after_reply reply (met again n reply st k))
    met_safe event (r.Module m) same runs = (runs ∙ run, next_safe event (r.Module m) (answers m) same (runs ∙ run) (answers_safe (shown_more s (event, r.Module m)) m (inl refl)))
    met_safe event (r.Cycle m) same runs = (runs ∙ run, next_safe event (r.Cycle m) (answers m) same (runs ∙ run) (answers_safe (shown_more s (event, r.Cycle m)) m (inl refl)))
    met_safe event r.Halted same runs = (runs ∙ run, next_safe event r.Halted (fails (fault.Halted n)) same (runs ∙ run) (fails_safe (fault.Halted n) (shown_more s (event, r.Halted))))
    met_safe event r.Deadlock same runs = (runs ∙ run, next_safe event r.Deadlock (fails (fault.Deadlock n)) same (runs ∙ run) (fails_safe (fault.Deadlock n) (shown_more s (event, r.Deadlock))))
    met_safe event (r.Wait l) same runs = again_after s run st knows k safe event l again (λ later g. more later) same runs
    met_safe event reply same runs = (runs ∙ run, next_safe event reply (fails fault.NotInProfile) same (runs ∙ run) (fails_safe fault.NotInProfile (shown_more s (event, reply))))

    taken_safe : (reply : Reply) → Safe (shown_more s (e.Take n, reply)) (after_reply reply (taken again (has_lock inside again n) n reply st k))
    taken_safe (r.Mine epoch) =
        let next : Shown = shown_more s (e.Take n, r.Mine epoch) in
        (run, has_lock_safe s epoch next (later_more s s s.held (Taken n ∷ s.held) (e.Take n) (r.Mine epoch) (fits_refl s run) refl run) st (state_grows s next (grows_more s (e.Take n) (r.Mine epoch)) st knows) k safe)
    taken_safe reply = met_safe (e.Take n) reply refl refl

    halts_safe : (is_parent : Bool) → Always (halts is_parent n)
    halts_safe true = passes_safe
    halts_safe false = fails_safe (fault.Halted n)

    asked_safe : (missing : Piece) → Always missing → (is_parent : Bool) (reply : Reply) → Safe (shown_more s (e.Ask n, reply)) (after_reply reply (asked again missing is_parent n reply st k))
    asked_safe missing next is_parent r.Missing = (run, next_safe (e.Ask n) r.Missing missing refl run (next (shown_more s (e.Ask n, r.Missing))))
    asked_safe missing next is_parent r.Halted = (run, next_safe (e.Ask n) r.Halted (halts is_parent n) refl run (halts_safe is_parent (shown_more s (e.Ask n, r.Halted))))
    asked_safe missing next is_parent reply = met_safe (e.Ask n) reply refl refl

  takes_safe : Always (takes inside again n)
  takes_safe s run st knows k safe = (run, ((run, tt), taken_safe s run st knows k safe))

  after_parent_safe : (next : Piece) → Always next → (parent : Option (List ℕ)) → Always (after_parent inside next parent)
  after_parent_safe next safe None s = safe s
  after_parent_safe next safe (Some p) s = behind s (inside.parent p) (λ _. next) (safe_inside.parent p s) (λ s' g v known. safe s')

  misses_safe : Always (misses inside again n)
  misses_safe = after_parent_safe (takes inside again n) takes_safe (parent_of n)

pub asks_safe : (inside : Inside) → SafeInside inside → (turns : ℕ) (is_parent : Bool) (n : List ℕ) → Always (asks inside turns is_parent n)
asks_safe inside safe_inside zero is_parent n s = pay_safe s most (fails fault.NotInProfile) (fails_safe fault.NotInProfile s)
asks_safe inside safe_inside (suc turns) is_parent n s = λ run st knows k safe.
    let again : Piece = asks inside turns false n in
    let more : Always again = asks_safe inside safe_inside turns false n in
    (run, ((run, tt), asked_safe inside safe_inside again more n s run st knows k safe (misses inside again n) (misses_safe inside safe_inside again more n) is_parent))
