-- Names, attributes and items are safe.
use Rattle.std.proofs.Common.{◌≡◌, inl, ℕ, Bool, true, false, if◌then◌else◌, ◌&&◌, List, codes, Option, Some, None, refl, sym, ◌∙◌, subst, cond}
use Rattle.std.specs.FinMap as maps
use Rattle.std.specs.FinMap.{FinMap, get-insert, get-remove}
use Rattle.std.specs.Cmp.{IsTotalOrder}
use Rattle.std.proofs.lemmas.Cmp.{nat_list_cmp_total}
use Rattle.std.specs.Ordering.{eq_by_cmp}
use Rattle.std.specs.declared.cmp.Ordering.{Ordering}
use Rattle.std.specs.Str.{bytes_eq}
use Rattle.py_value.specs.declared.kind.Kind.{Kind}
use Rattle.py_value.specs.declared.kind.Native.{Native}
use Rattle.py_value.specs.declared.value.ModRef.{ModRef}
use Rattle.py_value.specs.declared.value.Raised.{Raised as Error}
use Rattle.py_value.specs.declared.value.Value.{Value, out-Value}
use Rattle.py_value.specs.declared.value.Value.TheOpen.{Value-F}
use Rattle.py_value.specs.declared.value.Value.TheVariants as values
use Rattle.machine_events.specs.declared.event.Event.{Event}
use Rattle.machine_events.specs.declared.event.Event.TheVariants as e
use Rattle.machine_events.specs.declared.event.Reply.{Reply}
use Rattle.machine_events.specs.declared.event.Reply.TheVariants as r
use Rattle.machine_shown.specs.Shown.{Shown, shown_more, is_namespace_path}
use Rattle.machine_shown.specs.Knowing.{Has, KnowsAll}
use Rattle.meaning_safety.proofs.Parts.{plain}
use Rattle.meaning_state.specs.declared.fault.Fault.TheVariants as fault
use Rattle.meaning_state.specs.declared.flow.Flow.TheVariants.{Went}
use Rattle.meaning_state.specs.declared.thread.FunctionScope.{FunctionScope}
use Rattle.meaning_state.specs.declared.thread.Source.{Source}
use Rattle.meaning_state.specs.declared.thread.State.{State}
use Rattle.meaning_script.specs.Pieces.{Piece, fails, done}
use Rattle.meaning_script.specs.Names as names
use Rattle.meaning_safety.specs.Known.{KnowsValue, KnowsLocals, Knows}
use Rattle.meaning_safety.proofs.Growth.{fits_refl, value_grows}
use Rattle.meaning_safety.proofs.Given.{has_number, value_answered, module_in}
use Rattle.meaning_safety.proofs.Pieces.{SafeAt, SafeIn, SafeModules, Quiet, Always, safe_in, goes_safe, fails_safe, passes_safe, pick_safe, pick_run, steady, steady_in, accesses_safe, reads_var_safe}
use Rattle.meaning_safety.proofs.Values.{nothing_known}

-- ---- what a reply shows

-- a value that is read, where another piece stands for the path of a namespace
pub value_or_safe : (s : Shown) (v : Value) (p : Piece) → KnowsAll s v → (is_namespace_path v ≡ true → SafeAt s p) → SafeAt s (if is_namespace_path v then p else (λ st k. k (Went v) st))
value_or_safe s v p h path = at (is_namespace_path v) refl
  where
    at : (b : Bool) → is_namespace_path v ≡ b → SafeAt s (if b then p else (λ st k. k (Went v) st))
    at true is = path is
    at false is = goes_safe s (Went v) (h, is)

-- ---- maps

pub insert_each : {K X : Type 0} {R : K → K → Ordering} → IsTotalOrder R → (P : X → Type 0) (m : FinMap R X) (k : K) (v : X) → P v
    → ((q : K) (w : X) → maps.get m q ≡ Some w → P w) → (q : K) (w : X) → maps.get (maps.insert m k v) q ≡ Some w → P w
insert_each {K} {X} {R} o P m k v here each q w is = at (eq_by_cmp R q k) (sym (get-insert o m k v q) ∙ is)
  where
    at : (b : Bool) → cond b (Some v) (maps.get m q) ≡ Some w → P w
    at true same = let it : v ≡ w = cc in subst P it here
    at false same = each q w same

pub remove_each : {K X : Type 0} {R : K → K → Ordering} → IsTotalOrder R → (P : X → Type 0) (m : FinMap R X) (k : K)
    → ((q : K) (w : X) → maps.get m q ≡ Some w → P w) → (q : K) (w : X) → maps.get (maps.remove m k) q ≡ Some w → P w
remove_each {K} {X} {R} o P m k each q w is = at (eq_by_cmp R q k) (sym (get-remove o m k q) ∙ is)
  where
    at : (b : Bool) → cond b None (maps.get m q) ≡ Some w → P w
    at true same = absurd cc
    at false same = each q w same

-- ---- local variables

local_known : (s : Shown) (f : Option FunctionScope) → KnowsLocals s f → (x : List ℕ) (v : Value) → names.value_in f x ≡ Some v → KnowsValue s v
local_known s None h x v is = absurd cc
local_known s (Some f) h x v is = h x v is

set_known : (s : Shown) (f : Option FunctionScope) (x : List ℕ) (v : Value) → KnowsLocals s f → KnowsValue s v → KnowsLocals s (names.set_in f x v)
set_known s None x v h known = tt
set_known s (Some f) x v h known = insert_each nat_list_cmp_total (KnowsValue s) f.locals x v known h

unset_known : (s : Shown) (f : Option FunctionScope) (x : List ℕ) → KnowsLocals s f → KnowsLocals s (names.unset_in f x)
unset_known s None x h = tt
unset_known s (Some f) x h = remove_each nat_list_cmp_total (KnowsValue s) f.locals x h

in_function : (s : Shown) (st : State) (f : Option FunctionScope) → Knows s st → KnowsLocals s f → Knows s (names.with_function st f)
in_function s st f knows h = record { mid = knows.mid; load = knows.load; locals = h; kept = knows.kept }

with_local_known : (s : Shown) (st : State) (x : List ℕ) (v : Value) → Knows s st → KnowsValue s v → Knows s (names.with_local st x v)
with_local_known s st x v knows known = in_function s st (names.set_in st.scope.function x v) knows (set_known s st.scope.function x v knows.locals known)

pub without_local_known : (s : Shown) (st : State) (x : List ℕ) → Knows s st → Knows s (names.without_local st x)
without_local_known s st x knows = in_function s st (names.unset_in st.scope.function x) knows (unset_known s st.scope.function x knows.locals)

-- ---- accesses

-- a `__path__` that was read as that of a namespace shows it
pub path_shown : (s : Shown) (mid : ℕ) (x : List ℕ) (raw : Bool) (v : Value) → is_namespace_path v ≡ true → bytes_eq x (codes "__path__") ≡ true
    → Has (shown_more s (e.GetVar mid x raw, r.Value v)).namespaces mid
path_shown s mid x raw v is named = rw named (rw is (inl refl))

-- the first uses of modules that exist are safe, and what comes in place
-- of the path of a namespace is where it is shown that the module is one
pub record SafeAccess (access : names.Access) : Type 0 where
  pub roused : SafeModules access.roused
  pub replaced : (s : Shown) (mid : ℕ) (n : List ℕ) → Has s.namespaces mid → SafeAt s (access.replaced mid n)

pub replaces_safe : (access : names.Access) → SafeAccess access → (s : Shown) (mid : ℕ) (n x : List ℕ) → (bytes_eq x (codes "__path__") ≡ true → Has s.namespaces mid) → SafeAt s (names.replaces access mid n x)
replaces_safe access safe s mid n x shown = at (bytes_eq x (codes "__path__")) refl
  where
    at : (b : Bool) → bytes_eq x (codes "__path__") ≡ b → SafeAt s (if b then access.replaced mid n else fails fault.NotInProfile)
    at true named = safe.replaced s mid n (shown named)
    at false named = fails_safe fault.NotInProfile s

-- ---- reads

built_in_safe : (s : Shown) (x : List ℕ) (native : Option Native) (kind : Option Kind) → SafeAt s (names.read_built_in (names.built_in_value native kind) x)
built_in_safe s x (Some native) kind = goes_safe s (Went (values.Native native)) ((plain s).native native, refl)
built_in_safe s x None (Some kind) = goes_safe s (Went (values.Kind kind)) ((plain s).kind kind, refl)
built_in_safe s x None None = fails_safe (fault.NotDefined x) s

module _ (access : names.Access) (safe_access : SafeAccess access) where
  own_safe : (s : Shown) (st : State) (source : Option Source) (x : List ℕ) → (bytes_eq x (codes "__path__") ≡ true → Has s.namespaces st.scope.mid) → SafeIn s st (names.replaces_own access source x)
  own_safe s st None x shown = safe_in s st (fails fault.NotInProfile) (fails_safe fault.NotInProfile s)
  own_safe s st (Some source) x shown = λ run knows k safe. replaces_safe access safe_access s st.scope.mid source.name x shown run st knows k safe

  variable_safe : (s : Shown) (st : State) (x : List ℕ) (v : Value) → KnowsAll s v
      → (is_namespace_path v ≡ true → bytes_eq x (codes "__path__") ≡ true → Has s.namespaces st.scope.mid) → SafeIn s st (names.variable access x v)
  variable_safe s st x v known shown = at (is_namespace_path v) refl
    where
      at : (b : Bool) → is_namespace_path v ≡ b → SafeIn s st (λ st' k. if b then names.replaces_own access (maps.get st'.kept st'.scope.load) x st' k else k (Went v) st')
      at true is = own_safe s st (maps.get st.kept st.scope.load) x (shown is)
      at false is = safe_in s st (λ st' k. k (Went v) st') (goes_safe s (Went v) (known, is))

  read_global_safe : (s : Shown) (st : State) (x : List ℕ) (reply : Reply) → SafeIn (shown_more s (e.GetVar st.scope.mid x true, reply)) st (names.read_global access reply x)
  read_global_safe s st x (r.Value v) =
      let event : Event = e.GetVar st.scope.mid x true in
      variable_safe (shown_more s (event, r.Value v)) st x v (value_answered s event v) (path_shown s st.scope.mid x true v)
  read_global_safe s st x (r.Unset init) =
      let next : Shown = shown_more s (e.GetVar st.scope.mid x true, r.Unset init) in
      safe_in next st (names.read_built_in (names.built_in x) x) (built_in_safe next x (names.native_named x names.built_in_natives) (names.kind_named x names.built_in_kinds))
  read_global_safe s st x reply =
      let next : Shown = shown_more s (e.GetVar st.scope.mid x true, reply) in
      safe_in next st (fails fault.NotInProfile) (fails_safe fault.NotInProfile next)

  reads_global_safe : (x : List ℕ) → Always (names.reads_global access x)
  reads_global_safe x s run st knows k safe =
      let event : Event = e.GetVar st.scope.mid x true in
      steady_in s st event (λ reply. names.read_global access reply x) (run, knows.mid) (λ reply. refl) (λ reply. run) (read_global_safe s st x) run knows k safe

reads_local_safe : (s : Shown) (x : List ℕ) (v : Option Value) → ((w : Value) → v ≡ Some w → KnowsValue s w) → SafeAt s (names.reads_local v x)
reads_local_safe s x None each = fails_safe (fault.Unbound x) s
reads_local_safe s x (Some v) each = goes_safe s (Went v) (each v refl)

pub reads_safe : (access : names.Access) → SafeAccess access → (x : List ℕ) → Always (names.reads access x)
reads_safe access safe_access x s run st knows k safe =
    pick_run s (names.is_local_name st x) (names.reads_local (names.local_value st x) x st k) (names.reads_global access x st k)
    (reads_local_safe s x (names.local_value st x) (local_known s st.scope.function knows.locals x) run st knows k safe)
    (reads_global_safe access safe_access x s run st knows k safe)

-- ---- writes and deletions

stored_safe : (s : Shown) (reply : Reply) → SafeAt s (names.stored reply)
stored_safe s r.Done = passes_safe s
stored_safe s reply = fails_safe fault.NotInProfile s

stores_global_safe : (s : Shown) (x : List ℕ) (v : Value) → KnowsValue s v → SafeAt s (names.stores_global x v)
stores_global_safe s x v known run st knows k safe =
    let event : Event = e.SetVar true st.scope.mid x v in
    steady s event names.stored (run, (knows.mid, known.1, known.0)) (λ reply. refl) (λ reply. run) (λ reply. stored_safe (shown_more s (event, reply)) reply) run st knows k safe

pub stores_safe : (s : Shown) (x : List ℕ) (v : Value) → KnowsValue s v → SafeAt s (names.stores x v)
stores_safe s x v known run st knows k safe =
    pick_run s (names.is_local_name st x) (k done (names.with_local st x v)) (names.stores_global x v st k)
    (safe s (fits_refl s run) done (nothing_known s) (names.with_local st x v) (with_local_known s st x v knows known))
    (stores_global_safe s x v known run st knows k safe)

deleted_safe : (s : Shown) (x : List ℕ) (reply : Reply) → SafeAt s (names.deleted reply x)
deleted_safe s x r.Done = passes_safe s
deleted_safe s x (r.Unset init) = fails_safe (fault.NotDefined x) s
deleted_safe s x reply = fails_safe fault.NotInProfile s

deletes_global_safe : (x : List ℕ) → Always (names.deletes_global x)
deletes_global_safe x s run st knows k safe =
    let event : Event = e.DelVar st.scope.mid x true in
    steady s event (λ reply. names.deleted reply x) (run, knows.mid) (λ reply. refl) (λ reply. run) (λ reply. deleted_safe (shown_more s (event, reply)) x reply) run st knows k safe

deletes_local_safe : (x : List ℕ) (v : Option Value) → Always (names.deletes_local v x)
deletes_local_safe x None s = fails_safe (fault.Unbound x) s
deletes_local_safe x (Some v) s = λ run st knows k safe. safe s (fits_refl s run) done (nothing_known s) (names.without_local st x) (without_local_known s st x knows)

pub deletes_safe : (x : List ℕ) → Always (names.deletes x)
deletes_safe x s run st knows k safe =
    pick_run s (names.is_local_name st x) (names.deletes_local (names.local_value st x) x st k) (names.deletes_global x st k)
    (deletes_local_safe x (names.local_value st x) s run st knows k safe)
    (deletes_global_safe x s run st knows k safe)

-- ---- attributes

error_member_safe : (error : Error) (x : List ℕ) → Always (names.error_member error x)
error_member_safe error x s =
    pick_safe s (bytes_eq x (codes "name") && names.is_import_kind error.kind) (λ st k. k (Went (names.name_value error.name)) st) (fails fault.NotInProfile)
    (goes_safe s (Went (names.name_value error.name)) (name_known error.name)) (fails_safe fault.NotInProfile s)
  where
    name_known : (n : Option (List ℕ)) → KnowsValue s (names.name_value n)
    name_known None = nothing_known s
    name_known (Some n) = ((plain s).text n, refl)

removed_safe : (s : Shown) (x : List ℕ) (reply : Reply) → SafeAt s (names.removed x reply)
removed_safe s x r.Done = passes_safe s
removed_safe s x (r.Unset init) = fails_safe (fault.NotDeleted x) s
removed_safe s x reply = fails_safe fault.NotInProfile s

module _ (access : names.Access) (safe_access : SafeAccess access) where
  member_read_safe : (m : ModRef) (x : List ℕ) (s : Shown) (raw : Bool) (reply : Reply) → SafeAt (shown_more s (e.GetVar m.mid x raw, reply)) (names.member_read access m x reply)
  member_read_safe m x s raw (r.Value v) =
      let event : Event = e.GetVar m.mid x raw in
      let next : Shown = shown_more s (event, r.Value v) in
      value_or_safe next v (names.replaces access m.mid m.name x) (value_answered s event v) (λ is. replaces_safe access safe_access next m.mid m.name x (path_shown s m.mid x raw v is))
  member_read_safe m x s raw (r.Unset init) = fails_safe (fault.NoAttribute init m.name x) (shown_more s (e.GetVar m.mid x raw, r.Unset init))
  member_read_safe m x s raw reply = fails_safe fault.NotInProfile (shown_more s (e.GetVar m.mid x raw, reply))

  pub member_safe : (s : Shown) (v : Value) (x : List ℕ) → KnowsValue s v → SafeAt s (names.member access v x)
  member_safe s v x known = at (out-Value v) refl
    where
      at : (layer : Value-F Value) → out-Value v ≡ layer → SafeAt s (names.member_at access layer x)
      at (Value-F.Module m) is =
          reads_var_safe access.roused safe_access.roused m x (names.member_read access m x) (λ s' has raw reply. member_read_safe m x s' raw reply) s (module_in s v known.0 m is)
      at (Value-F.Error error) is = error_member_safe error x s
      at layer is = fails_safe fault.NotInProfile s

  setting : (m : ModRef) (x : List ℕ) (v : Value) → Quiet (λ raw. e.SetVar raw m.mid x v) (λ s. Has s.modules m × KnowsValue s v)
  setting m x v = record {
    stays = λ s s' g h. (g.modules m h.0, value_grows s s' g v h.1);
    may = λ s h raw run. (run, (has_number s m h.0, h.1.1, h.1.0));
    same = λ held raw reply. refl;
    runs = λ s raw reply. refl;
  }

  pub sets_member_safe : (s : Shown) (object : Value) (x : List ℕ) (v : Value) → KnowsValue s object → KnowsValue s v → SafeAt s (names.sets_member access object x v)
  sets_member_safe s object x v object_known known = at (out-Value object) refl
    where
      at : (layer : Value-F Value) → out-Value object ≡ layer → SafeAt s (names.sets_member_at access layer x v)
      at (Value-F.Module m) is =
          let has : Has s.modules m = module_in s object object_known.0 m is in
          accesses_safe access.roused safe_access.roused m (λ raw. e.SetVar raw m.mid x v) (λ s'. Has s'.modules m × KnowsValue s' v) (setting m x v) names.stored
          (λ s' has' p raw reply. stored_safe (shown_more s' (e.SetVar raw m.mid x v, reply)) reply) s has (has, known)
      at layer is = fails_safe fault.NotInProfile s

  deleting : (m : ModRef) (x : List ℕ) → Quiet (λ raw. e.DelVar m.mid x raw) (λ s. Has s.modules m)
  deleting m x = record {
    stays = λ s s' g h. g.modules m h;
    may = λ s h raw run. (run, has_number s m h);
    same = λ held raw reply. refl;
    runs = λ s raw reply. refl;
  }

  pub deletes_member_safe : (s : Shown) (object : Value) (x : List ℕ) → KnowsValue s object → SafeAt s (names.deletes_member access object x)
  deletes_member_safe s object x known = at (out-Value object) refl
    where
      at : (layer : Value-F Value) → out-Value object ≡ layer → SafeAt s (names.deletes_member_at access layer x)
      at (Value-F.Module m) is =
          let has : Has s.modules m = module_in s object known.0 m is in
          accesses_safe access.roused safe_access.roused m (λ raw. e.DelVar m.mid x raw) (λ s'. Has s'.modules m) (deleting m x) (names.removed x)
          (λ s' has' p raw reply. removed_safe (shown_more s' (e.DelVar m.mid x raw, reply)) x reply) s has has
      at layer is = fails_safe fault.NotInProfile s
