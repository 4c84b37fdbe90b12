-- The `import` statements are safe.
use Rattle.std.proofs.Common.{inl, ℕ, zero, suc, Bool, true, false, ◌≡◌, List, [], ◌∷◌, map, codes, Option, Some, None, Result, Ok, Err, refl}
use Rattle.std.specs.List.{filter}
use Rattle.std.specs.Str.{bytes_eq}
use Rattle.py_value.specs.declared.value.ModRef.{ModRef}
use Rattle.py_value.specs.declared.value.Raised.{Raised as Error}
use Rattle.py_value.specs.declared.value.Value.{Value, out-Value}
use Rattle.py_value.specs.declared.value.Value.TheOpen.{Value-F}
use Rattle.py_value.specs.declared.value.Value.TheVariants as values
use Rattle.spec_core.specs.Identifiers.{is_dotted}
use Rattle.spec_core.specs.Names.{joined}
use Rattle.spec_core.specs.Relative.{resolved}
use Rattle.spec_core.specs.declared.relative.RelativeError.{RelativeError}
use Rattle.spec_core.specs.declared.relative.RelativeError.TheVariants as relative
use Rattle.machine_events.specs.declared.event.Event.{Event}
use Rattle.machine_events.specs.declared.event.Event.TheVariants as e
use Rattle.machine_events.specs.declared.event.Reply.{Reply}
use Rattle.machine_events.specs.declared.event.Reply.TheVariants as r
use Rattle.machine_events.specs.declared.module.Slot.{Slot}
use Rattle.machine_events.specs.declared.module.Slot.TheVariants as slots
use Rattle.machine_shown.specs.Shown.{Shown, shown_more}
use Rattle.machine_shown.specs.Knowing.{Has}
use Rattle.py_syntax.specs.declared.stmt.Alias.{Alias}
use Rattle.py_syntax.specs.declared.stmt.ImportedNames.{ImportedNames}
use Rattle.py_syntax.specs.declared.stmt.ImportedNames.TheVariants as names
use Rattle.meaning_state.specs.declared.fault.Fault.TheVariants as fault
use Rattle.meaning_state.specs.declared.flow.Leave.TheVariants.{Raised, Return, Break, Continue}
use Rattle.meaning_state.specs.declared.flow.Flow.{Flow}
use Rattle.meaning_state.specs.declared.flow.Flow.TheVariants.{Went, Left}
use Rattle.meaning_script.specs.Pieces.{Piece, calls, on_value, fails, in_order, accessed}
use Rattle.meaning_script.specs.Names.{stores, member}
use Rattle.meaning_script.specs.Operators.{Around}
use Rattle.meaning_script.specs.ImportStatements.{dotted_name, bound_as, with_module_at, with_module, namespace_taken, entry_taken, submodule_entry, looks_up, name_read, name_of, is_last, follows_parts, binds_import, imports_front, imports_parts, imports_one, imports_all, missed, is_missing, raised_for, tried_submodule, tries_submodule, submodule_read, submodule, if_package, asks_submodules, item_name, binds_item, binds_items, item_names, from_list, binds_star, binds_stars, all_names, is_one_part, stars_of, is_public, public_names, all_read, from_star, package_in, optional_name, from_name, from_resolved, from_relative, from_dots, imported_names, from_import}
use Rattle.meaning_safety.specs.Known.{KnowsValue, KnowsFlow}
use Rattle.meaning_safety.proofs.Growth.{grows_more}
use Rattle.meaning_safety.proofs.Given.{has_number, value_answered, module_in}
use Rattle.meaning_safety.proofs.Pieces.{SafeAt, Always, AllSafe, goes_safe, fails_safe, passes_safe, pick_safe, steady, behind, flows_safe, in_order_safe, reads_var_safe}
use Rattle.meaning_safety.proofs.Values.{nothing_known, module_known}
use Rattle.meaning_safety.proofs.Names.{value_or_safe, path_shown, replaces_safe, stores_safe, member_safe}
use Rattle.meaning_safety.proofs.Expressions.{SafeAround}

-- safe where the module exists
abbrev Having : ModRef → Piece → Type 0
Having m p = (s : Shown) → Has s.modules m → SafeAt s p

abbrev AllHaving : ModRef → List Piece → Type 0
AllHaving m [] = Unit {0}
AllHaving m (p ∷ ps) = Having m p × AllHaving m ps

in_order_having : (m : ModRef) (ps : List Piece) → AllHaving m ps → Having m (in_order ps)
in_order_having m [] all s has = passes_safe s
in_order_having m (p ∷ ps) all s has = behind s p (λ _. in_order ps) (all.0 s has) (λ s' g v known. in_order_having m ps all.1 s' (g.modules m has))

-- what goes on with a module
abbrev OnModule : (ModRef → Piece) → Type 0
OnModule go = (m : ModRef) → Having m (go m)

with_module_safe : (go : ModRef → Piece) → OnModule go → (s : Shown) (v : Value) → KnowsValue s v → SafeAt s (with_module v go)
with_module_safe go safe s v known = at (out-Value v) refl
  where
    at : (layer : Value-F Value) → out-Value v ≡ layer → SafeAt s (with_module_at layer go)
    at (Value-F.Module m) is = safe m s (module_in s v known.0 m is)
    at layer is = fails_safe fault.NotInProfile s

-- ---- a name of a module

entry_safe : (s : Shown) (n : List ℕ) (m : ModRef) (x : List ℕ) (init : Bool) (reply : Reply) → SafeAt (shown_more s (e.TabGet n, reply)) (submodule_entry m x init reply)
entry_safe s n m x init (r.Slot slot) = at slot
  where
    at : (slot : Slot) → SafeAt (shown_more s (e.TabGet n, r.Slot slot)) (entry_taken m x init slot)
    at (slots.Module found) = let next : Shown = shown_more s (e.TabGet n, r.Slot (slots.Module found)) in goes_safe next (Went (values.Module found)) (module_known next found (inl refl))
    at slots.Halted = let next : Shown = shown_more s (e.TabGet n, r.Slot slots.Halted) in goes_safe next (Went values.Nothing) (nothing_known next)
    at slots.Absent = fails_safe (fault.CannotImport init m.name m.place x) (shown_more s (e.TabGet n, r.Slot slots.Absent))
entry_safe s n m x init reply = fails_safe fault.NotInProfile (shown_more s (e.TabGet n, reply))

looks_up_safe : (m : ModRef) (x : List ℕ) (init : Bool) → Always (looks_up m x init)
looks_up_safe m x init s =
    let n : List ℕ = joined m.name x in
    pick_safe s (is_dotted n) (λ st k. calls (e.TabGet n) (λ reply. submodule_entry m x init reply st k)) (fails fault.NotInProfile)
    (λ run. steady s (e.TabGet n) (λ reply. submodule_entry m x init reply) (run, tt) (λ reply. refl) (λ reply. run) (entry_safe s n m x init) run)
    (fails_safe fault.NotInProfile s)

module _ (around : Around) (safe_around : SafeAround around) where
  taken_safe : (s : Shown) (is_bound : Bool) (m : ModRef) (x : List ℕ) → (bytes_eq x (codes "__path__") ≡ true → Has s.namespaces m.mid) → SafeAt s (namespace_taken around is_bound m x)
  taken_safe s true m x shown = replaces_safe around.access safe_around.access s m.mid m.name x shown
  taken_safe s false m x shown = fails_safe fault.NotInProfile s

  name_read_safe : (is_bound : Bool) (m : ModRef) (x : List ℕ) (s : Shown) (raw : Bool) (reply : Reply) → SafeAt (shown_more s (e.GetVar m.mid x raw, reply)) (name_read around is_bound m x reply)
  name_read_safe is_bound m x s raw (r.Value v) =
      let event : Event = e.GetVar m.mid x raw in
      let next : Shown = shown_more s (event, r.Value v) in
      value_or_safe next v (namespace_taken around is_bound m x) (value_answered s event v) (λ is. taken_safe next is_bound m x (path_shown s m.mid x raw v is))
  name_read_safe is_bound m x s raw (r.Unset init) = looks_up_safe m x init (shown_more s (e.GetVar m.mid x raw, r.Unset init))
  name_read_safe is_bound m x s raw reply = fails_safe fault.NotInProfile (shown_more s (e.GetVar m.mid x raw, reply))

  -- a variable of a module, which is roused first where it is lazy
  accessed_safe : (m : ModRef) (x : List ℕ) (go : Reply → Piece) → ((s : Shown) → Has s.modules m → (raw : Bool) (reply : Reply) → SafeAt (shown_more s (e.GetVar m.mid x raw, reply)) (go reply))
      → Having m (λ st k. calls (e.GetVar m.mid x false) (λ reply. accessed false around.access.roused m (e.GetVar m.mid x true) go reply st k))
  accessed_safe m x go each s has = reads_var_safe around.access.roused safe_around.access.roused m x go each s has

  name_of_safe : (is_bound : Bool) (m : ModRef) (x : List ℕ) → Having m (name_of around is_bound m x)
  name_of_safe is_bound m x = accessed_safe m x (name_read around is_bound m x) (λ s has raw reply. name_read_safe is_bound m x s raw reply)

  -- ---- `import`

  follows_safe : (cs : List (List ℕ)) (bound : List ℕ) (s : Shown) (v : Value) → KnowsValue s v → SafeAt s (follows_parts around cs bound v)
  follows_safe [] bound s v known = stores_safe s bound v known
  follows_safe (c ∷ cs) bound s v known =
      let part : ModRef → Piece = λ m. name_of around (is_last cs) m c in
      with_module_safe (λ m st k. part m st (on_value k (λ w st'. follows_parts around cs bound w st' k)))
      (λ m s' has. behind s' (part m) (λ w. follows_parts around cs bound w) (name_of_safe (is_last cs) m c s' has) (λ later g w known'. follows_safe cs bound later w known')) s v known

  binds_import_safe : (x : List ℕ) (cs : List (List ℕ)) (bound : Option (List ℕ)) (s : Shown) (v : Value) → KnowsValue s v → SafeAt s (binds_import around x cs bound v)
  binds_import_safe x cs None s v known = stores_safe s x v known
  binds_import_safe x cs (Some bound) s v known = follows_safe cs bound s v known

  imports_front_safe : (x : List ℕ) (cs : List (List ℕ)) (bound : Option (List ℕ)) → Always (imports_front around x cs bound)
  imports_front_safe x cs bound s = behind s (around.imported x) (λ v. binds_import around x cs bound v) (safe_around.imported x s) (λ s' g v known. binds_import_safe x cs bound s' v known)

  imports_parts_safe : (parts : List (List ℕ)) (bound : Option (List ℕ)) → Always (imports_parts around parts bound)
  imports_parts_safe [] bound s = fails_safe fault.NotInProfile s
  imports_parts_safe (x ∷ []) bound s =
      behind s (around.imported x) (λ v. stores (bound_as bound x) v) (safe_around.imported x s) (λ s' g v known. stores_safe s' (bound_as bound x) v known)
  imports_parts_safe (x ∷ y ∷ cs) bound s =
      let n : List ℕ = dotted_name (x ∷ y ∷ cs) in
      behind s (around.imported n) (λ _. imports_front around x (y ∷ cs) bound) (safe_around.imported n s) (λ s' g v known. imports_front_safe x (y ∷ cs) bound s')

  all_imports : (items : List Alias) → AllSafe (map (imports_one around) items)
  all_imports [] = tt
  all_imports (a ∷ items) = (imports_parts_safe a.parts a.bound, all_imports items)

  pub imports_all_safe : (items : List Alias) → Always (imports_all around items)
  imports_all_safe items = in_order_safe (map (imports_one around) items) (all_imports items)

  -- ---- the submodules that a `from` import asks for

  missed_safe : (error : Error) (reply : Reply) → Always (missed error reply)
  missed_safe error (r.Slot slots.Halted) s = goes_safe s (Left (Raised error)) tt
  missed_safe error (r.Slot (slots.Module m)) s = passes_safe s
  missed_safe error (r.Slot slots.Absent) s = passes_safe s
  missed_safe error reply s = passes_safe s

  raised_for_safe : (n : List ℕ) (error : Error) → Always (raised_for n error)
  raised_for_safe n error s =
      pick_safe s (is_missing n error.kind error.name) (λ st k. calls (e.TabGet n) (λ reply. missed error reply st k)) (λ st k. k (Left (Raised error)) st)
      (λ run. steady s (e.TabGet n) (λ reply. missed error reply) (run, tt) (λ reply. refl) (λ reply. run) (λ reply. missed_safe error reply (shown_more s (e.TabGet n, reply))) run)
      (goes_safe s (Left (Raised error)) tt)

  tried_safe : (n : List ℕ) (s : Shown) (flow : Flow) → KnowsFlow s flow → SafeAt s (tried_submodule n flow)
  tried_safe n s (Left (Raised error)) known = raised_for_safe n error s
  tried_safe n s (Left (Return v)) known = goes_safe s (Left (Return v)) known
  tried_safe n s (Left Break) known = goes_safe s (Left Break) tt
  tried_safe n s (Left Continue) known = goes_safe s (Left Continue) tt
  tried_safe n s (Went v) known = passes_safe s

  tries_safe : (n : List ℕ) → Always (tries_submodule around n)
  tries_safe n s =
      pick_safe s (is_dotted n) (λ st k. around.imported n st (λ flow st'. tried_submodule n flow st' k)) (fails fault.NotInProfile)
      (flows_safe s (around.imported n) (λ flow. tried_submodule n flow) (safe_around.imported n s) (λ s' g flow known. tried_safe n s' flow known))
      (fails_safe fault.NotInProfile s)

  submodule_read_safe : (m : ModRef) (x : List ℕ) (reply : Reply) → Always (submodule_read around m x reply)
  submodule_read_safe m x (r.Value v) s = passes_safe s
  submodule_read_safe m x (r.Unset init) s = tries_safe (joined m.name x) s
  submodule_read_safe m x reply s = fails_safe fault.NotInProfile s

  submodule_safe : (m : ModRef) (x : List ℕ) → Having m (submodule around m x)
  submodule_safe m x = accessed_safe m x (submodule_read around m x) (λ s has raw reply. submodule_read_safe m x reply (shown_more s (e.GetVar m.mid x raw, reply)))

  all_submodules : (m : ModRef) (xs : List (List ℕ)) → AllHaving m (map (submodule around m) xs)
  all_submodules m [] = tt
  all_submodules m (x ∷ xs) = (submodule_safe m x, all_submodules m xs)

  if_package_safe : (m : ModRef) (xs : List (List ℕ)) (reply : Reply) → Having m (if_package around m xs reply)
  if_package_safe m xs (r.Value v) s has = in_order_having m (map (submodule around m) xs) (all_submodules m xs) s has
  if_package_safe m xs (r.Unset init) s has = passes_safe s
  if_package_safe m xs reply s has = fails_safe fault.NotInProfile s

  asks_submodules_safe : (m : ModRef) (xs : List (List ℕ)) → Having m (asks_submodules around m xs)
  asks_submodules_safe m xs =
      accessed_safe m (codes "__path__") (if_package around m xs)
      (λ s has raw reply. if_package_safe m xs reply (shown_more s (e.GetVar m.mid (codes "__path__") raw, reply)) ((grows_more s (e.GetVar m.mid (codes "__path__") raw) reply).modules m has))

  -- ---- `from n import x, y as z`

  binds_item_safe : (m : ModRef) (a : Alias) → Having m (binds_item around m a)
  binds_item_safe m a s has =
      let x : List ℕ = item_name a.parts in
      behind s (name_of around true m x) (λ v. stores (bound_as a.bound x) v) (name_of_safe true m x s has) (λ s' g v known. stores_safe s' (bound_as a.bound x) v known)

  all_items : (m : ModRef) (items : List Alias) → AllHaving m (map (binds_item around m) items)
  all_items m [] = tt
  all_items m (a ∷ items) = (binds_item_safe m a, all_items m items)

  from_list_safe : (items : List Alias) → OnModule (from_list around items)
  from_list_safe items m s has =
      behind s (asks_submodules around m (item_names items)) (λ _. binds_items around m items) (asks_submodules_safe m (item_names items) s has)
      (λ s' g v known. in_order_having m (map (binds_item around m) items) (all_items m items) s' (g.modules m has))

  -- ---- `from n import *`

  binds_star_safe : (m : ModRef) (x : List ℕ) → Having m (binds_star around m x)
  binds_star_safe m x s has =
      behind s (member around.access (values.Module m) x) (λ v. stores x v) (member_safe around.access safe_around.access s (values.Module m) x (module_known s m has))
      (λ s' g v known. stores_safe s' x v known)

  all_stars : (m : ModRef) (xs : List (List ℕ)) → AllHaving m (map (binds_star around m) xs)
  all_stars m [] = tt
  all_stars m (x ∷ xs) = (binds_star_safe m x, all_stars m xs)

  binds_stars_safe : (m : ModRef) (xs : List (List ℕ)) → Having m (binds_stars around m xs)
  binds_stars_safe m xs = in_order_having m (map (binds_star around m) xs) (all_stars m xs)

  stars_of_safe : (m : ModRef) (xs : Option (List (List ℕ))) → Having m (stars_of around m xs)
  stars_of_safe m None s has = fails_safe fault.NotInProfile s
  stars_of_safe m (Some xs) s has =
      behind s (asks_submodules around m (filter is_one_part xs)) (λ _. binds_stars around m xs) (asks_submodules_safe m (filter is_one_part xs) s has)
      (λ s' g v known. binds_stars_safe m xs s' (g.modules m has))

  public_names_safe : (m : ModRef) (reply : Reply) → Having m (public_names m around reply)
  public_names_safe m (r.Names xs) s has = binds_stars_safe m (filter is_public xs) s has
  public_names_safe m reply s has = fails_safe fault.NotInProfile s

  names_safe : (m : ModRef) → Having m (λ st k. calls (e.Names m.mid) (λ reply. public_names m around reply st k))
  names_safe m s has = λ run.
      let event : Event = e.Names m.mid in
      steady s event (λ reply. public_names m around reply) (run, has_number s m has) (λ reply. refl) (λ reply. run)
      (λ reply. public_names_safe m reply (shown_more s (event, reply)) ((grows_more s event reply).modules m has)) run

  all_read_safe : (m : ModRef) (reply : Reply) → Having m (all_read around m reply)
  all_read_safe m (r.Value v) s has = stars_of_safe m (all_names (out-Value v)) s has
  all_read_safe m (r.Unset init) s has = names_safe m s has
  all_read_safe m reply s has = fails_safe fault.NotInProfile s

  from_star_safe : OnModule (from_star around)
  from_star_safe m =
      accessed_safe m (codes "__all__") (all_read around m)
      (λ s has raw reply. all_read_safe m reply (shown_more s (e.GetVar m.mid (codes "__all__") raw, reply)) ((grows_more s (e.GetVar m.mid (codes "__all__") raw) reply).modules m has))

  -- ---- names, absolute and relative

  module _ (go : ModRef → Piece) (safe_go : OnModule go) where
    from_name_safe : (n : List ℕ) → Always (from_name around go n)
    from_name_safe n s = behind s (around.imported n) (λ v. with_module v go) (safe_around.imported n s) (λ s' g v known. with_module_safe go safe_go s' v known)

    from_resolved_safe : (name : Result (List ℕ) RelativeError) → Always (from_resolved around go name)
    from_resolved_safe (Ok n) s = from_name_safe n s
    from_resolved_safe (Err relative.NoParent) s = fails_safe fault.NoParentPackage s
    from_resolved_safe (Err relative.BeyondTop) s = fails_safe fault.BeyondTop s
    from_resolved_safe (Err relative.NoMemory) s = fails_safe fault.NotInProfile s

    from_relative_safe : (dots : ℕ) (parts : List (List ℕ)) → Always (from_relative around go dots parts)
    from_relative_safe dots parts s run st knows k safe =
        let event : Event = e.GetVar st.scope.mid (codes "__package__") true in
        steady s event (λ reply. from_resolved around go (resolved (package_in reply) dots (optional_name parts))) (run, knows.mid) (λ reply. refl) (λ reply. run)
        (λ reply. from_resolved_safe (resolved (package_in reply) dots (optional_name parts)) (shown_more s (event, reply))) run st knows k safe

    from_dots_safe : (dots : ℕ) (parts : List (List ℕ)) → Always (from_dots around go dots parts)
    from_dots_safe zero parts s = from_name_safe (dotted_name parts) s
    from_dots_safe (suc dots) parts s = from_relative_safe (suc dots) parts s

  imported_names_safe : (imported : ImportedNames) → OnModule (imported_names around imported)
  imported_names_safe names.All m s has = from_star_safe m s has
  imported_names_safe (names.Listed items) m s has = from_list_safe items m s has

  pub from_import_safe : (dots : ℕ) (parts : List (List ℕ)) (imported : ImportedNames) → Always (from_import around dots parts imported)
  from_import_safe dots parts imported = from_dots_safe (imported_names around imported) (imported_names_safe imported) dots parts
