-- Calls of functions, bodies and scripts are safe.
use Rattle.std.proofs.Common.{◌≡◌, inl, inr, Bool, true, false, ℕ, zero, suc, nat_eq, length, List, [], ◌∷◌, codes, Option, Some, None, refl, sym, ◌∙◌}
use Rattle.std.specs.FinMap as maps
use Rattle.std.specs.FinMap.{FinMap, get-empty}
use Rattle.std.specs.Ordering.{nat_cmp}
use Rattle.std.specs.Cmp.Lexicographic.{slice_cmp}
use Rattle.std.proofs.lemmas.Cmp.{nat_cmp_total, nat_list_cmp_total}
use Rattle.py_value.specs.Names.{type_of}
use Rattle.py_value.specs.declared.value.ModRef.{ModRef}
use Rattle.py_value.specs.declared.value.Value.{Value, out-Value}
use Rattle.py_value.specs.declared.value.Value.TheOpen.{Value-F}
use Rattle.spec_core.specs.Identifiers.{is_dotted}
use Rattle.machine_events.specs.declared.event.Event.{Event}
use Rattle.machine_events.specs.declared.event.Event.TheVariants as e
use Rattle.machine_events.specs.declared.event.Reply.{Reply}
use Rattle.machine_events.specs.declared.event.Reply.TheVariants as r
use Rattle.machine_shown.specs.Shown.{Shown, shown_first, shown_more}
use Rattle.machine_shown.specs.Knowing.{Has, HasMid}
use Rattle.py_syntax.specs.declared.stmt.FuncDef.{FuncDef}
use Rattle.source_functions.specs.Functions.{function_of}
use Rattle.meaning_state.specs.declared.fault.Fault.TheVariants as fault
use Rattle.meaning_state.specs.declared.flow.Leave.TheVariants.{Raised, Return, Break, Continue}
use Rattle.meaning_state.specs.declared.flow.Flow.{Flow}
use Rattle.meaning_state.specs.declared.flow.Flow.TheVariants.{Went, Left}
use Rattle.meaning_state.specs.declared.thread.FunctionScope.{FunctionScope}
use Rattle.meaning_state.specs.declared.thread.Parsing.{Parsing}
use Rattle.meaning_state.specs.declared.thread.Parsing.TheVariants.{Parsed, Faulty}
use Rattle.meaning_state.specs.declared.thread.Source.{Source}
use Rattle.meaning_state.specs.declared.thread.State.{State}
use Rattle.meaning_script.specs.Pieces.{Piece, Onward, text_units, most, fails}
use Rattle.meaning_script.specs.Operators.{Around}
use Rattle.meaning_script.specs.Calls.{Loading}
use Rattle.meaning_script.specs.Imports.{Inside, roused, asks}
use Rattle.meaning_script.specs.Meaning.{World, body_gives, placed, comes_back, keeps, bound, runs_function, enters, enters_source, with_kept, sourced, loaded, with_source, calls_function, starts, runs_body, imports_name, calls_value, calls_with, access_in, loading_in, around_of, functions_at, bodies_at, imports_at, around_at, inside_at, ends, first_state, meaning}
use Rattle.meaning_safety.specs.Known.{KnowsValue, KnowsLocals, Knows, KnowsFlow}
use Rattle.meaning_safety.specs.Law.{MeaningIsSafe}
use Rattle.meaning_safety.proofs.Growth.{Grows, grows_more, state_grows}
use Rattle.meaning_safety.proofs.Pieces.{SafeOn, SafeAt, Always, Each, each_grows, goes_safe, fails_safe, pick_safe, pay_safe, steady}
use Rattle.meaning_safety.proofs.Values.{nothing_known, load_in}
use Rattle.meaning_safety.proofs.Names.{SafeAccess, insert_each}
use Rattle.meaning_safety.proofs.Paths.{replaced_safe}
use Rattle.meaning_safety.proofs.Expressions.{SafeAround}
use Rattle.meaning_safety.proofs.Calls.{SafeLoading, calls_kind_safe, calls_native_safe}
use Rattle.meaning_safety.proofs.Statements.{run_all_safe}
use Rattle.meaning_safety.proofs.Within.{SafeBody}
use Rattle.meaning_safety.proofs.Imports.{SafeInside, roused_safe, asks_safe}
use Rattle.meaning_safety.proofs.Reload.{reloads_safe}

-- ---- places

placed_known : (s : Shown) (st : State) (mid load : ℕ) (function : Option FunctionScope) → Knows s st → HasMid s mid → Has s.loads load → KnowsLocals s function → Knows s (placed st mid load function)
placed_known s st mid load function knows has_mid has_load locals = record { mid = has_mid; load = has_load; locals = locals; kept = knows.kept }

keeps_known : (s : Shown) (st : State) (load : ℕ) (source : Source) → Knows s st → HasMid s source.mid → Knows s (keeps st load source)
keeps_known s st load source knows has = record {
  mid = knows.mid;
  load = knows.load;
  locals = knows.locals;
  kept = insert_each nat_cmp_total (λ (other : Source). HasMid s other.mid) st.kept load source has knows.kept;
}

body_gives_known : (s : Shown) (flow : Flow) → KnowsFlow s flow → KnowsFlow s (body_gives flow)
body_gives_known s (Left (Raised error)) known = tt
body_gives_known s (Left (Return v)) known = known
body_gives_known s (Left Break) known = nothing_known s
body_gives_known s (Left Continue) known = nothing_known s
body_gives_known s (Went v) known = nothing_known s

comes_back_on : (s : Shown) (st : State) → Knows s st → (k : Onward) → SafeOn s k → SafeOn s (comes_back st k)
comes_back_on s st knows k safe s' f flow known st' knows' =
    let stood : Knows s' st = state_grows s s' f.grows st knows in
    safe s' f (body_gives flow) (body_gives_known s' flow known) (record { scope = st.scope; kept = st'.kept; handling = st'.handling })
    (record { mid = stood.mid; load = stood.load; locals = stood.locals; kept = knows'.kept })

-- ---- functions

abbrev Locals : Type 0
Locals = FinMap (slice_cmp nat_cmp) Value

abbrev AllKnown : Shown → Locals → Type 0
AllKnown s locals = (x : List ℕ) (v : Value) → maps.get locals x ≡ Some v → KnowsValue s v

bound_known : (s : Shown) (xs : List (List ℕ)) (vs : List Value) → Each s vs → (locals : Locals) → AllKnown s locals → AllKnown s (bound xs vs locals)
bound_known s (x ∷ xs) (v ∷ vs) h locals known = bound_known s xs vs h.1 (maps.insert locals x v) (insert_each nat_list_cmp_total (KnowsValue s) locals x v h.0 known)
bound_known s [] vs h locals known = known
bound_known s (x ∷ xs) [] h locals known = known

none_known : (s : Shown) → AllKnown s maps.empty
none_known s x v is = absurd (none_some (sym (get-empty (slice_cmp nat_cmp) x) ∙ is))
  where
    none_some : {w : Value} → None ≡ Some w → ⊥
    none_some h = cc

module _ (around : Around) (safe_around : SafeAround around) where
  runs_function_safe : (s : Shown) (source : Source) (load : ℕ) (f : FuncDef) (vs : List Value) → HasMid s source.mid → Has s.loads load → Each s vs → SafeAt s (runs_function around source load f vs)
  runs_function_safe s source load f vs has_mid has_load h run st knows k safe =
      run_all_safe around safe_around f.body s run (placed st source.mid load (Some (record { function = f; locals = bound f.parameters vs maps.empty })))
      (placed_known s st source.mid load (Some (record { function = f; locals = bound f.parameters vs maps.empty })) knows has_mid has_load (bound_known s f.parameters vs h maps.empty (none_known s)))
      (comes_back st k) (comes_back_on s st knows k safe)

  enters_safe : (s : Shown) (source : Source) (load : ℕ) (vs : List Value) → HasMid s source.mid → Has s.loads load → Each s vs → (f : Option FuncDef) → SafeAt s (enters around source load vs f)
  enters_safe s source load vs has_mid has_load h None = fails_safe fault.NotInProfile s
  enters_safe s source load vs has_mid has_load h (Some f) =
      pick_safe s (nat_eq (length vs) (length f.parameters)) (runs_function around source load f vs) (fails (fault.Parameters f.name (length f.parameters) (length vs)))
      (runs_function_safe s source load f vs has_mid has_load h) (fails_safe (fault.Parameters f.name (length f.parameters) (length vs)) s)

  enters_source_safe : (s : Shown) (source : Source) (load index : ℕ) (vs : List Value) → HasMid s source.mid → Has s.loads load → Each s vs → SafeAt s (enters_source around source load index vs)
  enters_source_safe s source load index vs has_mid has_load h = enters_safe s source load vs has_mid has_load h (function_of source.program index)

  with_kept_safe : (s : Shown) (load index : ℕ) (vs : List Value) (source : Source) → HasMid s source.mid → Has s.loads load → Each s vs → SafeAt s (with_kept around load index vs source)
  with_kept_safe s load index vs source has_mid has_load h run st knows k safe =
      enters_source_safe s source load index vs has_mid has_load h run (keeps st load source) (keeps_known s st load source knows has_mid) k safe

  sourced_safe : (s : Shown) (load index : ℕ) (vs : List Value) (m : ModRef) → HasMid s m.mid → Has s.loads load → Each s vs → (parsing : Parsing) → SafeAt s (sourced around load index vs m parsing)
  sourced_safe s load index vs m has_mid has_load h (Parsed script) = with_kept_safe s load index vs (record { mid = m.mid; name = m.name; program = script }) has_mid has_load h
  sourced_safe s load index vs m has_mid has_load h (Faulty error) = fails_safe fault.NotInProfile s

  loaded_safe : (w : World) (s : Shown) (event : Event) (load index : ℕ) (vs : List Value) (reply : Reply) → Has (shown_more s (event, reply)).loads load → Each (shown_more s (event, reply)) vs
      → SafeAt (shown_more s (event, reply)) (loaded w around load index vs reply)
  loaded_safe w s event load index vs (r.Loaded m text) has_load h = sourced_safe (shown_more s (event, r.Loaded m text)) load index vs m (inr (m, inl refl, refl)) has_load h (w text)
  loaded_safe w s event load index vs reply has_load h = fails_safe fault.NotInProfile (shown_more s (event, reply))

  with_source_safe : (w : World) (s : Shown) (load index : ℕ) (vs : List Value) → Has s.loads load → Each s vs → (source : Option Source) → ((it : Source) → source ≡ Some it → HasMid s it.mid)
      → SafeAt s (with_source w around load index vs source)
  with_source_safe w s load index vs has_load h (Some source) has_mid = enters_source_safe s source load index vs (has_mid source refl) has_load h
  with_source_safe w s load index vs has_load h None has_mid = λ run.
      steady s (e.Source load) (λ reply. loaded w around load index vs reply) (run, has_load) (λ reply. refl) (λ reply. run)
      (λ reply. let g : Grows s (shown_more s (e.Source load, reply)) = grows_more s (e.Source load) reply in
      loaded_safe w s (e.Source load) load index vs reply (g.loads load has_load) (each_grows s (shown_more s (e.Source load, reply)) g vs h)) run

  calls_function_safe : (w : World) (s : Shown) (load index : ℕ) (vs : List Value) → Has s.loads load → Each s vs → SafeAt s (calls_function w around load index vs)
  calls_function_safe w s load index vs has_load h run st knows k safe =
      with_source_safe w s load index vs has_load h (maps.get st.kept load) (λ it is. knows.kept load it is) run st knows k safe

  -- ---- bodies

  starts_safe : (s : Shown) (mid load : ℕ) (n : List ℕ) → HasMid s mid → Has s.loads load → (parsing : Parsing) → SafeAt s (starts around mid load n parsing)
  starts_safe s mid load n has_mid has_load (Faulty error) = goes_safe s (Left (Raised error)) tt
  starts_safe s mid load n has_mid has_load (Parsed script) = λ run st knows k safe.
      let source : Source = record { mid = mid; name = n; program = script } in
      let kept : Knows s (keeps st load source) = keeps_known s st load source knows has_mid in
      run_all_safe around safe_around script.body s run (placed (keeps st load source) mid load None) (placed_known s (keeps st load source) mid load None kept has_mid has_load tt)
      (comes_back st k) (comes_back_on s st knows k safe)

  runs_body_safe : (w : World) → SafeBody (runs_body w around)
  runs_body_safe w s mid load n text has_mid has_load = pay_safe s (text_units text) (starts around mid load n (w text)) (starts_safe s mid load n has_mid has_load (w text))

imports_name_safe : (inside : Inside) → SafeInside inside → (is_parent : Bool) (n : List ℕ) → Always (imports_name inside is_parent n)
imports_name_safe inside safe_inside is_parent n s =
    pick_safe s (is_dotted n) (asks inside most is_parent n) (fails fault.NotInProfile) (asks_safe inside safe_inside most is_parent n s) (fails_safe fault.NotInProfile s)

-- ---- where so many more may be open

abbrev SafeFunction : (ℕ → ℕ → List Value → Piece) → Type 0
SafeFunction function = (s : Shown) (load index : ℕ) (vs : List Value) → Has s.loads load → Each s vs → SafeAt s (function load index vs)

calls_safe : (function : ℕ → ℕ → List Value → Piece) → SafeFunction function → (loading : Loading) → SafeLoading loading
    → (s : Shown) (f : Value) (vs : List Value) → KnowsValue s f → Each s vs → SafeAt s (calls_with function loading f vs)
calls_safe function safe loading safe_loading s f vs known h = at (out-Value f) refl
  where
    at : (layer : Value-F Value) → out-Value f ≡ layer → SafeAt s (calls_value function loading f layer vs)
    at (Value-F.Func load index name) is = safe s load index vs (load_in s f known.0 load index name is) h
    at (Value-F.Kind kind) is = calls_kind_safe kind s vs h
    at (Value-F.Native native) is = calls_native_safe loading safe_loading native s vs h
    at layer is = fails_safe (fault.NotCallable (type_of f)) s

access_safe : (inside : Inside) → SafeInside inside → SafeAccess (access_in inside)
access_safe inside safe = record { roused = roused_safe inside safe; replaced = replaced_safe (roused inside) (roused_safe inside safe) }

loading_safe : (inside : Inside) → SafeInside inside → (lazily : List ℕ → Piece) → ((n : List ℕ) → Always (lazily n)) → SafeLoading (loading_in inside lazily)
loading_safe inside safe lazily safe_lazily = record { access = access_safe inside safe; reloaded = reloads_safe inside safe; lazily = safe_lazily }

around_safe : (function : ℕ → ℕ → List Value → Piece) → SafeFunction function → (imported lazily : List ℕ → Piece) → ((n : List ℕ) → Always (imported n)) → ((n : List ℕ) → Always (lazily n))
    → (inside : Inside) → SafeInside inside → SafeAround (around_of function imported lazily inside)
around_safe function safe_function imported lazily safe_imported safe_lazily inside safe = record {
  called = calls_safe function safe_function (loading_in inside lazily) (loading_safe inside safe lazily safe_lazily);
  imported = safe_imported;
  access = access_safe inside safe;
}

mutual
  functions_safe : (w : World) (left : ℕ) → SafeFunction (functions_at w left)
  functions_safe w zero s load index vs has h = fails_safe fault.TooDeep s
  functions_safe w (suc left) s load index vs has h =
      calls_function_safe (around_at w left)
      (around_safe (functions_at w left) (functions_safe w left) (imports_at w left false false) (imports_at w left false true) (imports_safe w left false false) (imports_safe w left false true)
      (inside_at w left) (record { body = bodies_safe w left; parent = imports_safe w left true false }))
      w s load index vs has h

  pub bodies_safe : (w : World) (left : ℕ) → SafeBody (bodies_at w left)
  bodies_safe w zero s mid load n text has_mid has_load = fails_safe fault.TooDeep s
  bodies_safe w (suc left) s mid load n text has_mid has_load =
      runs_body_safe (around_at w left)
      (around_safe (functions_at w left) (functions_safe w left) (imports_at w left false false) (imports_at w left false true) (imports_safe w left false false) (imports_safe w left false true)
      (inside_at w left) (record { body = bodies_safe w left; parent = imports_safe w left true false }))
      w s mid load n text has_mid has_load

  pub imports_safe : (w : World) (left : ℕ) (is_parent is_lazy : Bool) (n : List ℕ) → Always (imports_at w left is_parent is_lazy n)
  imports_safe w zero is_parent is_lazy n s = fails_safe fault.TooDeep s
  imports_safe w (suc left) is_parent is_lazy n s =
      imports_name_safe (record { body = bodies_at w left; parent = imports_at w left true false; is_lazy = is_lazy }) (record { body = bodies_safe w left; parent = imports_safe w left true false }) is_parent n s

-- ---- scripts

pub ends_safe : (s : Shown) → s.held ≡ [] → SafeOn s ends
ends_safe s none s' f (Went v) known st knows = (tt, (f.runs, f.held_is ∙ none))
ends_safe s none s' f (Left (Raised error)) known st knows = (tt, (f.runs, f.held_is ∙ none))
ends_safe s none s' f (Left (Return v)) known st knows = (tt, (f.runs, f.held_is ∙ none))
ends_safe s none s' f (Left Break) known st knows = (tt, (f.runs, f.held_is ∙ none))
ends_safe s none s' f (Left Continue) known st knows = (tt, (f.runs, f.held_is ∙ none))

pub first_known : (t : ℕ) → Knows (shown_first t) (first_state t)
first_known t = record { mid = inl (inl refl); load = inl refl; locals = tt; kept = λ load source is. absurd (none_some (sym (get-empty nat_cmp load) ∙ is)) }
  where
    none_some : {w : Source} → None ≡ Some w → ⊥
    none_some h = cc

pub meaning_safe : MeaningIsSafe
unfolding meaning
meaning_safe w t text = bodies_safe w 200 (shown_first t) t t (codes "__main__") text (inl (inl refl)) (inl refl) refl (first_state t) (first_known t) ends (ends_safe (shown_first t) refl)
