-- What a thread knows stays known while it is shown more.
use Rattle.std.proofs.Common.{◌≡◌, inl, inr, ℕ, List, [], ◌∷◌, ◌++◌, flat_map, Option, Some, None, refl, ap, ◌∙◌}
use Rattle.py_value.specs.declared.value.ModRef.{ModRef}
use Rattle.py_value.specs.declared.value.Value.{Value}
use Rattle.machine_events.specs.declared.event.Event.{Event}
use Rattle.machine_events.specs.declared.event.Reply.{Reply}
use Rattle.machine_shown.specs.Holdings.{Holding}
use Rattle.machine_shown.specs.Shown.{Shown, Running, shown_more, holds, does, modules_in, loads_in, named, numbered, load_numbered, namespace_of}
use Rattle.machine_shown.specs.Knowing.{Has, HasAll, HasMid, KnowsItems}
use Rattle.meaning_state.specs.declared.flow.Leave.{Leave}
use Rattle.meaning_state.specs.declared.flow.Leave.TheVariants.{Return}
use Rattle.meaning_state.specs.declared.flow.Flow.{Flow}
use Rattle.meaning_state.specs.declared.flow.Flow.TheVariants.{Went, Left}
use Rattle.meaning_state.specs.declared.thread.FunctionScope.{FunctionScope}
use Rattle.meaning_state.specs.declared.thread.State.{State}
use Rattle.meaning_safety.specs.Known.{KnowsValue, KnowsLocals, Knows, KnowsLeave, KnowsFlow}

-- after s comes s', which shows as much
pub record Grows (s s' : Shown) : Type 0 where
  pub mids : (i : ℕ) → Has s.mids i → Has s'.mids i
  pub modules : (m : ModRef) → Has s.modules m → Has s'.modules m
  pub loads : (i : ℕ) → Has s.loads i → Has s'.loads i
  pub namespaces : (i : ℕ) → Has s.namespaces i → Has s'.namespaces i

-- it runs besides, and holds this
pub record Later (s s' : Shown) (held : List Holding) : Type 0 where
  pub grows : Grows s s'
  pub held_is : s'.held ≡ held
  pub runs : s'.doing ≡ Running

-- it holds the same
abbrev pub Fits : Shown → Shown → Type 0
Fits s s' = Later s s' s.held

pub grows_refl : (s : Shown) → Grows s s
grows_refl s = record { mids = λ i h. h; modules = λ m h. h; loads = λ i h. h; namespaces = λ i h. h }

pub grows_then : (a b c : Shown) → Grows a b → Grows b c → Grows a c
grows_then a b c f g = record {
  mids = λ i h. g.mids i (f.mids i h);
  modules = λ m h. g.modules m (f.modules m h);
  loads = λ i h. g.loads i (f.loads i h);
  namespaces = λ i h. g.namespaces i (f.namespaces i h);
}

pub fits_refl : (s : Shown) → s.doing ≡ Running → Fits s s
fits_refl s run = record { grows = grows_refl s; held_is = refl; runs = run }

pub later_then : (a b c : Shown) (held : List Holding) → Later a b held → Later b c b.held → Later a c held
later_then a b c held f g = record { grows = grows_then a b c f.grows g.grows; held_is = g.held_is ∙ f.held_is; runs = g.runs }

pub fits_then : (a b c : Shown) → Fits a b → Fits b c → Fits a c
fits_then a b c f g = later_then a b c a.held f g

-- ---- one more pair

pub has_after : {X : Type 0} (xs ys : List X) (x : X) → Has ys x → Has (xs ++ ys) x
has_after [] ys x h = h
has_after (y ∷ xs) ys x h = inr (has_after xs ys x h)

pub grows_more : (s : Shown) (event : Event) (reply : Reply) → Grows s (shown_more s (event, reply))
grows_more s event reply = record {
  mids = λ i h. has_after (numbered reply) s.mids i h;
  modules = λ m h. has_after (named reply) s.modules m h;
  loads = λ i h. has_after (load_numbered reply) s.loads i h;
  namespaces = λ i h. has_after (namespace_of event reply) s.namespaces i h;
}

pub later_more : (a b : Shown) (held held' : List Holding) (event : Event) (reply : Reply) → Later a b held → holds event reply held ≡ held' → does event reply b.doing ≡ Running → Later a (shown_more b (event, reply)) held'
later_more a b held held' event reply f is doing = record {
  grows = grows_then a b (shown_more b (event, reply)) f.grows (grows_more b event reply);
  held_is = ap (holds event reply) f.held_is ∙ is;
  runs = doing;
}

pub fits_more : (s : Shown) (event : Event) (reply : Reply) → s.doing ≡ Running → holds event reply s.held ≡ s.held → does event reply s.doing ≡ Running → Fits s (shown_more s (event, reply))
fits_more s event reply run is doing = later_more s s s.held s.held event reply (fits_refl s run) is doing

-- ---- what is known grows

pub all_grows : {X : Type 0} (xs ys zs : List X) → ((x : X) → Has xs x → Has ys x) → HasAll xs zs → HasAll ys zs
all_grows xs ys [] f h = tt
all_grows xs ys (z ∷ zs) f h = (f z h.0, all_grows xs ys zs f h.1)

module _ (s s' : Shown) (g : Grows s s') where
  pub value_grows : (v : Value) → KnowsValue s v → KnowsValue s' v
  value_grows v h = ((all_grows s.modules s'.modules (modules_in v) g.modules h.0.0, all_grows s.loads s'.loads (loads_in v) g.loads h.0.1), h.1)

  pub items_grow : (items : List Value) → KnowsItems s items → KnowsItems s' items
  items_grow items h = (
    all_grows s.modules s'.modules (flat_map modules_in items) g.modules h.0,
    all_grows s.loads s'.loads (flat_map loads_in items) g.loads h.1,
  )

  pub mid_grows : (mid : ℕ) → HasMid s mid → HasMid s' mid
  mid_grows mid (inl h) = inl (g.mids mid h)
  mid_grows mid (inr h) = inr (h.0, g.modules h.0 h.1, h.2)

  pub locals_grow : (f : Option FunctionScope) → KnowsLocals s f → KnowsLocals s' f
  locals_grow None h = tt
  locals_grow (Some f) h = λ x v is. value_grows v (h x v is)

  pub state_grows : (st : State) → Knows s st → Knows s' st
  state_grows st h = record {
    mid = mid_grows st.scope.mid h.mid;
    load = g.loads st.scope.load h.load;
    locals = locals_grow st.scope.function h.locals;
    kept = λ load source is. mid_grows source.mid (h.kept load source is);
  }

  pub leave_grows : (leave : Leave) → KnowsLeave s leave → KnowsLeave s' leave
  leave_grows (Return v) h = value_grows v h
  leave_grows leave h = tt

  pub flow_grows : (flow : Flow) → KnowsFlow s flow → KnowsFlow s' flow
  flow_grows (Went v) h = value_grows v h
  flow_grows (Left leave) h = leave_grows leave h
