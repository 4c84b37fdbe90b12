-- The paths of modules are safe: their reads, and the search of a namespace's portions.
use Rattle.std.proofs.Common.{◌≡◌, inl, ℕ, zero, suc, Bool, true, List, [], ◌∷◌, codes, Option, Some, None, refl, sym, ap, ◌∙◌}
use Rattle.py_value.specs.declared.value.ModRef.{ModRef}
use Rattle.py_value.specs.declared.value.NsState.{NsState}
use Rattle.py_value.specs.declared.value.Value.{Value, out-Value, roll-Value, roll-out-Value}
use Rattle.py_value.specs.declared.value.Value.TheOpen.{Value-F}
use Rattle.py_value.specs.declared.value.Value.TheVariants as values
use Rattle.py_value.specs.declared.value.Value.TheVariants.{rolls-NsPath}
use Rattle.spec_core.specs.Identifiers.{is_dotted}
use Rattle.spec_core.specs.Names.{parent_of}
use Rattle.machine_events.specs.declared.event.Event.{Event}
use Rattle.machine_events.specs.declared.event.Event.TheVariants as e
use Rattle.machine_events.specs.declared.event.Reply.{Reply}
use Rattle.machine_events.specs.declared.event.Reply.TheVariants as r
use Rattle.machine_events.specs.declared.module.Slot.{Slot}
use Rattle.machine_events.specs.declared.module.Slot.TheVariants as slots
use Rattle.machine_shown.specs.Shown.{Shown, shown_more, is_namespace_path}
use Rattle.machine_shown.specs.Knowing.{Has, KnowsAll, KnowsItems}
use Rattle.namespace_path.specs.Recompute.{recomputed}
use Rattle.namespace_path.specs.Fresh.{is_fresh}
use Rattle.meaning_safety.proofs.Parts.{plain, displays}
use Rattle.meaning_state.specs.declared.fault.Fault.TheVariants as fault
use Rattle.meaning_state.specs.declared.flow.Flow.TheVariants.{Went}
use Rattle.meaning_script.specs.Pieces.{Piece, most, fails}
use Rattle.meaning_script.specs.Paths.{Space, has_path, texts_of, has_portions, keeps_state, computes_again, below, below_at, below_value, below_top, below_slot, below_entry, below_parent, has_state, namespace_path, path_at, path_read, paths, replaced}
use Rattle.meaning_safety.proofs.Growth.{items_grow, state_grows}
use Rattle.meaning_safety.proofs.Given.{value_answered, path_answered, list_items, tuple_items}
use Rattle.meaning_safety.proofs.Pieces.{SafeAt, SafeModules, Always, Each, on_later, goes_safe, fails_safe, pick_safe, pay_safe, steady, behind, reads_var_safe}
use Rattle.meaning_safety.proofs.Values.{items_known}
use Rattle.meaning_safety.proofs.Names.{path_shown}
use Rattle.meaning_safety.proofs.Searches.{search_safe}

-- ---- a path

texts_known : (s : Shown) (texts : List (List ℕ)) → Each s (texts_of texts)
texts_known s [] = tt
texts_known s (text ∷ texts) = (((plain s).text text, refl), texts_known s texts)

has_path_safe : (s : Shown) (items : List Value) → KnowsItems s items → SafeAt s (has_path items)
has_path_safe s items h = goes_safe s (Went (values.List items)) ((displays s items h).list, refl)

portions_safe : (state : NsState) → Always (has_portions state)
portions_safe state s = has_path_safe s (texts_of state.portions) (items_known s (texts_of state.portions) (texts_known s state.portions))

-- ---- the path of a namespace

module _ (m : Space) where
  keeps_state_safe : (s : Shown) (state : NsState) → Has s.namespaces m.mid → KnowsItems s state.parent_path → SafeAt s (keeps_state m state)
  keeps_state_safe s state has known = λ run.
      steady s (e.NsSet m.mid state) (λ _. has_portions state) (run, (has, known)) (λ reply. refl) (λ reply. run)
      (λ reply. portions_safe state (shown_more s (e.NsSet m.mid state, reply))) run

  computes_again_safe : (s : Shown) (state : NsState) (epoch : ℕ) (above : List Value) → Has s.namespaces m.mid → KnowsItems s above → SafeAt s (computes_again m state epoch above)
  computes_again_safe s state epoch above has known run st knows k safe =
      search_safe s m.name above (λ found. keeps_state m (recomputed state above epoch found) st k) run
      (λ later f found named. keeps_state_safe later (recomputed state above epoch found) (f.grows.namespaces m.mid has) (items_grow s later f.grows above known)
      f.runs st (state_grows s later f.grows st knows) k (on_later s later k f safe))

  below_safe : (s : Shown) (state : NsState) (epoch : ℕ) (above : List Value) → Has s.namespaces m.mid → KnowsItems s above → SafeAt s (below m state epoch above)
  below_safe s state epoch above has known =
      pick_safe s (is_fresh state above epoch) (has_portions state) (computes_again m state epoch above) (portions_safe state s) (computes_again_safe s state epoch above has known)

  below_value_safe : (s : Shown) (state : NsState) (epoch : ℕ) (v : Value) → Has s.namespaces m.mid → KnowsAll s v → SafeAt s (below_value m state epoch v)
  below_value_safe s state epoch v has known = at (out-Value v) refl
    where
      at : (layer : Value-F Value) → out-Value v ≡ layer → SafeAt s (below_at m state epoch layer)
      at (Value-F.List above) is = below_safe s state epoch above has (list_items s v known above is)
      at layer is = portions_safe state s

  below_top_safe : (s : Shown) (state : NsState) (epoch : ℕ) (reply : Reply) → Has s.namespaces m.mid → SafeAt (shown_more s (e.PathGet, reply)) (below_top m state epoch reply)
  below_top_safe s state epoch (r.Path items) has = below_safe (shown_more s (e.PathGet, r.Path items)) state epoch items has (path_answered s e.PathGet items)
  below_top_safe s state epoch reply has = fails_safe fault.NotInProfile (shown_more s (e.PathGet, reply))

module _ (path : ModRef → Piece) (safe_path : SafeModules path) (m : Space) where
  below_entry_safe : (s : Shown) (p : List ℕ) (state : NsState) (epoch : ℕ) (reply : Reply) → Has s.namespaces m.mid → SafeAt (shown_more s (e.TabGet p, reply)) (below_entry path m state epoch reply)
  below_entry_safe s p state epoch (r.Slot slot) has = at slot
    where
      at : (slot : Slot) → SafeAt (shown_more s (e.TabGet p, r.Slot slot)) (below_slot path m state epoch slot)
      at (slots.Module above) =
          let next : Shown = shown_more s (e.TabGet p, r.Slot (slots.Module above)) in
          behind next (path above) (λ v. below_value m state epoch v) (safe_path next above (inl refl)) (λ s' g v known. below_value_safe m s' state epoch v (g.namespaces m.mid has) known.0)
      at slots.Halted = portions_safe state (shown_more s (e.TabGet p, r.Slot slots.Halted))
      at slots.Absent = portions_safe state (shown_more s (e.TabGet p, r.Slot slots.Absent))
  below_entry_safe s p state epoch reply has = fails_safe fault.NotInProfile (shown_more s (e.TabGet p, reply))

  below_parent_safe : (s : Shown) (state : NsState) (epoch : ℕ) (parent : Option (List ℕ)) → Has s.namespaces m.mid → SafeAt s (below_parent path m state epoch parent)
  below_parent_safe s state epoch None has = λ run.
      steady s e.PathGet (λ reply. below_top m state epoch reply) (run, tt) (λ reply. refl) (λ reply. run) (λ reply. below_top_safe m s state epoch reply has) run
  below_parent_safe s state epoch (Some p) has = λ run.
      steady s (e.TabGet p) (λ reply. below_entry path m state epoch reply) (run, tt) (λ reply. refl) (λ reply. run) (λ reply. below_entry_safe s p state epoch reply has) run

  has_state_safe : (s : Shown) (reply : Reply) → Has s.namespaces m.mid → SafeAt s (has_state path m reply)
  has_state_safe s (r.Ns state epoch) has =
      pick_safe s (is_dotted m.name) (below_parent path m state epoch (parent_of m.name)) (fails fault.NotInProfile) (below_parent_safe s state epoch (parent_of m.name) has) (fails_safe fault.NotInProfile s)
  has_state_safe s reply has = fails_safe fault.NotInProfile s

  namespace_safe : (s : Shown) → Has s.namespaces m.mid → SafeAt s (namespace_path path m)
  namespace_safe s has = λ run.
      steady s (e.NsGet m.mid) (λ reply. has_state path m reply) (run, has) (λ reply. refl) (λ reply. run) (λ reply. has_state_safe (shown_more s (e.NsGet m.mid, reply)) reply has) run

-- ---- the path of any module

is_path : (v : Value) → out-Value v ≡ Value-F.NsPath → is_namespace_path v ≡ true
is_path v is = let it : v ≡ values.NsPath = sym (roll-out-Value v) ∙ ap roll-Value is ∙ rolls-NsPath in ap is_namespace_path it

module _ (path : ModRef → Piece) (safe_path : SafeModules path) (m : ModRef) where
  path_read_safe : (s : Shown) (raw : Bool) (reply : Reply) → SafeAt (shown_more s (e.GetVar m.mid (codes "__path__") raw, reply)) (path_read path m reply)
  path_read_safe s raw (r.Value v) = at (out-Value v) refl
    where
      event : Event
      event = e.GetVar m.mid (codes "__path__") raw

      next : Shown
      next = shown_more s (event, r.Value v)

      at : (layer : Value-F Value) → out-Value v ≡ layer → SafeAt next (path_at path m layer)
      at (Value-F.List items) is = has_path_safe next items (list_items next v (value_answered s event v) items is)
      at (Value-F.Tuple items) is = has_path_safe next items (tuple_items next v (value_answered s event v) items is)
      at Value-F.NsPath is = namespace_safe path safe_path (record { mid = m.mid; name = m.name }) next (path_shown s m.mid (codes "__path__") raw v (is_path v is) refl)
      at layer is = fails_safe fault.NotInProfile next
  path_read_safe s raw (r.Unset init) =
      let next : Shown = shown_more s (e.GetVar m.mid (codes "__path__") raw, r.Unset init) in
      goes_safe next (Went (values.Bool init)) ((plain next).bool init, refl)
  path_read_safe s raw reply = fails_safe fault.NotInProfile (shown_more s (e.GetVar m.mid (codes "__path__") raw, reply))

module _ (roused : ModRef → Piece) (safe_roused : SafeModules roused) where
  pub paths_safe : (turns : ℕ) → SafeModules (paths roused turns)
  paths_safe zero s m has = pay_safe s most (fails fault.NotInProfile) (fails_safe fault.NotInProfile s)
  paths_safe (suc turns) s m has =
      let path : ModRef → Piece = paths roused turns in
      reads_var_safe roused safe_roused m (codes "__path__") (path_read path m) (λ s' has' raw reply. path_read_safe path (paths_safe turns) m s' raw reply) s has

  pub replaced_safe : (s : Shown) (mid : ℕ) (n : List ℕ) → Has s.namespaces mid → SafeAt s (replaced roused mid n)
  replaced_safe s mid n has = namespace_safe (paths roused most) (paths_safe most) (record { mid = mid; name = n }) s has
