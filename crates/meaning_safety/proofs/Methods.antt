-- The methods of the search path and of the cache are safe.
use Rattle.std.proofs.Common.{◌≡◌, ℕ, ℤ, Bool, true, false, if◌then◌else◌, List, [], ◌∷◌, codes, Option, Some, None, refl, sym, ap, subst, ◌∙◌}
use Rattle.std.specs.Str.{bytes_eq}
use Rattle.py_value.specs.declared.value.Value.{Value, out-Value, roll-Value, roll-out-Value}
use Rattle.py_value.specs.declared.value.Value.TheVariants as values
use Rattle.py_value.specs.declared.value.Value.TheVariants.{rolls-Nothing, rolls-Bool, rolls-Int, rolls-Text, rolls-List, rolls-Tuple, rolls-Func, rolls-Native, rolls-Kind, rolls-Module, rolls-Error}
use Rattle.py_value.specs.declared.value.Value.TheOpen.{Value-F}
use Rattle.value_operators.specs.Outcomes.{is_special, is_special_at, number_of}
use Rattle.machine_events.specs.declared.event.Event.TheVariants as e
use Rattle.machine_events.specs.declared.event.Reply.{Reply}
use Rattle.machine_events.specs.declared.event.Reply.TheVariants as r
use Rattle.machine_shown.specs.Shown.{Shown, shown_more}
use Rattle.machine_shown.specs.Knowing.{MayBeSearched}
use Rattle.meaning_state.specs.declared.fault.Fault.TheVariants as fault
use Rattle.meaning_script.specs.Pieces.{Piece, calls, fails}
use Rattle.meaning_script.specs.Methods.{path_added, nests_too_deep, adds_entry, appends, inserts_at, inserts, gets, pops, calls_method_at, calls_method}
use Rattle.meaning_safety.specs.Known.{KnowsValue}
use Rattle.meaning_safety.proofs.Pieces.{SafeAt, Always, SafeOf, fails_safe, passes_safe, pick_safe, steady}
use Rattle.meaning_safety.proofs.Values.{nothing_known}
use Rattle.meaning_safety.proofs.Entries.{reads_entry_safe, pops_entry_safe}

-- ---- the search path

true_false : true ≡ false → ⊥
true_false h = absurd cc

-- a value by its layer
as_rolled : (v w : Value) (layer : Value-F Value) → out-Value v ≡ layer → roll-Value layer ≡ w → MayBeSearched w → MayBeSearched v
as_rolled v w layer is rolls h = let it : v ≡ w = sym (roll-out-Value v) ∙ ap roll-Value is ∙ rolls in subst MayBeSearched (sym it) h

searched : (v : Value) → is_special v ≡ false → MayBeSearched v
searched v h = at (out-Value v) refl h
  where
    at : (layer : Value-F Value) → out-Value v ≡ layer → is_special_at layer ≡ false → MayBeSearched v
    at Value-F.Nothing is h' = as_rolled v values.Nothing Value-F.Nothing is rolls-Nothing tt
    at (Value-F.Bool b) is h' = as_rolled v (values.Bool b) (Value-F.Bool b) is (rolls-Bool b) tt
    at (Value-F.Int n) is h' = as_rolled v (values.Int n) (Value-F.Int n) is (rolls-Int n) tt
    at (Value-F.Text text) is h' = as_rolled v (values.Text text) (Value-F.Text text) is (rolls-Text text) tt
    at (Value-F.List items) is h' = as_rolled v (values.List items) (Value-F.List items) is (rolls-List items) tt
    at (Value-F.Tuple items) is h' = as_rolled v (values.Tuple items) (Value-F.Tuple items) is (rolls-Tuple items) tt
    at (Value-F.Func load index name) is h' = as_rolled v (values.Func load index name) (Value-F.Func load index name) is (rolls-Func load index name) tt
    at (Value-F.Native native) is h' = as_rolled v (values.Native native) (Value-F.Native native) is (rolls-Native native) tt
    at (Value-F.Kind kind) is h' = as_rolled v (values.Kind kind) (Value-F.Kind kind) is (rolls-Kind kind) tt
    at (Value-F.Module m) is h' = as_rolled v (values.Module m) (Value-F.Module m) is (rolls-Module m) tt
    at (Value-F.Error error) is h' = as_rolled v (values.Error error) (Value-F.Error error) is (rolls-Error error) tt
    at Value-F.SysModules is h' = absurd (true_false h')
    at Value-F.SysPath is h' = absurd (true_false h')
    at Value-F.NsPath is h' = absurd (true_false h')

path_added_safe : (reply : Reply) → Always (path_added reply)
path_added_safe r.Done s = passes_safe s
path_added_safe r.Full s = fails_safe fault.PathFull s
path_added_safe reply s = fails_safe fault.NotInProfile s

adds_entry_safe : (s : Shown) (index : Option ℤ) (v : Value) → KnowsValue s v → SafeAt s (adds_entry index v)
adds_entry_safe s index v known = at (is_special v) refl
  where
    added : Piece
    added = λ st k. calls (e.PathAdd index v) (λ reply. path_added reply st k)

    added_safe : is_special v ≡ false → SafeAt s added
    added_safe is = λ run.
        steady s (e.PathAdd index v) (λ reply. path_added reply) (run, (searched v is, known.0)) (λ reply. refl) (λ reply. run)
        (λ reply. path_added_safe reply (shown_more s (e.PathAdd index v, reply))) run

    at : (b : Bool) → is_special v ≡ b
        → SafeAt s (if b then fails fault.NotInProfile else if nests_too_deep v then fails fault.PathTooDeep else added)
    at true is = fails_safe fault.NotInProfile s
    at false is = pick_safe s (nests_too_deep v) (fails fault.PathTooDeep) added (fails_safe fault.PathTooDeep s) (added_safe is)

appends_safe : (x : List ℕ) → SafeOf (appends x)
appends_safe x s (v ∷ []) h = adds_entry_safe s None v h.0
appends_safe x s vs h = fails_safe (fault.MethodCount x) s

inserts_at_safe : (s : Shown) (n : Option ℤ) (v : Value) → KnowsValue s v → SafeAt s (inserts_at n v)
inserts_at_safe s None v known = fails_safe fault.NotIndices s
inserts_at_safe s (Some n) v known = adds_entry_safe s (Some n) v known

inserts_safe : (x : List ℕ) → SafeOf (inserts x)
inserts_safe x s (i ∷ v ∷ []) h = inserts_at_safe s (number_of i) v h.1.0
inserts_safe x s vs h = fails_safe (fault.MethodCount x) s

-- ---- the cache

gets_safe : (x : List ℕ) → SafeOf (gets x)
gets_safe x s (key ∷ []) h = reads_entry_safe s key (Some values.Nothing) h.0 (nothing_known s)
gets_safe x s (key ∷ d ∷ []) h = reads_entry_safe s key (Some d) h.0 h.1.0
gets_safe x s vs h = fails_safe (fault.MethodCount x) s

pops_safe : (x : List ℕ) → SafeOf (pops x)
pops_safe x s (key ∷ []) h = pops_entry_safe s key None h.0 tt
pops_safe x s (key ∷ d ∷ []) h = pops_entry_safe s key (Some d) h.0 h.1.0
pops_safe x s vs h = fails_safe (fault.MethodCount x) s

-- ---- the call of a method

pub calls_method_safe : (object : Value) (x : List ℕ) → SafeOf (calls_method object x)
calls_method_safe object x s vs h = at (out-Value object)
  where
    at : (layer : Value-F Value) → SafeAt s (calls_method_at layer x vs)
    at Value-F.SysPath = pick_safe s (bytes_eq x (codes "append")) (appends x vs) (inserts x vs) (appends_safe x s vs h) (inserts_safe x s vs h)
    at Value-F.SysModules = pick_safe s (bytes_eq x (codes "get")) (gets x vs) (pops x vs) (gets_safe x s vs h) (pops_safe x s vs h)
    at layer = fails_safe fault.NotInProfile s
