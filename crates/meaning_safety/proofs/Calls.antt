-- Calls of kinds and of built-in functions are safe.
use Rattle.std.proofs.Common.{◌≡◌, ◌≤◌, ℕ, Bool, true, false, if◌then◌else◌, nat_lt, pos, length, List, [], ◌∷◌, Option, Some, None, Result, Ok, Err, refl}
use Rattle.std.proofs.lemmas.Bool.{ltb-false}
use Rattle.py_value.specs.Names.{type_of}
use Rattle.py_value.specs.declared.kind.Kind.{Kind}
use Rattle.py_value.specs.declared.kind.Kind.TheVariants as kinds
use Rattle.py_value.specs.declared.kind.Native.{Native}
use Rattle.py_value.specs.declared.kind.Native.TheVariants as natives
use Rattle.py_value.specs.declared.operator.Applied.{Applied}
use Rattle.py_value.specs.declared.operator.Applied.TheVariants as applied
use Rattle.py_value.specs.declared.value.ModRef.{ModRef}
use Rattle.py_value.specs.declared.value.Raised.{Raised as Error}
use Rattle.py_value.specs.declared.value.Value.{Value, out-Value}
use Rattle.py_value.specs.declared.value.Value.TheVariants as values
use Rattle.py_value.specs.declared.value.Value.TheOpen.{Value-F}
use Rattle.value_operators.specs.Items.{length_of}
use Rattle.value_texts.specs.Texts.{str_of, repr_of}
use Rattle.spec_core.specs.Identifiers.{is_dotted}
use Rattle.machine_events.specs.declared.event.Event.TheVariants as e
use Rattle.machine_shown.specs.Shown.{Shown, shown_more}
use Rattle.meaning_runs.specs.Runs.{Safe}
use Rattle.meaning_safety.specs.Laws.{KnowsApplied}
use Rattle.meaning_safety.proofs.Parts.{plain}
use Rattle.meaning_safety.proofs.Operators.{operators}
use Rattle.meaning_state.specs.Faults.{raised}
use Rattle.meaning_state.specs.declared.fault.Fault.TheVariants as fault
use Rattle.meaning_state.specs.declared.flow.Leave.TheVariants.{Raised, Return, Break, Continue}
use Rattle.meaning_state.specs.declared.flow.Flow.TheVariants.{Went, Left}
use Rattle.meaning_script.specs.Pieces.{Piece, Onward, calls, fails, gives, done, passes}
use Rattle.meaning_script.specs.Names.{Access}
use Rattle.meaning_script.specs.Calls.{Loading, text_of, made_error, error_text, calls_kind, strs_of, line_of, writes, prints, str_call, repr_call, length_given, len_call, member_named_at, member_named, missing_at, defaulting, telling, hasattr_call, getattr_call, invalidate_call, reload_value, reload_call, lazy_value, lazy_call, calls_native}
use Rattle.meaning_safety.specs.Known.{KnowsValue}
use Rattle.meaning_safety.proofs.Growth.{value_grows}
use Rattle.meaning_safety.proofs.Given.{module_in}
use Rattle.meaning_safety.proofs.Pieces.{SafeOn, SafeAt, Always, SafeOf, SafeModules, goes_safe, fails_safe, passes_safe, pick_safe, steady, listed_safe, all_listed_safe}
use Rattle.meaning_safety.proofs.Values.{gives_safe}
use Rattle.meaning_safety.proofs.Names.{SafeAccess, member_safe}

error_known : (s : Shown) (error : Error) → KnowsValue s (values.Error error)
error_known s error = ((plain s).error error, refl)

made_known : (s : Shown) (kind : Kind) (a : Applied) → KnowsApplied s (made_error kind a)
made_known s kind (applied.Value v) = error_known s (raised kind (text_of v))
made_known s kind (applied.Raised error) = tt

pub calls_kind_safe : (kind : Kind) → SafeOf (calls_kind kind)
calls_kind_safe kind s [] h = goes_safe s (Went (values.Error (raised kind []))) (error_known s (raised kind []))
calls_kind_safe kind s (v ∷ []) h =
    listed_safe s v h.0 (λ u. gives (made_error kind (error_text kind u))) (λ s' g u known. gives_safe s' (made_error kind (error_text kind u)) (made_known s' kind (error_text kind u)))
calls_kind_safe kind s vs h = fails_safe fault.NotInProfile s

writes_safe : (line : List ℕ) → Always (writes line)
writes_safe line s = at (nat_lt 65536 (length line)) refl
  where
    at : (b : Bool) → nat_lt 65536 (length line) ≡ b → SafeAt s (if b then fails fault.TextTooLong else (λ st k. calls (e.Print line) (λ _. k done st)))
    at true is = fails_safe fault.TextTooLong s
    at false is = λ run st knows k safe.
        let short : length line ≤ 65536 = ltb-false 65536 (length line) is in
        steady s (e.Print line) (λ _. passes) (run, short) (λ reply. refl) (λ reply. run) (λ reply. passes_safe (shown_more s (e.Print line, reply))) run st knows k safe

prints_safe : (texts : Result (List (List ℕ)) Error) → Always (prints texts)
prints_safe (Ok texts) s = writes_safe (line_of texts) s
prints_safe (Err error) s = goes_safe s (Left (Raised error)) tt

str_call_safe : SafeOf str_call
str_call_safe s [] h = goes_safe s (Went (values.Text [])) ((plain s).text [], refl)
str_call_safe s (v ∷ []) h = listed_safe s v h.0 (λ u. gives (str_of u)) (λ s' g u known. gives_safe s' (str_of u) ((operators s').str u))
str_call_safe s vs h = fails_safe (fault.ArgumentCount natives.Str) s

repr_call_safe : SafeOf repr_call
repr_call_safe s (v ∷ []) h = listed_safe s v h.0 (λ u. gives (repr_of u)) (λ s' g u known. gives_safe s' (repr_of u) ((operators s').repr u))
repr_call_safe s vs h = fails_safe (fault.ArgumentCount natives.Repr) s

length_safe : (n : Option ℕ) (v : Value) → Always (length_given n v)
length_safe (Some n) v s = goes_safe s (Went (values.Int (pos n))) ((plain s).number (pos n), refl)
length_safe None v s = fails_safe (fault.NoLength (type_of v)) s

len_call_safe : SafeOf len_call
len_call_safe s (v ∷ []) h = listed_safe s v h.0 (λ u. length_given (length_of u) u) (λ s' g u known. length_safe (length_of u) u s')
len_call_safe s vs h = fails_safe (fault.ArgumentCount natives.Len) s

defaulting_on : (s : Shown) (k : Onward) (d : Value) → SafeOn s k → KnowsValue s d → SafeOn s (defaulting k d)
defaulting_on s k d safe h s' f (Left (Raised error)) known st knows = at error.kind
  where
    at : (kind : Kind) → Safe s' (missing_at k d error kind (Left (Raised error)) st)
    at kinds.AttributeError = safe s' f (Went d) (value_grows s s' f.grows d h) st knows
    at kind = safe s' f (Left (Raised error)) tt st knows
defaulting_on s k d safe h s' f (Left (Return v)) known st knows = safe s' f (Left (Return v)) known st knows
defaulting_on s k d safe h s' f (Left Break) known st knows = safe s' f (Left Break) known st knows
defaulting_on s k d safe h s' f (Left Continue) known st knows = safe s' f (Left Continue) known st knows
defaulting_on s k d safe h s' f (Went v) known st knows = safe s' f (Went v) known st knows

telling_on : (s : Shown) (k : Onward) → SafeOn s k → SafeOn s (telling k)
telling_on s k safe s' f (Went v) known st knows = safe s' f (Went (values.Bool true)) ((plain s').bool true, refl) st knows
telling_on s k safe s' f (Left leave) known st knows = defaulting_on s k (values.Bool false) safe ((plain s).bool false, refl) s' f (Left leave) known st knows

module _ (access : Access) (safe_access : SafeAccess access) where
  member_named_safe : (s : Shown) (v name : Value) → KnowsValue s v → SafeAt s (member_named access v name)
  member_named_safe s v name known = at (out-Value name)
    where
      at : (layer : Value-F Value) → SafeAt s (member_named_at access v layer)
      at (Value-F.Text x) = member_safe access safe_access s v x known
      at layer = fails_safe fault.NameNotText s

  hasattr_safe : SafeOf (hasattr_call access)
  hasattr_safe s (v ∷ x ∷ []) h = λ run st knows k safe. member_named_safe s v x h.0 run st knows (telling k) (telling_on s k safe)
  hasattr_safe s vs h = fails_safe (fault.ArgumentCount natives.HasAttr) s

  getattr_safe : SafeOf (getattr_call access)
  getattr_safe s (v ∷ x ∷ []) h = member_named_safe s v x h.0
  getattr_safe s (v ∷ x ∷ d ∷ []) h = λ run st knows k safe. member_named_safe s v x h.0 run st knows (defaulting k d) (defaulting_on s k d safe h.1.1.0)
  getattr_safe s vs h = fails_safe (fault.ArgumentCount natives.GetAttr) s

-- ---- the functions of `importlib` and `pyimport`

invalidate_safe : SafeOf invalidate_call
invalidate_safe s [] h = λ run. steady s e.Invalidate (λ _. passes) (run, tt) (λ reply. refl) (λ reply. run) (λ reply. passes_safe (shown_more s (e.Invalidate, reply))) run
invalidate_safe s vs h = fails_safe (fault.ArgumentCount natives.InvalidateCaches) s

reload_safe : (reloaded : ModRef → Piece) → SafeModules reloaded → SafeOf (reload_call reloaded)
reload_safe reloaded safe s (v ∷ []) h = at (out-Value v) refl
  where
    at : (layer : Value-F Value) → out-Value v ≡ layer → SafeAt s (reload_value reloaded layer)
    at (Value-F.Module m) is = safe s m (module_in s v h.0.0 m is)
    at layer is = fails_safe fault.NotReloadable s
reload_safe reloaded safe s vs h = fails_safe (fault.ArgumentCount natives.Reload) s

lazy_safe : (imported : List ℕ → Piece) → ((n : List ℕ) → Always (imported n)) → SafeOf (lazy_call imported)
lazy_safe imported safe s (v ∷ []) h = at (out-Value v)
  where
    at : (layer : Value-F Value) → SafeAt s (lazy_value imported layer)
    at (Value-F.Text n) = pick_safe s (is_dotted n) (imported n) (fails fault.NotInProfile) (safe n s) (fails_safe fault.NotInProfile s)
    at layer = fails_safe fault.NotInProfile s
lazy_safe imported safe s vs h = fails_safe (fault.ArgumentCount natives.Lazy) s

-- ---- all of them

-- what the calls of built-in functions go into is safe
pub record SafeLoading (loading : Loading) : Type 0 where
  pub access : SafeAccess loading.access
  pub reloaded : SafeModules loading.reloaded
  pub lazily : (n : List ℕ) → Always (loading.lazily n)

pub calls_native_safe : (loading : Loading) → SafeLoading loading → (native : Native) → SafeOf (calls_native loading native)
calls_native_safe loading safe natives.Print s vs h = all_listed_safe s vs h (λ us. prints (strs_of us)) (λ s' g us all. prints_safe (strs_of us) s')
calls_native_safe loading safe natives.Str s vs h = str_call_safe s vs h
calls_native_safe loading safe natives.Repr s vs h = repr_call_safe s vs h
calls_native_safe loading safe natives.Len s vs h = len_call_safe s vs h
calls_native_safe loading safe natives.HasAttr s vs h = hasattr_safe loading.access safe.access s vs h
calls_native_safe loading safe natives.GetAttr s vs h = getattr_safe loading.access safe.access s vs h
calls_native_safe loading safe natives.InvalidateCaches s vs h = invalidate_safe s vs h
calls_native_safe loading safe natives.Reload s vs h = reload_safe loading.reloaded safe.reloaded s vs h
calls_native_safe loading safe natives.Lazy s vs h = lazy_safe loading.lazily safe.lazily s vs h
