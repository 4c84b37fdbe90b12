-- Which pieces of a script are safe, and how safe pieces are put together.
use Rattle.std.proofs.Common.{◌≡◌, ℕ, Bool, true, false, if◌then◌else◌, List, [], ◌∷◌, ◌++◌, refl, ◌∙◌}
use Rattle.py_value.specs.Measures.{is_true}
use Rattle.py_value.specs.declared.value.ModRef.{ModRef}
use Rattle.py_value.specs.declared.value.Value.{Value, out-Value}
use Rattle.py_value.specs.declared.value.Value.TheVariants as values
use Rattle.py_value.specs.declared.value.Value.TheOpen.{Value-F}
use Rattle.machine_events.specs.declared.event.Event.{Event}
use Rattle.machine_events.specs.declared.event.Event.TheVariants as e
use Rattle.machine_events.specs.declared.event.Reply.{Reply}
use Rattle.machine_events.specs.declared.event.Reply.TheVariants as r
use Rattle.machine_shown.specs.Shown.{Shown, Running, shown_more, holds, does}
use Rattle.machine_shown.specs.Holdings.{Holding}
use Rattle.machine_shown.specs.Knowing.{Has}
use Rattle.meaning_runs.specs.Runs.{Run, Safe, MayMake}
use Rattle.meaning_state.specs.declared.fault.Fault.{Fault}
use Rattle.meaning_state.specs.declared.fault.Fault.TheVariants as fault
use Rattle.meaning_state.specs.declared.flow.Flow.{Flow}
use Rattle.meaning_state.specs.declared.flow.Flow.TheVariants.{Went, Left}
use Rattle.meaning_state.specs.declared.thread.State.{State}
use Rattle.meaning_script.specs.Pieces.{Piece, Onward, pay, after_reply, calls, on_value, passes, fails, raise, sized, atom, gathers, applied_on, operates, in_order, as_list, lists_at, listed, all_listed, decides, awake, accessed, with_one, with_two, with_three}
use Rattle.meaning_safety.proofs.Parts.{plain, displays}
use Rattle.meaning_safety.specs.Known.{KnowsValue, Knows, KnowsFlow}
use Rattle.meaning_safety.proofs.Growth.{Grows, Fits, grows_refl, grows_then, fits_refl, fits_then, fits_more, grows_more, value_grows, state_grows}
use Rattle.meaning_safety.proofs.Given.{has_number, path_answered}

-- what comes after is safe from every state that fits
abbrev pub SafeOn : Shown → Onward → Type 0
SafeOn s k = (s' : Shown) → Fits s s' → (flow : Flow) → KnowsFlow s' flow → (st : State) → Knows s' st → Safe s' (k flow st)

-- a piece is safe where so much is shown
abbrev pub SafeAt : Shown → Piece → Type 0
SafeAt s p = s.doing ≡ Running → (st : State) → Knows s st → (k : Onward) → SafeOn s k → Safe s (p st k)

-- the same from one state
abbrev pub SafeIn : Shown → State → Piece → Type 0
SafeIn s st p = s.doing ≡ Running → Knows s st → (k : Onward) → SafeOn s k → Safe s (p st k)

pub safe_in : (s : Shown) (st : State) (p : Piece) → SafeAt s p → SafeIn s st p
safe_in s st p h run knows k safe = h run st knows k safe

abbrev pub Always : Piece → Type 0
Always p = (s : Shown) → SafeAt s p

pub on_later : (a b : Shown) (k : Onward) → Fits a b → SafeOn a k → SafeOn b k
on_later a b k f safe = λ s g flow known st knows. safe s (fits_then a b s f g) flow known st knows

pub goes_safe : (s : Shown) (flow : Flow) → KnowsFlow s flow → SafeAt s (λ st k. k flow st)
goes_safe s flow known run st knows k safe = safe s (fits_refl s run) flow known st knows

pub fails_safe : (f : Fault) → Always (fails f)
fails_safe f s run st knows k safe = safe s (fits_refl s run) (raise f) tt st knows

pub passes_safe : Always passes
passes_safe s run st knows k safe = safe s (fits_refl s run) (Went values.Nothing) ((plain s).nothing, refl) st knows

pub pick_safe : (s : Shown) (b : Bool) (p q : Piece) → SafeAt s p → SafeAt s q → SafeAt s (if b then p else q)
pick_safe s true p q good bad = good
pick_safe s false p q good bad = bad

pub pick_run : (s : Shown) (b : Bool) (p q : Run) → Safe s p → Safe s q → Safe s (if b then p else q)
pick_run s true p q good bad = good
pick_run s false p q good bad = bad

-- ---- payments and events

pub pay_safe : (s : Shown) (units : ℕ) (p : Piece) → SafeAt s p → SafeAt s (λ st k. pay units (p st k))
pay_safe s units p h run st knows k safe = (run, h run st knows k safe)

reply_safe : (s : Shown) (reply : Reply) (next : Run) → s.doing ≡ Running → Safe s next → Safe s (after_reply reply next)
reply_safe s (r.Wait l) next run safe = safe
reply_safe s reply next run safe = (run, safe)

pub calls_safe : (s : Shown) (event : Event) (next : Reply → Run) → s.doing ≡ Running → MayMake s event → ((r : Reply) → does event r s.doing ≡ Running) → ((r : Reply) → Safe (shown_more s (event, r)) (next r)) → Safe s (calls event next)
calls_safe s event next run may runs safe = (run, (may, λ r. reply_safe (shown_more s (event, r)) r (next r) (runs r) (safe r)))

-- an event that changes nothing of what is held
pub steady_in : (s : Shown) (st : State) (event : Event) (p : Reply → Piece) → MayMake s event → ((r : Reply) → holds event r s.held ≡ s.held) → ((r : Reply) → does event r s.doing ≡ Running)
    → ((r : Reply) → SafeIn (shown_more s (event, r)) st (p r)) → SafeIn s st (λ st k. calls event (λ r. p r st k))
steady_in s st event p may same runs each run knows k safe =
    calls_safe s event (λ r. p r st k) run may runs
    (λ r. let f : Fits s (shown_more s (event, r)) = fits_more s event r run (same r) (runs r) in
    each r (runs r) (state_grows s (shown_more s (event, r)) f.grows st knows) k (on_later s (shown_more s (event, r)) k f safe))

pub steady : (s : Shown) (event : Event) (p : Reply → Piece) → MayMake s event → ((r : Reply) → holds event r s.held ≡ s.held) → ((r : Reply) → does event r s.doing ≡ Running)
    → ((r : Reply) → SafeAt (shown_more s (event, r)) (p r)) → SafeAt s (λ st k. calls event (λ r. p r st k))
steady s event p may same runs each run st knows k safe =
    steady_in s st event p may same runs (λ r. safe_in (shown_more s (event, r)) st (p r) (each r)) run knows k safe

-- ---- one piece after another

pub on_value_safe : (s : Shown) (k : Onward) (go : Value → State → Run) → SafeOn s k → ((s' : Shown) → Fits s s' → (v : Value) → KnowsValue s' v → (st : State) → Knows s' st → Safe s' (go v st)) → SafeOn s (on_value k go)
on_value_safe s k go safe each s' f (Went v) known st knows = each s' f v known st knows
on_value_safe s k go safe each s' f (Left leave) known st knows = safe s' f (Left leave) known st knows

pub behind : (s : Shown) (p : Piece) (q : Value → Piece) → SafeAt s p → ((s' : Shown) → Grows s s' → (v : Value) → KnowsValue s' v → SafeAt s' (q v)) → SafeAt s (λ st k. p st (on_value k (λ v st'. q v st' k)))
behind s p q h each run st knows k safe =
    h run st knows (on_value k (λ v st'. q v st' k))
    (on_value_safe s k (λ v st'. q v st' k) safe (λ s' f v known st' knows'. each s' f.grows v known f.runs st' knows' k (on_later s s' k f safe)))

-- goes on by how a piece ends
pub flows_safe : (s : Shown) (p : Piece) (q : Flow → Piece) → SafeAt s p → ((s' : Shown) → Grows s s' → (flow : Flow) → KnowsFlow s' flow → SafeAt s' (q flow)) → SafeAt s (λ st k. p st (λ flow st'. q flow st' k))
flows_safe s p q h each run st knows k safe =
    h run st knows (λ flow st'. q flow st' k) (λ s' f flow known st' knows'. each s' f.grows flow known f.runs st' knows' k (on_later s s' k f safe))

pub sized_on : (s : Shown) (k : Onward) → SafeOn s k → SafeOn s (sized k)
sized_on s k safe s' f (Went v) known st knows = (f.runs, safe s' f (Went v) known st knows)
sized_on s k safe s' f (Left leave) known st knows = safe s' f (Left leave) known st knows

pub sized_safe : (s : Shown) (p : Piece) → SafeAt s p → SafeAt s (λ st k. p st (sized k))
sized_safe s p h run st knows k safe = h run st knows (sized k) (sized_on s k safe)

pub sized_goes : (s : Shown) (v : Value) → KnowsValue s v → SafeAt s (λ st k. sized k (Went v) st)
sized_goes s v known run st knows k safe = (run, safe s (fits_refl s run) (Went v) known st knows)

pub atom_safe : (s : Shown) (p : Piece) → SafeAt s p → SafeAt s (atom p)
atom_safe s p h = pay_safe s 1 (λ st k. p st (sized k)) (sized_safe s p h)

-- ---- lists of pieces and values

abbrev pub Each : Shown → List Value → Type 0
Each s [] = Unit {0}
Each s (v ∷ vs) = KnowsValue s v × Each s vs

pub each_grows : (s s' : Shown) → Grows s s' → (vs : List Value) → Each s vs → Each s' vs
each_grows s s' g [] h = tt
each_grows s s' g (v ∷ vs) h = (value_grows s s' g v h.0, each_grows s s' g vs h.1)

each_more : (s : Shown) (vs : List Value) (v : Value) → Each s vs → KnowsValue s v → Each s (vs ++ v ∷ [])
each_more s [] v h known = (known, tt)
each_more s (x ∷ vs) v h known = (h.0, each_more s vs v h.1 known)

abbrev pub AllSafe : List Piece → Type 0
AllSafe [] = Unit {0}
AllSafe (p ∷ ps) = Always p × AllSafe ps

-- safe on all values that are known
abbrev pub SafeOf : (List Value → Piece) → Type 0
SafeOf go = (s : Shown) (vs : List Value) → Each s vs → SafeAt s (go vs)

pub gathers_safe : (ps : List Piece) → AllSafe ps → (go : List Value → Piece) → SafeOf go → (s : Shown) (vs : List Value) → Each s vs → SafeAt s (gathers ps vs go)
gathers_safe [] all go each s vs h run st knows k safe = each s vs h run st knows k safe
gathers_safe (p ∷ ps) all go each s vs h run st knows k safe =
    behind s p (λ v. gathers ps (vs ++ v ∷ []) go) (all.0 s) (λ s' g v known. gathers_safe ps all.1 go each s' (vs ++ v ∷ []) (each_more s' vs v (each_grows s s' g vs h) known)) run st knows k safe

pub applied_safe : (apply : List Value → Piece) → SafeOf apply → SafeOf (applied_on apply)
applied_safe apply each s vs h = pay_safe s 1 (λ st k. apply vs st (sized k)) (sized_safe s (apply vs) (each s vs h))

pub operates_safe : (ps : List Piece) → AllSafe ps → (apply : List Value → Piece) → SafeOf apply → Always (operates ps apply)
operates_safe ps all apply each s = gathers_safe ps all (applied_on apply) (applied_safe apply each) s [] tt

pub in_order_safe : (ps : List Piece) → AllSafe ps → Always (in_order ps)
in_order_safe [] all s = passes_safe s
in_order_safe (p ∷ ps) all s = behind s p (λ _. in_order ps) (all.0 s) (λ s' g v known. in_order_safe ps all.1 s')

-- ---- operands

-- what goes on with a value that comes later is safe there
abbrev pub SafeWith : Shown → (Value → Piece) → Type 0
SafeWith s go = (s' : Shown) → Grows s s' → (u : Value) → KnowsValue s' u → SafeAt s' (go u)

as_list_safe : (s : Shown) (go : Value → Piece) → SafeWith s go → (reply : Reply) → SafeAt (shown_more s (e.PathGet, reply)) (as_list go reply)
as_list_safe s go each (r.Path items) =
    let next : Shown = shown_more s (e.PathGet, r.Path items) in
    each next (grows_more s e.PathGet (r.Path items)) (values.List items) ((displays next items (path_answered s e.PathGet items)).list, refl)
as_list_safe s go each reply = fails_safe fault.NotInProfile (shown_more s (e.PathGet, reply))

pub listed_safe : (s : Shown) (v : Value) → KnowsValue s v → (go : Value → Piece) → SafeWith s go → SafeAt s (listed v go)
listed_safe s v known go each = at (out-Value v)
  where
    at : (layer : Value-F Value) → SafeAt s (lists_at v layer go)
    at Value-F.SysPath = λ run. steady s e.PathGet (λ reply. as_list go reply) (run, tt) (λ reply. refl) (λ reply. run) (as_list_safe s go each) run
    at Value-F.SysModules = fails_safe fault.NotInProfile s
    at layer = each s (grows_refl s) v known

pub all_listed_safe : (s : Shown) (vs : List Value) → Each s vs → (go : List Value → Piece) → ((s' : Shown) → Grows s s' → (us : List Value) → Each s' us → SafeAt s' (go us)) → SafeAt s (all_listed vs go)
all_listed_safe s [] h go each = each s (grows_refl s) [] tt
all_listed_safe s (v ∷ vs) h go each =
    listed_safe s v h.0 (λ u. all_listed vs (λ us. go (u ∷ us)))
    (λ s' g u known. all_listed_safe s' vs (each_grows s s' g vs h.1) (λ us. go (u ∷ us))
    (λ later g' us all. each later (grows_then s s' later g g') (u ∷ us) (value_grows s' later g' u known, all)))

pub decides_safe : (s : Shown) (v : Value) → KnowsValue s v → (good bad : Piece) → Always good → Always bad → SafeAt s (decides v good bad)
decides_safe s v known good bad h l = listed_safe s v known (λ u. if is_true u then good else bad) (λ s' g u known'. pick_safe s' (is_true u) good bad (h s') (l s'))

-- ---- accesses of modules

-- what is safe for each module that exists
abbrev pub SafeModules : (ModRef → Piece) → Type 0
SafeModules go = (s : Shown) (m : ModRef) → Has s.modules m → SafeAt s (go m)

pub awake_safe : (roused : ModRef → Piece) → SafeModules roused → (m : ModRef) (raw : Event) (go : Reply → Piece) (s : Shown) → Has s.modules m → (reply : Reply) → SafeAt s (go reply)
    → ((s' : Shown) → Grows s s' → SafeAt s' (λ st k. calls raw (λ again. go again st k))) → SafeAt s (awake roused m raw go reply)
awake_safe roused safe_roused m raw go s has r.Sleeping now later = behind s (roused m) (λ _ st k. calls raw (λ again. go again st k)) (safe_roused s m has) (λ s' g v known. later s' g)
awake_safe roused safe_roused m raw go s has reply now later = now

-- an access of a module, made raw or not, that changes nothing of what is held; what has to be shown besides stays shown
pub record Quiet (event : Bool → Event) (P : Shown → Type 0) : Type 0 where
  pub stays : (s s' : Shown) → Grows s s' → P s → P s'
  pub may : (s : Shown) → P s → (raw : Bool) → s.doing ≡ Running → MayMake s (event raw)
  pub same : (held : List Holding) (raw : Bool) (reply : Reply) → holds (event raw) reply held ≡ held
  pub runs : (s : Shown) (raw : Bool) (reply : Reply) → does (event raw) reply s.doing ≡ s.doing

module _ (roused : ModRef → Piece) (safe_roused : SafeModules roused) (m : ModRef) where
  pub accesses_safe : (event : Bool → Event) (P : Shown → Type 0) → Quiet event P → (go : Reply → Piece)
      → ((s : Shown) → Has s.modules m → P s → (raw : Bool) (reply : Reply) → SafeAt (shown_more s (event raw, reply)) (go reply))
      → (s : Shown) → Has s.modules m → P s → SafeAt s (λ st k. calls (event false) (λ reply. accessed false roused m (event true) go reply st k))
  accesses_safe event P quiet go each s has p = λ run.
      steady s (event false) (λ reply. accessed false roused m (event true) go reply) (quiet.may s p false run) (quiet.same s.held false) (λ reply. quiet.runs s false reply ∙ run)
      (λ reply. let next : Shown = shown_more s (event false, reply) in
      let g : Grows s next = grows_more s (event false) reply in
      awake_safe roused safe_roused m (event true) go next (g.modules m has) reply (each s has p false reply)
      (λ s' g'. raws s' (g'.modules m (g.modules m has)) (quiet.stays next s' g' (quiet.stays s next g p)))) run
    where
      raws : (s : Shown) → Has s.modules m → P s → SafeAt s (λ st k. calls (event true) (λ reply. go reply st k))
      raws s has p = λ run. steady s (event true) go (quiet.may s p true run) (quiet.same s.held true) (λ reply. quiet.runs s true reply ∙ run) (λ reply. each s has p true reply) run

  -- a read of a variable
  pub reads_var_safe : (x : List ℕ) (go : Reply → Piece)
      → ((s : Shown) → Has s.modules m → (raw : Bool) (reply : Reply) → SafeAt (shown_more s (e.GetVar m.mid x raw, reply)) (go reply))
      → (s : Shown) → Has s.modules m → SafeAt s (λ st k. calls (e.GetVar m.mid x false) (λ reply. accessed false roused m (e.GetVar m.mid x true) go reply st k))
  reads_var_safe x go each s has =
      accesses_safe (λ raw. e.GetVar m.mid x raw) (λ s. Has s.modules m)
      (record { stays = λ a b g h. g.modules m h; may = λ a h raw run. (run, has_number a m h); same = λ held raw reply. refl; runs = λ a raw reply. refl })
      go (λ a h p raw reply. each a h raw reply) s has has

-- ---- forms of so many operands

pub with_one_safe : (s : Shown) (vs : List Value) → Each s vs → (go : Value → Piece) → ((a : Value) → KnowsValue s a → SafeAt s (go a)) → SafeAt s (with_one vs go)
with_one_safe s (a ∷ []) h go each = each a h.0
with_one_safe s vs h go each = fails_safe fault.NotInProfile s

pub with_two_safe : (s : Shown) (vs : List Value) → Each s vs → (go : Value → Value → Piece) → ((a b : Value) → KnowsValue s a → KnowsValue s b → SafeAt s (go a b)) → SafeAt s (with_two vs go)
with_two_safe s (a ∷ b ∷ []) h go each = each a b h.0 h.1.0
with_two_safe s vs h go each = fails_safe fault.NotInProfile s

pub with_three_safe : (s : Shown) (vs : List Value) → Each s vs → (go : Value → Value → Value → Piece) → ((a b c : Value) → KnowsValue s a → KnowsValue s b → KnowsValue s c → SafeAt s (go a b c)) → SafeAt s (with_three vs go)
with_three_safe s (a ∷ b ∷ c ∷ []) h go each = each a b c h.0 h.1.0 h.1.1.0
with_three_safe s vs h go each = fails_safe fault.NotInProfile s
