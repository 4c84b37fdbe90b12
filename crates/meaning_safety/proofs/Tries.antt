-- `try` is safe.
use Rattle.std.proofs.Common.{ℕ, Bool, true, false, List, [], ◌∷◌, Option, Some, None, refl}
use Rattle.py_value.specs.declared.kind.Kind.{Kind}
use Rattle.py_value.specs.declared.kind.Kind.TheVariants as kinds
use Rattle.py_value.specs.declared.value.Raised.{Raised as Error}
use Rattle.py_value.specs.declared.value.Value.TheVariants as values
use Rattle.machine_events.specs.declared.event.Event.{Event}
use Rattle.machine_events.specs.declared.event.Event.TheVariants as e
use Rattle.machine_shown.specs.Shown.{Shown, shown_more}
use Rattle.meaning_safety.proofs.Parts.{plain}
use Rattle.meaning_state.specs.declared.fault.Fault.TheVariants as fault
use Rattle.meaning_state.specs.declared.flow.Leave.TheVariants.{Raised, Return, Break, Continue}
use Rattle.meaning_state.specs.declared.flow.Flow.{Flow}
use Rattle.meaning_state.specs.declared.flow.Flow.TheVariants.{Went, Left}
use Rattle.meaning_state.specs.declared.thread.State.{State}
use Rattle.meaning_script.specs.Pieces.{Piece, Onward, calls, in_order, listed}
use Rattle.meaning_script.specs.Names.{is_local_name, without_local, stores}
use Rattle.meaning_script.specs.Statements.{leaves, HandlerPiece, handling, handled, unbinds_name, unbinds, handles, binds_error, chosen, tries_handler, catches, catches_kind, tried, tries, enters, exits, after, resumes, finishes, guards, takes}
use Rattle.meaning_safety.specs.Known.{Knows, KnowsFlow}
use Rattle.meaning_safety.proofs.Growth.{fits_refl, grows_more, flow_grows}
use Rattle.meaning_safety.proofs.Pieces.{SafeOn, SafeAt, Always, AllSafe, on_later, goes_safe, fails_safe, steady, pick_run, behind, in_order_safe, listed_safe}
use Rattle.meaning_safety.proofs.Names.{without_local_known, stores_safe}

handling_known : (s : Shown) (error : Error) (st : State) → Knows s st → Knows s (handling error st)
handling_known s error st knows = record { mid = knows.mid; load = knows.load; locals = knows.locals; kept = knows.kept }

handled_known : (s : Shown) (st : State) → Knows s st → Knows s (handled st)
handled_known s st knows = record { mid = knows.mid; load = knows.load; locals = knows.locals; kept = knows.kept }

-- ---- handlers

unbinds_name_safe : (s : Shown) (x : List ℕ) (flow : Flow) → KnowsFlow s flow → SafeAt s (unbinds_name x flow)
unbinds_name_safe s x flow known run st knows k safe =
    let event : Event = e.DelVar st.scope.mid x true in
    pick_run s (is_local_name st x) (k flow (without_local st x)) (calls event (λ _. k flow st))
    (safe s (fits_refl s run) flow known (without_local st x) (without_local_known s st x knows))
    (steady s event (λ _. leaves flow) (run, knows.mid) (λ reply. refl) (λ reply. run)
    (λ reply. goes_safe (shown_more s (event, reply)) flow (flow_grows s (shown_more s (event, reply)) (grows_more s event reply) flow known)) run st knows k safe)

unbinds_safe : (s : Shown) (bound : Option (List ℕ)) (flow : Flow) → KnowsFlow s flow → SafeAt s (unbinds bound flow)
unbinds_safe s None flow known = goes_safe s flow known
unbinds_safe s (Some x) flow known = unbinds_name_safe s x flow known

abbrev pub SomeSafe : Option Piece → Type 0
SomeSafe None = Unit {0}
SomeSafe (Some p) = Always p

pub record SafeHandler (h : HandlerPiece) : Type 0 where
  pub kinds : SomeSafe h.kinds
  pub body : Always h.body

handles_safe : (h : HandlerPiece) → SafeHandler h → (error : Error) → Always (handles h error)
handles_safe h safe_h error s run st knows k safe =
    safe_h.body s run (handling error st) (handling_known s error st knows) (λ flow st'. unbinds h.bound flow (handled st') k)
    (λ s' f flow known st' knows'. unbinds_safe s' h.bound flow known f.runs (handled st') (handled_known s' st' knows') k (on_later s s' k f safe))

binds_error_safe : (h : HandlerPiece) → SafeHandler h → (error : Error) (bound : Option (List ℕ)) → Always (binds_error h error bound)
binds_error_safe h safe_h error None s = handles_safe h safe_h error s
binds_error_safe h safe_h error (Some x) s =
    behind s (stores x (values.Error error)) (λ _. handles h error) (stores_safe s x (values.Error error) ((plain s).error error, refl)) (λ s' g v known. handles_safe h safe_h error s')

chosen_safe : (h : HandlerPiece) → SafeHandler h → (error : Error) (others : Piece) → Always others → (taken : Option Bool) → Always (chosen h error others taken)
chosen_safe h safe_h error others safe None s = fails_safe fault.NotCaught s
chosen_safe h safe_h error others safe (Some true) s = binds_error_safe h safe_h error h.bound s
chosen_safe h safe_h error others safe (Some false) s = safe s

tries_handler_safe : (h : HandlerPiece) → SafeHandler h → (error : Error) (others : Piece) → Always others → (kinds : Option Piece) → SomeSafe kinds → Always (tries_handler h error others kinds)
tries_handler_safe h safe_h error others safe None kinds_safe s = binds_error_safe h safe_h error h.bound s
tries_handler_safe h safe_h error others safe (Some kinds) kinds_safe s =
    behind s kinds (λ v. listed v (λ u. chosen h error others (takes error.kind u))) (kinds_safe s)
    (λ s' g v known. listed_safe s' v known (λ u. chosen h error others (takes error.kind u)) (λ later g' u known'. chosen_safe h safe_h error others safe (takes error.kind u) later))

abbrev pub AllHandlers : List HandlerPiece → Type 0
AllHandlers [] = Unit {0}
AllHandlers (h ∷ hs) = SafeHandler h × AllHandlers hs

catches_safe : (hs : List HandlerPiece) → AllHandlers hs → (error : Error) → Always (catches hs error)
catches_safe [] all error s = goes_safe s (Left (Raised error)) tt
catches_safe (h ∷ hs) all error s = tries_handler_safe h all.0 error (catches hs error) (catches_safe hs all.1 error) h.kinds all.0.kinds s

catches_kind_safe : (hs : List HandlerPiece) → AllHandlers hs → (error : Error) (kind : Kind) → Always (catches_kind hs error kind)
catches_kind_safe hs all error kinds.ProfileError s = goes_safe s (Left (Raised error)) tt
catches_kind_safe hs all error kind s = catches_safe hs all error s

-- ---- the first block, and the blocks of `else` and `finally`

tried_on : (s : Shown) (hs : List HandlerPiece) → AllHandlers hs → (otherwise : Piece) → Always otherwise → (k : Onward) → SafeOn s k → SafeOn s (tried hs otherwise k)
tried_on s hs all otherwise more k safe s' f (Went v) known st knows = more s' f.runs st knows k (on_later s s' k f safe)
tried_on s hs all otherwise more k safe s' f (Left (Raised error)) known st knows = catches_kind_safe hs all error error.kind s' f.runs st knows k (on_later s s' k f safe)
tried_on s hs all otherwise more k safe s' f (Left (Return v)) known st knows = safe s' f (Left (Return v)) known st knows
tried_on s hs all otherwise more k safe s' f (Left Break) known st knows = safe s' f (Left Break) tt st knows
tried_on s hs all otherwise more k safe s' f (Left Continue) known st knows = safe s' f (Left Continue) tt st knows

pub tries_safe : (body : Piece) → Always body → (hs : List HandlerPiece) → AllHandlers hs → (otherwise : Piece) → Always otherwise → Always (tries body hs otherwise)
tries_safe body body_safe hs all otherwise more s run st knows k safe = body_safe s run st knows (tried hs otherwise k) (tried_on s hs all otherwise more k safe)

enters_known : (s : Shown) (flow : Flow) (st : State) → Knows s st → Knows s (enters flow st)
enters_known s (Left (Raised error)) st knows = handling_known s error st knows
enters_known s (Left (Return v)) st knows = knows
enters_known s (Left Break) st knows = knows
enters_known s (Left Continue) st knows = knows
enters_known s (Went v) st knows = knows

exits_known : (s : Shown) (flow : Flow) (st : State) → Knows s st → Knows s (exits flow st)
exits_known s (Left (Raised error)) st knows = handled_known s st knows
exits_known s (Left (Return v)) st knows = knows
exits_known s (Left Break) st knows = knows
exits_known s (Left Continue) st knows = knows
exits_known s (Went v) st knows = knows

after_known : (s : Shown) (flow last : Flow) → KnowsFlow s flow → KnowsFlow s last → KnowsFlow s (after flow last)
after_known s flow (Went v) known last = known
after_known s flow (Left leave) known last = last

resumes_on : (s : Shown) (flow : Flow) → KnowsFlow s flow → (k : Onward) → SafeOn s k → SafeOn s (resumes flow k)
resumes_on s flow known k safe s' f last last_known st knows =
    safe s' f (after flow last) (after_known s' flow last (flow_grows s s' f.grows flow known) last_known) (exits flow st) (exits_known s' flow st knows)

finishes_on : (s : Shown) (last : Piece) → Always last → (k : Onward) → SafeOn s k → SafeOn s (finishes last k)
finishes_on s last last_safe k safe s' f flow known st knows =
    last_safe s' f.runs (enters flow st) (enters_known s' flow st knows) (resumes flow k) (resumes_on s' flow known k (on_later s s' k f safe))

pub guards_safe : (last : List Piece) → AllSafe last → (p : Piece) → Always p → Always (guards last p)
guards_safe [] all p safe s = safe s
guards_safe (b ∷ bs) all p safe_p s = λ run st knows k safe. safe_p s run st knows (finishes (in_order (b ∷ bs)) k) (finishes_on s (in_order (b ∷ bs)) (in_order_safe (b ∷ bs) all) k safe)
