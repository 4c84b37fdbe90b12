-- Pieces that are safe while one thing more is held: a lock, a load or a reload.
use Rattle.std.proofs.Common.{◌≡◌, inl, ℕ, Bool, true, false, if◌then◌else◌, nat_eq, List, [], ◌∷◌, Option, Some, None, refl, sym, ap, subst, ◌∙◌}
use Rattle.std.proofs.lemmas.Bool.{eq-eqb}
use Rattle.std.specs.Cmp.Lexicographic.{pointwise}
use Rattle.py_value.specs.declared.value.Value.{Value}
use Rattle.py_value.specs.declared.value.ModRef.{ModRef}
use Rattle.py_value.specs.declared.value.Value.TheVariants as values
use Rattle.machine_events.specs.declared.event.Event.{Event}
use Rattle.machine_events.specs.declared.event.Event.TheVariants as e
use Rattle.machine_events.specs.declared.event.Reply.{Reply}
use Rattle.machine_events.specs.declared.event.Reply.TheVariants as r
use Rattle.machine_shown.specs.Holdings.{Holding, Taken, Loading, Reloading, without, becoming}
use Rattle.machine_shown.specs.Shown.{Shown, Running, Waiting, shown_more, holds, does}
use Rattle.machine_shown.specs.Knowing.{Has, HasMid}
use Rattle.path_finder.specs.Steps.{searches}
use Rattle.path_finder.specs.declared.words.Found.{Found}
use Rattle.meaning_script.specs.Searches.{searches_in, IsNamed}
use Rattle.meaning_runs.specs.Runs.{Safe, MayMake, Makes}
use Rattle.meaning_state.specs.declared.flow.Flow.{Flow}
use Rattle.meaning_state.specs.declared.flow.Flow.TheVariants.{Went}
use Rattle.meaning_state.specs.declared.thread.State.{State}
use Rattle.meaning_script.specs.Pieces.{Piece, Onward, calls}
use Rattle.meaning_script.specs.Lazy.{Body}
use Rattle.meaning_script.specs.Imports.{answers}
use Rattle.meaning_safety.specs.Known.{Knows, KnowsFlow}
use Rattle.meaning_safety.proofs.Growth.{Grows, Later, fits_refl, grows_then, later_then, grows_more, later_more, fits_more, state_grows}
use Rattle.meaning_safety.proofs.Pieces.{SafeOn, SafeAt, on_later, goes_safe, calls_safe}
use Rattle.meaning_safety.proofs.Values.{module_known}
use Rattle.meaning_safety.proofs.Searches.{search_safe}

-- the bodies of modules that exist are safe
abbrev pub SafeBody : Body → Type 0
SafeBody body = (s : Shown) (mid load : ℕ) (n text : List ℕ) → HasMid s mid → Has s.loads load → SafeAt s (body mid load n text)

pub answers_safe : (s : Shown) (m : ModRef) → Has s.modules m → SafeAt s (answers m)
answers_safe s m h = goes_safe s (Went (values.Module m)) (module_known s m h)

-- ---- what is held

same_name : (n : List ℕ) → pointwise nat_eq n n ≡ true
same_name [] = refl
same_name (b ∷ bs) = rw (eq-eqb b b refl) (same_name bs)

-- a lock that was taken is given back
pub released_first : (n : List ℕ) (held : List Holding) → without (Taken n) (Taken n ∷ held) ≡ held
released_first n held = rw (same_name n) refl

pub loaded_first : (load : ℕ) (n : List ℕ) (held : List Holding) → becoming (Taken n) (Loading load) (Taken n ∷ held) ≡ Loading load ∷ held
loaded_first load n held = rw (same_name n) refl

-- the same for a name that is equal
pub loaded_named : (load : ℕ) (name n : List ℕ) (held : List Holding) → name ≡ n → becoming (Taken name) (Loading load) (Taken n ∷ held) ≡ Loading load ∷ held
loaded_named load name n held is = subst (λ (x : List ℕ). becoming (Taken x) (Loading load) (Taken n ∷ held) ≡ Loading load ∷ held) (sym is) (loaded_first load n held)

pub ended_first : (load : ℕ) (held : List Holding) → without (Loading load) (Loading load ∷ held) ≡ held
ended_first load held = rw (eq-eqb load load refl) refl

pub holds_first : (s s' : Shown) (held : Holding) → Later s s' (held ∷ s.held) → Has s'.held held
holds_first s s' held f = subst (λ (all : List Holding). Has all held) (sym f.held_is) (inl refl)

-- a lock is given back under a name that is equal
pub lazy_named : (name n : List ℕ) (held : List Holding) → name ≡ n → without (Taken name) (Taken n ∷ held) ≡ held
lazy_named name n held is = subst (λ (x : List ℕ). without (Taken x) (Taken n ∷ held) ≡ held) (sym is) (released_first n held)

pub stopped_first : (mid : ℕ) (held : List Holding) → without (Reloading mid None) (Reloading mid None ∷ held) ≡ held
stopped_first mid held = rw (eq-eqb mid mid refl) refl

pub reload_ended : (mid load : ℕ) (held : List Holding) → without (Reloading mid (Some load)) (Reloading mid (Some load) ∷ held) ≡ held
reload_ended mid load held = rw (eq-eqb mid mid refl) (rw (eq-eqb load load refl) refl)

pub reload_loaded : (mid load : ℕ) (held : List Holding) → becoming (Reloading mid None) (Reloading mid (Some load)) (Reloading mid None ∷ held) ≡ Reloading mid (Some load) ∷ held
reload_loaded mid load held = rw (eq-eqb mid mid refl) refl

-- ---- while one thing more is held

-- a piece is safe at s' where this is held besides what s holds, and its rest is safe where it is not
abbrev pub WithinAt : Shown → Holding → Shown → Piece → Type 0
WithinAt s held s' p = Later s s' (held ∷ s.held) → (st : State) → Knows s' st → (k : Onward) → SafeOn s k → Safe s' (p st k)

abbrev pub Within : Shown → Holding → Piece → Type 0
Within s held p = (s' : Shown) → WithinAt s held s' p

pub pick_within : (s : Shown) (held : Holding) (s' : Shown) (b : Bool) (p q : Piece) → WithinAt s held s' p → WithinAt s held s' q → WithinAt s held s' (if b then p else q)
pick_within s held s' true p q good bad = good
pick_within s held s' false p q good bad = bad

-- an event that changes nothing of what is held
pub steady_within : (s : Shown) (held : Holding) (s' : Shown) (event : Event) (p : Reply → Piece) → MayMake s' event → ((reply : Reply) → holds event reply (held ∷ s.held) ≡ held ∷ s.held)
    → ((reply : Reply) → does event reply s'.doing ≡ Running) → ((reply : Reply) → WithinAt s held (shown_more s' (event, reply)) (p reply)) → WithinAt s held s' (λ st k. calls event (λ reply. p reply st k))
steady_within s held s' event p may same runs each f st knows k safe =
    calls_safe s' event (λ reply. p reply st k) f.runs may runs
    (λ reply. let next : Shown = shown_more s' (event, reply) in
    each reply (later_more s s' (held ∷ s.held) (held ∷ s.held) event reply f (same reply) (runs reply)) st (state_grows s' next (grows_more s' event reply) st knows) k safe)

-- a piece that is safe anywhere, and by how it ends what is safe while this is held
pub flows_within : (s : Shown) (held : Holding) (s' : Shown) (p : Piece) (q : Flow → Piece) → SafeAt s' p
    → ((later : Shown) → Grows s' later → (flow : Flow) → KnowsFlow later flow → WithinAt s held later (q flow)) → WithinAt s held s' (λ st k. p st (λ flow st'. q flow st' k))
flows_within s held s' p q h each f st knows k safe =
    h f.runs st knows (λ flow st'. q flow st' k) (λ later g flow known st' knows'. each later g.grows flow known (later_then s s' later (held ∷ s.held) f g) st' knows' k safe)

pub searches_within : (s : Shown) (held : Holding) (s' : Shown) (n : List ℕ) (path : List Value) (q : Option Found → Piece)
    → ((later : Shown) → Grows s' later → (answer : Option Found) → IsNamed n answer → WithinAt s held later (q answer))
    → WithinAt s held s' (λ st k. searches_in (searches n path []) (λ answer. q answer st k))
searches_within s held s' n path q each f st knows k safe =
    search_safe s' n path (λ answer. q answer st k) f.runs
    (λ later g answer named. each later g.grows answer named (later_then s s' later (held ∷ s.held) f g) st (state_grows s' later g.grows st knows) k safe)

-- the lock that a thread waited for is free, and it goes on
pub waits_safe : (s : Shown) (all : List Holding) (s' : Shown) (event : Event) (l : List ℕ) (again : Piece) → Later s s' all → holds event (r.Wait l) all ≡ all
    → does event (r.Wait l) s'.doing ≡ Waiting → (st : State) → Knows s' st → (k : Onward)
    → ((later : Shown) → Grows s' later → Later s later all → (st' : State) → Knows later st' → Safe later (again st' k))
    → Safe (shown_more s' (event, r.Wait l)) (Makes e.Wake (λ _. again st k))
waits_safe s all s' event l again f same waits st knows k safe = (
  waits,
  λ answer. let next : Shown = shown_more s' (event, r.Wait l) in
      let woken : Shown = shown_more next (e.Wake, answer) in
      let g : Grows s' woken = grows_then s' next woken (grows_more s' event (r.Wait l)) (grows_more next e.Wake answer) in
      safe woken g (record { grows = grows_then s s' woken f.grows g; held_is = ap (holds event (r.Wait l)) f.held_is ∙ same; runs = refl }) st (state_grows s' woken g st knows),
)

-- one more pair, after which as much is held, and a piece that is safe then
pub after : (s : Shown) → s.doing ≡ Running → (st : State) → Knows s st → (k : Onward) → SafeOn s k → (event : Event) (reply : Reply) (p : Piece)
    → holds event reply s.held ≡ s.held → does event reply s.doing ≡ Running → SafeAt (shown_more s (event, reply)) p → Safe (shown_more s (event, reply)) (p st k)
after s run st knows k safe event reply p same runs h =
    let next : Shown = shown_more s (event, reply) in
    h runs st (state_grows s next (grows_more s event reply) st knows) k (on_later s next k (fits_more s event reply run same runs) safe)

-- the same where the thread waited
pub again_after : (s : Shown) → s.doing ≡ Running → (st : State) → Knows s st → (k : Onward) → SafeOn s k → (event : Event) (l : List ℕ) (again : Piece)
    → ((later : Shown) → Grows s later → SafeAt later again) → holds event (r.Wait l) s.held ≡ s.held → does event (r.Wait l) s.doing ≡ Waiting
    → Safe (shown_more s (event, r.Wait l)) (Makes e.Wake (λ _. again st k))
again_after s run st knows k safe event l again more same waits =
    waits_safe s s.held s event l again (fits_refl s run) same waits st knows k (λ later g f st' knows'. more later g f.runs st' knows' k (on_later s later k f safe))
