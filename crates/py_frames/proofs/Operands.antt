-- Operands in whose place a list comes, or that are none.
use Rattle.std.proofs.Common.{◌≡◌, ◌∙◌, ◌<◌, ◌≤◌, ◌+◌, refl, sym, ap, arith, ℕ, zero, suc, List, [], ◌∷◌, length, slice_get, slice_set, Option, Some, None, Bool, true, false, if◌then◌else◌, not}
use Rattle.std.specs.Prelude.{cond, nat_lt}
use Rattle.std.specs.Option.{option_map}
use Rattle.std.specs.List.{prefix_len}
use Rattle.std.proofs.lemmas.Bool.{false≢true, lt-ltb, le-ltb, ltb-true, ltb-false}
use Rattle.py_value.specs.declared.value.Value.{Value, out-Value, out-roll-Value}
use Rattle.py_value.specs.declared.value.Value.TheVariants as values
use Rattle.py_value.specs.declared.value.Value.TheVariants.{rolls-List}
use Rattle.py_value.specs.declared.value.Value.TheOpen.{Value-F}
use Rattle.machine_events.specs.declared.event.Event.TheVariants as e
use Rattle.machine_events.specs.declared.event.Reply.{Reply}
use Rattle.machine_events.specs.declared.event.Reply.TheVariants as r
use Rattle.meaning_state.specs.declared.fault.Fault.TheVariants as fault
use Rattle.meaning_state.specs.Faults.{error_of}
use Rattle.meaning_state.specs.declared.flow.Leave.{Leave}
use Rattle.meaning_state.specs.declared.flow.Leave.TheVariants.{Raised}
use Rattle.meaning_state.specs.declared.flow.Flow.TheVariants.{Left}
use Rattle.meaning_state.specs.declared.thread.State.{State}
use Rattle.meaning_script.specs.Pieces.{Piece, Onward, calls, as_list, lists_at, listed, all_listed}
use Rattle.py_frames.specs.Listing.{is_listed_at, is_listed, first_listed}

-- ---- a value in whose place no list comes

list_layer : (items : List Value) → out-Value (values.List items) ≡ Value-F.List items
list_layer items = ap out-Value (sym (rolls-List items)) ∙ out-roll-Value (Value-F.List items)

unlisted_at : (v : Value) (d : Value-F Value) (go : Value → Piece) → is_listed_at d ≡ false → lists_at v d go ≡ go v
unlisted_at v Value-F.SysPath go h = absurd (false≢true (sym h))
unlisted_at v Value-F.SysModules go h = absurd (false≢true (sym h))
unlisted_at v d go h = refl

-- it is itself the operand
pub unlisted : (v : Value) (go : Value → Piece) → is_listed v ≡ false → listed v go ≡ go v
unlisted v go h = unlisted_at v (out-Value v) go h

-- a list is itself an operand
pub list_is_itself : (items : List Value) (go : Value → Piece) → listed (values.List items) go ≡ go (values.List items)
list_is_itself items go = unlisted (values.List items) go (ap is_listed_at (list_layer items))

-- ---- a value in whose place a list comes

as_list_with : (f g : Value → Piece) (s : State) (k l : Onward)
    → ((items : List Value) → f (values.List items) s k ≡ g (values.List items) s l)
    → ((leave : Leave) → k (Left leave) s ≡ l (Left leave) s)
    → (reply : Reply) → as_list f reply s k ≡ as_list g reply s l
as_list_with f g s k l same leaves (r.Path items) = same items
as_list_with f g s k l same leaves reply = leaves (Raised (error_of fault.NotInProfile))

listed_with_at : (v : Value) (d : Value-F Value) (f g : Value → Piece) (s : State) (k l : Onward) → is_listed_at d ≡ true
    → ((items : List Value) → f (values.List items) s k ≡ g (values.List items) s l)
    → ((leave : Leave) → k (Left leave) s ≡ l (Left leave) s)
    → lists_at v d f s k ≡ lists_at v d g s l
listed_with_at v Value-F.SysPath f g s k l h same leaves = λ i. calls e.PathGet (λ reply. as_list_with f g s k l same leaves reply i)
listed_with_at v Value-F.SysModules f g s k l h same leaves = leaves (Raised (error_of fault.NotInProfile))
listed_with_at v d f g s k l h same leaves = absurd (false≢true h)

-- two ways on that agree on each list, and ends that agree on each leave
pub listed_with : (v : Value) (f g : Value → Piece) (s : State) (k l : Onward) → is_listed v ≡ true
    → ((items : List Value) → f (values.List items) s k ≡ g (values.List items) s l)
    → ((leave : Leave) → k (Left leave) s ≡ l (Left leave) s)
    → listed v f s k ≡ listed v g s l
listed_with v f g s k l h same leaves = listed_with_at v (out-Value v) f g s k l h same leaves

-- two ways on that agree on each list
pub listed_same : (v : Value) (f g : Value → Piece) → is_listed v ≡ true
    → ((items : List Value) → f (values.List items) ≡ g (values.List items))
    → listed v f ≡ listed v g
listed_same v f g h same = λ i s k. listed_with v f g s k k h (λ items j. same items j s k) (λ leave. refl) i

-- ---- several operands

-- the place of the first one among one more
placed_by : (place count : ℕ) (within : Bool) → nat_lt place count ≡ within
    → cond (nat_lt (1 + place) (suc count)) (Some (1 + place)) None ≡ option_map suc (cond (nat_lt place count) (Some place) None)
placed_by place count true h =
    let low : place < count = ltb-true place count h in
    let next : nat_lt (1 + place) (suc count) ≡ true = lt-ltb (1 + place) (suc count) (omega arith) in
    let same : 1 + place ≡ suc place = omega arith in
    rw (next, h) (ap Some same)
placed_by place count false h =
    let high : count ≤ place = ltb-false place count h in
    let next : nat_lt (1 + place) (suc count) ≡ false = le-ltb (1 + place) (suc count) (omega arith) in
    rw (next, h) refl

placed : (b : Bool) (place count : ℕ)
    → cond (nat_lt (cond (not b) (1 + place) 0) (suc count)) (Some (cond (not b) (1 + place) 0)) None
    ≡ (if b then Some 0 else option_map suc (cond (nat_lt place count) (Some place) None))
placed true place count = let within : nat_lt 0 (suc count) ≡ true = lt-ltb 0 (suc count) (omega arith) in rw within
placed false place count = placed_by place count (nat_lt place count) refl

next_first : (x : Value) (vs : List Value) → first_listed (x ∷ vs) ≡ (if is_listed x then Some 0 else option_map suc (first_listed vs))
next_first x vs = placed (is_listed x) (prefix_len (λ v. not (is_listed v)) vs) (length vs)

unlisted_first : (v : Value) (vs : List Value) (b : Bool) (o : Option ℕ) → is_listed v ≡ b → first_listed vs ≡ o
    → (if b then Some 0 else option_map suc o) ≡ None → (is_listed v ≡ false) × (first_listed vs ≡ None)
unlisted_first v vs true o h g n = cc
unlisted_first v vs false None h g n = (h, g)
unlisted_first v vs false (Some at) h g n = cc

-- where no list comes in the place of any, they are the operands
pub all_unlisted : (vs : List Value) (go : List Value → Piece) → first_listed vs ≡ None → all_listed vs go ≡ go vs
all_unlisted [] go h = refl
all_unlisted (v ∷ vs) go h =
    let both = unlisted_first v vs (is_listed v) (first_listed vs) refl refl (sym (next_first v vs) ∙ h) in
    unlisted v (λ u. all_listed vs (λ us. go (u ∷ us))) both.0 ∙ all_unlisted vs (λ us. go (v ∷ us)) both.1

-- the first one in whose place a list comes is the head of the operands, or stands behind it
here : (x : Value) (vs : List Value) (at : ℕ) (v : Value) (go : List Value → Piece) → is_listed x ≡ true
    → Some 0 ≡ Some at → slice_get (x ∷ vs) at ≡ Some v
    → listed v (λ u. all_listed (slice_set (x ∷ vs) at u) go) ≡ all_listed (x ∷ vs) go
here x vs zero v go h first got =
    let same : v ≡ x = cc in
    rw same (listed_same x (λ u. all_listed (u ∷ vs) go) (λ u. all_listed vs (λ us. go (u ∷ us))) h (λ items. list_is_itself items (λ u. all_listed vs (λ us. go (u ∷ us)))))
here x vs (suc at) v go h first got = cc

abbrev FirstIs : List Value → Type 0
FirstIs vs = (at : ℕ) (v : Value) (go : List Value → Piece) → first_listed vs ≡ Some at → slice_get vs at ≡ Some v
    → listed v (λ u. all_listed (slice_set vs at u) go) ≡ all_listed vs go

behind : (x : Value) (vs : List Value) (n at : ℕ) (v : Value) (go : List Value → Piece) → FirstIs vs → is_listed x ≡ false
    → first_listed vs ≡ Some n → Some (suc n) ≡ Some at → slice_get (x ∷ vs) at ≡ Some v
    → listed v (λ u. all_listed (slice_set (x ∷ vs) at u) go) ≡ all_listed (x ∷ vs) go
behind x vs n zero v go below h found first got = cc
behind x vs n (suc at) v go below h found first got =
    let same : first_listed vs ≡ Some at = cc in
    (λ i. listed v (λ u. unlisted x (λ y. all_listed (slice_set vs at u) (λ us. go (y ∷ us))) h i))
    ∙ below at v (λ us. go (x ∷ us)) same got
    ∙ sym (unlisted x (λ y. all_listed vs (λ us. go (y ∷ us))) h)

first_by : (x : Value) (vs : List Value) (b : Bool) (o : Option ℕ) → FirstIs vs → is_listed x ≡ b → first_listed vs ≡ o
    → (at : ℕ) (v : Value) (go : List Value → Piece) → (if b then Some 0 else option_map suc o) ≡ Some at → slice_get (x ∷ vs) at ≡ Some v
    → listed v (λ u. all_listed (slice_set (x ∷ vs) at u) go) ≡ all_listed (x ∷ vs) go
first_by x vs true o below h found at v go first got = here x vs at v go h first got
first_by x vs false None below h found at v go first got = cc
first_by x vs false (Some n) below h found at v go first got = behind x vs n at v go below h found first got

-- the list comes in the place of the first of them, and then in those of the others
pub all_first : (vs : List Value) (at : ℕ) (v : Value) (go : List Value → Piece) → first_listed vs ≡ Some at → slice_get vs at ≡ Some v
    → listed v (λ u. all_listed (slice_set vs at u) go) ≡ all_listed vs go
all_first [] at v go first got = cc
all_first (x ∷ vs) at v go first got = first_by x vs (is_listed x) (first_listed vs) (all_first vs) refl refl at v go (sym (next_first x vs) ∙ first) got

listed_by : (x : Value) (vs : List Value) (b : Bool) (o : Option ℕ)
    → ((at : ℕ) (v : Value) → first_listed vs ≡ Some at → slice_get vs at ≡ Some v → is_listed v ≡ true)
    → is_listed x ≡ b → first_listed vs ≡ o
    → (at : ℕ) (v : Value) → (if b then Some 0 else option_map suc o) ≡ Some at → slice_get (x ∷ vs) at ≡ Some v → is_listed v ≡ true
listed_by x vs true o below h found zero v first got = let same : x ≡ v = cc in ap is_listed (sym same) ∙ h
listed_by x vs true o below h found (suc at) v first got = cc
listed_by x vs false None below h found at v first got = cc
listed_by x vs false (Some n) below h found zero v first got = cc
listed_by x vs false (Some n) below h found (suc at) v first got = let same : first_listed vs ≡ Some at = cc in below at v same got

-- a list comes in its place, or it is none
pub first_is_listed : (vs : List Value) (at : ℕ) (v : Value) → first_listed vs ≡ Some at → slice_get vs at ≡ Some v → is_listed v ≡ true
first_is_listed [] at v first got = cc
first_is_listed (x ∷ vs) at v first got = listed_by x vs (is_listed x) (first_listed vs) (first_is_listed vs) refl refl at v (sym (next_first x vs) ∙ first) got

within_by : (x : Value) (vs : List Value) (b : Bool) (o : Option ℕ)
    → ((at : ℕ) → first_listed vs ≡ Some at → at < length vs)
    → first_listed vs ≡ o → (at : ℕ) → (if b then Some 0 else option_map suc o) ≡ Some at → at < length (x ∷ vs)
within_by x vs true o below found at first = let zeroth : 0 ≡ at = cc in omega arith
within_by x vs false None below found at first = cc
within_by x vs false (Some n) below found at first =
    let inner : n < length vs = below n found in
    let next : suc n ≡ at = cc in
    omega arith

-- its place is one of theirs
pub first_within : (vs : List Value) (at : ℕ) → first_listed vs ≡ Some at → at < length vs
first_within [] at first = cc
first_within (x ∷ vs) at first = within_by x vs (is_listed x) (first_listed vs) (first_within vs) refl at (sym (next_first x vs) ∙ first)
