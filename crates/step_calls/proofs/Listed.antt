-- Arguments in whose place lists come.
use Rattle.std.proofs.Common.{◌≡◌, ◌∙◌, ◌<◌, ◌≤◌, ◌+◌, refl, sym, ap, arith, ℕ, suc, List, [], ◌∷◌, length, slice_get, slice_set, slice_index_or, subst, Option, Some, None, Bool, true, false, if◌then◌else◌, not, Result, Ok, Err, IfOk}
use Rattle.std.specs.Prelude.{cond, nat_lt}
use Rattle.std.specs.Option.{option_map}
use Rattle.std.specs.List.{prefix_len}
use Rattle.std.proofs.lemmas.Bool.{false≢true, lt-ltb, le-ltb, ltb-true, ltb-false}
use Rattle.std.proofs.lemmas.Option.{slice_get_read}
use Rattle.py_value.specs.declared.kind.Native.{Native}
use Rattle.py_value.specs.declared.value.Value.{Value, out-Value, out-roll-Value}
use Rattle.py_value.specs.declared.value.Value.TheVariants as values
use Rattle.py_value.specs.declared.value.Value.TheVariants.{rolls-List, rolls-Native}
use Rattle.py_value.specs.declared.value.Value.TheOpen.{Value-F}
use Rattle.machine_events.specs.declared.event.Event.TheVariants as e
use Rattle.machine_events.specs.declared.event.Reply.{Reply}
use Rattle.machine_events.specs.declared.event.Reply.TheVariants as r
use Rattle.meaning_state.specs.declared.thread.Thread.{Thread}
use Rattle.meaning_script.specs.Pieces.{Piece, calls, as_list, lists_at, listed, all_listed}
use Rattle.meaning_script.specs.Calls.{calls_native}
use Rattle.meaning_script.specs.Meaning.{World, functions_at, calls_at, calls_value}
use Rattle.py_frames.specs.Listing.{is_listed_at, is_listed, first_listed}
use Rattle.step_calls.specs.Around.{loading_at}
use Rattle.py_frames.specs.Does.{Does, pieces}
use Rattle.py_frames.specs.declared.want.Want.{Want}
use Rattle.py_frames.proofs.Options.{some_same}

unlisted_at : (v : Value) (d : Value-F Value) (go : Value → Piece) → is_listed_at d ≡ false → lists_at v d go ≡ go v
unlisted_at v Value-F.SysPath go other = absurd (false≢true (sym other))
unlisted_at v Value-F.SysModules go other = absurd (false≢true (sym other))
unlisted_at v d go other = refl

-- a value in whose place no list comes is itself the operand
unlisted : (v : Value) (go : Value → Piece) → is_listed v ≡ false → listed v go ≡ go v
unlisted v go other = unlisted_at v (out-Value v) go other

list_layer : (items : List Value) → out-Value (values.List items) ≡ Value-F.List items
list_layer items = ap out-Value (sym (rolls-List items)) ∙ out-roll-Value (Value-F.List items)

-- nor in the place of a list
list_is_itself : (items : List Value) (go : Value → Piece) → listed (values.List items) go ≡ go (values.List items)
list_is_itself items go = unlisted (values.List items) go (ap is_listed_at (list_layer items))

as_list_again : (go : Value → Piece) (reply : Reply) → as_list (λ u. listed u go) reply ≡ as_list go reply
as_list_again go (r.Path items) = list_is_itself items go
as_list_again go reply = refl

listed_again_at : (v : Value) (d : Value-F Value) (go : Value → Piece) → is_listed_at d ≡ true → lists_at v d (λ u. listed u go) ≡ lists_at v d go
listed_again_at v Value-F.SysPath go is = λ i s k. calls e.PathGet (λ reply. as_list_again go reply i s k)
listed_again_at v Value-F.SysModules go is = refl
listed_again_at v d go is = absurd (false≢true is)

-- what comes in its place is itself an operand
listed_again : (v : Value) (go : Value → Piece) → is_listed v ≡ true → listed v (λ u. listed u go) ≡ listed v go
listed_again v go is = listed_again_at v (out-Value v) go is

-- ---- several arguments

-- the place of the first one among one more
placed_by : (place count : ℕ) (within : Bool) → nat_lt place count ≡ within
    → cond (nat_lt (1 + place) (suc count)) (Some (1 + place)) None ≡ option_map suc (cond (nat_lt place count) (Some place) None)
placed_by place count true h =
    let low : place < count = ltb-true place count h in
    let next : nat_lt (1 + place) (suc count) ≡ true = lt-ltb (1 + place) (suc count) (omega arith) in
    let same : 1 + place ≡ suc place = omega arith in
    rw (next, h) (ap Some same)
placed_by place count false h =
    let high : count ≤ place = ltb-false place count h in
    let next : nat_lt (1 + place) (suc count) ≡ false = le-ltb (1 + place) (suc count) (omega arith) in
    rw (next, h) refl

placed : (b : Bool) (place count : ℕ)
    → cond (nat_lt (cond (not b) (1 + place) 0) (suc count)) (Some (cond (not b) (1 + place) 0)) None
    ≡ (if b then Some 0 else option_map suc (cond (nat_lt place count) (Some place) None))
placed true place count = let within : nat_lt 0 (suc count) ≡ true = lt-ltb 0 (suc count) (omega arith) in rw within
placed false place count = placed_by place count (nat_lt place count) refl

next_first : (v : Value) (vs : List Value) → first_listed (v ∷ vs) ≡ (if is_listed v then Some 0 else option_map suc (first_listed vs))
next_first v vs = placed (is_listed v) (prefix_len (λ u. not (is_listed u)) vs) (length vs)

none_first : (v : Value) (vs : List Value) (b : Bool) (o : Option ℕ) → is_listed v ≡ b → first_listed vs ≡ o
    → (if b then Some 0 else option_map suc o) ≡ None → (is_listed v ≡ false) × (first_listed vs ≡ None)
none_first v vs true o is rest none = cc
none_first v vs false None is rest none = (is, rest)
none_first v vs false (Some at) is rest none = cc

-- where no list comes in the place of any, they are the operands
pub all_unlisted : (vs : List Value) (go : List Value → Piece) → None ≡ first_listed vs → all_listed vs go ≡ go vs
all_unlisted [] go none = refl
all_unlisted (v ∷ vs) go none =
    let both = none_first v vs (is_listed v) (first_listed vs) refl refl (sym (next_first v vs) ∙ sym none) in
    unlisted v (λ u. all_listed vs (λ us. go (u ∷ us))) both.0 ∙ all_unlisted vs (λ us. go (v ∷ us)) (sym both.1)

-- at the place of the first one in whose place a list comes
pub record At (vs : List Value) (at : ℕ) : Type 0 where
  pub within : at < length vs
  pub is : (v : Value) → slice_get vs at ≡ Some v → is_listed v ≡ true
  pub again : (v : Value) (go : List Value → Piece) → slice_get vs at ≡ Some v → listed v (λ u. all_listed (slice_set vs at u) go) ≡ all_listed vs go

first_here : (v : Value) (vs : List Value) → is_listed v ≡ true → At (v ∷ vs) 0
first_here v vs is =
    record {
      within = omega arith;
      is = λ u got. ap is_listed (some_same (sym got)) ∙ is;
      again = λ u go got.
          ap (λ x. listed x (λ u. all_listed (u ∷ vs) go)) (some_same (sym got)) ∙ listed_again v (λ u. all_listed vs (λ us. go (u ∷ us))) is;
    }

first_behind : (v : Value) (vs : List Value) (at : ℕ) → is_listed v ≡ false → At vs at → At (v ∷ vs) (suc at)
first_behind v vs at other behind =
    record {
      within = omega (arith, behind.within);
      is = behind.is;
      again = λ u go got.
          let head : (x : Value) → all_listed (v ∷ slice_set vs at x) go ≡ all_listed (slice_set vs at x) (λ us. go (v ∷ us)) = λ x. unlisted v (λ y. all_listed (slice_set vs at x) (λ us. go (y ∷ us))) other in
          ap (listed u) (λ i x. head x i)
          ∙ behind.again u (λ us. go (v ∷ us)) got
          ∙ sym (unlisted v (λ y. all_listed vs (λ us. go (y ∷ us))) other);
    }

-- the first of a list with a head
first_of : (v : Value) (vs : List Value) (b : Bool) (o : Option ℕ) (at : ℕ) → is_listed v ≡ b → first_listed vs ≡ o
    → (if b then Some 0 else option_map suc o) ≡ Some at → ((n : ℕ) → first_listed vs ≡ Some n → At vs n) → At (v ∷ vs) at
first_of v vs true o at is rest first others = rw (some_same (sym first)) (first_here v vs is)
first_of v vs false None at is rest first others = cc
first_of v vs false (Some n) at is rest first others = rw (some_same (sym first)) (first_behind v vs n is (others n rest))

pub first_at : (vs : List Value) (at : ℕ) → first_listed vs ≡ Some at → At vs at
first_at [] at first = cc
first_at (v ∷ vs) at first = first_of v vs (is_listed v) (first_listed vs) at refl refl (sym (next_first v vs) ∙ first) (λ n. first_at vs n)

pub first_within : (vs : List Value) (at : ℕ) → first_listed vs ≡ Some at → at < length vs
first_within vs at first = let it = first_at vs at first in it.within

pub first_is_listed : (vs : List Value) (at : ℕ) (v : Value) → first_listed vs ≡ Some at → slice_get vs at ≡ Some v → is_listed v ≡ true
first_is_listed vs at v first got = let it = first_at vs at first in it.is v got

-- a call that is done again
pub some_listed : {E : Type 0} (th : Thread) (vs : List Value) (at : ℕ) (v : Value) (again : World → ℕ → Value → Piece)
    (go : List Value → Piece) (result : Result Want E)
    → first_listed vs ≡ Some at → slice_get vs at ≡ Some v
    → ((w : World) (d : ℕ) (u : Value) → again w d u ≡ all_listed (slice_set vs at u) go)
    → IfOk result (Does th (pieces (λ w d. listed v (again w d)) th))
    → IfOk result (Does th (pieces (λ w d. all_listed vs go) th))
some_listed th vs at v again go (Ok wanted) first got same h =
    record {
      does = λ w next.
          let it : At vs at = first_at vs at first in
          let all : listed v (again w th.left) ≡ all_listed vs go = (λ i. listed v (λ u. same w th.left u i)) ∙ it.again v go got in
          h.does w next ∙ ap (λ (p : Piece). p th.state (next th.left)) all;
    }
some_listed th vs at v again go (Err x) first got same h = tt

-- the value at the place of the first one
pub got_at : (vs seen : List Value) (at : ℕ) (there v : Value) → seen ≡ vs → there ≡ slice_index_or seen at there → v ≡ there
    → first_listed vs ≡ Some at → slice_get vs at ≡ Some v
got_at vs seen at there v same is copied first =
    let read : v ≡ slice_index_or vs at v = cc in
    slice_get_read vs (length vs) at v refl (first_within vs at first) read

-- ---- what is called

-- the only argument of a call that is done again
pub called_again : {E : Type 0} (th : Thread) (callee v x : Value) (arguments : List Value) (result : Result Want E) → arguments ≡ x ∷ []
    → IfOk result (Does th (pieces (λ w d. listed v (λ u. calls_at w d callee (slice_set arguments 0 u))) th))
    → IfOk result (Does th (pieces (λ w d. listed v (λ u. calls_at w d callee (u ∷ []))) th))
called_again th callee v x arguments result is h =
    subst (λ vs. IfOk result (Does th (pieces (λ w d. listed v (λ u. calls_at w d callee (slice_set vs 0 u))) th))) is h

native_layer : (n : Native) → out-Value (values.Native n) ≡ Value-F.Native n
native_layer n = ap out-Value (sym (rolls-Native n)) ∙ out-roll-Value (Value-F.Native n)

pub native_called : (w : World) (d : ℕ) (n : Native) (vs : List Value) → calls_at w d (values.Native n) vs ≡ calls_native (loading_at w d) n vs
native_called w d n vs = ap (λ f. calls_value (functions_at w d) (loading_at w d) (values.Native n) f vs) (native_layer n)
