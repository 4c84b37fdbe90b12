-- Which frame a way on comes to.
use Rattle.std.proofs.Common.{◌≡◌, ℕ, List, [], ◌∷◌, Option, Some, None, MatchOption, subst, sym, ◌∙◌, ap}
use Rattle.py_value.specs.declared.value.Value.{Value}
use Rattle.meaning_state.specs.declared.flow.Flow.{Flow}
use Rattle.meaning_state.specs.declared.flow.Flow.TheVariants.{Went, Left}
use Rattle.meaning_state.specs.declared.flow.Leave.{Leave}
use Rattle.meaning_state.specs.declared.thread.State.{State}
use Rattle.meaning_script.specs.Meaning.{ends}
use Rattle.step_calls.specs.Sources.{sources}
use Rattle.py_frames.specs.Does.{rest, frame_does}
use Rattle.py_frames.specs.Unwind.{unwound}
use Rattle.py_frames.proofs.Passing.{rest_unwound}
use Rattle.py_frames.specs.declared.work.Frame.{Frame}

-- what a way on comes to: the end, or a frame
abbrev pub Comes : Option Frame → List Frame → List Frame → Flow → Type 0
Comes o old new flow = MatchOption o ((d : ℕ) (s : State) → rest sources old d flow s ≡ ends flow s) (λ frame. (d : ℕ) (s : State) → rest sources old d flow s ≡ frame_does sources d frame (rest sources new) flow s)

pub left_comes : (o : Option Frame) (old new : List Frame) (leave : Leave) → MatchOption o ((unwound leave old ≡ []) × (new ≡ [])) (λ frame. unwound leave old ≡ frame ∷ new) → Comes o old new (Left leave)
left_comes None old new leave h = λ d s. sym (rest_unwound sources leave old d s) ∙ ap (λ (fs : List Frame). rest sources fs d (Left leave) s) h.0
left_comes (Some f) old new leave h = λ d s. sym (rest_unwound sources leave old d s) ∙ ap (λ (fs : List Frame). rest sources fs d (Left leave) s) h

pub went_comes : (o : Option Frame) (old new : List Frame) (v : Value) → MatchOption o ((old ≡ []) × (new ≡ [])) (λ frame. old ≡ frame ∷ new) → Comes o old new (Went v)
went_comes None old new v h = λ d s. ap (λ (fs : List Frame). rest sources fs d (Went v) s) h.0
went_comes (Some f) old new v h = λ d s. ap (λ (fs : List Frame). rest sources fs d (Went v) s) h

-- where it is known what that is
pub no_frame : (o : Option Frame) (old new : List Frame) (flow : Flow) → o ≡ None → Comes o old new flow → (d : ℕ) (s : State) → rest sources old d flow s ≡ ends flow s
no_frame o old new flow is comes = subst (λ (o : Option Frame). Comes o old new flow) is comes

pub a_frame : (o : Option Frame) (old new : List Frame) (flow : Flow) (f : Frame) → o ≡ Some f → Comes o old new flow → (d : ℕ) (s : State) → rest sources old d flow s ≡ frame_does sources d f (rest sources new) flow s
a_frame o old new flow f is comes = subst (λ (o : Option Frame). Comes o old new flow) is comes

pub comes_left : (o : Option Frame) (old new : List Frame) (flow : Flow) (leave : Leave) → flow ≡ Left leave → MatchOption o ((unwound leave old ≡ []) × (new ≡ [])) (λ frame. unwound leave old ≡ frame ∷ new) → Comes o old new flow
comes_left o old new flow leave is h = rw is (left_comes o old new leave h)

pub comes_went : (o : Option Frame) (old new : List Frame) (flow : Flow) (v : Value) → flow ≡ Went v → MatchOption o ((old ≡ []) × (new ≡ [])) (λ frame. old ≡ frame ∷ new) → Comes o old new flow
comes_went o old new flow v is h = rw is (went_comes o old new v h)
