-- Turns that see neither a port nor a tree, one after another.
use Rattle.std.proofs.Common.{◌≡◌, ℕ, List, ◌∷◌, Bool, true, false, Option, Result, Ok, IfOk, refl, subst, sym}
use Rattle.std.proofs.lemmas.Result.{IfOk-weaker}
use Rattle.base_types.specs.declared.no_memory.NoMemory.{NoMemory}
use Rattle.tree_files.specs.Files.{Files}
use Rattle.machine_events.specs.declared.event.Event.{Event}
use Rattle.machine_events.specs.declared.event.Reply.{Reply}
use Rattle.machine_events.specs.declared.event.Reply.TheVariants as kinds
use Rattle.machine_shown.specs.Shown.{is_namespace_path}
use Rattle.py_value.specs.declared.value.ModRef.{ModRef}
use Rattle.py_value.specs.declared.value.Value.{Value}
use Rattle.meaning_runs.specs.Runs.{Run}
use Rattle.meaning_runs.specs.Costs.{after_reply}
use Rattle.meaning_state.specs.declared.flow.Flow.{Flow}
use Rattle.meaning_state.specs.declared.flow.Flow.TheVariants.{Went}
use Rattle.meaning_state.specs.declared.thread.State.{State}
use Rattle.meaning_state.specs.declared.thread.Thread.{Thread}
use Rattle.step_calls.specs.Sources.{sources}
use Rattle.py_frames.specs.Does.{DoesIn, rest, replies, frame_does}
use Rattle.py_frames.specs.declared.replies.OnReply.{OnReply}
use Rattle.py_frames.specs.declared.replies.OnReply.TheVariants as on
use Rattle.py_frames.specs.declared.want.Want.{Want}
use Rattle.py_frames.specs.declared.want.Want.TheVariants as want
use Rattle.py_frames.specs.declared.work.Frame.{Frame}
use Rattle.py_frames.specs.declared.work.Item.{Item}
use Rattle.drive_account.specs.At.{At}
use Rattle.drive_account.specs.declared.port.Halt.{Halt}
use Rattle.drive_straight.specs.Remains.{Due, Moves, begins, due, goes_on}
use Rattle.drive_straight.specs.declared.next.Next.{Next}
use Rattle.py_run.specs.Turns.{Stepped, Wants, remains, replied_at}
use Rattle.drive_straight.specs.declared.execution.Execution.{Execution}
use Rattle.py_run.specs.declared.turns.Turn.{Turn}
use Rattle.py_run.specs.declared.turns.Turn.TheVariants as turn
use Rattle.drive_account.specs.declared.payments.Budget.{Budget}

-- the same of what a step wants next
abbrev pub LeadsOn : Budget → Run → Execution → Result Want NoMemory → Type 0
LeadsOn budget run c r = IfOk r (λ next. Moves budget run c next)

pub wanted : (budget : Budget) (run : Run) (c : Execution) (w w' : Want) → w ≡ w' → Moves budget run c w → Moves budget run c w'
wanted budget run c w w' is moves = subst (λ (w : Want). Moves budget run c w) is moves

-- what was due is done as far as it can be
pub leads_by : (budget : Budget) (run : Run) (c mid after : Execution) (w : Want) (was : Due) (r r' : Result Want NoMemory) → Moves budget run c w
    → ((files : Option Files) (whole : Run) (fuel : ℕ) (mine : List (Event × Reply)) → At files whole fuel mine c.budget (remains c w) → At files whole fuel mine mid.budget (was mid))
    → r ≡ r' → Wants mid was after r' → LeadsOn budget run after r
leads_by budget run c mid after w was r r' moves due is wants =
    rw is (IfOk-weaker r' _ _ (λ w' on. λ files whole fuel mine a. on files whole fuel mine (due files whole fuel mine (moves files whole fuel mine a))) wants)

-- a way on comes to a frame that was taken off
pub comes_on : (c : Execution) (flow : Flow) (frame : Frame) (frames : List Frame) → ((d : ℕ) (s : State) → rest sources c.work d flow s ≡ frame_does sources d frame (rest sources frames) flow s)
    → (files : Option Files) (whole : Run) (fuel : ℕ) (mine : List (Event × Reply)) → At files whole fuel mine c.budget (remains c (want.Go flow))
    → At files whole fuel mine c.budget (goes_on frame flow (record { budget = c.budget; held = c.held; thread = c.thread; work = frames }))
comes_on c flow frame frames comes files whole fuel mine a = subst (λ (r : Run). At files whole fuel mine c.budget r) (comes c.thread.left c.thread.state) a

-- the same of one whose cost is paid, where it leads to what is wanted
pub replied_on : (old after : Execution) (on : OnReply) (reply : Reply) (thread : Thread) (r : Result Want NoMemory) (w : Want)
    → after ≡ record { budget = old.budget; held = old.held; thread = thread; work = old.work } → r ≡ Ok w
    → IfOk r (DoesIn sources thread (replies on reply old.thread sources)) → Moves old.budget (replied_at on reply old) after w
replied_on old after on reply thread r w is came does files whole fuel mine a =
    let done : DoesIn sources thread (replies on reply old.thread sources) w = subst (λ (r : Result Want NoMemory). IfOk r (DoesIn sources thread (replies on reply old.thread sources))) came does in
    rw is (subst (λ (run : Run). At files whole fuel mine old.budget run) (sym (done.does (rest sources old.work))) a)

-- a frame that was put first waits for the item
pub begins_pushed : (c : Execution) (frames : List Frame) (item : Item) (frame : Frame) → frames ≡ frame ∷ c.work
    → (files : Option Files) (whole : Run) (fuel : ℕ) (mine : List (Event × Reply)) → At files whole fuel mine c.budget (remains c (want.Both item frame))
    → At files whole fuel mine c.budget (begins item (record { budget = c.budget; held = c.held; thread = c.thread; work = frames }))
begins_pushed c frames item frame is files whole fuel mine a = rw is a

-- the turn that leads elsewhere
pub comes_to : (budget : Budget) (run : Run) (c c' : Execution) (w : Want) (t : Turn) → Moves budget run c w → Stepped c.budget c' (remains c w) t → Stepped budget c' run t
comes_to budget run c c' w t moves step files faults mine = record {
  moves = λ whole fuel a. (step files faults mine).moves whole fuel (moves files whole fuel mine a);
  counts = (step files faults mine).counts;
}

-- what comes next is handed on
pub hands_next : (budget : Budget) (run : Run) (c : Execution) (next : Next)
    → ((files : Option Files) (whole : Run) (fuel : ℕ) (mine : List (Event × Reply)) → At files whole fuel mine budget run → At files whole fuel mine c.budget (due next c)) → Stepped budget c run (turn.On next)
hands_next budget run c next moves files faults mine = record {
  moves = λ whole fuel a. moves files whole fuel mine a;
  counts = refl;
}

-- the same turn from a run in other words
pub stepped_as : (budget : Budget) (after : Execution) (t : Turn) (run run' : Run) → run ≡ run' → Stepped budget after run' t → Stepped budget after run t
stepped_as budget after t run run' is step = subst (λ (run : Run). Stepped budget after run t) (sym is) step

-- the turn behind a payment for the reply
pub followed : (old new : Execution) (paid : Budget) (on on' : OnReply) (reply reply' : Reply) (r : Result Turn Halt) → on ≡ on' → reply ≡ reply'
    → ((files : Option Files) (whole : Run) (fuel : ℕ) (mine : List (Event × Reply)) (next : Run) → At files whole fuel mine old.budget (after_reply reply next) → At files whole fuel mine paid next)
    → IfOk r (Stepped paid new (replied_at on' reply' old)) → IfOk r (Stepped old.budget new (remains old (want.Replied on reply)))
followed old new paid on on' reply reply' r is same pays = IfOk-weaker r _ _ (λ t step files faults mine. record {
  moves = λ whole fuel a.
      (step files faults mine).moves whole fuel
      (subst (λ (o : OnReply). At files whole fuel mine paid (replied_at o reply' old)) is
      (subst (λ (p : Reply). At files whole fuel mine paid (replied_at on p old)) same (pays files whole fuel mine (replied_at on reply old) a)));
  counts = (step files faults mine).counts;
})

-- a variable of the module has a value that is no path of a namespace
pub global_came : (c : Execution) (x : List ℕ) (v : Value) → is_namespace_path v ≡ false → replied_at (on.Global x) (kinds.Value v) c ≡ remains c (want.Go (Went v))
global_came c x v plain = rw plain refl

-- and so has an attribute
pub member_came : (c : Execution) (m : ModRef) (x : List ℕ) (raw : Bool) (v : Value) → is_namespace_path v ≡ false → replied_at (on.Member m x raw) (kinds.Value v) c ≡ remains c (want.Go (Went v))
member_came c m x true v plain = rw plain refl
member_came c m x false v plain = rw plain refl
