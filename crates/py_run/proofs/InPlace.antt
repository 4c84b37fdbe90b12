-- What is done in place, one piece behind the other.
use Rattle.std.proofs.Common.{◌≡◌, ℕ, List, [], ◌∷◌, Option, Result, IfOk, ap, subst, sym}
use Rattle.std.proofs.lemmas.Result.{IfOk-weaker}
use Rattle.base_types.specs.declared.no_memory.NoMemory.{NoMemory}
use Rattle.tree_files.specs.Files.{Files}
use Rattle.machine_events.specs.declared.event.Event.{Event}
use Rattle.machine_events.specs.declared.event.Reply.{Reply}
use Rattle.meaning_runs.specs.Runs.{Run}
use Rattle.py_value.specs.declared.value.Value.{Value}
use Rattle.meaning_state.specs.declared.flow.Flow.{Flow}
use Rattle.meaning_state.specs.declared.flow.Flow.TheVariants.{Went}
use Rattle.meaning_state.specs.declared.thread.State.{State}
use Rattle.meaning_script.specs.Meaning.{ends}
use Rattle.step_calls.specs.Sources.{sources}
use Rattle.py_frames.specs.Does.{frame_does, rest}
use Rattle.py_frames.specs.declared.want.Want.{Want}
use Rattle.py_frames.specs.declared.want.Want.TheVariants as want
use Rattle.py_frames.specs.declared.work.Frame.{Frame}
use Rattle.drive_account.specs.At.{At}
use Rattle.drive_account.specs.declared.port.Halt.{Halt}
use Rattle.drive_account.specs.declared.payments.Budget.{Budget}
use Rattle.drive_straight.specs.Remains.{Due, Leads, LeadsTo, due, remains}
use Rattle.drive_straight.specs.declared.execution.Execution.{Execution}
use Rattle.drive_straight.specs.declared.next.Next.{Next}
use Rattle.drive_straight.specs.declared.next.Next.TheVariants as nexts
use Rattle.py_run.specs.Turns.{Stepped}
use Rattle.py_run.specs.declared.turns.Turn.{Turn}

-- whatever script stood at the first run stands at the other
abbrev pub Reaches : Budget → Run → Budget → Run → Type 0
Reaches p run q next = (files : Option Files) (whole : Run) (fuel : ℕ) (mine : List (Event × Reply)) → At files whole fuel mine p run → At files whole fuel mine q next

-- what comes next is known
pub known : (old c : Execution) (was : Due) (next next' : Next) → next ≡ next' → LeadsTo old was c next → Reaches old.budget (was old) c.budget (due next' c)
known old c was next next' is leads = subst (λ (n : Next). LeadsTo old was c n) is leads

-- what is wanted is known
pub known_want : (old c : Execution) (was : Run) (w w' : Want) → w ≡ w' → Reaches old.budget was c.budget (remains c w) → Reaches old.budget was c.budget (remains c w')
known_want old c was w w' is moves = subst (λ (w : Want). Reaches old.budget was c.budget (remains c w)) is moves

-- what comes next behind a way that was gone
pub led_behind : (old mid new : Execution) (was between : Due) (r : Result Next NoMemory) → Reaches old.budget (was old) mid.budget (between mid) → Leads mid between new r → Leads old was new r
led_behind old mid new was between r first = IfOk-weaker r _ _ (λ next second files whole fuel mine a. second files whole fuel mine (first files whole fuel mine a))

pub led_by : (old mid new : Execution) (was between : Due) (r r' : Result Next NoMemory) → Reaches old.budget (was old) mid.budget (between mid) → r ≡ r' → Leads mid between new r' → Leads old was new r
led_by old mid new was between r r' first is leads = subst (λ (r : Result Next NoMemory). Leads old was new r) (sym is) (led_behind old mid new was between r' first leads)

-- what is wanted is handed on
pub led_wanted : (old c : Execution) (was : Due) (w : Want) (r : Result Next NoMemory) → Reaches old.budget (was old) c.budget (remains c w) → (IfOk r (λ next. next ≡ nexts.Wanted w)) → Leads old was c r
led_wanted old c was w r first = IfOk-weaker r _ _ (λ next is files whole fuel mine a. subst (λ (n : Next). At files whole fuel mine c.budget (due n c)) (sym is) (first files whole fuel mine a))

-- a way on comes where no frame is left
pub over_here : (c : Execution) (flow : Flow) (frames : List Frame) → ((d : ℕ) (s : State) → rest sources c.work d flow s ≡ ends flow s) → frames ≡ []
    → Reaches c.budget (remains c (want.Go flow)) c.budget (remains (record { budget = c.budget; held = c.held; thread = c.thread; work = frames }) (want.Go flow))
over_here c flow frames comes none files whole fuel mine a =
    rw none (subst (λ (run : Run). At files whole fuel mine c.budget run) (comes c.thread.left c.thread.state) a)

-- a value comes to the first frame
pub came_to : (c : Execution) (v : Value) (f : Frame) (frames : List Frame) → c.work ≡ f ∷ frames → (d : ℕ) (s : State) → rest sources c.work d (Went v) s ≡ frame_does sources d f (rest sources frames) (Went v) s
came_to c v f frames is d s = ap (λ (fs : List Frame). rest sources fs d (Went v) s) is

-- a turn behind a way that was gone
pub stepped_behind : (budget : Budget) (run between : Run) (mid after : Execution) (r : Result Turn Halt) → Reaches budget run mid.budget between → (IfOk r (λ t. Stepped mid.budget after between t)) → IfOk r (λ t. Stepped budget after run t)
stepped_behind budget run between mid after r first = IfOk-weaker r _ _ (λ t step files faults mine. record {
  moves = λ whole fuel a. (step files faults mine).moves whole fuel (first files whole fuel mine a);
  counts = (step files faults mine).counts;
})
