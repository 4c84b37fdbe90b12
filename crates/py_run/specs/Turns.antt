-- What a turn of the driver does.
use Rattle.std.specs.Prelude.{◌≡◌, ℕ, List, Option, Some, None, Result, IfOk, false}
use Rattle.base_types.specs.declared.no_memory.NoMemory.{NoMemory}
use Rattle.tree_files.specs.Files.{Files}
use Rattle.tree_files.specs.Count.{Rose}
use Rattle.tree_files.specs.declared.tree.Stamp.{Stamp}
use Rattle.tree_files.specs.declared.tree.Stamp.TheVariants as stamps
use Rattle.machine_events.specs.declared.event.Event.{Event}
use Rattle.machine_events.specs.declared.event.Reply.{Reply}
use Rattle.machine_events.specs.declared.event.Reply.TheVariants as replies
use Rattle.machine_shown.specs.Shown.{is_namespace_path, shown}
use Rattle.meaning_runs.specs.Runs.{Run, Over, Ended, IsUnread, Safe}
use Rattle.drive_account.specs.View.{View}
use Rattle.drive_account.specs.declared.held.Held.{Held}
use Rattle.meaning_state.specs.declared.flow.Flow.{Flow}
use Rattle.meaning_state.specs.declared.flow.Flow.TheVariants.{Went}
use Rattle.py_value.specs.declared.value.Value.{Value}
use Rattle.py_value.specs.declared.value.Value.TheVariants as values
use Rattle.meaning_script.specs.Meaning.{outcome_of}
use Rattle.step_calls.specs.Sources.{sources}
use Rattle.py_frames.specs.Does.{rest, fed, reply_does}
use Rattle.py_frames.specs.declared.want.Want.{Want}
use Rattle.py_frames.specs.declared.want.Want.TheVariants as want
use Rattle.py_frames.specs.declared.replies.OnReply.{OnReply}
use Rattle.py_frames.specs.declared.procedures.Procedure.{Procedure}
use Rattle.find_load.specs.declared.words.In.{In}
use Rattle.drive_account.specs.Ending.{Holds}
use Rattle.drive_account.specs.At.{At, IsShort}
use Rattle.drive_straight.specs.declared.execution.Execution.{Execution}
use Rattle.drive_straight.specs.declared.next.Next.TheVariants as nexts
use Rattle.py_run.specs.declared.turns.Turn.{Turn}
use Rattle.py_run.specs.declared.turns.Turn.TheVariants as turn
use Rattle.drive_account.specs.declared.payments.Budget.{Budget}
pub use Rattle.drive_straight.specs.Remains.{remains}
use Rattle.drive_straight.specs.Remains.{Due, Moves, due}

-- what remains where a procedure is fed
abbrev pub feeds : Execution → Procedure → In → Run
feeds c p input = fed sources c.thread.left p input c.thread.state (rest sources c.work c.thread.left)

-- what comes of a reply whose cost is paid
abbrev pub replied_at : OnReply → Reply → Due
replied_at on reply c = reply_does sources c.thread.left on (rest sources c.work) c.thread.state reply

-- the value that a reply brings, where it brings one
abbrev pub brought : Reply → Value
brought (replies.Value v) = v
brought reply = values.Nothing

-- the reply brings a value that is no path of a namespace
pub record HasPlainValue (reply : Reply) : Type 0 where
  pub value : Value
  pub is : reply ≡ replies.Value value
  pub plain : is_namespace_path value ≡ false

-- such a reply brings its value, and nothing else is to be done
abbrev pub IsPlain : OnReply → Reply → Type 0
IsPlain on reply = (c : Execution) → replied_at on reply c ≡ remains c (want.Go (Went (brought reply)))

-- where no work is left
abbrev pub ended : Flow → Run
ended flow = Over (Ended (outcome_of flow))

-- where a turn leads
abbrev pub After : Option Files → Run → ℕ → List (Event × Reply) → Execution → Turn → Type 0
After files whole fuel mine c (turn.On next) = At files whole fuel mine c.budget (due next c)
After files whole fuel mine c (turn.Came flow) = At files whole fuel mine c.budget (ended flow)
After files whole fuel mine c turn.Out = IsShort files whole fuel mine c.budget.left c.budget.of_tree
After files whole fuel mine c (turn.Unread left) = IsUnread files whole fuel mine left

-- a call of the tree fails only where its count of faults rose; where none failed, that is as it was
abbrev pub Counts : ℕ → ℕ → Turn → Type 0
Counts old new (turn.Unread left) = Rose old new
Counts old new t = new ≡ old

-- a turn from `run` on: whatever script stood there stands
-- where the turn leads; and how the tree's count of faults went
pub record Turned (files : Option Files) (faults faults' : ℕ) (mine mine' : List (Event × Reply)) (budget : Budget) (after : Execution) (run : Run) (t : Turn) : Type 0 where
  pub moves : (whole : Run) (fuel : ℕ) → At files whole fuel mine budget run → After files whole fuel mine' after t
  pub counts : Counts faults faults' t

-- a turn that makes no event and asks no tree
abbrev pub Stepped : Budget → Execution → Run → Turn → Type 0
Stepped budget after run t = (files : Option Files) (faults : ℕ) (mine : List (Event × Reply)) → Turned files faults faults mine mine budget after run t

-- a turn that asks the tree
abbrev pub Looked : Option Files → ℕ → ℕ → Budget → Execution → Run → Turn → Type 0
Looked files faults faults' budget after run t = (mine : List (Event × Reply)) → Turned files faults faults' mine mine budget after run t

-- a file stands there
abbrev pub IsFileStamp : Stamp → Type 0
IsFileStamp (stamps.File size) = Unit {0}
IsFileStamp (stamps.Dir time) = ⊥
IsFileStamp stamps.Absent = ⊥

-- a turn that makes an event
abbrev pub TurnedByEvent : List (Event × Reply) → List (Event × Reply) → Budget → Execution → Run → Turn → Type 0
TurnedByEvent mine mine' budget after run t = (files : Option Files) (faults : ℕ) → Turned files faults faults mine mine' budget after run t

-- where an event leads to which this reply came, or none since its unit was not there
abbrev pub made : OnReply → Option Reply → Turn
made on (Some reply) = turn.On (nexts.Wanted (want.Replied on reply))
made on None = turn.Out

-- a turn may be done: it is the script's turn, what is held is known, and its events show all that it asks for
pub record Stood {S : Type 0} (v : View S) (held : Held) (run : Run) : Type 0 where
  pub ready : v.ready
  pub holds : Holds v held
  pub safe : Safe (shown v.number v.mine) run

-- whatever script stood at what was due stands at what is wanted, if memory was not wanted
abbrev pub Wants : Execution → Due → Execution → Result Want NoMemory → Type 0
Wants old was new r = IfOk r (λ want. Moves old.budget (was old) new want)
