-- What a step wants in every world it wants over the sources.
use Rattle.std.proofs.Common.{◌≡◌, Result, Ok, Err}
use Rattle.std.specs.Prelude.{IfOk}
use Rattle.base_types.specs.declared.no_memory.NoMemory.{NoMemory}
use Rattle.machine_events.specs.declared.event.Reply.{Reply}
use Rattle.meaning_runs.specs.Runs.{Run}
use Rattle.meaning_state.specs.declared.flow.Flow.{Flow}
use Rattle.meaning_state.specs.declared.thread.Thread.{Thread}
use Rattle.meaning_script.specs.Meaning.{World}
use Rattle.step_calls.specs.Sources.{sources}
use Rattle.py_frames.specs.Does.{Does, DoesIn, Rest, begins, goes_on, replies}
use Rattle.py_frames.specs.declared.replies.OnReply.{OnReply}
use Rattle.py_frames.specs.declared.want.Want.{Want}
use Rattle.py_frames.specs.declared.work.Frame.{Frame}
use Rattle.py_frames.specs.declared.work.Item.{Item}

in_sources : (after : Thread) (run : World → Rest → Run) (r : Result Want NoMemory) → IfOk r (Does after run) → IfOk r (DoesIn sources after (run sources))
in_sources after run (Ok want) does = record { does = does.does sources }
in_sources after run (Err error) does = does

pub begins_in : (after before : Thread) (item : Item) (r : Result Want NoMemory) → IfOk r (Does after (begins item before))
    → IfOk r (DoesIn sources after (begins item before sources))
begins_in after before item r does = in_sources after (begins item before) r does

pub begins_want : (after before : Thread) (item : Item) (want : Want) → Does after (begins item before) want
    → DoesIn sources after (begins item before sources) want
begins_want after before item want does = record { does = does.does sources }

pub goes_on_in : (after before : Thread) (frame : Frame) (flow : Flow) (r : Result Want NoMemory) → IfOk r (Does after (goes_on frame flow before))
    → IfOk r (DoesIn sources after (goes_on frame flow before sources))
goes_on_in after before frame flow r does = in_sources after (goes_on frame flow before) r does

pub goes_on_want : (after before : Thread) (frame : Frame) (flow : Flow) (want : Want) → Does after (goes_on frame flow before) want
    → DoesIn sources after (goes_on frame flow before sources) want
goes_on_want after before frame flow want does = record { does = does.does sources }

pub replies_in : (after before : Thread) (on : OnReply) (reply : Reply) (r : Result Want NoMemory) → IfOk r (Does after (replies on reply before))
    → IfOk r (DoesIn sources after (replies on reply before sources))
replies_in after before on reply r does = in_sources after (replies on reply before) r does

pub replies_want : (after before : Thread) (on : OnReply) (reply : Reply) (want : Want) → Does after (replies on reply before) want
    → DoesIn sources after (replies on reply before sources) want
replies_want after before on reply want does = record { does = does.does sources }

pub pieces_in : (after : Thread) (run : World → Rest → Run) (r : Result Want NoMemory) → IfOk r (Does after run) → IfOk r (DoesIn sources after (run sources))
pieces_in after run r does = in_sources after run r does
