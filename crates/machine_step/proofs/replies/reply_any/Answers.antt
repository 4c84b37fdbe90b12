-- The reply of a part that is the same whatever the rest of the event is.
use Rattle.machine_step.proofs.replies.reply_any.Goals as goal

pub returns-in-Finish : goal.returns-in-Finish
returns-in-Finish c = rw c.in-Finish.is (c.finish_reply.ensures c.args.thread)

pub returns-in-PathAdd : goal.returns-in-PathAdd
returns-in-PathAdd c = rw c.in-PathAdd.is (c.path_add_reply.ensures c.in-PathAdd.at c.in-PathAdd.value)

pub returns-in-ReloadTake : goal.returns-in-ReloadTake
returns-in-ReloadTake c = rw c.in-ReloadTake.is (c.reload_take_reply.ensures c.in-ReloadTake.text)

pub returns-in-ReloadEnd : goal.returns-in-ReloadEnd
returns-in-ReloadEnd c = rw c.in-ReloadEnd.is (c.reload_end_reply.ensures c.args.thread)
