use Rattle.std.proofs.Common.{ap}
use Rattle.meaning_state.specs.declared.thread.Thread.{Thread}
use Rattle.py_frames.specs.Does.{want_does}
use Rattle.py_frames.specs.declared.want.Want.TheVariants.{Both}
use Rattle.py_frames.specs.declared.work.Frame.TheVariants.{EndHandler}
use Rattle.py_frames.specs.declared.work.Item.TheVariants.{Block}
use Rattle.step_compound.proofs.handlers.handle.Goals as goal

pub returns : goal.returns
returns c =
    let h = c.args.handler.now in
    record {
      does = λ w next.
          rw (c.in_ok-share.ensures, c.in_ok-copy.ensures)
          (ap (λ (th : Thread). want_does w th.left (Both (Block h.body 0) (EndHandler h.bound)) next th.state) c.in_ok-begin_handling.ensures);
    }
