use Rattle.std.proofs.Common.{ap}
use Rattle.meaning_state.specs.declared.thread.Thread.{Thread}
use Rattle.py_frames.specs.Does.{want_does}
use Rattle.py_frames.specs.declared.want.Want.TheVariants.{Both}
use Rattle.py_frames.specs.declared.work.Frame.TheVariants.{Resume}
use Rattle.py_frames.specs.declared.work.Item.TheVariants.{Block}
use Rattle.step_compound.proofs.last.go_on_finally.Goals as goal

pub returns : goal.returns
returns c =
    record { does = λ w next. ap (λ (th : Thread). want_does w th.left (Both (Block c.args.block 0) (Resume c.args.flow)) next th.state) c.in_ok-enter.ensures }
