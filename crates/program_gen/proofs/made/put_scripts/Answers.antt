use Rattle.std.proofs.Common.{refl, add-one}
use Rattle.program_gen.proofs.made.put_scripts.Goals as goal

pub loop-script-preserved : goal.loop-script-preserved
loop-script-preserved c =
    let kept = c.loop-script.invariant in
    let put = c.in_ok-put_script.ensures in
    record {
      names = rw (add-one, c.in_ok-push.ensures.ok, kept.names, put.file) refl;
      files = rw (add-one, put.files, kept.files, kept.state) refl;
      flat = put.flat;
      state = rw (add-one, put.state, kept.state) refl;
      faults = rw (put.faults, kept.faults) refl;
      lists = rw (put.lists, kept.lists) refl;
      due = rw (put.due, kept.due) refl;
    }
