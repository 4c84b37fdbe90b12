use Rattle.meaning_script.specs.Meaning.{around_at}
use Rattle.step_compound.proofs.Others.{others}
use Rattle.step_compound.proofs.block.begun_form.Goals as goal

pub returns-in_ok-share-in_default : goal.returns-in_ok-share-in_default
returns-in_ok-share-in_default c =
    let th = c.args.thread.now in
    record {
      does = λ w next.
          rw (c.in_ok-share-in_default.ensures, c.new.ensures)
          (others (around_at w th.left) c.args.stmts.now c.args.at c.args.stmt.now th.state (next th.left) c.requires c.in_default.not-Import c.in_default.not-From c.in_default.not-If c.in_default.not-Try c.in_default.not-Def);
    }
