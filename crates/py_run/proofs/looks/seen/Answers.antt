use Rattle.std.proofs.Common.{refl, sym, subst}
use Rattle.std.proofs.lemmas.Result.{IfOk-weaker}
use Rattle.drive_account.proofs.Asking.{asked_refl}
use Rattle.py_run.specs.Turns.{IsFileStamp}
use Rattle.py_run.proofs.Looked.{looked_by}
use Rattle.py_run.proofs.looks.seen.Goals as goal

pub load-requires : goal.load-requires
load-requires g c = record { file = c.requires.file (subst IsFileStamp (sym c.in-File.is) tt) }

pub returns-in-File : goal.returns-in-File
returns-in-File g c = rw c.in-File.is c.load.ensures

pub returns-in-Dir : goal.returns-in-Dir
returns-in-Dir g c = record {
  turned = IfOk-weaker c.feed.result _ _ (λ turn s. looked_by _ _ _ _ _ _ _ _ c.args.stamp _ turn c.in-Dir.is (λ mine. s (g.T.Tree.files c.args.tree.now) (g.T.Tree.faults c.args.tree.now) mine)) c.feed.ensures.turned;
  held = c.feed.ensures.held;
  refused = c.feed.ensures.refused;
  asked = asked_refl _ _;
  lists_stay = refl;
}

pub returns-in-Absent : goal.returns-in-Absent
returns-in-Absent g c = record {
  turned = IfOk-weaker c.feed-in-Absent.result _ _ (λ turn s. looked_by _ _ _ _ _ _ _ _ c.args.stamp _ turn c.in-Absent.is (λ mine. s (g.T.Tree.files c.args.tree.now) (g.T.Tree.faults c.args.tree.now) mine)) c.feed-in-Absent.ensures.turned;
  held = c.feed-in-Absent.ensures.held;
  refused = c.feed-in-Absent.ensures.refused;
  asked = asked_refl _ _;
  lists_stay = refl;
}
