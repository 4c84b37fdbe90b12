use Rattle.std.proofs.Common.{Option, None, Some, Err, refl, sym, subst, ◌∙◌, ap}
use Rattle.std.specs.Option.{ForSome}
use Rattle.std.proofs.lemmas.Result.{IfOk-weaker}
use Rattle.tree_files.specs.Files.{Files, IsFileAt}
use Rattle.meaning_runs.specs.Runs.{StampOf}
use Rattle.find_load.specs.declared.words.In.TheVariants as given
use Rattle.meaning_script.specs.Imports.{opens}
use Rattle.drive_account.proofs.Asking.{asked_trans}
use Rattle.py_run.specs.Turns.{feeds}
use Rattle.py_run.proofs.Looked.{at_looked, told_stamp, file_there, turned_over}
use Rattle.py_run.proofs.looks.file.Goals as goal

pub returns-in-Ok : goal.returns-in-Ok
returns-in-Ok g c = record {
  turned = IfOk-weaker c.seen.result _ _ (λ turn l. λ mine.
      let files = g.T.Tree.files c.args.tree.now in
      let path = c.args.path.now in
      let here = turned_over files (g.T.Tree.files c.stamp.new.self) (g.T.Tree.faults c.args.tree.now) (g.T.Tree.faults c.stamp.new.self) _ mine _ _ _ turn c.in-Ok.ensures.files_stay c.in-Ok.ensures.faults_stay (l mine) in
      record {
        moves = λ whole fuel a. here.moves whole fuel
            (at_looked (StampOf path) c.in-Ok.stamp (opens path (feeds c.args.execution.now c.args.procedure (given.Opened None)) (λ text. feeds c.args.execution.now c.args.procedure (given.Opened (Some text)))) (told_stamp files path c.in-Ok.stamp c.in-Ok.ensures.told) a);
        counts = here.counts;
      }) c.seen.ensures.turned;
  held = c.seen.ensures.held;
  refused = c.seen.ensures.refused;
  asked = asked_trans (record { files = c.stamp.ensures.files_stay; faults = c.stamp.ensures.faults_grow }) c.seen.ensures.asked;
  lists_stay = c.seen.ensures.lists_stay ∙ c.stamp.ensures.lists_stay;
}

pub seen-requires : goal.seen-requires
seen-requires g c = record { file = λ is. subst (λ (o : Option Files). ForSome o (λ f. IsFileAt f c.args.path.now)) (sym c.in-Ok.ensures.files_stay) (file_there (g.T.Tree.files c.args.tree.now) c.args.path.now c.in-Ok.stamp c.in-Ok.ensures.told is) }

pub returns-in-Err-Failed : goal.returns-in-Err-Failed
returns-in-Err-Failed g c = record {
  turned = IfOk-weaker c.unread.result _ _ (λ turn u.
      u (g.T.Tree.files c.args.tree.now) (g.T.Tree.faults c.args.tree.now) (g.T.Tree.faults c.stamp.new.self) _ (c.in-Err-Failed.ensures.failed (ap Err c.in-Err-Failed.field-0-is))) c.unread.ensures.looked;
  held = refl;
  refused = c.unread.ensures.refused;
  asked = record { files = c.stamp.ensures.files_stay; faults = c.stamp.ensures.faults_grow };
  lists_stay = c.stamp.ensures.lists_stay;
}

pub returns-in-Err-NoMemory : goal.returns-in-Err-NoMemory
returns-in-Err-NoMemory g c = record {
  turned = tt;
  held = refl;
  refused = λ is. absurd (cc is);
  asked = record { files = c.stamp.ensures.files_stay; faults = c.stamp.ensures.faults_grow };
  lists_stay = c.stamp.ensures.lists_stay;
}
