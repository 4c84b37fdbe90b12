use Rattle.std.proofs.Common.{◌<◌, length, Some, None, IfSome, Err, refl, ap}
use Rattle.std.proofs.lemmas.Result.{IfOk-weaker}
use Rattle.base_types.specs.declared.limits.TheConstants.{LONGEST_SOURCE}
use Rattle.tree_files.specs.Files.{node_at, bytes_of}
use Rattle.meaning_runs.specs.Runs.{TextOf}
use Rattle.find_load.specs.declared.words.In.TheVariants as given
use Rattle.drive_account.proofs.Asking.{asked_refl}
use Rattle.py_run.specs.Turns.{feeds}
use Rattle.py_run.proofs.Looked.{at_looked, told_text, told_none, if_some}
use Rattle.py_run.proofs.Turning.{counts_same}
use Rattle.py_run.proofs.looks.load.Goals as goal

pub returns-then-not-pay : goal.returns-then-not-pay
returns-then-not-pay g c = record {
  turned = λ mine. record { moves = λ whole fuel a. c.if-not-pay.ensures.moves (g.T.Tree.files c.args.tree.now) whole fuel mine _ a; counts = refl };
  held = refl;
  refused = λ is. absurd (cc is);
  asked = asked_refl _ _;
  lists_stay = refl;
}

pub returns-in-Ok : goal.returns-in-Ok
returns-in-Ok g c = record {
  turned = IfOk-weaker c.feed.result _ _ (λ turn t. λ mine.
      let files = g.T.Tree.files c.args.tree.now in
      let path = c.args.path.now in
      let here = t files (g.T.Tree.faults c.args.tree.now) mine in
      record {
        moves = λ whole fuel a. here.moves whole fuel
            (at_looked (TextOf path) (Some c.in-Ok.text) (λ text. feeds c.args.execution.now c.args.procedure (given.Opened (Some text))) (told_text files path c.in-Ok.text c.in-Ok.ensures.loaded c.in-Ok.ensures.fits) (c.if-not-pay.ensures.moves files whole fuel mine _ a));
        counts = counts_same c.in-Ok.ensures.faults_stay turn here.counts;
      }) c.feed.ensures.turned;
  held = c.feed.ensures.held;
  refused = c.feed.ensures.refused;
  asked = record { files = c.load_text.ensures.files_stay; faults = c.load_text.ensures.faults_grow };
  lists_stay = c.load_text.ensures.lists_stay;
}

pub returns-in-Err-TooLong : goal.returns-in-Err-TooLong
returns-in-Err-TooLong g c = record {
  turned = IfOk-weaker c.feed-in-Err-TooLong.result _ _ (λ turn t. λ mine.
      let files = g.T.Tree.files c.args.tree.now in
      let path = c.args.path.now in
      let longer : IfSome files (λ f. LONGEST_SOURCE < length (bytes_of (node_at f path))) = if_some files (λ f h. h (ap Err c.in-Err-TooLong.field-0-is)) c.in-Err-TooLong.ensures.too_long in
      let here = t files (g.T.Tree.faults c.args.tree.now) mine in
      record {
        moves = λ whole fuel a. here.moves whole fuel
            (at_looked (TextOf path) None (λ text. feeds c.args.execution.now c.args.procedure (given.Opened (Some text))) (told_none files path longer) (c.if-not-pay.ensures.moves files whole fuel mine _ a));
        counts = counts_same (c.in-Err-TooLong.ensures.too_long_faults (ap Err c.in-Err-TooLong.field-0-is)) turn here.counts;
      }) c.feed-in-Err-TooLong.ensures.turned;
  held = c.feed-in-Err-TooLong.ensures.held;
  refused = c.feed-in-Err-TooLong.ensures.refused;
  asked = record { files = c.load_text.ensures.files_stay; faults = c.load_text.ensures.faults_grow };
  lists_stay = c.load_text.ensures.lists_stay;
}

pub returns-in-Err-Tree-Failed : goal.returns-in-Err-Tree-Failed
returns-in-Err-Tree-Failed g c = record {
  turned = IfOk-weaker c.unread.result _ _ (λ turn u. λ mine.
      let files = g.T.Tree.files c.args.tree.now in
      let rose = rw (c.in-Err-Tree-Failed.field-0-is, c.in-Err-Tree-Failed.field-0-0-is) at c.in-Err-Tree-Failed.ensures.failed in
      let lost = u files (g.T.Tree.faults c.args.tree.now) (g.T.Tree.faults c.load_text.new.tree) _ (rose tt) mine in
      record {
        moves = λ whole fuel a. lost.moves whole fuel (c.if-not-pay.ensures.moves files whole fuel mine _ a);
        counts = lost.counts;
      }) c.unread.ensures.looked;
  held = refl;
  refused = c.unread.ensures.refused;
  asked = record { files = c.load_text.ensures.files_stay; faults = c.load_text.ensures.faults_grow };
  lists_stay = c.load_text.ensures.lists_stay;
}

pub returns-in-Err-Tree-NoMemory : goal.returns-in-Err-Tree-NoMemory
returns-in-Err-Tree-NoMemory g c = record {
  turned = tt;
  held = refl;
  refused = λ is. absurd (cc is);
  asked = record { files = c.load_text.ensures.files_stay; faults = c.load_text.ensures.faults_grow };
  lists_stay = c.load_text.ensures.lists_stay;
}
