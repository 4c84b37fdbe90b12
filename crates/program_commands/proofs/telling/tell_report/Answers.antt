use Rattle.std.proofs.Common.{◌≤◌, ◌+◌, subst, List, length}
use Rattle.base_types.specs.Path.{Path}
use Rattle.import_report.specs.Left.{left}
use Rattle.import_report.specs.Reports.{report_lines}
use Rattle.program_run.specs.Sinks.{at}
use Rattle.program_commands.proofs.Lines.{tells_same, nothing_told}
use Rattle.program_commands.proofs.telling.tell_report.Goals as goal

pub returns-in-Ok-clause-tells : goal.returns-in-Ok-clause-tells
returns-in-Ok-clause-tells g c =
    tells_same (g.T.Tree.files c.args.tree.now) (λ f. left f c.in-Ok.walk) (λ f. report_lines f c.args.dir.now c.args.path.now) (g.T.Tree.faults c.args.tree.now) (g.T.Tree.faults c.tell_all.new.tree)
    (at g.O.Sink c.args.out.now) (at g.O.Sink c.tell_all.new.out) c.tell_all.result c.in-Ok.ensures.lines c.tell_all.ensures.tells

pub returns-in-Ok-clause-lists : goal.returns-in-Ok-clause-lists
returns-in-Ok-clause-lists g c = λ f there.
    subst (λ (folders : List Path). g.T.Tree.lists c.tell_all.new.tree ≤ g.T.Tree.lists c.args.tree.now + length folders) (c.in-Ok.ensures.folders f) (c.tell_all.ensures.lists f there)

pub returns-in-Err-clause-tells : goal.returns-in-Err-clause-tells
returns-in-Err-clause-tells g c =
    nothing_told (g.T.Tree.files c.args.tree.now) (λ f. report_lines f c.args.dir.now c.args.path.now) (g.T.Tree.faults c.args.tree.now) (g.T.Tree.faults c.args.tree.now) (at g.O.Sink c.args.out.now)
