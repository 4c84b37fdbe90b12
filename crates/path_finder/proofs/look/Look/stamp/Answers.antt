use Rattle.std.proofs.Common.{◌∙◌, ap, refl, sym}
use Rattle.path_finder.specs.declared.words.LookWant.TheVariants as wanted
use Rattle.tree_files.specs.declared.tree.Stamp.TheVariants as stamp
use Rattle.path_finder.specs.Steps.{Shows, stamped}
use Rattle.path_finder.specs.Looking.{behind, wants}
use Rattle.path_finder.proofs.Reading.{reads_same, asks_same}
use Rattle.path_finder.proofs.look.Look.stamp.Goals as goal

pub returns-in_ok-asked-in-Dir-clause-goes : goal.returns-in_ok-asked-in-Dir-clause-goes
returns-in_ok-asked-in-Dir-clause-goes g c =
    let shows : Shows (g.T.Tree.files c.args.tree.now) c.args.dir (stamp.Dir c.in-Dir.time) = rw c.in-Dir.is at c.in_ok-time.ensures.reads in
    shows (stamped c.args.self.now.sought.name c.args.dir c.args.self.now.portions (behind c.args.self.now)) _
    (reads_same _ _ _ (asks_same _ _ _ _ _ c.in_ok-asked-in-Dir.ensures (c.in_ok-part-in-Dir.ensures ∙ c.args.self.now.sought.tail) ∙ ap (wants (wanted.DirGet c.in_ok-asked-in-Dir.asked c.in_ok-part-in-Dir.part)) (sym c.wait_at.ensures.goes)))

pub returns-in_ok-enter-in-File-clause-goes : goal.returns-in_ok-enter-in-File-clause-goes
returns-in_ok-enter-in-File-clause-goes g c =
    let shows : Shows (g.T.Tree.files c.args.tree.now) c.args.dir (stamp.File c.in-File.field-0) = rw c.in-File.is at c.in_ok-time.ensures.reads in
    shows (stamped c.args.self.now.sought.name c.args.dir c.args.self.now.portions (behind c.args.self.now)) _ (reads_same _ _ _ c.in_ok-enter-in-File.ensures.goes)

pub returns-in_ok-enter-in-Absent-clause-goes : goal.returns-in_ok-enter-in-Absent-clause-goes
returns-in_ok-enter-in-Absent-clause-goes g c =
    let shows : Shows (g.T.Tree.files c.args.tree.now) c.args.dir stamp.Absent = rw c.in-Absent.is at c.in_ok-time.ensures.reads in
    shows (stamped c.args.self.now.sought.name c.args.dir c.args.self.now.portions (behind c.args.self.now)) _ (reads_same _ _ _ c.in_ok-enter-in-Absent.ensures.goes)
