use Rattle.std.proofs.Common.{sym, subst, [], ◌++◌, None, IfOk, arith}
use Rattle.import_report.specs.Due.{part_lines, part_folders, due_folders, Tells, Lists}
use Rattle.import_report.specs.declared.pending.Pending.{Pending}
use Rattle.import_report.specs.declared.pending.Pending.TheVariants as pending
use Rattle.import_report.proofs.Steps.{gone_all, at_count, on_path}
use Rattle.import_report.proofs.visit.take.Goals as goal

pub returns-in-Place-clause-goes : goal.returns-in-Place-clause-goes
returns-in-Place-clause-goes g c = λ f there.
    subst (λ (part : Pending). IfOk c.take_place.result (λ line. Tells f c.args.on.now (part_lines f c.args.on.now part) c.args.pile.now line c.take_place.new.pile)) (sym c.in-Place.is)
    (on_path c.take_place.result (λ line on. Tells f on (part_lines f on (pending.Place c.in-Place.place)) c.args.pile.now line c.take_place.new.pile) c.args.on.now (c.take_place.ensures.goes f there))

pub returns-in-Place-clause-lists : goal.returns-in-Place-clause-lists
returns-in-Place-clause-lists g c = λ f there.
    subst (λ (part : Pending). Lists (part_folders f part ++ due_folders f c.args.pile.now) (due_folders f c.take_place.new.pile) (g.T.Tree.lists c.args.tree.now) (g.T.Tree.lists c.take_place.new.tree)) (sym c.in-Place.is) (c.take_place.ensures.lists f there)

pub returns-in_ok-take_folder-in-Folder-clause-goes : goal.returns-in_ok-take_folder-in-Folder-clause-goes
returns-in_ok-take_folder-in-Folder-clause-goes g c = λ f there.
    subst (λ (part : Pending). Tells f c.args.on.now (part_lines f c.args.on.now part) c.args.pile.now None c.take_folder.new.pile) (sym c.in-Folder.is) (c.in_ok-take_folder-in-Folder.ensures.goes f c.args.on.now)

pub returns-in_ok-take_folder-in-Folder-clause-lists : goal.returns-in_ok-take_folder-in-Folder-clause-lists
returns-in_ok-take_folder-in-Folder-clause-lists g c = λ f there.
    subst (λ (part : Pending). Lists (part_folders f part ++ due_folders f c.args.pile.now) (due_folders f c.take_folder.new.pile) (g.T.Tree.lists c.args.tree.now) (g.T.Tree.lists c.args.tree.now)) (sym c.in-Folder.is)
    (at_count _ _ (g.T.Tree.lists c.args.tree.now) (c.take_folder.ensures.lists f))

pub returns-in_err-take_folder-in-Folder-clause-lists : goal.returns-in_err-take_folder-in-Folder-clause-lists
returns-in_err-take_folder-in-Folder-clause-lists g c = λ f there.
    subst (λ (part : Pending). Lists (part_folders f part ++ due_folders f c.args.pile.now) (due_folders f c.take_folder.new.pile) (g.T.Tree.lists c.args.tree.now) (g.T.Tree.lists c.args.tree.now)) (sym c.in-Folder.is)
    (at_count _ _ (g.T.Tree.lists c.args.tree.now) (c.take_folder.ensures.lists f))

pub returns-in-Asked-clause-goes : goal.returns-in-Asked-clause-goes
returns-in-Asked-clause-goes g c = λ f there.
    subst (λ (part : Pending). IfOk c.take_question.result (λ line. Tells f c.args.on.now (part_lines f c.args.on.now part) c.args.pile.now line c.take_question.new.pile)) (sym c.in-Asked.is) (c.take_question.ensures.goes f there)

pub returns-in-Asked-clause-lists : goal.returns-in-Asked-clause-lists
returns-in-Asked-clause-lists g c = λ f there.
    let same = c.take_question.ensures.lists_stay in
    subst (λ (part : Pending). Lists (part_folders f part ++ due_folders f c.args.pile.now) (due_folders f c.take_question.new.pile) (g.T.Tree.lists c.args.tree.now) (g.T.Tree.lists c.take_question.new.tree)) (sym c.in-Asked.is)
    (gone_all [] (due_folders f c.args.pile.now) (due_folders f c.take_question.new.pile) (g.T.Tree.lists c.args.tree.now) (g.T.Tree.lists c.take_question.new.tree) (c.take_question.ensures.folders f) (omega (arith, same)))
