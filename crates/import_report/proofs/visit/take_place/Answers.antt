use Rattle.std.proofs.Common.{◌≡◌, ◌∙◌, refl, subst, IfSome, arith}
use Rattle.tree_files.specs.Files.{node_at, stamp_of}
use Rattle.tree_files.specs.declared.tree.Stamp.{Stamp}
use Rattle.tree_walk.proofs.Walking.{dir_there, file_there, tree_there}
use Rattle.import_report.proofs.Steps.{gone_all, lists_from, absent_told}
use Rattle.import_report.proofs.visit.take_place.Goals as goal

pub returns-in-Absent-clause-goes : goal.returns-in-Absent-clause-goes
returns-in-Absent-clause-goes g c =
    absent_told (g.T.Tree.files c.args.tree.now) c.args.place.path c.args.place.above c.args.pile.now c.stamp.ensures.is_tree
    (subst (λ (s : Stamp). IfSome (g.T.Tree.files c.args.tree.now) (λ f. s ≡ stamp_of (node_at f c.args.place.path))) c.in-Absent.is c.in_ok-stamp.ensures.told)

pub returns-in-Absent-clause-lists : goal.returns-in-Absent-clause-lists
returns-in-Absent-clause-lists g c = λ f there. let same = c.stamp.ensures.lists_stay in gone_all _ _ _ _ _ refl (omega (arith, same))

pub returns-in_err-stamp-clause-lists : goal.returns-in_err-stamp-clause-lists
returns-in_err-stamp-clause-lists g c = λ f there. let same = c.stamp.ensures.lists_stay in gone_all _ _ _ _ _ refl (omega (arith, same))

pub enter-requires-clause-dir : goal.enter-requires-clause-dir
enter-requires-clause-dir g c =
    dir_there (g.T.Tree.files c.args.tree.now) (g.T.Tree.files c.stamp.new.self) c.args.place.path c.in-Dir.field-0 c.stamp.ensures.files_stay
    (subst (λ (s : Stamp). IfSome (g.T.Tree.files c.args.tree.now) (λ f. s ≡ stamp_of (node_at f c.args.place.path))) c.in-Dir.is c.in_ok-stamp.ensures.told)

pub enter-requires-clause-tree : goal.enter-requires-clause-tree
enter-requires-clause-tree g c = tree_there (g.T.Tree.files c.args.tree.now) (g.T.Tree.files c.stamp.new.self) c.stamp.ensures.files_stay c.stamp.ensures.is_tree

pub open-requires-clause-file : goal.open-requires-clause-file
open-requires-clause-file g c =
    file_there (g.T.Tree.files c.args.tree.now) (g.T.Tree.files c.stamp.new.self) c.args.place.path c.in-File.field-0 c.stamp.ensures.files_stay
    (subst (λ (s : Stamp). IfSome (g.T.Tree.files c.args.tree.now) (λ f. s ≡ stamp_of (node_at f c.args.place.path))) c.in-File.is c.in_ok-stamp.ensures.told)

pub open-requires-clause-tree : goal.open-requires-clause-tree
open-requires-clause-tree g c = tree_there (g.T.Tree.files c.args.tree.now) (g.T.Tree.files c.stamp.new.self) c.stamp.ensures.files_stay c.stamp.ensures.is_tree

pub returns-in-Dir-clause-goes : goal.returns-in-Dir-clause-goes
returns-in-Dir-clause-goes g c = λ f there. c.enter.ensures.goes f (c.stamp.ensures.files_stay ∙ there)

pub returns-in-Dir-clause-lists : goal.returns-in-Dir-clause-lists
returns-in-Dir-clause-lists g c = λ f there. lists_from _ _ _ _ _ c.stamp.ensures.lists_stay (c.enter.ensures.lists f (c.stamp.ensures.files_stay ∙ there))

pub returns-in-File-clause-goes : goal.returns-in-File-clause-goes
returns-in-File-clause-goes g c = λ f there. c.open.ensures.goes f (c.stamp.ensures.files_stay ∙ there)

pub returns-in-File-clause-lists : goal.returns-in-File-clause-lists
returns-in-File-clause-lists g c = λ f there. lists_from _ _ _ _ _ c.stamp.ensures.lists_stay (c.open.ensures.lists f (c.stamp.ensures.files_stay ∙ there))
