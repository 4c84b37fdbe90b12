use Rattle.std.proofs.Common.{◌∙◌, refl, sym, ap, [], arith}
use Rattle.std.specs.Option.{option_copied}
use Rattle.tree_walk.proofs.Walking.{child_is, no_child}
use Rattle.import_report.specs.Reports.{lines_of, entered}
use Rattle.import_report.specs.Due.{asked_lines, due_folders}
use Rattle.import_report.proofs.Piles.{names_over, name_first, name_next, name_passed}
use Rattle.import_report.proofs.Steps.{gone_all, gone_none, gone_name}
use Rattle.import_report.proofs.visit.take_folder.Goals as goal

pub returns-in_default-clause-goes : goal.returns-in_default-clause-goes
returns-in_default-clause-goes c = λ f on.
    names_over (λ n. lines_of n f on) (asked_lines f on) f c.args.folder.dir c.args.folder.names c.args.folder.at c.args.folder.above c.args.pile.now (sym c.get.ensures.value ∙ ap option_copied c.in_default.is)

pub returns-in_default-clause-lists : goal.returns-in_default-clause-lists
returns-in_default-clause-lists c = λ f.
    gone_none _ _ 0 (names_over entered (λ asked. []) f c.args.folder.dir c.args.folder.names c.args.folder.at c.args.folder.above c.args.pile.now (sym c.get.ensures.value ∙ ap option_copied c.in_default.is))

pub returns-in_err-child-clause-lists : goal.returns-in_err-child-clause-lists
returns-in_err-child-clause-lists c = λ f. gone_all _ _ _ 0 0 refl (omega arith)

pub returns-in_err-push-clause-lists : goal.returns-in_err-push-clause-lists
returns-in_err-push-clause-lists c = λ f. gone_all _ _ _ 0 0 (ap (due_folders f) c.in_err-push.ensures.err) (omega arith)

pub returns-in_ok-push-in-Some-child-clause-goes : goal.returns-in_ok-push-in-Some-child-clause-goes
returns-in_ok-push-in-Some-child-clause-goes c = λ f on.
    name_next (λ n. lines_of n f on) (asked_lines f on) f c.args.folder.dir c.args.folder.names c.args.folder.at c.args.folder.above _ c.in-Some.name.now c.args.pile.now c.push.new.self
    (sym c.get.ensures.value ∙ ap option_copied c.in-Some.is) c.in_ok-push.ensures.ok c.in-Some-child.path _ c.push-in-Some-child.new.self
    (child_is c.args.folder.dir c.in-Some-child.path c.in-Some.name.now (sym c.in-Some-child.is ∙ c.in_ok-child.ensures)) c.in_ok-push-in-Some-child.ensures.ok

pub returns-in_ok-push-in-Some-child-clause-lists : goal.returns-in_ok-push-in-Some-child-clause-lists
returns-in_ok-push-in-Some-child-clause-lists c = λ f. gone_none _ _ 0
    (name_next entered (λ asked. []) f c.args.folder.dir c.args.folder.names c.args.folder.at c.args.folder.above _ c.in-Some.name.now c.args.pile.now c.push.new.self
    (sym c.get.ensures.value ∙ ap option_copied c.in-Some.is) c.in_ok-push.ensures.ok c.in-Some-child.path _ c.push-in-Some-child.new.self
    (child_is c.args.folder.dir c.in-Some-child.path c.in-Some.name.now (sym c.in-Some-child.is ∙ c.in_ok-child.ensures)) c.in_ok-push-in-Some-child.ensures.ok)

pub returns-in_err-push-in-Some-child-clause-lists : goal.returns-in_err-push-in-Some-child-clause-lists
returns-in_err-push-in-Some-child-clause-lists c = λ f. gone_name _ _ _ _
    (name_first entered (λ asked. []) f c.args.folder.dir c.args.folder.names c.args.folder.at c.args.folder.above _ c.in-Some.name.now c.args.pile.now c.push.new.self
    (sym c.get.ensures.value ∙ ap option_copied c.in-Some.is) c.in_ok-push.ensures.ok) (ap (due_folders f) c.in_err-push-in-Some-child.ensures.err)

pub returns-in-None-clause-goes : goal.returns-in-None-clause-goes
returns-in-None-clause-goes c = λ f on.
    name_passed (λ n. lines_of n f on) (asked_lines f on) f c.args.folder.dir c.args.folder.names c.args.folder.at c.args.folder.above _ c.in-Some.name.now c.args.pile.now c.push.new.self
    (sym c.get.ensures.value ∙ ap option_copied c.in-Some.is) c.in_ok-push.ensures.ok (no_child c.args.folder.dir c.in-Some.name.now (sym c.in-None.is ∙ c.in_ok-child.ensures))

pub returns-in-None-clause-lists : goal.returns-in-None-clause-lists
returns-in-None-clause-lists c = λ f. gone_none _ _ 0
    (name_passed entered (λ asked. []) f c.args.folder.dir c.args.folder.names c.args.folder.at c.args.folder.above _ c.in-Some.name.now c.args.pile.now c.push.new.self
    (sym c.get.ensures.value ∙ ap option_copied c.in-Some.is) c.in_ok-push.ensures.ok (no_child c.args.folder.dir c.in-Some.name.now (sym c.in-None.is ∙ c.in_ok-child.ensures)))
