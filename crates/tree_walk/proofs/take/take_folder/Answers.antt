use Rattle.std.proofs.Common.{◌≡◌, ◌∙◌, sym, ap, IfSome, IfOk}
use Rattle.std.specs.Option.{option_copied}
use Rattle.tree_walk.proofs.Walking.{folder_over, folder_step_any, folder_pass}
use Rattle.tree_walk.proofs.take.take_folder.Goals as goal

pub returns-in_default-clause-takes : goal.returns-in_default-clause-takes
returns-in_default-clause-takes g c =
    folder_over (g.T.Tree.files c.args.tree.now) c.args.folder c.args.walk.now (sym c.get.ensures.value ∙ ap option_copied c.in_default.is)

pub returns-in-Some-child-clause-takes : goal.returns-in-Some-child-clause-takes
returns-in-Some-child-clause-takes g c =
    folder_step_any (g.T.Tree.files c.args.tree.now) c.args.folder.dir c.args.folder.names c.args.folder.at c.in-Some.name.now c.in-Some-child.path c.args.walk.now c.push.new.self c.take_at.new.walk c.take_at.result (sym c.get.ensures.value ∙ ap option_copied c.in-Some.is) c.in_ok-push.ensures.ok
    (sym c.in-Some-child.is ∙ c.in_ok-child.ensures) c.take_at.ensures.takes

pub returns-in-None-clause-takes : goal.returns-in-None-clause-takes
returns-in-None-clause-takes g c =
    folder_pass (g.T.Tree.files c.args.tree.now) c.args.folder.dir c.args.folder.names c.args.folder.at c.in-Some.name.now c.args.walk.now c.push.new.self (sym c.get.ensures.value ∙ ap option_copied c.in-Some.is) c.in_ok-push.ensures.ok
    (sym c.in-None.is ∙ c.in_ok-child.ensures)
