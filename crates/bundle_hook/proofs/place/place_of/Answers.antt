use Rattle.std.proofs.Common.{◌≡◌, ◌∙◌, sym, true, false, arith}
use Rattle.bundle_hook.proofs.Answered.{keeps_answer, answer_kept, some_kept}
use Rattle.bundle_hook.proofs.Above.{above_leads}
use Rattle.bundle_hook.proofs.place.place_of.Goals as goal

pub returns-then-is_empty-clause-answered : goal.returns-then-is_empty-clause-answered
returns-then-is_empty-clause-answered g c = keeps_answer (g.T.Tree.files c.args.tree.now) c.place_by_stamp.new.kept c.place_by_stamp.ensures.is_tree

pub returns-else-is_empty-clause-is_tree : goal.returns-else-is_empty-clause-is_tree
returns-else-is_empty-clause-is_tree g c =
    answer_kept (g.T.Tree.files c.args.tree.now) c.args.kept.now c.requires.answered
    (some_kept c.args.kept.now (λ none. (let bad : true ≡ false = sym (c.is_empty.ensures.1 none) ∙ c.if-is_empty.false in cc bad)))

pub returns-else-is_empty-clause-answered : goal.returns-else-is_empty-clause-answered
returns-else-is_empty-clause-answered g c = keeps_answer (g.T.Tree.files c.args.tree.now) c.place_by_bundles.new.kept (returns-else-is_empty-clause-is_tree g c)

pub returns-in-Some-clause-told : goal.returns-in-Some-clause-told
returns-in-Some-clause-told g c =
    above_leads (g.T.Tree.files c.args.tree.now) c.args.kept.now c.args.path.now c.in-Some.found c.requires.right c.in-Some.ensures.along c.in-Some.ensures.told

pub returns-in-Some-clause-is_tree : goal.returns-in-Some-clause-is_tree
returns-in-Some-clause-is_tree g c =
    answer_kept (g.T.Tree.files c.args.tree.now) c.args.kept.now c.requires.answered (let low = c.in-Some.ensures.within in omega (arith, low))
