use Rattle.std.proofs.Common.{rules, ◌∙◌, refl, sym, Some, None, arith}
use Rattle.import_report.proofs.Steps.{gone_all, opened}
use Rattle.import_report.proofs.visit.open.Goals as goal

pub returns-in-Some-clause-goes : goal.returns-in-Some-clause-goes
returns-in-Some-clause-goes g c =
    opened (g.T.Tree.files c.args.tree.now) c.args.path c.args.above (Some c.in-Some.source) c.args.pile.now c.ask.new.pile c.requires.file c.requires.tree
    (search rules) c.requires.near (sym c.in-Some.is ∙ c.in_ok-source.ensures) c.in_ok-ask-in-Some.ensures.goes

pub returns-clause-goes : goal.returns-clause-goes
returns-clause-goes g c =
    opened (g.T.Tree.files c.args.tree.now) c.args.path c.args.above None c.args.pile.now c.args.pile.now c.requires.file c.requires.tree
    (search rules) c.requires.near (sym c.in-None.is ∙ c.in_ok-source.ensures) (λ f there on. refl)

pub returns-in-Some-clause-lists : goal.returns-in-Some-clause-lists
returns-in-Some-clause-lists g c = λ f there. let same = c.ask.ensures.lists_stay in gone_all _ _ _ _ _ (c.ask.ensures.folders f) (omega (arith, same))

pub returns-in_err-ask-in-Some-clause-lists : goal.returns-in_err-ask-in-Some-clause-lists
returns-in_err-ask-in-Some-clause-lists g c = λ f there. let same = c.ask.ensures.lists_stay in gone_all _ _ _ _ _ (c.ask.ensures.folders f) (omega (arith, same))

pub returns-clause-lists : goal.returns-clause-lists
returns-clause-lists g c = λ f there. gone_all _ _ _ _ _ refl (omega arith)

pub returns-in_err-source-clause-lists : goal.returns-in_err-source-clause-lists
returns-in_err-source-clause-lists g c = λ f there. gone_all _ _ _ _ _ refl (omega arith)
