use Rattle.std.proofs.Common.{◌≡◌, ◌∙◌, ap, sym, subst, true, false}
use Rattle.path_finder.specs.Looking.{behind}
use Rattle.path_finder.specs.Steps.{enters}
use Rattle.path_finder.specs.declared.words.LookWant.TheVariants as wanted
use Rattle.path_finder.specs.Looking.{wants}
use Rattle.path_finder.proofs.look.Look.pay.Goals as goal

pub returns-in-None-clause-goes : goal.returns-in-None-clause-goes
returns-in-None-clause-goes c =
    ap (λ p. enters c.args.self.now.sought.name p c.args.self.now.portions (behind c.args.self.now)) c.in-None.is ∙ ap (wants (wanted.Pay false)) (sym c.wait_at.ensures.goes)

pub returns-in-Some-clause-goes : goal.returns-in-Some-clause-goes
returns-in-Some-clause-goes c =
    ap (λ p. enters c.args.self.now.sought.name p c.args.self.now.portions (behind c.args.self.now)) c.in-Some.is ∙ ap (wants (wanted.Pay true)) (sym c.wait_at-in-Some.ensures.goes)
