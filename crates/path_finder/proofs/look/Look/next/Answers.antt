use Rattle.std.proofs.Common.{◌≡◌, ◌∙◌, ap, sym, subst, Option, None, Some, IfOk}
use Rattle.path_finder.specs.Steps.{Reads}
use Rattle.path_finder.specs.Looking.{does, means, wants, reply_of}
use Rattle.path_finder.proofs.Steps.{fitting, finds_all}
use Rattle.path_finder.proofs.look.Look.next.Goals as goal

pub returns-clause-goes : goal.returns-clause-goes
returns-clause-goes g c =
    let went : IfOk c.advance.result (λ want. Reads (g.T.Tree.files c.args.tree.now) (does c.args.self.now c.args.self.now.stage (reply_of c.args.input)) (wants want (means c.advance.new.self))) =
    rw (c.take_stage-stage.ensures.over, c.take_stage-stage.ensures.taken, c.reply_of-reply.ensures) at c.advance.ensures.goes in
    subst (λ s. IfOk c.advance.result (λ want. Reads (g.T.Tree.files c.args.tree.now) s (wants want (means c.advance.new.self)))) (fitting c.args.self.now c.args.self.now.stage c.args.input c.requires.fits) went

pub returns-clause-finds : goal.returns-clause-finds
returns-clause-finds g c =
    let same = rw c.take_stage-stage.ensures.over at c.advance.ensures.same in
    finds_all c.advance.result (g.T.Tree.files c.args.tree.now) c.args.self.now c.advance.new.self c.args.input c.requires.fits c.advance.ensures.awaits same.0 same.1 (returns-clause-goes g c)
