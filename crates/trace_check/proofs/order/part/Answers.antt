use Rattle.std.proofs.Common.{◌+◌, ℕ, rules, subst, sym}
use Rattle.trace_check.specs.declared.answers.Why.TheVariants as cause
use Rattle.trace_check.specs.Judge.{IsFirst, Parts}
use Rattle.trace_check.proofs.Judging.{parts_there, parts_behind}
use Rattle.trace_check.proofs.Splitting.{place_told, turns_told, many_told}
use Rattle.trace_check.proofs.order.part.Goals as goal

pub returns-in-Some : goal.returns-in-Some
returns-in-Some g c = λ history tells.
    parts_there history c.args.t c.args.at c.in-Some.place (place_told g.E.OfThread.thread c.args.entries.now history c.args.t c.args.at c.in-Some.place tells c.in-Some.ensures.some)

pub returns-in-None : goal.returns-in-None
returns-in-None g c = λ history tells.
    subst (λ (n : ℕ). IsFirst (Parts history c.args.t c.args.at) (n + 2) cause.End) (sym (many_told g.E.OfThread.thread c.args.entries.now history tells))
    (parts_behind history c.args.t c.args.at (turns_told g.E.OfThread.thread c.args.entries.now history c.args.t c.args.at tells (search rules)))
