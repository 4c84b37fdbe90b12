use Rattle.std.proofs.Common.{ℕ, List, refl, subst}
use Rattle.program_run.specs.Sinks.{Moment, at, moment}
use Rattle.program_commands.specs.Converting.{Converts, ConvertsText}
use Rattle.program_commands.proofs.trace_convert.convert.Goals as goal

pub returns-in-Ok-clause-answers : goal.returns-in-Ok-clause-answers
returns-in-Ok-clause-answers g c =
    let old : Moment = moment g.T.Tree g.O.Sink g.K.Sink c.args.tree.now c.args.out.now c.args.err.now in
    let new : Moment = moment g.T.Tree g.O.Sink g.K.Sink c.open_trace.new.tree c.rewrite.new.out c.rewrite.new.err in
    Converts.opened c.in-Ok.bytes c.in-Ok.ensures.ok
    (subst (λ (bytes : List ℕ). ConvertsText bytes old new c.rewrite.result.status) c.as_slice.ensures (c.rewrite.ensures.answers old new refl refl refl refl))

pub returns-in-Err-clause-answers : goal.returns-in-Err-clause-answers
returns-in-Err-clause-answers g c =
    let old : Moment = moment g.T.Tree g.O.Sink g.K.Sink c.args.tree.now c.args.out.now c.args.err.now in
    let new : Moment = moment g.T.Tree g.O.Sink g.K.Sink c.open_trace.new.tree c.args.out.now c.unopened.new.err in
    c.unopened.ensures.answers c.args.trace_file old new c.in-Err.ensures.err refl refl refl
