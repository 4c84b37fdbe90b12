use Rattle.std.proofs.Common.{◌∙◌, sym}
use Rattle.program_rounds.proofs.Coursing.{joined_by}
use Rattle.program_rounds.proofs.course.joined.Goals as goal

pub returns-then-all_ended : goal.returns-then-all_ended
returns-then-all_ended c = joined_by (λ v. v.items) c.args.results.items c.args.more.items c.as_slice.result.now c.append.result c.as_slice.ensures.value (sym c.all_ended.ensures ∙ c.if-all_ended.true) c.append.ensures
