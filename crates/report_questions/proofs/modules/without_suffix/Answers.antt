use Rattle.std.proofs.Common.{sym, ap, Some, None}
use Rattle.spec_core.proofs.Dots.{parent-cut, parent-none}
use Rattle.spec_core.proofs.Cuts.{cut_once}
use Rattle.report_questions.specs.Modules.{front_or_whole}
use Rattle.report_questions.proofs.modules.without_suffix.Goals as goal

pub returns-in-Some : goal.returns-in-Some
returns-in-Some c =
    let cut = cut_once c.args.name.now (Some (c.in-Some.front, c.in-Some.field-0-1)) c.in-Some.ensures.cases in
    sym (ap (front_or_whole c.args.name.now) (parent-cut c.args.name.now c.in-Some.front.now c.in-Some.field-0-1.now cut.0 cut.1))

pub returns-in-None : goal.returns-in-None
returns-in-None c =
    let none = cut_once c.args.name.now None c.in-None.ensures.cases in
    sym (ap (front_or_whole c.args.name.now) (parent-none c.args.name.now none))
