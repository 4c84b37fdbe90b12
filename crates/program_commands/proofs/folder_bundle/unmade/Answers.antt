use Rattle.std.proofs.Common.{◌∙◌, sym, ap}
use Rattle.program_run.specs.declared.report.Report.{Report}
use Rattle.program_commands.specs.Bundling.{Bundles}
use Rattle.program_commands.proofs.folder_bundle.unmade.Goals as goal

pub returns-in-Failed-clause-answers : goal.returns-in-Failed-clause-answers
returns-in-Failed-clause-answers g c = λ old new rose out before after.
    Bundles.unread (rose c.in-Failed.is) (c.tell.ensures.leaves _ old new c.joined-line.ensures out before after)

pub returns-in-NoMemory-clause-answers : goal.returns-in-NoMemory-clause-answers
returns-in-NoMemory-clause-answers g c = λ old new rose out before after.
    Bundles.short (ap (λ (r : Report). r.status) c.without_run.ensures) out (after ∙ sym before)
