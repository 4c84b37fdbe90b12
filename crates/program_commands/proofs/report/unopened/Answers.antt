use Rattle.std.proofs.Common.{◌∙◌, refl, sym, ap, subst, ℕ, List, []}
use Rattle.program_run.specs.Sinks.{Leaves, status_by}
use Rattle.program_run.specs.Statuses.{refusal}
use Rattle.program_run.specs.declared.open.Unopened.{Unopened}
use Rattle.program_run.specs.declared.report.Report.{Report}
use Rattle.program_commands.specs.FolderOpening.{NoFolder}
use Rattle.program_commands.specs.Reporting.{Reports}
use Rattle.program_commands.proofs.report.unopened.Goals as goal

pub returns-in-Refused-clause-answers : goal.returns-in-Refused-clause-answers
returns-in-Refused-clause-answers g c = λ word path old new why lists out before after.
    let is = subst (λ (x : Unopened). NoFolder old.files word old.faults new.faults x) c.in-Refused.is why in
    Reports.unopened is.0 lists (subst (λ (line : List ℕ). Leaves (status_by refusal refusal) [] line old new c.tell.result.status) is.1 (c.tell.ensures.leaves c.in-Refused.line.items old new refl out before after))

pub returns-in-Unread-clause-answers : goal.returns-in-Unread-clause-answers
returns-in-Unread-clause-answers g c = λ word path old new why lists out before after.
    let is = subst (λ (x : Unopened). NoFolder old.files word old.faults new.faults x) c.in-Unread.is why in
    Reports.unread is lists (c.tell-in-Unread.ensures.leaves _ old new c.joined-line.ensures out before after)

pub returns-in-NoMemory-clause-answers : goal.returns-in-NoMemory-clause-answers
returns-in-NoMemory-clause-answers g c = λ word path old new why lists out before after.
    Reports.short (ap (λ (r : Report). r.status) c.without_run.ensures) lists out (after ∙ sym before)
