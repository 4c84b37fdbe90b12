use Rattle.std.proofs.Common.{◌∙◌, refl, sym, ap, subst}
use Rattle.tree_walk.specs.declared.pack.Packing.{Packing}
use Rattle.program_run.specs.Sinks.{at}
use Rattle.program_run.specs.declared.report.Report.{Report}
use Rattle.program_commands.specs.Making.{Packs, Makes}
use Rattle.program_commands.specs.Bundling.{Bundles}
use Rattle.program_commands.specs.declared.make.Made.{Made}
use Rattle.program_commands.proofs.Made.{wrote}
use Rattle.program_commands.proofs.folder_bundle.write_made.Goals as goal

pub returns-in-Bytes-clause-answers : goal.returns-in-Bytes-clause-answers
returns-in-Bytes-clause-answers g c = λ old new makes o n e f.
    let it = subst (λ (m : Made). Makes old.files c.args.dir m) c.in-Bytes.is makes in
    Bundles.bundled it.2.0 c.in-Bytes.bytes.items (subst (λ (p : Packing). Packs old.files c.args.dir p) it.2.1 it.1) it.2.2
    (wrote old new (at g.O.Sink c.args.out.now) _ _ c.in-Bytes.bytes.items c.say_line-flow.result _ (c.say_line-flow.ensures.gets c.in-Bytes.bytes.items refl) o n e f
    (ap (λ (r : Report). r.status) c.without_run.ensures ∙ c.status_by.ensures))

pub returns-in-Missing-clause-answers : goal.returns-in-Missing-clause-answers
returns-in-Missing-clause-answers g c = λ old new makes o n e f.
    let it = subst (λ (m : Made). Makes old.files c.args.dir m) c.in-Missing.is makes in
    Bundles.missing (subst (λ (p : Packing). Packs old.files c.args.dir p) it.2 it.1) (c.refused.ensures.leaves old new (n ∙ sym o) e f)

pub returns-in-Unfit-clause-answers : goal.returns-in-Unfit-clause-answers
returns-in-Unfit-clause-answers g c = λ old new makes o n e f.
    let it = subst (λ (m : Made). Makes old.files c.args.dir m) c.in-Unfit.is makes in
    Bundles.unfit it.0 it.1 it.2 (c.refused-in-Unfit.ensures.leaves old new (n ∙ sym o) e f)
