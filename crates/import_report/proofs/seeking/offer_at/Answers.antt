use Rattle.std.proofs.Common.{◌∙◌, sym}
use Rattle.import_report.proofs.Finding.{offer_in_dir}
use Rattle.import_report.proofs.seeking.offer_at.Goals as goal

pub returns-then-branch-clause-told : goal.returns-then-branch-clause-told
returns-then-branch-clause-told g c = λ f there.
    offer_in_dir f c.args.wanted.now.part c.in-Some.dir c.args.path.now c.offer_in.result c.in-Some.is (sym c.if-branch.true ∙ c.in_ok-is_dir_at-in-Some.ensures.told f there)
    (c.offer_in.ensures.told f (c.is_dir_at.ensures.files_stay ∙ there))
