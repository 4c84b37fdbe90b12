use Rattle.std.proofs.Common.{◌∙◌, ap, length}
use Rattle.import_report.proofs.Steps.{first_lines_at, first_folders_at}
use Rattle.import_report.proofs.walk.new_pile.Goals as goal

pub returns-clause-lines : goal.returns-clause-lines
returns-clause-lines c = λ f on. first_lines_at f c.args.dir.now c.in_ok-path.path _ _ _ c.push.new.self c.new-pile.ensures c.in_ok-path.ensures (c.len-above.ensures ∙ ap length c.parts.ensures) c.in_ok-push.ensures.ok on

pub returns-clause-folders : goal.returns-clause-folders
returns-clause-folders c = λ f. first_folders_at f c.args.dir.now c.in_ok-path.path _ _ _ c.push.new.self c.new-pile.ensures c.in_ok-path.ensures (c.len-above.ensures ∙ ap length c.parts.ensures) c.in_ok-push.ensures.ok
