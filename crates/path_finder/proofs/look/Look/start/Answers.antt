use Rattle.std.proofs.Common.{◌≡◌, ◌∙◌, ap, refl, []}
use Rattle.path_finder.specs.Steps.{searches}
use Rattle.path_finder.specs.declared.look.Stage.TheVariants as at
use Rattle.path_finder.proofs.Reading.{onward-start}
use Rattle.path_finder.proofs.Steps.{came_at_start}
use Rattle.path_finder.proofs.look.Look.start.Goals as goal

pub returns-clause-means : goal.returns-clause-means
returns-clause-means c =
    rw c.new-portions.ensures (ap (λ s. s []) (onward-start c.in_ok-sought.sought.name c.args.path) ∙ ap (λ n. searches n c.args.path []) c.in_ok-sought.ensures)

pub returns-clause-came : goal.returns-clause-came
returns-clause-came c = λ f.
    came_at_start f (record { sought = c.in_ok-sought.sought; path = c.args.path; at = 0; portions = c.new-portions.result; stage = at.Fresh }) refl
    (rw c.new-portions.ensures (ap (λ s. s []) (onward-start c.in_ok-sought.sought.name c.args.path)))
