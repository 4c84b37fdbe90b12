use Rattle.std.proofs.Common.{sym, ap, ◌∙◌}
use Rattle.std.specs.Cmp.Lexicographic.{nat_list_cmp_total}
use Rattle.std.specs.FinMap.{nat_cmp-IsAntisymmetric, slice_cmp-IsAntisymmetric}
use Rattle.std.specs.FinMap as map
use Rattle.spec_core.proofs.Entries.{look, taken}
use Rattle.meaning_state.proofs.locals.Locals.unset.Goals as goal

pub returns-clause-before : goal.returns-clause-before
returns-clause-before c = c.remove.ensures.value ∙ sym (look nat_list_cmp_total c.self.inside.map.entries c.args.name.now) ∙ ap (λ m. map.get m c.args.name.now) c.self.view_is

pub returns-clause-after : goal.returns-clause-after
returns-clause-after c = taken nat_list_cmp_total (slice_cmp-IsAntisymmetric nat_cmp-IsAntisymmetric) c.self.inside.map.entries c.remove.new.self.entries c.args.name.now c.remove.ensures.updates.0 ∙ ap (λ m. map.remove m c.args.name.now) c.self.view_is
