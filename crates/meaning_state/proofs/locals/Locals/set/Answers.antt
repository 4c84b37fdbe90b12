use Rattle.std.proofs.Common.{sym, ap, ◌∙◌}
use Rattle.std.specs.Cmp.Lexicographic.{nat_list_cmp_total}
use Rattle.std.specs.FinMap.{nat_cmp-IsAntisymmetric, slice_cmp-IsAntisymmetric}
use Rattle.std.specs.FinMap as map
use Rattle.spec_core.proofs.Entries.{given}
use Rattle.meaning_state.proofs.locals.Locals.set.Goals as goal

pub returns-clause-ok : goal.returns-clause-ok
returns-clause-ok c = given nat_list_cmp_total (slice_cmp-IsAntisymmetric nat_cmp-IsAntisymmetric) c.self.inside.map.entries c.insert.new.self.entries c.args.name c.args.value c.in_ok-insert.ensures.updates.0 ∙ ap (λ m. map.insert m c.args.name c.args.value) c.self.view_is
