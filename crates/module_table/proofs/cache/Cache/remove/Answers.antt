use Rattle.std.proofs.Common.{sym, ap, ◌∙◌, nat_eq}
use Rattle.std.specs.Cmp.Lexicographic.{nat_list_cmp_total, pointwise, texts_ties}
use Rattle.std.specs.FinMap.{nat_cmp-IsAntisymmetric, slice_cmp-IsAntisymmetric}
use Rattle.std.specs.FinMap as map
use Rattle.spec_core.proofs.Entries.{look_by, taken_by}
use Rattle.module_table.proofs.cache.Cache.remove.Goals as goal

pub returns-clause-before : goal.returns-clause-before
returns-clause-before c = c.swap_remove.ensures.value ∙ sym (look_by nat_list_cmp_total (pointwise nat_eq) texts_ties c.self.inside.map.entries c.args.name.now) ∙ ap (λ m. map.get m c.args.name.now) c.self.view_is

pub returns-clause-after : goal.returns-clause-after
returns-clause-after c = taken_by nat_list_cmp_total (pointwise nat_eq) texts_ties (slice_cmp-IsAntisymmetric nat_cmp-IsAntisymmetric) c.self.inside.map.entries c.swap_remove.new.self.entries c.args.name.now c.swap_remove.ensures.updates.0 ∙ ap (λ m. map.remove m c.args.name.now) c.self.view_is
