use Rattle.std.proofs.Common.{sym, ap, ◌∙◌, nat_eq}
use Rattle.std.specs.Cmp.Lexicographic.{nat_list_cmp_total, pointwise, texts_ties}
use Rattle.std.specs.FinMap as map
use Rattle.spec_core.proofs.Entries.{look_by}
use Rattle.module_table.proofs.cache.Cache.get.Goals as goal

pub returns : goal.returns
returns c = c.get.ensures.value ∙ sym (look_by nat_list_cmp_total (pointwise nat_eq) texts_ties c.self.inside.map.entries c.args.name.now) ∙ ap (λ m. map.get m c.args.name.now) c.self.view_is
