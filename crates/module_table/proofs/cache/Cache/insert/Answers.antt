use Rattle.std.proofs.Common.{sym, ap, ◌∙◌, nat_eq}
use Rattle.std.specs.Cmp.Lexicographic.{nat_list_cmp_total, pointwise, texts_ties}
use Rattle.std.specs.FinMap.{nat_cmp-IsAntisymmetric, slice_cmp-IsAntisymmetric}
use Rattle.std.specs.FinMap as map
use Rattle.std.proofs.lemmas.Result.{err_from_is_err_and}
use Rattle.spec_core.proofs.Entries.{look_by, given_by}
use Rattle.module_table.proofs.cache.Cache.insert.Goals as goal

pub returns-clause-ok : goal.returns-clause-ok
returns-clause-ok c = given_by nat_list_cmp_total (pointwise nat_eq) texts_ties (slice_cmp-IsAntisymmetric nat_cmp-IsAntisymmetric) c.self.inside.map.entries c.insert.new.self.entries c.args.name c.args.slot c.in_ok-insert.ensures.updates.0 ∙ ap (λ m. map.insert m c.args.name c.args.slot) c.self.view_is

pub returns-in_err-insert-clause-absent : goal.returns-in_err-insert-clause-absent
returns-in_err-insert-clause-absent c =
    let p = err_from_is_err_and c.from_residual.result c.from_residual.ensures.1 in
    rw p.1 (sym (ap (λ m. map.get m c.args.name) c.self.view_is) ∙ look_by nat_list_cmp_total (pointwise nat_eq) texts_ties c.self.inside.map.entries c.args.name ∙ c.in_err-insert.ensures.absent)
