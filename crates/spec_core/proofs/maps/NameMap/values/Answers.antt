use Rattle.std.proofs.Common.{sym, ap, ◌∙◌, map}
use Rattle.std.specs.Cmp.Lexicographic.{nat_list_cmp_total}
use Rattle.std.specs.FinMap as map_
use Rattle.spec_core.proofs.Listed.{listed}
use Rattle.spec_core.proofs.maps.NameMap.values.Goals as goal

pub returns-clause-rest : goal.returns-clause-rest
returns-clause-rest g c = c.values.ensures.rest ∙ sym (ap (map (λ e. e.1)) (listed nat_list_cmp_total c.self.inside.map.entries c.values.ensures.ordered)) ∙ ap map_.values c.self.view_is
