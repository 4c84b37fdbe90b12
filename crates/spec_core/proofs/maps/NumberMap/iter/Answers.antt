use Rattle.std.proofs.Common.{sym, ap, ◌∙◌}
use Rattle.std.specs.Cmp.{nat_cmp_total}
use Rattle.std.specs.FinMap as map
use Rattle.spec_core.proofs.Listed.{listed}
use Rattle.spec_core.proofs.maps.NumberMap.iter.Goals as goal

pub returns-clause-rest : goal.returns-clause-rest
returns-clause-rest g c = c.iter.ensures.rest ∙ sym (listed nat_cmp_total c.self.inside.map.entries c.iter.ensures.ordered) ∙ ap map.entries c.self.view_is
