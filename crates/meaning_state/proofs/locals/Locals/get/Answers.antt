use Rattle.std.proofs.Common.{sym, ap, ◌∙◌}
use Rattle.std.specs.Cmp.Lexicographic.{nat_list_cmp_total}
use Rattle.std.specs.FinMap as map
use Rattle.spec_core.proofs.Entries.{look}
use Rattle.meaning_state.proofs.locals.Locals.get.Goals as goal

pub returns : goal.returns
returns c = c.get.ensures.value ∙ sym (look nat_list_cmp_total c.self.inside.map.entries c.args.name.now) ∙ ap (λ m. map.get m c.args.name.now) c.self.view_is
