use Rattle.std.proofs.Common.{◌∙◌, sym, ap, subst}
use Rattle.module_table.specs.Names.{has_part, Rise}
use Rattle.module_table.proofs.Halves.{found}
use Rattle.module_table.proofs.kept.KeptListing.has.Goals as goal

pub returns-then-self : goal.returns-then-self
returns-then-self c =
    let same = c.as_slice.ensures in
    let rise = subst Rise (sym same) (c.self.invariant c.if-self.true) in
    let halves = found _ c.args.part.now _ rise c.binary_search.ensures.bound c.binary_search.ensures.position in
    c.is_ok.ensures.value ∙ halves ∙ ap (λ names. has_part names c.args.part.now) (same ∙ ap (λ it. it.names) c.self.view_is)
