use Rattle.std.proofs.Common.{◌∙◌, sym, ap, ◌&&◌, nat_eq}
use Rattle.namespace_path.specs.Fresh.{are_same}
use Rattle.namespace_path.proofs.Same.{are_same_decided}
use Rattle.namespace_path.proofs.recompute.fresh.Goals as goal

pub returns-then-is_same-clause-test : goal.returns-then-is_same-clause-test
returns-then-is_same-clause-test c =
    let told = are_same_decided c.parent_path.result.now c.args.parent_path.now c.is_same.result c.is_same.ensures in
    let same = told ∙ ap (λ path. are_same path c.args.parent_path.now) c.parent_path.ensures in
    rw (c.epoch.ensures) (ap (λ b. b && nat_eq c.args.state.now.epoch c.args.epoch) (sym c.if-is_same.true ∙ same))

pub returns-else-is_same-clause-test : goal.returns-else-is_same-clause-test
returns-else-is_same-clause-test c =
    let told = are_same_decided c.parent_path.result.now c.args.parent_path.now c.is_same.result c.is_same.ensures in
    let same = told ∙ ap (λ path. are_same path c.args.parent_path.now) c.parent_path.ensures in
    c.if-is_same.false ∙ ap (λ b. b && nat_eq c.args.state.now.epoch c.args.epoch) (sym c.if-is_same.false ∙ same)
