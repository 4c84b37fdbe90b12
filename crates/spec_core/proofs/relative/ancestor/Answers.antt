use Rattle.std.proofs.Common.{◌≡◌, ◌∙◌, ap, ◌-◌, length, arith}
use Rattle.spec_core.specs.Names.{parts}
use Rattle.spec_core.specs.Relative.{front_parts}
use Rattle.spec_core.proofs.Dots.{some_parts}
use Rattle.spec_core.proofs.Levels.{level_up, top_level, left_name, whole_taken}
use Rattle.spec_core.proofs.relative.ancestor.Goals as goal

pub levels-init : goal.levels-init
levels-init c = record { some = some_parts c.args.name; left = whole_taken (parts c.args.name) }

pub returns-in-None-clause-none : goal.returns-in-None-clause-none
returns-in-None-clause-none c _ =
    let most = top_level (parts c.args.name) c.levels.name c.levels.counter c.levels.invariant.some c.levels.invariant.left c.in-None.ensures in
    let low = c.levels-test.true in
    omega arith

pub levels-preserved : goal.levels-preserved
levels-preserved c =
    let up = level_up (parts c.args.name) c.levels.name c.in-Some.parent c.levels.counter c.levels.invariant.some c.levels.invariant.left c.in-Some.ensures in
    record { some = up.0; left = up.1 }

pub returns-clause-some : goal.returns-clause-some
returns-clause-some c =
    let past = c.levels-test.false in
    let end = c.levels.auto.counter-end in
    let low = c.levels.invariant.some in
    let same : c.levels.counter ≡ c.args.count = omega arith in (
      omega arith,
      left_name c.args.name c.levels.name c.levels.counter c.levels.invariant.left ∙ ap (λ n. front_parts (length (parts c.args.name) - n) c.args.name) same,
    )
