use Rattle.std.proofs.Common.{rules, ◌≤◌, ◌<◌, ◌-◌, length, refl, ap, arith}
use Rattle.import_report.proofs.Steps.{gone_all, deep_told, listed_lost, entered_lines, entered_lists}
use Rattle.import_report.proofs.visit.enter.Goals as goal

pub returns-then-saturating_sub-gt-MOST_PARTS-clause-goes : goal.returns-then-saturating_sub-gt-MOST_PARTS-clause-goes
returns-then-saturating_sub-gt-MOST_PARTS-clause-goes g c =
    let long = ap length c.parts.ensures in
    let deep : 64 < length c.args.path - c.args.above = omega (arith, long) in
    deep_told (g.T.Tree.files c.args.tree.now) c.args.path c.args.above c.requires.dir c.requires.tree (search rules)
    c.in_ok-text.text c.in_ok-too_deep.field-0 c.args.pile.now deep c.requires.near c.in_ok-text.ensures c.in_ok-too_deep.ensures

pub returns-then-saturating_sub-gt-MOST_PARTS-clause-lists : goal.returns-then-saturating_sub-gt-MOST_PARTS-clause-lists
returns-then-saturating_sub-gt-MOST_PARTS-clause-lists g c = λ f there. gone_all _ _ _ _ _ refl (omega arith)

pub returns-in_err-text-clause-lists : goal.returns-in_err-text-clause-lists
returns-in_err-text-clause-lists g c = λ f there. gone_all _ _ _ _ _ refl (omega arith)

pub returns-in_err-too_deep-clause-lists : goal.returns-in_err-too_deep-clause-lists
returns-in_err-too_deep-clause-lists g c = λ f there. gone_all _ _ _ _ _ refl (omega arith)

pub returns-in_err-names-clause-lists : goal.returns-in_err-names-clause-lists
returns-in_err-names-clause-lists g c =
    let long = ap length c.parts.ensures in
    let low : length c.args.path - c.args.above ≤ 64 = omega (arith, long) in
    listed_lost (g.T.Tree.files c.args.tree.now) c.args.path c.args.above c.requires.dir c.requires.tree (search rules)
    c.args.pile.now c.args.pile.now _ _ refl low c.list.ensures.lists_bound

pub returns-in_err-push-clause-lists : goal.returns-in_err-push-clause-lists
returns-in_err-push-clause-lists g c =
    let long = ap length c.parts.ensures in
    let low : length c.args.path - c.args.above ≤ 64 = omega (arith, long) in
    listed_lost (g.T.Tree.files c.args.tree.now) c.args.path c.args.above c.requires.dir c.requires.tree (search rules)
    c.args.pile.now c.push.new.self _ _ c.in_err-push.ensures.err low c.list.ensures.lists_bound

pub returns-clause-goes : goal.returns-clause-goes
returns-clause-goes g c =
    let long = ap length c.parts.ensures in
    let low : length c.args.path - c.args.above ≤ 64 = omega (arith, long) in
    entered_lines (g.T.Tree.files c.args.tree.now) c.args.path c.args.above c.requires.dir c.requires.tree (search rules)
    c.in_ok-names.names _ c.args.pile.now c.push.new.self c.in_ok-names.ensures.told c.in_ok-push.ensures.ok

pub returns-clause-lists : goal.returns-clause-lists
returns-clause-lists g c =
    let long = ap length c.parts.ensures in
    let low : length c.args.path - c.args.above ≤ 64 = omega (arith, long) in
    entered_lists (g.T.Tree.files c.args.tree.now) c.args.path c.args.above c.requires.dir c.requires.tree (search rules)
    c.in_ok-names.names _ c.args.pile.now c.push.new.self c.in_ok-names.ensures.told c.in_ok-push.ensures.ok _ _ c.list.ensures.lists_bound
