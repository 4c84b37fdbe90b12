use Rattle.std.proofs.Common.{◌≡◌, rules, Bool, false, true}
use Rattle.base_types.proofs.PathText.{not_spelled, spelled}
use Rattle.base_types.proofs.path.TreePath.read.Goals as goal

pub returns-then-not-are_parts : goal.returns-then-not-are_parts
returns-then-not-are_parts c =
    let same = c.as_str-text.ensures in
    not_spelled c.args.text.now
    (λ e. let no : ◌≡◌ {A = Bool} false true = rw (same, e) at c.if-is_empty.ensures in cc)
    (λ e. let no : ◌≡◌ {A = Bool} false true = rw (same, e) at c.if-eq.ensures in cc)
    (let bad = c.if-not-are_parts.ensures in let pieces = c.in_ok-pieces.ensures in search rules)

pub returns : goal.returns
returns c =
    let pieces = c.in_ok-pieces.ensures in
    let made = c.in_ok-owned.ensures in
    let good = c.if-not-are_parts.false in
    let told = c.are_parts.ensures in
    spelled c.args.text.now c.in_ok-owned.field-0 (search rules) (search rules)
