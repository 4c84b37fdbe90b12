use Rattle.std.proofs.Common.{◌≡◌, ◌≤◌, ◌<◌, ◌/◌, sym, ap, subst, IfOk, length, arith}
use Rattle.value_operators.specs.Arithmetic.{copies}
use Rattle.value_operators.proofs.Copies.{copies-empty, limited-text, too_many, few}
use Rattle.value_operators.proofs.arithmetic.copied_text.Goals as goal

pub returns-then-len-eq0 : goal.returns-then-len-eq0
returns-then-len-eq0 c =
    let none : length c.args.text.now ≡ 0 = omega (arith, c.len.ensures) in
    let gone = copies-empty c.args.n c.args.text.now none in
    let short : length (copies c.args.n c.args.text.now) ≤ 65536 = omega (arith, ap length gone) in
    let same = limited-text (copies c.args.n c.args.text.now) short in
    cc

pub returns-then-n-len : goal.returns-then-n-len
returns-then-n-len c =
    let some : 0 < length c.args.text.now = omega (arith, c.len.ensures) in
    let many : 65536 / length c.args.text.now < c.args.n = rw c.len-2.ensures at c.if-n-len.true in
    subst (λ x. IfOk c.too_long_text.result (λ applied. applied ≡ x)) (sym (too_many c.args.n c.args.text.now some many)) c.too_long_text.ensures

pub returns : goal.returns
returns c =
    let some : 0 < length c.args.text.now = omega (arith, c.len.ensures) in
    let fits : c.args.n ≤ 65536 / length c.args.text.now = rw c.len-2.ensures at c.if-n-len.false in
    let same = few c.args.n c.args.text.now some fits in
    let made = c.in_ok-copies_of.ensures in
    cc
