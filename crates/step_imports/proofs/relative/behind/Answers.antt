use Rattle.std.proofs.Common.{◌≡◌, [], refl, IsTrue}
use Rattle.step_imports.proofs.Levels.{named}
use Rattle.step_imports.proofs.relative.behind.Goals as goal

pub returns-then-is_bare : goal.returns-then-is_bare
returns-then-is_bare c =
    let yes : IsTrue c.is_empty-is_bare.result = c.if-is_bare.true in
    let none : c.args.parts.now ≡ [] = c.is_empty-is_bare.ensures.0 yes in
    rw (none, c.in_ok-front.ensures) refl

pub returns : goal.returns
returns c =
    rw (named c.is_empty-is_bare.result c.args.parts.now c.is_empty-is_bare.ensures c.if-is_bare.false, ← c.in_ok-front.ensures, ← c.in_ok-name.ensures) c.joined_name.ensures
