use Rattle.std.proofs.Common.{◌∙◌, refl}
use Rattle.py_syntax.specs.Statements.{is_among}
use Rattle.source_functions.proofs.Locals.{told_local}
use Rattle.source_functions.proofs.function.Function.is_local.Goals as goal

pub returns-then-has : goal.returns-then-has
returns-then-has c =
    rw c.if-has.true at (told_local c.self.inside.def c.args.self.now c.args.name.now c.self.inside.bound.keys c.self.inside.globals.keys c.has.result c.has-then-has.result c.self.invariant c.self.view_is c.has.ensures c.has-then-has.ensures)

pub returns-else-has : goal.returns-else-has
returns-else-has c =
    c.if-has.false ∙ (rw c.if-has.false at (told_local c.self.inside.def c.args.self.now c.args.name.now c.self.inside.bound.keys c.self.inside.globals.keys c.has.result (is_among c.args.name.now c.self.inside.globals.keys) c.self.invariant c.self.view_is c.has.ensures refl))
