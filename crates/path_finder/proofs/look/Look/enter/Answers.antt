use Rattle.std.proofs.Common.{◌≡◌, ◌∙◌, ap, sym, Option, None, Some, slice_get}
use Rattle.py_value.specs.declared.value.Value.{Value}
use Rattle.path_finder.specs.Steps.{Ends}
use Rattle.path_finder.proofs.Reading.{onward-end, onward-next}
use Rattle.path_finder.proofs.look.Look.enter.Goals as goal

pub returns-in-None-clause-goes : goal.returns-in-None-clause-goes
returns-in-None-clause-goes c =
    let e : slice_get c.args.self.now.path c.args.self.now.at ≡ None = sym (rw c.in-None.is at c.get.ensures.value) in
    onward-end c.args.self.now.sought.name c.args.self.now.at c.args.self.now.path c.args.self.now.portions e ∙ ap Ends (sym c.found-found.ensures.found)

pub returns-in_ok-path-in-Some-clause-goes : goal.returns-in_ok-path-in-Some-clause-goes
returns-in_ok-path-in-Some-clause-goes c =
    let e : slice_get c.args.self.now.path c.args.self.now.at ≡ Some c.in-Some.entry.now = sym (rw c.in-Some.is at c.get.ensures.value) in
    onward-next c.args.self.now.sought.name c.args.self.now.at c.args.self.now.path c.args.self.now.portions c.in-Some.entry.now e ∙ (rw (c.step_past.ensures, c.in_ok-path-in-Some.ensures) at c.pay.ensures.goes)
