use Rattle.std.proofs.Common.{sym, ap, ◌∙◌, Some}
use Rattle.spec_core.specs.Names.{parent_of}
use Rattle.spec_core.proofs.Dots.{dotted-front, parent-cut, parent-none}
use Rattle.spec_core.proofs.view.DottedView.parent.Goals as goal

pub of-requires : goal.of-requires
of-requires c = dotted-front _ c.in-Some.front.now c.in-Some.field-0-1.now c.in-Some.ensures.value.0 c.self.invariant

pub returns-in-Some : goal.returns-in-Some
returns-in-Some c =
    ap Some c.of.ensures ∙ sym (parent-cut _ c.in-Some.front.now c.in-Some.field-0-1.now c.in-Some.ensures.value.0 c.in-Some.ensures.value.1)
    ∙ ap parent_of c.self.view_is

pub returns-in-None : goal.returns-in-None
returns-in-None c = sym (parent-none c.self.inside.text.now c.in-None.ensures.value) ∙ ap parent_of c.self.view_is
