use Rattle.std.proofs.Common.{sym, ap, subst, ◌∙◌, IsTrue}
use Rattle.spec_core.specs.Identifiers.{is_dotted}
use Rattle.spec_core.specs.Names.{parent_of}
use Rattle.spec_core.proofs.Dots.{dotted-first, one-first}
use Rattle.spec_core.proofs.view.DottedView.front.Goals as goal

pub returns-clause-dotted : goal.returns-clause-dotted
returns-clause-dotted c = subst (λ t. IsTrue (is_dotted t)) (sym c.front_of.ensures) (dotted-first c.self.inside.text.now c.self.invariant)

pub returns-clause-one : goal.returns-clause-one
returns-clause-one c = ap parent_of c.front_of.ensures ∙ one-first c.self.inside.text.now
