use Rattle.std.proofs.Common.{sym, ap, subst, ◌∙◌, IsTrue, ◌++◌, ◌∷◌, [], append_assoc}
use Rattle.spec_core.specs.Identifiers.{is_dotted}
use Rattle.spec_core.proofs.Dots.{dotted-both}
use Rattle.spec_core.proofs.view.DottedView.followed_by.Goals as goal

pub of-requires : goal.of-requires
of-requires c =
    let made = c.in_ok-push_str-2.ensures.ok ∙ ap (λ t. t ++ c.args.name.now) (c.in_ok-push_str.ensures.ok ∙ ap (λ t. t ++ 46 ∷ []) c.in_ok-text.ensures) ∙ append_assoc c.self.inside.text.now (46 ∷ []) c.args.name.now in
    subst (λ t. IsTrue (is_dotted t)) (sym made) (dotted-both c.self.inside.text.now c.args.name.now c.self.invariant c.requires)
