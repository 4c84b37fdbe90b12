use Rattle.std.proofs.Common.{◌≡◌, ◌∙◌, refl, sym, ap, subst, List, [], ◌∷◌, ◌++◌, Option, MatchOption, arith}
use Rattle.base_types.specs.Path.{Path}
use Rattle.import_report.specs.declared.line.Line.{Line}
use Rattle.import_report.specs.Due.{part_lines, due_lines, due_folders, Tells, Lists}
use Rattle.import_report.proofs.Steps.{gone_none, lists_then, lists_to, popped_lines, popped_folders}
use Rattle.import_report.proofs.walk.Walk.next.Goals as goal

pub parts-init : goal.parts-init
parts-init g c = record {
  left = λ f there. refl;
  lists = λ f there. gone_none _ _ _ refl;
  files = refl;
  faults = refl;
  grow = omega arith;
}

pub parts-preserved : goal.parts-preserved
parts-preserved g c =
    let before = c.parts.invariant.grow in
    let grows = c.take.ensures.lists_grow in
    record {
      left = λ f there.
          c.parts.invariant.left f there
          ∙ popped_lines f c.parts.self.path c.parts.self.pile c.pop.new.self c.in-Some.part c.in-Some.ensures
          ∙ subst (λ (told : Option Line). Tells f c.parts.self.path (part_lines f c.parts.self.path c.in-Some.part) c.pop.new.self told c.take.new.pile) c.in-None.is (c.in_ok-told.ensures.goes f (c.parts.invariant.files ∙ there));
      lists = λ f there. lists_then _ _ _ _ _ _ (c.parts.invariant.lists f there)
          (subst (λ (due : List Path). Lists due (due_folders f c.take.new.pile) (g.T.Tree.lists c.parts.tree) (g.T.Tree.lists c.take.new.tree)) (sym (popped_folders f c.parts.self.pile c.pop.new.self c.in-Some.part c.in-Some.ensures))
          (c.take.ensures.lists f (c.parts.invariant.files ∙ there)));
      files = c.take.ensures.files_stay ∙ c.parts.invariant.files;
      faults = c.in_ok-told.ensures.faults_stay ∙ c.parts.invariant.faults;
      grow = omega (arith, before, grows);
    }

pub returns-in_default-clause-told : goal.returns-in_default-clause-told
returns-in_default-clause-told g c = λ f there.
    c.parts.invariant.left f there
    ∙ ap (due_lines f c.parts.self.path) (subst (λ o. MatchOption o ((c.parts.self.pile ≡ []) × (c.pop.new.self ≡ [])) (λ last. c.parts.self.pile ≡ c.pop.new.self ++ last ∷ [])) c.in_default.is c.pop.ensures).0

pub returns-in_default-clause-lists : goal.returns-in_default-clause-lists
returns-in_default-clause-lists g c = λ f there.
    let none = subst (λ o. MatchOption o ((c.parts.self.pile ≡ []) × (c.pop.new.self ≡ [])) (λ last. c.parts.self.pile ≡ c.pop.new.self ++ last ∷ [])) c.in_default.is c.pop.ensures in
    lists_to _ _ _ _ _ (ap (due_folders f) (none.1 ∙ sym none.0)) (c.parts.invariant.lists f there)

pub returns-in-Some-told-clause-told : goal.returns-in-Some-told-clause-told
returns-in-Some-told-clause-told g c = λ f there.
    c.parts.invariant.left f there
    ∙ popped_lines f c.parts.self.path c.parts.self.pile c.pop.new.self c.in-Some.part c.in-Some.ensures
    ∙ subst (λ (told : Option Line). Tells f c.parts.self.path (part_lines f c.parts.self.path c.in-Some.part) c.pop.new.self told c.take.new.pile) c.in-Some-told.is (c.in_ok-told.ensures.goes f (c.parts.invariant.files ∙ there))

pub returns-in-Some-told-clause-lists : goal.returns-in-Some-told-clause-lists
returns-in-Some-told-clause-lists g c = λ f there. lists_then _ _ _ _ _ _ (c.parts.invariant.lists f there)
    (subst (λ (due : List Path). Lists due (due_folders f c.take.new.pile) (g.T.Tree.lists c.parts.tree) (g.T.Tree.lists c.take.new.tree)) (sym (popped_folders f c.parts.self.pile c.pop.new.self c.in-Some.part c.in-Some.ensures))
    (c.take.ensures.lists f (c.parts.invariant.files ∙ there)))

pub returns-in_err-told-clause-lists : goal.returns-in_err-told-clause-lists
returns-in_err-told-clause-lists g c = λ f there. lists_then _ _ _ _ _ _ (c.parts.invariant.lists f there)
    (subst (λ (due : List Path). Lists due (due_folders f c.take.new.pile) (g.T.Tree.lists c.parts.tree) (g.T.Tree.lists c.take.new.tree)) (sym (popped_folders f c.parts.self.pile c.pop.new.self c.in-Some.part c.in-Some.ensures))
    (c.take.ensures.lists f (c.parts.invariant.files ∙ there)))

pub returns-clause-lists : goal.returns-clause-lists
returns-clause-lists g c = λ f there. c.parts.invariant.lists f there
