use Rattle.std.proofs.Common.{◌≡◌, ◌∙◌, ◌++◌, sym, ap, subst, IsTrue, codes}
use Rattle.base_types.specs.Path.{is_part}
use Rattle.path_finder.specs.Find.{with_suffix}
use Rattle.path_finder.proofs.PartNames.{name_is_part, name_file_is_part}
use Rattle.import_report.proofs.wanted.Wanted.of.Goals as goal

pub invariant_of-result : goal.invariant_of-result
invariant_of-result c =
    let part : c.in_ok-part.part ≡ c.tail.result.now = c.in_ok-part.ensures in
    let file : c.push_str.new.self ≡ with_suffix c.in_ok-part.part =
    c.in_ok-push_str.ensures.ok ∙ ap (λ t. t ++ codes ".py") (c.in_ok-file.ensures ∙ c.tail-2.ensures.value ∙ sym (part ∙ c.tail.ensures.value)) in
    record {
      suffix = file;
      part_fits = subst (λ x. IsTrue (is_part x)) (sym part) (name_is_part c.tail.result.now c.tail.utf8 c.tail.ensures.dotted c.tail.ensures.one);
      file_fits = subst (λ x. IsTrue (is_part x)) (sym (file ∙ ap with_suffix part)) (name_file_is_part c.tail.result.now c.tail.utf8 c.tail.ensures.dotted c.tail.ensures.one);
    }
