use Rattle.std.proofs.Common.{◌≡◌, ◌∙◌, sym, ap, ℕ, List, ◌++◌, drop}
use Rattle.report_questions.specs.SourceImports.{paired, with_first}
use Rattle.report_questions.specs.declared.source.Import.{Import}
use Rattle.report_questions.proofs.Pairs.{paired_push, drop_push}
use Rattle.report_questions.proofs.source.paired.Goals as goal

pub loop-asked-preserved : goal.loop-asked-preserved
loop-asked-preserved c =
    let lines : List ℕ = c.args.lines.now in
    let all = c.loop-asked.yielded in
    record {
      pairs =
          c.in_ok-put_pair.ensures ∙ ap (λ (found : List Import). found ++ with_first c.in-Some.asked c.loop-asked.rest.now) c.loop-asked.invariant.pairs
          ∙ ap (λ (r : List ℕ). paired all lines ++ with_first c.in-Some.asked r) c.loop-asked.invariant.rest ∙ sym (paired_push all c.in-Some.asked lines);
      rest = c.behind_first-rest.ensures ∙ ap (λ (r : List ℕ). drop 1 r) c.loop-asked.invariant.rest ∙ drop_push all c.in-Some.asked lines;
    }
