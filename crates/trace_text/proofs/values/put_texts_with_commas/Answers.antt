use Rattle.std.proofs.Common.{◌≡◌, ◌∙◌, ap, ◌++◌, map, take}
use Rattle.base_spelling.specs.Spelling.{quoted}
use Rattle.trace_text.specs.Values.{with_commas, comma_before}
use Rattle.trace_text.proofs.Commas.{put_more}
use Rattle.trace_text.proofs.values.put_texts_with_commas.Goals as goal

pub loop-n-preserved : goal.loop-n-preserved
loop-n-preserved c =
    let texts = c.as_slice-texts.result.now in
    let n = c.loop-n.n in
    let item = c.index-texts-n.result in
    let so_far = c.args.out ++ with_commas (map quoted (take n texts)) in
    let pieces : c.in_ok-more-2.more ≡ (so_far ++ comma_before n) ++ quoted item =
    c.in_ok-more-2.ensures ∙ ap (λ d. d ++ quoted c.as_str.result.now) (c.in_ok-more.ensures ∙ (λ k. c.loop-n.invariant k ++ c.comma_before.ensures k))
    ∙ ap (λ x. (so_far ++ comma_before n) ++ quoted x) c.as_str.ensures
    in
    pieces ∙ ap (λ x. (so_far ++ comma_before n) ++ quoted x) c.index-texts-n.is ∙ put_more quoted c.args.out texts n item c.loop-n-test.true
