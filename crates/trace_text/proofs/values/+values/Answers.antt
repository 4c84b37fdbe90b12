use Rattle.std.proofs.Common.{◌≡◌, ◌∙◌, ap, ◌++◌, map, take}
use Rattle.trace_text.specs.Values.{with_commas, comma_before, value_text}
use Rattle.trace_text.proofs.Commas.{put_more}
use Rattle.trace_text.proofs.values.+values.Goals as goal

pub put_with_commas-loop-n-preserved : goal.put_with_commas-loop-n-preserved
put_with_commas-loop-n-preserved t c =
    let items = c.as_slice-items.result.now in
    let n = c.loop-n.n in
    let item = c.index-items-n.result in
    let so_far = c.args.out ++ with_commas (map value_text (take n items)) in
    let pieces : c.in_ok-more-2.more ≡ (so_far ++ comma_before n) ++ value_text item =
    c.in_ok-more-2.ensures ∙ ap (λ d. d ++ value_text item) (c.in_ok-more.ensures ∙ (λ k. c.loop-n.invariant k ++ c.comma_before.ensures k))
    in
    pieces ∙ ap (λ x. (so_far ++ comma_before n) ++ value_text x) c.index-items-n.is ∙ put_more value_text c.args.out items n item c.loop-n-test.true
