use Rattle.std.proofs.Common.{◌≡◌, ◌∙◌, sym, ap, ◌++◌, append_assoc, map, take, ◌+◌}
use Rattle.value_texts.specs.Texts.{put, with_commas, comma_before, repr_text}
use Rattle.value_texts.proofs.Commas.{commas_more}
use Rattle.value_texts.proofs.Drafts.{put_put}
use Rattle.value_texts.proofs.texts.+reprs.Goals as goal

pub put_items-loop-n-preserved : goal.put_items-loop-n-preserved
put_items-loop-n-preserved t c =
    let items = c.as_slice-items.result.now in
    let n = c.loop-n.n in
    let item = c.index-items-n.result in
    let so_far = c.args.opening.now ++ with_commas (map repr_text (take n items)) in
    let pieces : c.in_ok-draft-3.draft ≡ put (put (put c.args.draft so_far) (comma_before n)) (repr_text item) =
    c.in_ok-draft-3.ensures ∙ ap (λ d. put d (repr_text item)) (c.in_ok-draft-2.ensures ∙ (λ k. put (c.loop-n.invariant k) (c.comma_before.ensures k)))
    in
    let one : put (put (put c.args.draft so_far) (comma_before n)) (repr_text item) ≡ put c.args.draft (so_far ++ comma_before n ++ repr_text item) =
    ap (λ d. put d (repr_text item)) (put_put c.args.draft so_far (comma_before n)) ∙ put_put c.args.draft (so_far ++ comma_before n) (repr_text item)
    in
    let longer : with_commas (map repr_text (take (n + 1) items)) ≡ with_commas (map repr_text (take n items)) ++ (comma_before n ++ repr_text item) =
    commas_more items n item c.loop-n-test.true ∙ ap (λ x. with_commas (map repr_text (take n items)) ++ (comma_before n ++ repr_text x)) (sym c.index-items-n.is)
    in
    let text : so_far ++ comma_before n ++ repr_text item ≡ c.args.opening.now ++ with_commas (map repr_text (take (n + 1) items)) =
    append_assoc so_far (comma_before n) (repr_text item)
    ∙ append_assoc c.args.opening.now (with_commas (map repr_text (take n items))) (comma_before n ++ repr_text item)
    ∙ ap (λ t. c.args.opening.now ++ t) (sym longer)
    in
    pieces ∙ one ∙ ap (put c.args.draft) text
