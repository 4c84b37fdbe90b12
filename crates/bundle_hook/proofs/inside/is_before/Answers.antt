use Rattle.std.proofs.Common.{◌∙◌, refl, ap, Some}
use Rattle.std.specs.Ordering.{is_lt, is_some_and, nat_cmp}
use Rattle.std.specs.Cmp.Lexicographic.{slice_cmp, slice_partial_cmp, lists_agrees}
use Rattle.bundle_hook.proofs.inside.is_before.Goals as goal

pub returns : goal.returns
returns c =
    c.lt.ensures ∙ ap (λ parts. is_some_and is_lt (slice_partial_cmp (λ t u. Some (slice_cmp nat_cmp t u)) parts c.args.path.now)) (c.as_slice.ensures ∙ c.parts.ensures)
    ∙ ap (is_some_and is_lt) (lists_agrees (λ t u. refl) c.args.item.now.path c.args.path.now)
