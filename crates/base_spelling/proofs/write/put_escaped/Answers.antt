use Rattle.std.proofs.Common.{◌≡◌, ◌∙◌, sym, ap, subst, ◌++◌, ◌-◌, ◌<◌, ◌≤◌, take, drop, get_or, length, true, false, IfOk, append_assoc, arith, inl, inr}
use Rattle.std.specs.List.{flat_map}
use Rattle.std.specs.Str.{IsCharBoundary}
use Rattle.std.proofs.lemmas.Bool.{cases_lt}
use Rattle.std.proofs.lemmas.List.{append-nil}
use Rattle.std.proofs.lemmas.Str.{IsCharBoundary-start, IsCharBoundary-after_ascii}
use Rattle.base_spelling.specs.Spelling.{is_escaped, escape, escaped}
use Rattle.base_spelling.proofs.Escapes.{ascii, run_step, run_end}
use Rattle.base_spelling.proofs.write.put_escaped.Goals as goal
use Rattle.base_spelling.proofs.write.put_escaped.Goals.{then-is_escaped+in_ok-more, else-is_escaped}

pub loop-i-init : goal.loop-i-init
loop-i-init c = record {
  low = omega arith;
  cut = IsCharBoundary-start c.args.text.now c.utf8.text;
  plain = λ k above below. absurd (omega arith);
  so_far = sym (append-nil c.args.out);
}

pub loop-i-preserved : goal.loop-i-preserved
loop-i-preserved c =
    let text = c.args.text.now in
    let at = c.loop-i.i in
    let high : at < length text = omega (arith, c.as_bytes-bytes.ensures.len) in
    let told : is_escaped (get_or text at 0) ≡ c.is_escaped.result = ap (λ bytes. is_escaped (get_or bytes at 0)) (sym c.as_bytes-bytes.ensures.value) ∙ sym c.is_escaped.ensures in
    elim c.if-is_escaped.branch [
      | then-is_escaped+in_ok-more w ↦
          let yes : is_escaped (get_or text at 0) ≡ true = told ∙ w.if-is_escaped.true in
          let end = take (at - c.loop-i.from) (drop c.loop-i.from text) ++ escape (get_or text at 0) in
          let pieces : w.in_ok-more.more ≡ c.loop-i.more ++ end =
          w.in_ok-more.ensures ∙ (λ k. c.loop-i.more ++ (w.range.ensures.value k ++ escape (get_or (c.as_bytes-bytes.ensures.value k) at 0)))
          in
          record {
            low = omega (arith, w.from-is);
            cut = subst (IsCharBoundary text) (sym w.from-is) (IsCharBoundary-after_ascii text at c.utf8.text high (ascii (get_or text at 0) yes));
            plain = λ k above below. absurd (omega (arith, w.from-is));
            so_far =
                w.more-is ∙ pieces ∙ ap (λ d. d ++ end) c.loop-i.invariant.so_far
                ∙ append_assoc c.args.out (flat_map escaped (take c.loop-i.from text)) end
                ∙ ap (λ t. c.args.out ++ t) (sym (run_step text c.loop-i.from at c.loop-i.invariant.low high c.loop-i.invariant.plain yes))
                ∙ ap (λ n. c.args.out ++ flat_map escaped (take n text)) (sym w.from-is);
          }
      | else-is_escaped w ↦
          let none : is_escaped (get_or text at 0) ≡ false = told ∙ w.if-is_escaped.false in
          record {
            low = omega (arith, w.from-is, c.loop-i.invariant.low);
            cut = subst (IsCharBoundary text) (sym w.from-is) c.loop-i.invariant.cut;
            plain = λ k above below. elim (cases_lt k at) [
              | inl less ↦ c.loop-i.invariant.plain k (omega (arith, w.from-is)) less
              | inr more ↦ let here : k ≡ at = omega arith in ap (λ n. is_escaped (get_or text n 0)) here ∙ none
            ];
            so_far = w.more-is ∙ c.loop-i.invariant.so_far ∙ ap (λ n. c.args.out ++ flat_map escaped (take n text)) (sym w.from-is);
          }
    ]

pub returns : goal.returns
returns c =
    let text = c.args.text.now in
    let from = c.loop-i.from in
    let low : from ≤ length text = omega (arith, c.range_from.ensures.len) in
    let whole = run_end text from low (λ k above below. c.loop-i.invariant.plain k above (omega (arith, c.as_bytes-bytes.ensures.len))) in
    let same : c.loop-i.more ++ c.range_from.result.now ≡ c.args.out ++ flat_map escaped text =
    (λ k. c.loop-i.invariant.so_far k ++ c.range_from.ensures.value k)
    ∙ append_assoc c.args.out (flat_map escaped (take from text)) (drop from text)
    ∙ ap (λ t. c.args.out ++ t) (sym whole)
    in
    subst (λ x. IfOk c.put.result (λ it. it ≡ x)) same c.put.ensures
