use Rattle.std.proofs.Common.{◌≡◌, ◌∙◌, sym, ap, subst, ◌∷◌, ◌++◌, ◌-◌, ◌<◌, ◌≤◌, take, drop, get_or, length, true, false, IfOk, arith, inl, inr}
use Rattle.std.specs.List.{flat_map}
use Rattle.std.specs.Str.{IsCharBoundary}
use Rattle.std.proofs.lemmas.Bool.{cases_lt}
use Rattle.std.proofs.lemmas.Str.{IsCharBoundary-start, IsCharBoundary-after_ascii}
use Rattle.value_texts.specs.Texts.{put, quote_byte, is_escaped, escape, escaped}
use Rattle.value_texts.proofs.Drafts.{put_put}
use Rattle.value_texts.proofs.Escapes.{ascii, run_step, run_end}
use Rattle.value_texts.proofs.quoting.put_opened.Goals as goal
use Rattle.value_texts.proofs.quoting.put_opened.Goals.{then-is_escaped+in_ok-draft-2, else-is_escaped}

pub loop-i-init : goal.loop-i-init
loop-i-init c = record {
  low = omega arith;
  cut = IsCharBoundary-start c.args.text.now c.utf8.text;
  plain = λ k above below. absurd (omega arith);
  so_far = c.in_ok-draft.ensures ∙ ap (put c.args.draft) c.text.ensures;
}

pub loop-i-preserved : goal.loop-i-preserved
loop-i-preserved c =
    let text = c.args.text.now in
    let quote = quote_byte c.args.quote in
    let at = c.loop-i.i in
    let high : at < length text = omega (arith, c.as_bytes-bytes.ensures.len) in
    let told : is_escaped quote (get_or text at 0) ≡ c.is_escaped.result = ap (λ bytes. is_escaped quote (get_or bytes at 0)) (sym c.as_bytes-bytes.ensures.value) ∙ sym c.is_escaped.ensures in
    elim c.if-is_escaped.branch [
      | then-is_escaped+in_ok-draft-2 w ↦
          let yes : is_escaped quote (get_or text at 0) ≡ true = told ∙ w.if-is_escaped.true in
          let pieces : w.in_ok-draft-2.draft ≡ put c.loop-i.draft (take (at - c.loop-i.from) (drop c.loop-i.from text) ++ escape quote (get_or text at 0)) =
          w.in_ok-draft-2.ensures ∙ (λ k. put c.loop-i.draft (w.range.ensures.value k ++ escape quote (get_or (c.as_bytes-bytes.ensures.value k) at 0)))
          in
          record {
            low = omega (arith, w.from-is);
            cut = subst (IsCharBoundary text) (sym w.from-is) (IsCharBoundary-after_ascii text at c.utf8.text high (ascii c.args.quote (get_or text at 0) yes));
            plain = λ k above below. absurd (omega (arith, w.from-is));
            so_far =
                w.draft-is ∙ pieces ∙ ap (λ d. put d (take (at - c.loop-i.from) (drop c.loop-i.from text) ++ escape quote (get_or text at 0))) c.loop-i.invariant.so_far
                ∙ put_put c.args.draft (quote ∷ flat_map (escaped quote) (take c.loop-i.from text)) (take (at - c.loop-i.from) (drop c.loop-i.from text) ++ escape quote (get_or text at 0))
                ∙ ap (λ t. put c.args.draft (quote ∷ t)) (sym (run_step quote text c.loop-i.from at c.loop-i.invariant.low high c.loop-i.invariant.plain yes))
                ∙ ap (λ n. put c.args.draft (quote ∷ flat_map (escaped quote) (take n text))) (sym w.from-is);
          }
      | else-is_escaped w ↦
          let none : is_escaped quote (get_or text at 0) ≡ false = told ∙ w.if-is_escaped.false in
          record {
            low = omega (arith, w.from-is, c.loop-i.invariant.low);
            cut = subst (IsCharBoundary text) (sym w.from-is) c.loop-i.invariant.cut;
            plain = λ k above below. elim (cases_lt k at) [
              | inl less ↦ c.loop-i.invariant.plain k (omega (arith, w.from-is)) less
              | inr more ↦ let here : k ≡ at = omega arith in ap (λ n. is_escaped quote (get_or text n 0)) here ∙ none
            ];
            so_far = w.draft-is ∙ c.loop-i.invariant.so_far ∙ ap (λ n. put c.args.draft (quote ∷ flat_map (escaped quote) (take n text))) (sym w.from-is);
          }
    ]

pub returns : goal.returns
returns c =
    let text = c.args.text.now in
    let quote = quote_byte c.args.quote in
    let from = c.loop-i.from in
    let low : from ≤ length text = omega (arith, c.range_from.ensures.len) in
    let whole = run_end quote text from low (λ k above below. c.loop-i.invariant.plain k above (omega (arith, c.as_bytes-bytes.ensures.len))) in
    let same : put c.loop-i.draft c.range_from.result.now ≡ put c.args.draft (quote ∷ flat_map (escaped quote) text) =
    (λ k. put (c.loop-i.invariant.so_far k) (c.range_from.ensures.value k))
    ∙ put_put c.args.draft (quote ∷ flat_map (escaped quote) (take from text)) (drop from text)
    ∙ ap (λ t. put c.args.draft (quote ∷ t)) (sym whole)
    in
    subst (λ x. IfOk c.put-2.result (λ it. it ≡ x)) same c.put-2.ensures
