use Rattle.std.proofs.Common.{◌≡◌, ◌∙◌, refl, sym, ap, subst, ◌+◌, ◌≤◌, [], ◌∷◌, ◌++◌, drop, get_or, arith}
use Rattle.std.proofs.lemmas.List.{map_push}
use Rattle.trace_fields.specs.declared.pieces.Scan.TheVariants as scan
use Rattle.trace_fields.specs.Splitting.{views, depth, with_front, split_from, next}
use Rattle.trace_fields.proofs.Cuts.{piece, nothing_front, ends_piece, goes_on, depth_next}
use Rattle.trace_fields.proofs.pieces.split.Goals as goal
use Rattle.trace_fields.proofs.pieces.split.Goals.{then-separates+in_ok-push, else-separates}

pub loop-i-init : goal.loop-i-init
loop-i-init c =
    let all = split_from c.args.separator (scan.Outside 0) c.args.text.now in
    record {
      low = omega arith;
      shallow = omega arith;
      so_far = sym (ap (λ ps. views ps ++ with_front [] all) c.new-pieces.ensures.items ∙ nothing_front c.args.separator (scan.Outside 0) c.args.text.now);
    }

pub loop-i-preserved : goal.loop-i-preserved
loop-i-preserved c =
    let text = c.args.text.now in
    let separator = c.args.separator in
    let i = c.loop-i.i in
    let from = c.loop-i.from in
    let s = c.loop-i.scan in
    let so_far = c.loop-i.invariant.so_far in
    elim c.if-separates.branch [
      | then-separates+in_ok-push w ↦
          let more : views w.push.new.self.items ≡ views c.loop-i.pieces.items ++ piece from i text ∷ [] = rw w.in_ok-push.ensures.items (map_push _ c.loop-i.pieces.items _) in
          let step = ends_piece separator s text from i (views c.loop-i.pieces.items) c.loop-i.invariant.low c.loop-i-test.true (sym c.separates.ensures ∙ w.if-separates.true) in
          record {
            low = omega (arith, w.from-is);
            shallow = subst (λ t. depth t ≤ i + 1) (sym w.scan-is) (omega (arith, c.loop-i.invariant.shallow));
            so_far =
                so_far ∙ step
                ∙ ap (λ ps. ps ++ with_front (piece (i + 1) (i + 1) text) (split_from separator s (drop (i + 1) text))) (sym more ∙ ap (λ v. views v.items) (sym w.pieces-is))
                ∙ ap (λ n. views c.if-separates.pieces.items ++ with_front (piece n (i + 1) text) (split_from separator s (drop (i + 1) text))) (sym w.from-is)
                ∙ ap (λ t. views c.if-separates.pieces.items ++ with_front (piece c.if-separates.from (i + 1) text) (split_from separator t (drop (i + 1) text))) (sym w.scan-is);
          }
      | else-separates w ↦
          let step = goes_on separator s text from i (views c.loop-i.pieces.items) c.loop-i.invariant.low c.loop-i-test.true (sym c.separates.ensures ∙ w.if-separates.false) in
          let turned : c.if-separates.scan ≡ next s (get_or text i 0) = w.scan-is ∙ w.next-scan.ensures in
          record {
            low = omega (arith, w.from-is, c.loop-i.invariant.low);
            shallow = subst (λ t. depth t ≤ i + 1) (sym turned) (omega (arith, depth_next s (get_or text i 0), c.loop-i.invariant.shallow));
            so_far =
                so_far ∙ step
                ∙ ap (λ v. views v.items ++ with_front (piece from (i + 1) text) (split_from separator (next s (get_or text i 0)) (drop (i + 1) text))) (sym w.pieces-is)
                ∙ ap (λ n. views c.if-separates.pieces.items ++ with_front (piece n (i + 1) text) (split_from separator (next s (get_or text i 0)) (drop (i + 1) text))) (sym w.from-is)
                ∙ ap (λ t. views c.if-separates.pieces.items ++ with_front (piece c.if-separates.from (i + 1) text) (split_from separator t (drop (i + 1) text))) (sym turned);
          }
    ]
