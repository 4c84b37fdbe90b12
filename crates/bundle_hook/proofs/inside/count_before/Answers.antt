use Rattle.std.proofs.Common.{◌≡◌, ◌∙◌, sym, refl, subst, ◌+◌, ◌-◌, ◌/◌, ◌<◌, length, false, IfSome, arith}
use Rattle.std.specs.Prelude.{slice_get}
use Rattle.std.specs.Ordering.{is_lt}
use Rattle.std.proofs.lemmas.Option.{slice_get_read}
use Rattle.base_types.specs.Path.{path_cmp}
use Rattle.bundle_hook.proofs.Ascending.{skips_to}
use Rattle.bundle_hook.proofs.inside.count_before.Goals as goal

pub loop-left-preserved-then-is_before : goal.loop-left-preserved-then-is_before
loop-left-preserved-then-is_before c =
    let count = c.loop-left.count in
    let half = c.loop-left.left / 2 in
    let low : count + half < length c.args.items.now = omega (arith, c.loop-left-test.true, c.loop-left.invariant.within) in
    let within : count + (half + 1) + (c.loop-left.left - (half + 1)) ≡ count + c.loop-left.left = omega (arith, c.loop-left-test.true) in
    let there = slice_get_read c.args.items.now (length c.args.items.now) (count + half) c.index-items-count.result refl low c.index-items-count.is in
    record {
      within = omega (arith, within, c.loop-left.invariant.within);
      before = skips_to c.args.items.now count half (count + (half + 1)) c.index-items-count.result c.args.path.now c.requires there (sym c.is_before.ensures ∙ c.if-is_before.true) refl c.loop-left.invariant.before;
      reached = subst (λ at. IfSome (slice_get c.args.items.now at) (λ item. is_lt (path_cmp item.path c.args.path.now) ≡ false)) (sym within) c.loop-left.invariant.reached;
    }

pub loop-left-preserved : goal.loop-left-preserved
loop-left-preserved c =
    let count = c.loop-left.count in
    let half = c.loop-left.left / 2 in
    let low : count + half < length c.args.items.now = omega (arith, c.loop-left-test.true, c.loop-left.invariant.within) in
    let there = slice_get_read c.args.items.now (length c.args.items.now) (count + half) c.index-items-count.result refl low c.index-items-count.is in
    record {
      within = omega (arith, low);
      before = c.loop-left.invariant.before;
      reached = subst (λ o. IfSome o (λ item. is_lt (path_cmp item.path c.args.path.now) ≡ false)) (sym there) (sym c.is_before.ensures ∙ c.if-is_before.false);
    }
