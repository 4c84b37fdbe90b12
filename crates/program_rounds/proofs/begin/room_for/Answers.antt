use Rattle.std.proofs.Common.{sym, ap, subst, arith, length}
use Rattle.std.proofs.lemmas.List.{length-append}
use Rattle.drive_round.specs.Played.{AreShort}
use Rattle.program_rounds.proofs.Begun.{short_more}
use Rattle.program_rounds.proofs.begin.room_for.Goals as goal

pub loop-preserved : goal.loop-preserved
loop-preserved c =
    let items = c.in_ok-push.ensures.items in
    let long = ap length items in
    let many = c.loop.invariant.many in
    record {
      short = subst AreShort (sym items) (short_more c.loop.results.items _ c.loop.invariant.short);
      many = omega (arith, simp length-append at long, many);
    }
