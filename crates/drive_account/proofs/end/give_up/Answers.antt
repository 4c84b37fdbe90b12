use Rattle.drive_account.proofs.Staying.{stays_trans}
use Rattle.drive_account.proofs.Giving.{gives_shown, idle_given, gave_given, lists_then}
use Rattle.drive_account.proofs.end.give_up.Goals as goal

pub call-requires-clause-knows : goal.call-requires-clause-knows
call-requires-clause-knows g c = gives_shown (g.P.Port.view c.loop-hold.port) c.in-Some.hold c.event_of.result c.loop-hold.held c.pop.new.self c.event_of.ensures c.loop-hold.invariant.idle c.in-Some.ensures

pub loop-hold-preserved : goal.loop-hold-preserved
loop-hold-preserved g c =
    let first = g.P.Port.view c.args.port.now in
    let old = g.P.Port.view c.loop-hold.port in
    let new = g.P.Port.view c.call.new.self in
    record {
      stays = stays_trans _ _ _ c.loop-hold.invariant.stays c.call.ensures.stays;
      idle = idle_given old new c.in-Some.hold c.event_of.result c.in-Ok.reply c.loop-hold.held c.pop.new.self c.event_of.ensures c.call.ensures.stays c.in-Ok.ensures.ok c.loop-hold.invariant.idle c.in-Some.ensures;
      gave = gave_given first old new c.in-Some.hold c.event_of.result c.in-Ok.reply c.loop-hold.held c.pop.new.self c.event_of.ensures c.loop-hold.invariant.stays c.in-Ok.ensures.ok c.loop-hold.invariant.idle c.in-Some.ensures c.loop-hold.invariant.gave;
      grows = lists_then first.mine old.mine new.mine c.event_of.result c.in-Ok.reply c.loop-hold.invariant.grows c.in-Ok.ensures.ok.mine;
    }
