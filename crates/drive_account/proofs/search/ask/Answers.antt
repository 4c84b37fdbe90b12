use Rattle.std.proofs.Common.{◌≡◌, Err, refl, ap, arith}
use Rattle.machine_events.specs.declared.event.Event.TheVariants as e
use Rattle.drive_account.specs.declared.port.Halt.TheVariants.{Refused}
use Rattle.drive_account.proofs.Holding.{holds_made}
use Rattle.drive_account.proofs.Making.{at_made, in_at, refused_here}
use Rattle.drive_account.proofs.Searching.{safe_made, lists_made}
use Rattle.drive_account.proofs.Staying.{stays_refl}
use Rattle.drive_account.proofs.search.ask.Goals as goal

pub call-requires-clause-knows : goal.call-requires-clause-knows
call-requires-clause-knows g c = (c.requires.runs, tt)

pub returns-then-not-pay : goal.returns-then-not-pay
returns-then-not-pay g c = record {
  stays = stays_refl _;
  given = record {
    moves = λ files go k whole fuel a. c.if-not-pay.ensures.moves files whole fuel _ _ a;
    safe = λ go k h. tt;
    fits = tt;
    counts = λ faults. refl;
    kept = omega arith;
  };
  holds = λ held known. known;
  part = tt;
  refused = λ is. absurd (cc is);
}

pub returns-in-Ok : goal.returns-in-Ok
returns-in-Ok g c =
    let old = g.P.Port.view c.args.port.now in
    let new = g.P.Port.view c.call.new.self in
    let event = e.DirGet c.args.dir c.args.part in
    record {
      stays = c.call.ensures.stays;
      given = record {
        moves = λ files go k whole fuel a. c.listed.ensures.moves files go k whole fuel new.mine (at_made old.mine new.mine c.pay.new.self event c.in-Ok.reply _ c.in-Ok.ensures.ok.mine (c.if-not-pay.ensures.moves files whole fuel _ _ a));
        safe = λ go k h. c.listed.ensures.safe _ go k (safe_made old.number old.mine new.mine event c.in-Ok.reply _ c.in-Ok.ensures.ok.mine h.1);
        fits = c.listed.ensures.fits;
        counts = c.listed.ensures.counts;
        kept = lists_made old.mine new.mine event c.in-Ok.reply c.in-Ok.ensures.ok.mine;
      };
      holds = λ held known. holds_made old new event c.in-Ok.reply held held c.call.ensures.stays c.in-Ok.ensures.ok known refl;
      part = tt;
      refused = λ is. absurd (cc is);
    }

pub returns-in-Err : goal.returns-in-Err
returns-in-Err g c = record {
  stays = c.call.ensures.stays;
  given = tt;
  holds = tt;
  part = λ files go k whole fuel a. in_at (g.P.Port.view c.args.port.now).mine _ _ _ c.in-Err.ensures.err a;
  refused = λ is files go k whole fuel a.
      let same : c.in-Err.halt ≡ Refused = cc in
      refused_here (g.P.Port.view c.call.new.self) files whole fuel (g.P.Port.view c.args.port.now).mine c.pay.new.self (e.DirGet c.args.dir c.args.part) _ (c.in-Err.ensures.refused (ap Err same)) c.in-Err.ensures.err (c.if-not-pay.ensures.moves files whole fuel _ _ a);
}
