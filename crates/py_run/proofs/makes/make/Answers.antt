use Rattle.std.proofs.Common.{◌≡◌, ◌∙◌, Err, refl, ap, arith}
use Rattle.machine_shown.specs.Shown.{shown}
use Rattle.drive_account.proofs.Giving.{lists_grow}
use Rattle.drive_account.proofs.Holding.{holds_made}
use Rattle.drive_account.proofs.Staying.{stays_refl}
use Rattle.drive_account.specs.declared.port.Halt.TheVariants.{Refused}
use Rattle.py_run.proofs.Holding.{knows_made}
use Rattle.drive_account.proofs.Making.{at_made, in_at, refused_here}
use Rattle.py_run.proofs.Making.{in_made, nothing_made}
use Rattle.py_run.proofs.makes.make.Goals as goal

pub call-requires-clause-knows : goal.call-requires-clause-knows
call-requires-clause-knows g c = knows_made (shown (g.P.Port.view c.args.port.now).number (g.P.Port.view c.args.port.now).mine) c.args.event c.requires.stood.safe.0 c.requires.stood.safe.1.0

pub returns-in-Err : goal.returns-in-Err
returns-in-Err g c = nothing_made _ _ _ _ _

pub returns-then-not-pay : goal.returns-then-not-pay
returns-then-not-pay g c = record {
  stays = stays_refl _;
  turned = λ files faults. record { moves = λ whole fuel a. c.if-not-pay.ensures.moves files whole fuel _ _ a; counts = refl };
  grows = omega arith;
  holds = c.requires.stood.holds;
  part = tt;
  refused = λ is. absurd (cc is);
}

pub returns-in-Ok-change : goal.returns-in-Ok-change
returns-in-Ok-change g c = record {
  stays = c.call.ensures.stays;
  turned = λ files faults. record {
    moves = λ whole fuel a. at_made (g.P.Port.view c.args.port.now).mine _ c.pay.new.self c.args.event c.in-Ok-call.reply _ c.in-Ok-call.ensures.ok.mine (c.if-not-pay.ensures.moves files whole fuel _ _ a);
    counts = refl;
  };
  grows = lists_grow (g.P.Port.view c.args.port.now).mine (g.P.Port.view c.call.new.self).mine c.args.event c.in-Ok-call.reply c.in-Ok-call.ensures.ok.mine;
  holds = holds_made (g.P.Port.view c.args.port.now) (g.P.Port.view c.call.new.self) c.args.event c.in-Ok-call.reply c.args.execution.now.held c.change.new.self c.call.ensures.stays c.in-Ok-call.ensures.ok c.requires.stood.holds
      (c.in-Ok-change.ensures ∙ c.in-Ok.ensures c.in-Ok-call.reply _);
  part = tt;
  refused = λ is. absurd (cc is);
}

pub returns-in-Err-change : goal.returns-in-Err-change
returns-in-Err-change g c = record {
  stays = c.call.ensures.stays;
  turned = tt;
  grows = tt;
  holds = tt;
  part = λ files whole fuel a.
      in_made (g.P.Port.view c.args.port.now).mine _ c.pay.new.self c.args.event c.in-Ok-call.reply _ c.in-Ok-call.ensures.ok.mine (c.if-not-pay.ensures.moves files whole fuel _ _ a);
  refused = λ is. absurd (cc is);
}

pub returns-in-Err-call : goal.returns-in-Err-call
returns-in-Err-call g c = record {
  stays = c.call.ensures.stays;
  turned = tt;
  grows = tt;
  holds = tt;
  part = λ files whole fuel a. in_at (g.P.Port.view c.args.port.now).mine _ c.pay.new.self _ c.in-Err-call.ensures.err (c.if-not-pay.ensures.moves files whole fuel _ _ a);
  refused = λ is files whole fuel a.
      let same : c.in-Err-call.halt ≡ Refused = cc in
      refused_here (g.P.Port.view c.call.new.self) files whole fuel (g.P.Port.view c.args.port.now).mine c.pay.new.self c.args.event _ (c.in-Err-call.ensures.refused (ap Err same)) c.in-Err-call.ensures.err (c.if-not-pay.ensures.moves files whole fuel _ _ a);
}
