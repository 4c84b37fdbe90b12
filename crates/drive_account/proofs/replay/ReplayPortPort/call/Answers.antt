use Rattle.std.proofs.Common.{◌∙◌}
use Rattle.std.proofs.lemmas.Result.{IfOk-weaker}
use Rattle.drive_account.proofs.Taking.{gained, met_after}
use Rattle.drive_account.proofs.replay.ReplayPortPort.call.Goals as goal

pub returns-clause-ok : goal.returns-clause-ok
returns-clause-ok c = IfOk-weaker c.next-reply.result _ _ (λ reply n. record { mine = gained c.args.self.now.own.now c.next-reply.new.self.own.now c.args.self.now.at c.next-reply.new.self.at _ reply c.next-reply.ensures.own n.0 n.1; fits = n.2 }) c.next-reply.ensures.ok

pub returns-clause-stays : goal.returns-clause-stays
returns-clause-stays c = record {
  number = c.next-reply.ensures.number;
  ready = λ r. r;
  later = λ s l. (
    l.0 ∙ c.next-reply.ensures.own,
    λ met. l.1 (met_after c.args.self.now.own.now c.next-reply.new.self.own.now c.args.self.now.at c.next-reply.new.self.at _ c.next-reply.result c.next-reply.ensures.own c.next-reply.ensures.ok c.next-reply.ensures.err met),
  );
}
