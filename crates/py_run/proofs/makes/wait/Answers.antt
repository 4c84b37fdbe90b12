use Rattle.std.proofs.Common.{◌≡◌, Err, None, [], ap}
use Rattle.std.proofs.lemmas.Result.{IfOk-weaker}
use Rattle.machine_events.specs.declared.event.Event.TheVariants as e
use Rattle.drive_account.proofs.Giving.{lists_grow}
use Rattle.drive_account.specs.declared.port.Halt.TheVariants.{Refused}
use Rattle.drive_account.proofs.Making.{at_made, in_at, refused_here}
use Rattle.drive_straight.specs.declared.execution.Execution.{Execution}
use Rattle.py_run.proofs.Making.{holds_woken, stands_behind}
use Rattle.py_run.proofs.Results.{if_ok}
use Rattle.py_run.proofs.makes.wait.Goals as goal

pub returns-in-Ok : goal.returns-in-Ok
returns-in-Ok g c =
    let old = c.args.execution.now in
    record {
      stays = c.wait.ensures.stays;
      turned = IfOk-weaker c.lead_on.result _ _ (λ t step. λ files faults.
          let on : Execution = record { budget = record { left = old.budget.left; read = None; of_tree = old.budget.of_tree }; held = old.held; thread = old.thread; work = old.work } in
          record {
            moves = λ whole fuel a. (step files faults _).moves whole fuel (at_made (g.P.Port.view c.args.port.now).mine _ old.budget e.Wake c.in-Ok.reply _ c.in-Ok.ensures.ok.mine a);
            counts = (step files faults []).counts;
          }) c.lead_on.ensures.turned;
      grows = if_ok c.lead_on.result (λ _. lists_grow (g.P.Port.view c.args.port.now).mine (g.P.Port.view c.wait.new.self).mine e.Wake c.in-Ok.reply c.in-Ok.ensures.ok.mine);
      holds = if_ok c.lead_on.result (λ _. rw c.lead_on.ensures.held (holds_woken (g.P.Port.view c.args.port.now) (g.P.Port.view c.wait.new.self) c.in-Ok.reply c.args.execution.now.held c.wait.ensures.stays c.in-Ok.ensures.ok c.requires.stood.holds));
      part = stands_behind c.lead_on.result (g.P.Port.view c.args.port.now).mine _ old.budget e.Wake c.in-Ok.reply _ c.in-Ok.ensures.ok.mine;
      refused = λ is. absurd (c.lead_on.ensures.refused is);
    }

pub returns-in-Err : goal.returns-in-Err
returns-in-Err g c = record {
  stays = c.wait.ensures.stays;
  turned = tt;
  grows = tt;
  holds = tt;
  part = λ files whole fuel a. in_at (g.P.Port.view c.args.port.now).mine _ _ _ c.in-Err.ensures.err a;
  refused = λ is files whole fuel a.
      let same : c.in-Err.halt ≡ Refused = cc in
      refused_here (g.P.Port.view c.wait.new.self) files whole fuel (g.P.Port.view c.args.port.now).mine c.args.execution.now.budget e.Wake _ (c.in-Err.ensures.refused (ap Err same)) c.in-Err.ensures.err a;
}
