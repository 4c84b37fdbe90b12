use Rattle.std.proofs.Common.{None, Some}
use Rattle.std.proofs.lemmas.Result.{IfOk-weaker}
use Rattle.py_frames.specs.declared.want.Want.TheVariants as want
use Rattle.py_run.specs.Turns.{remains}
use Rattle.py_run.proofs.Making.{made_known, made_on, made_stands, not_made}
use Rattle.py_run.proofs.Results.{if_ok}
use Rattle.py_run.proofs.makes.call.Goals as goal

pub returns-in-Err : goal.returns-in-Err
returns-in-Err g c = not_made c.in-Err.halt c.in-Err.ensures

pub returns-in-Some : goal.returns-in-Some
returns-in-Some g c =
    let mine = (g.P.Port.view c.args.port.now).mine in
    let mine' = (g.P.Port.view c.make.new.port).mine in
    let run = remains c.args.execution.now (want.Call c.args.event c.args.on) in
    let known = made_known mine mine' c.args.execution.now.budget c.make.new.execution run c.args.on c.in-Ok.made (Some c.in-Some.reply) c.in-Some.is c.in-Ok.ensures.turned in
    record {
      stays = c.in-Ok.ensures.stays;
      turned = IfOk-weaker c.follow.result _ _ (λ t led. made_on mine mine' c.args.execution.now.budget c.make.new.execution c.follow.new.execution run c.args.on c.in-Some.reply t known led) c.follow.ensures.turned;
      grows = if_ok c.follow.result (λ _. c.in-Ok.ensures.grows);
      holds = if_ok c.follow.result (λ _. rw c.follow.ensures.held c.in-Ok.ensures.holds);
      part = made_stands c.follow.result mine mine' c.args.execution.now.budget c.make.new.execution run c.args.on c.in-Some.reply known;
      refused = λ is. absurd (c.follow.ensures.refused is);
    }

pub returns-in-None : goal.returns-in-None
returns-in-None g c = record {
  stays = c.in-Ok.ensures.stays;
  turned = made_known (g.P.Port.view c.args.port.now).mine (g.P.Port.view c.make.new.port).mine c.args.execution.now.budget c.make.new.execution (remains c.args.execution.now (want.Call c.args.event c.args.on)) c.args.on
      c.in-Ok.made None c.in-None.is c.in-Ok.ensures.turned;
  grows = c.in-Ok.ensures.grows;
  holds = c.in-Ok.ensures.holds;
  part = tt;
  refused = λ is. absurd (cc is);
}
