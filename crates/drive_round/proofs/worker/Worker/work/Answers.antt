use Rattle.std.proofs.Common.{rules, refl}
use Rattle.drive_round.proofs.worker.Worker.work.Goals as goal

pub returns : goal.returns
returns g c = record {
  before = c.in-Some.pass;
  was = search rules;
  after = c.run-pass.result.0;
  is = refl;
  continues = c.run-pass.ensures.continues;
  stopped = c.run-pass.ensures.stopped;
  number = refl;
  run = refl;
  files = c.run-pass.ensures.files;
  ran = c.run-pass.ensures.ran;
}
