use Rattle.std.proofs.Common.{refl, arith}
use Rattle.drive_account.proofs.search.pay_unit.Goals as goal

pub returns-then-pay : goal.returns-then-pay
returns-then-pay c = λ number mine. record {
  moves = λ files go k whole fuel a. c.if-pay.ensures.moves files whole fuel mine _ a;
  safe = λ go k h. h.1;
  fits = refl;
  counts = λ faults. refl;
  kept = omega arith;
}

pub returns-else-pay : goal.returns-else-pay
returns-else-pay c = λ number mine. record {
  moves = λ files go k whole fuel a. c.if-pay.ensures.moves files whole fuel mine _ a;
  safe = λ go k h. tt;
  fits = tt;
  counts = λ faults. refl;
  kept = omega arith;
}
