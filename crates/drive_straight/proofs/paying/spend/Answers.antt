use Rattle.std.proofs.Common.{◌≡◌, Bool, true, rules, subst}
use Rattle.drive_account.specs.At.{AfterPay}
use Rattle.drive_straight.proofs.paying.spend.Goals as goal

pub returns-clause-paid : goal.returns-clause-paid
returns-clause-paid c = λ _ files whole fuel mine next a.
    let made : c.pay.result ≡ true = search rules in
    subst (λ (b : Bool). AfterPay b files whole fuel mine c.pay.new.self next) made (c.pay.ensures.moves files whole fuel mine next a)
