use Rattle.std.proofs.Common.{◌∙◌, Err, refl, sym, ap}
use Rattle.drive_account.proofs.Telling.{answers_nowhere, answers_giving}
use Rattle.drive_account.proofs.last.ends_nowhere.Goals as goal

pub returns-in-Ok-clause-answers : goal.returns-in-Ok-clause-answers
returns-in-Ok-clause-answers c = λ files run fuel budget of_tree none here.
    let old = c.args.port.now in
    let new = c.give_up.new.port in
    let later = c.in-Ok.ensures.stays.later new (refl, λ met. met) in
    answers_nowhere files old.number run fuel budget old.own.now new.own.now old.at new.at of_tree c.parts.result none here later.0 later.1 c.in-Ok.ensures.gave
    (rw c.in-Ok.ensures.stays.number at (sym c.in-Ok.ensures.idle.holds ∙ c.in-Ok.ensures.free)) c.parts.ensures.ok

pub returns-in-Err-Refused-clause-answers : goal.returns-in-Err-Refused-clause-answers
returns-in-Err-Refused-clause-answers c = λ files run fuel budget of_tree none here.
    let old = c.args.port.now in
    let new = c.give_up.new.port in
    let later = c.in-Err-Refused.ensures.stays.later new (refl, λ met. met) in
    answers_giving _ files old.number run fuel budget old.own.now new.own.now old.at new.at new.misfit of_tree c.refused.result here later.0 later.1 refl (λ event r. r)
    (c.in-Err-Refused.ensures.refused (ap Err c.in-Err-Refused.field-0-is)) c.refused.ensures.ok
