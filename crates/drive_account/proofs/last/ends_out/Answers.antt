use Rattle.std.proofs.Common.{◌≡◌, ◌<◌, ℕ, Bool, true, refl, sym, ap, subst, arith}
use Rattle.machine_events.specs.declared.event.Outcome.TheVariants as o
use Rattle.machine_events.specs.declared.event.Event.TheVariants as e
use Rattle.meaning_runs.specs.Runs.{Spent}
use Rattle.drive_account.proofs.Due.{OnlyEnd, only_fuel, only_read}
use Rattle.drive_account.proofs.Telling.{answers_out}
use Rattle.drive_account.proofs.last.ends_out.Goals as goal

pub returns-then-budget-fuel-clause-answers : goal.returns-then-budget-fuel-clause-answers
returns-then-budget-fuel-clause-answers c = λ files run here.
    let old = c.args.port.now in
    let new = c.spent-made.new.port in
    let later = c.spent-made.ensures.stays.later new (refl, λ met. met) in
    let same : c.args.budget ≡ c.args.fuel = c.if-budget-fuel.true in
    answers_out _ files old.number run c.args.fuel c.args.budget old.own.now new.own.now old.at new.at new.misfit c.args.of_tree o.Fuel c.args.fuel c.spent-made.result c.told.result here later.0 later.1 refl (λ event r. r)
    same ((c.args.of_tree, refl), refl) (subst (λ (b : ℕ). OnlyEnd c.args.fuel b (Spent c.args.of_tree) (e.End o.Fuel c.args.fuel)) (sym same) (only_fuel c.args.fuel c.args.of_tree))
    c.spent-made.ensures.ends c.spent-made.ensures.refused c.told.ensures.ok

pub returns-then-budget-fuel-2-clause-answers : goal.returns-then-budget-fuel-2-clause-answers
returns-then-budget-fuel-2-clause-answers c = λ files run here.
    let old = c.args.port.now in
    let new = c.unread-made.new.port in
    let later = c.unread-made.ensures.stays.later new (refl, λ met. met) in
    let less : c.args.budget < c.args.fuel = c.if-budget-fuel-2.true in
    let tree : c.args.of_tree ≡ true = c.if-of_tree.true in
    answers_out _ files old.number run c.args.fuel c.args.budget old.own.now new.own.now old.at new.at new.misfit c.args.of_tree o.Read c.args.budget c.unread-made.result c.told-then-budget-fuel-2.result here later.0 later.1 refl (λ event r. r)
    refl (ap Spent tree, omega (arith, less)) (subst (λ (b : Bool). OnlyEnd c.args.fuel c.args.budget (Spent b) (e.End o.Read c.args.budget)) (sym tree) (only_read c.args.fuel c.args.budget less))
    c.unread-made.ensures.ends c.unread-made.ensures.refused c.told-then-budget-fuel-2.ensures.ok
