use Rattle.std.proofs.Common.{sym, subst, arith, refl}
use Rattle.machine_laws.specs.Sound.{IsSound}
use Rattle.machine_laws.proofs.First.{sound_opening, rounds_long}
use Rattle.machine_spec.specs.Opening.{opening}
use Rattle.import_machine.specs.Counts.{AreCounted}
use Rattle.import_machine.proofs.Told.{none_counted}
use Rattle.import_machine.proofs.machine.Machine.new.Goals as goal

pub invariant_of-result : goal.invariant_of-result
invariant_of-result c =
    let long = rounds_long 0 c.args.rounds.now in
    let first = opening c.args.scripts.now c.args.texts.now c.args.path.now c.args.rounds.now in
    let sound = sound_opening c.args.scripts.now c.args.texts.now c.args.path.now c.args.rounds.now (omega (arith, c.requires.texts)) (omega (arith, long, c.requires.rounds, c.requires.few)) in
    (subst IsSound (sym c.in_ok-open.ensures) sound, subst (λ z. AreCounted z c.new.result) (sym c.in_ok-open.ensures) (subst (AreCounted first) (sym c.new.ensures) (none_counted first sound refl)))
