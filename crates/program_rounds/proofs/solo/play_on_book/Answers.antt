use Rattle.std.proofs.Common.{◌∙◌, ap, length, subst, sym, arith}
use Rattle.machine_spec.specs.declared.state.State.{State}
use Rattle.machine_book.specs.Bound.{BoundTo}
use Rattle.meaning_solo.specs.Solo.{AreAlone}
use Rattle.program_rounds.proofs.Running.{alone_in, few_rounds, many_starts}
use Rattle.program_rounds.proofs.solo.play_on_book.Goals as goal

pub play_rounds-requires-clause-alone : goal.play_rounds-requires-clause-alone
play_rounds-requires-clause-alone g c =
    subst AreAlone (sym (ap (λ (b : BoundTo _). b.opening) c.new-book.ensures)) (alone_in c.args.it.opening c.requires.can_open c.requires.single)

pub play_rounds-requires-clause-rounds : goal.play_rounds-requires-clause-rounds
play_rounds-requires-clause-rounds g c =
    ap (λ (b : BoundTo _). length b.opening.rounds) c.new-book.ensures ∙ (many_starts 0 c.args.it.opening.rounds c.requires.single ∙ c.requires.many)

pub play_rounds-requires-clause-few : goal.play_rounds-requires-clause-few
play_rounds-requires-clause-few g c =
    let few = few_rounds c.args.it.opening c.requires.can_open c.requires.single in
    let many = c.requires.many in
    omega (arith, few, many)
