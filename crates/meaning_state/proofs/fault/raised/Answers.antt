use Rattle.std.proofs.Common.{◌≡◌, IfOk, List, ℕ, Bor, subst}
use Rattle.meaning_state.specs.Faults as table
use Rattle.py_value.specs.declared.kind.Kind.TheVariants as kinds
use Rattle.meaning_state.proofs.fault.raised.Goals.{in-NameNotText, in-NoException, in-NothingToRaise, in-NotCaught, in-TooDeep, in-TextTooLong, in-NotInProfile, in-TooLong}
use Rattle.meaning_state.proofs.fault.raised.Goals as goal

pub returns-in-Halted : goal.returns-in-Halted
returns-in-Halted c = rw c.in-Halted.is c.not_found-in-Halted.ensures

pub returns : goal.returns
returns c =
    let raises = λ (k : kinds.the_data × Bor (List ℕ)). IfOk c.plain-2.result (λ error. error ≡ table.raised k.0 k.1.now) in
    elim c.match-fault.branch [
      | in-NameNotText w ↦ rw w.in-NameNotText.is (subst raises w.kind-is c.plain-2.ensures)
      | in-NoException w ↦ rw w.in-NoException.is (subst raises w.kind-is c.plain-2.ensures)
      | in-NothingToRaise w ↦ rw w.in-NothingToRaise.is (subst raises w.kind-is c.plain-2.ensures)
      | in-NotCaught w ↦ rw w.in-NotCaught.is (subst raises w.kind-is c.plain-2.ensures)
      | in-TooDeep w ↦ rw w.in-TooDeep.is (subst raises w.kind-is c.plain-2.ensures)
      | in-TextTooLong w ↦ rw w.in-TextTooLong.is (subst raises w.kind-is c.plain-2.ensures)
      | in-NotInProfile w ↦ rw w.in-NotInProfile.is (subst raises w.kind-is c.plain-2.ensures)
      | in-TooLong w ↦ rw w.in-TooLong.is (subst raises w.kind-is c.plain-2.ensures)
    ]
