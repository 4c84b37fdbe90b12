use Rattle.std.proofs.Common.{◌≡◌, subst, List, ℕ, Option, Some, MatchOption, IfOk, IsTrue, IsFalse}
use Rattle.spec_core.specs.Identifiers.{is_dotted}
use Rattle.py_value.specs.declared.value.ModRef.{ModRef}
use Rattle.meaning_script.specs.Pieces.{Piece}
use Rattle.meaning_script.specs.Imports.{Inside}
use Rattle.reload_lazy.specs.Reload.{ReloadGoes}
use Rattle.reload_lazy.proofs.Named.{read_as}
use Rattle.reload_lazy.proofs.begins.start.Goals as goal

pub returns-in-Some : goal.returns-in-Some
returns-in-Some c =
    let m = c.args.p.now.module in
    let Tells : List ℕ → Option (List ℕ) → Type 0 = λ t o. MatchOption o (IsFalse (is_dotted t)) (λ name. (name ≡ t) × IsTrue (is_dotted t)) in
    let told = subst (λ t. Tells t (Some c.in-Some.name)) c.name.ensures (subst (Tells c.name.result.now) c.in-Some.is c.in_ok-read.ensures) in
    let same = λ (inside : Inside). read_as inside m c.in-Some.name told.0 told.1 in
    let Runs : (Inside → Piece) → Type 0 = λ run. ReloadGoes run c.ask.new.p c.ask.result in
    record { goes = subst Runs (λ i inside. same inside i) c.ask.ensures.goes }
