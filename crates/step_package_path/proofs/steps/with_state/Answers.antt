use Rattle.std.proofs.Common.{◌≡◌, subst, List, ℕ, Option, Some, MatchOption, IfOk, IsTrue, IsFalse}
use Rattle.spec_core.specs.Identifiers.{is_dotted}
use Rattle.py_value.specs.declared.value.ModRef.{ModRef}
use Rattle.meaning_script.specs.Pieces.{Piece}
use Rattle.meaning_script.specs.Imports.{Inside}
use Rattle.step_package_path.specs.Means.{Goes}
use Rattle.step_package_path.specs.UnderWay.{paths_of}
use Rattle.step_package_path.proofs.Named.{read_as}
use Rattle.step_package_path.proofs.steps.with_state.Goals as goal

pub returns-in-Some : goal.returns-in-Some
returns-in-Some c =
    let m = c.args.p.now.module in
    let Tells : List ℕ → Option (List ℕ) → Type 0 = λ t o. MatchOption o (IsFalse (is_dotted t)) (λ name. (name ≡ t) × IsTrue (is_dotted t)) in
    let told = subst (λ t. Tells t (Some c.in-Some.name)) c.name.ensures (subst (Tells c.name.result.now) c.in-Some.is c.in_ok-read.ensures) in
    let same = λ (inside : Inside). read_as (paths_of c.args.p.now inside) m (record { name = c.in-Some.name; state = c.args.state; epoch = c.args.epoch }) told.0 told.1 in
    let Runs : (Inside → Piece) → Type 0 = λ run. IfOk c.below_parent.result (Goes run c.below_parent.new.p) in
    record { goes = subst Runs (λ i inside. same inside i) c.below_parent.ensures.goes }
