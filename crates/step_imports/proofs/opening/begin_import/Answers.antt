use Rattle.std.proofs.Common.{◌≡◌, false, IsTrue, arith}
use Rattle.spec_core.specs.Identifiers.{is_dotted}
use Rattle.step_imports.proofs.Depth.{not_dotted, none_is}
use Rattle.step_imports.proofs.opening.begin_import.Goals as goal

pub returns-in_default : goal.returns-in_default
returns-in_default c =
    let other : is_dotted c.args.name ≡ false = none_is (λ name. (name ≡ c.args.name) × IsTrue (is_dotted c.args.name)) c.in_ok-dotted.field-0 c.in_ok-dotted.ensures c.in_default.is in
    not_dotted c.args.thread.now c.args.name c.args.is_parent c.args.is_lazy (omega (arith, c.if-thread-eq0.false)) other c.fail-in_default.result c.fail-in_default.ensures
