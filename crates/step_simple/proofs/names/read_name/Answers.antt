use Rattle.std.proofs.Common.{◌∙◌, sym, refl}
use Rattle.step_simple.proofs.names.read_name.Goals as goal

pub returns-then-not-is_local_name : goal.returns-then-not-is_local_name
returns-then-not-is_local_name c =
    let is_global = sym c.is_local_name.ensures ∙ c.if-not-is_local_name.true in
    record { does = λ w next. rw (is_global, c.in_ok-copy.ensures) refl }
