use Rattle.std.proofs.Common.{◌∙◌, sym}
use Rattle.meaning_script.specs.Meaning.{around_at}
use Rattle.meaning_script.specs.ImportStatements.{submodule}
use Rattle.py_frames.proofs.Places.{order_ends, order_goes}
use Rattle.step_from_names.proofs.submodules.begin_submodules.Goals as goal

pub returns-in_default : goal.returns-in_default
returns-in_default c =
    let th = c.args.thread.now in
    record { does = λ w next. c.went.ensures.does w next ∙ order_ends (submodule (around_at w th.left) c.args.«module») c.args.names c.args.at th.state (next th.left) (sym c.in_default.ensures.value) }

pub returns : goal.returns
returns c =
    let th = c.args.thread.now in
    record { does = λ w next. rw (c.in_ok-owner.ensures, c.in_ok-name.ensures) (order_goes (submodule (around_at w th.left) c.args.«module») c.args.names c.args.at c.in-Some.name.now th.state (next th.left) (sym c.in-Some.ensures.value)) }
