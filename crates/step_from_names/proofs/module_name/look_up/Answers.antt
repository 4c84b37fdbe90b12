use Rattle.std.proofs.Common.{◌≡◌, ◌∙◌, ap, false, IsTrue, List, ℕ}
use Rattle.spec_core.specs.Identifiers.{is_dotted}
use Rattle.spec_core.specs.Names.{joined}
use Rattle.meaning_state.specs.declared.fault.Fault.TheVariants as fault
use Rattle.meaning_script.specs.Pieces.{fails}
use Rattle.meaning_script.specs.ImportStatements.{looks_up}
use Rattle.py_frames.proofs.Lifts.{lifted}
use Rattle.step_from_names.proofs.Entries.{none_is, some_is, looks_none, looks_some}
use Rattle.step_from_names.proofs.module_name.look_up.Goals as goal

pub returns-in_default : goal.returns-in_default
returns-in_default c =
    let full : List ℕ = c.in_ok-full.full in
    let other : is_dotted full ≡ false = none_is _ (λ (name : List ℕ). (name ≡ full) × IsTrue (is_dotted full)) c.in_ok-entry.field-0 c.in_ok-entry.ensures c.in_default.is in
    lifted c.args.thread.now (λ w d. fails fault.NotInProfile) (λ w d. looks_up c.args.«module» c.args.name c.args.is_initialising) c.fail.result
    (λ w d s k. looks_none c.args.«module» c.args.name full c.args.is_initialising s k (c.in_ok-full.ensures ∙ ap (λ (t : List ℕ). joined t c.args.name) c.name.ensures) other) c.fail.ensures

pub returns : goal.returns
returns c =
    let full : List ℕ = c.in_ok-full.full in
    let th = c.args.thread.now in
    let some = some_is _ (λ (name : List ℕ). (name ≡ full) × IsTrue (is_dotted full)) c.in_ok-entry.field-0 c.in-Some.entry c.in_ok-entry.ensures c.in-Some.is in
    record { does = λ w next. looks_some c.args.«module» c.args.name full c.in-Some.entry c.args.is_initialising th.state (next th.left) (c.in_ok-full.ensures ∙ ap (λ (t : List ℕ). joined t c.args.name) c.name.ensures) some.1 some.0 }
