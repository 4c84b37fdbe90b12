use Rattle.std.proofs.Common.{◌≡◌, ◌∙◌, ap, false, IsTrue, List, ℕ}
use Rattle.spec_core.specs.Identifiers.{is_dotted}
use Rattle.spec_core.specs.Names.{joined}
use Rattle.meaning_state.specs.declared.fault.Fault.TheVariants as fault
use Rattle.meaning_script.specs.Pieces.{fails}
use Rattle.meaning_script.specs.Meaning.{around_at}
use Rattle.meaning_script.specs.ImportStatements.{tries_submodule}
use Rattle.py_frames.proofs.Lifts.{lifted}
use Rattle.step_from_names.proofs.Entries.{none_is, some_is, tries_none, tries_some}
use Rattle.step_from_names.proofs.submodules.try_submodule.Goals as goal

pub returns-in_default : goal.returns-in_default
returns-in_default c =
    let full : List ℕ = c.in_ok-full.full in
    let n : List ℕ = joined c.args.«module».now.name c.args.name.now in
    let other : is_dotted full ≡ false = none_is _ (λ (name : List ℕ). (name ≡ full) × IsTrue (is_dotted full)) c.in_ok-entry.field-0 c.in_ok-entry.ensures c.in_default.is in
    lifted c.args.thread.now (λ w d. fails fault.NotInProfile) (λ w d. tries_submodule (around_at w d) n) c.fail.result
    (λ w d s k. tries_none (around_at w d) n full s k (c.in_ok-full.ensures ∙ ap (λ (t : List ℕ). joined t c.args.name.now) c.name.ensures) other) c.fail.ensures

pub returns : goal.returns
returns c =
    let full : List ℕ = c.in_ok-full.full in
    let n : List ℕ = joined c.args.«module».now.name c.args.name.now in
    let th = c.args.thread.now in
    let some = some_is _ (λ (name : List ℕ). (name ≡ full) × IsTrue (is_dotted full)) c.in_ok-entry.field-0 c.in-Some.entry c.in_ok-entry.ensures c.in-Some.is in
    record { does = λ w next. tries_some (around_at w th.left) n full c.in-Some.entry th.state (next th.left) (c.in_ok-full.ensures ∙ ap (λ (t : List ℕ). joined t c.args.name.now) c.name.ensures) some.1 some.0 }
