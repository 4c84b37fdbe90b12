use Rattle.std.proofs.Common.{◌≡◌, ◌∙◌, sym, length}
use Rattle.meaning_state.specs.declared.fault.Fault.TheVariants as fault
use Rattle.meaning_script.specs.Pieces.{fails}
use Rattle.meaning_script.specs.Meaning.{around_at}
use Rattle.meaning_script.specs.ImportStatements.{imports_one}
use Rattle.py_frames.proofs.Lifts.{lifted}
use Rattle.step_imports.proofs.Parts.{imports_none, imports_only, imports_more}
use Rattle.step_imports.proofs.import.import_alias.Goals as goal

pub returns-in_default : goal.returns-in_default
returns-in_default c =
    let a = c.args.alias.now in
    lifted c.args.thread.now (λ w d. fails fault.NotInProfile) (λ w d. imports_one (around_at w d) a) c.fail.result
    (λ w d s k. imports_none (around_at w d) a.parts a.bound s k (sym c.in_default.ensures.value)) c.fail.ensures

pub returns-then-count-eq1 : goal.returns-then-count-eq1
returns-then-count-eq1 c =
    let th = c.args.thread.now in
    let a = c.args.alias.now in
    let one : length a.parts ≡ 1 = sym c.len-count.ensures ∙ c.if-count-eq1.true in
    record { does = λ w next. rw (c.in_ok-bound.ensures, c.in_ok-part.ensures) (imports_only (around_at w th.left) a.parts c.in-Some.front.now a.bound th.state (next th.left) (sym c.in-Some.ensures.value) one) }

pub returns : goal.returns
returns c =
    let th = c.args.thread.now in
    let a = c.args.alias.now in
    record { does = λ w next. rw (c.in_ok-name.ensures, c.in_ok-stmts.ensures, c.requires) (imports_more (around_at w th.left) a.parts c.in-Some.front.now a.bound th.state (next th.left) (sym c.in-Some.ensures.value) (λ one. c.if-count-eq1.false (c.len-count.ensures ∙ one))) }
