use Rattle.std.proofs.Common.{◌∙◌, ℕ, List, Err, IfOk, take, refl, ap, subst}
use Rattle.drive_account.specs.declared.port.Halt.{Halt}
use Rattle.meaning_runs.specs.Runs.{Run}
use Rattle.meaning_script.specs.Meaning.{meaning}
use Rattle.meaning_safety.proofs.Meaning.{meaning_safe}
use Rattle.step_calls.specs.Sources.{sources}
use Rattle.drive_account.specs.Replay.{pairs_of}
use Rattle.drive_account.specs.Following.{Answers}
use Rattle.py_run.specs.Overs.{Overs}
use Rattle.py_run.specs.declared.drive.Over.{Over}
use Rattle.py_run.proofs.Following.{end_shown, still_runs, follow_came, follow_out, follow_refused}
use Rattle.py_run.proofs.compare.follow.Goals as goal

pub run-requires-clause-safe : goal.run-requires-clause-safe
run-requires-clause-safe g c = meaning_safe sources c.args.script c.in_ok-copy.copy

pub ends_came-requires : goal.ends_came-requires
ends_came-requires g c =
    let whole : Run = meaning sources c.args.script c.in_ok-copy.copy in
    let number = c.run.ensures.stays.number ∙ c.new-port.ensures.number in
    let came = subst (λ (o : Over). Overs (g.T.Tree.files c.args.tree.now) (g.T.Tree.faults c.args.tree.now) (g.T.Tree.faults c.run.new.tree) whole c.budget_by-budget.result (pairs_of (take c.run.new.port.at c.run.new.port.own.now)) o) c.in-Ok-Came.field-0-is c.in-Ok-Came.ensures.over in
    record { knows = end_shown c.run.new.port.number c.args.script c.args.fuel c.in-Ok-Came.flow number (meaning_safe sources c.args.script c.in_ok-copy.copy) came.1 }

pub returns-in-Ok-Came-clause-answers : goal.returns-in-Ok-Came-clause-answers
returns-in-Ok-Came-clause-answers g c = λ files told.
    let whole : Run = meaning sources c.args.script c.in_ok-copy.copy in
    let port = c.run.new.port in
    let later = c.run.ensures.stays.later c.run.new.port (refl, λ met. met) in
    let number = c.run.ensures.stays.number ∙ c.new-port.ensures.number in
    let came = subst (λ (o : Over). Overs (g.T.Tree.files c.args.tree.now) (g.T.Tree.faults c.args.tree.now) (g.T.Tree.faults c.run.new.tree) whole c.budget_by-budget.result (pairs_of (take c.run.new.port.at c.run.new.port.own.now)) o) c.in-Ok-Came.field-0-is c.in-Ok-Came.ensures.over in
    subst (λ (text : List ℕ). IfOk c.ends_came.result (Answers files c.args.script (meaning sources c.args.script text) c.args.fuel (pairs_of c.args.own.now))) c.in_ok-copy.ensures
    (follow_came files c.args.script whole c.args.fuel c.budget_by-budget.result c.args.own.now (meaning_safe sources c.args.script c.in_ok-copy.copy) c.budget_by-budget.ensures port.number port.own.now port.at number
    (later.0 ∙ c.new-port.ensures.own) (later.1 c.new-port.ensures.met) (g.T.Tree.files c.args.tree.now) c.in-Ok-Came.flow came.0 c.ends_came.result told came.1 c.ends_came.ensures.answers)

pub ends_out-requires : goal.ends_out-requires
ends_out-requires g c =
    let whole : Run = meaning sources c.args.script c.in_ok-copy.copy in
    let number = c.run.ensures.stays.number ∙ c.new-port.ensures.number in
    let out = subst (λ (o : Over). Overs (g.T.Tree.files c.args.tree.now) (g.T.Tree.faults c.args.tree.now) (g.T.Tree.faults c.run.new.tree) whole c.budget_by-budget.result (pairs_of (take c.run.new.port.at c.run.new.port.own.now)) o) c.in-Ok-Out.field-0-is c.in-Ok-Out.ensures.over in
    record { idle = record { ready = tt; runs = still_runs c.run.new.port.number c.args.script number (meaning_safe sources c.args.script c.in_ok-copy.copy) out.1; holds = c.in-Ok-Out.ensures.holds } }

pub returns-in-Ok-Out-clause-answers : goal.returns-in-Ok-Out-clause-answers
returns-in-Ok-Out-clause-answers g c = λ files told.
    let whole : Run = meaning sources c.args.script c.in_ok-copy.copy in
    let port = c.run.new.port in
    let later = c.run.ensures.stays.later c.run.new.port (refl, λ met. met) in
    let number = c.run.ensures.stays.number ∙ c.new-port.ensures.number in
    let out = subst (λ (o : Over). Overs (g.T.Tree.files c.args.tree.now) (g.T.Tree.faults c.args.tree.now) (g.T.Tree.faults c.run.new.tree) whole c.budget_by-budget.result (pairs_of (take c.run.new.port.at c.run.new.port.own.now)) o) c.in-Ok-Out.field-0-is c.in-Ok-Out.ensures.over in
    subst (λ (text : List ℕ). IfOk c.ends_out.result (Answers files c.args.script (meaning sources c.args.script text) c.args.fuel (pairs_of c.args.own.now))) c.in_ok-copy.ensures
    (follow_out files c.args.script whole c.args.fuel c.budget_by-budget.result c.args.own.now (meaning_safe sources c.args.script c.in_ok-copy.copy) c.budget_by-budget.ensures port.number port.own.now port.at number
    (later.0 ∙ c.new-port.ensures.own) (later.1 c.new-port.ensures.met) (g.T.Tree.files c.args.tree.now) c.in-Ok-Out.of_tree out.0 c.ends_out.result told out.1 c.ends_out.ensures.answers)

pub returns-in-Err-Refused-clause-answers : goal.returns-in-Err-Refused-clause-answers
returns-in-Err-Refused-clause-answers g c = λ files told.
    let whole : Run = meaning sources c.args.script c.in_ok-copy.copy in
    let port = c.run.new.port in
    let later = c.run.ensures.stays.later c.run.new.port (refl, λ met. met) in
    let number = c.run.ensures.stays.number ∙ c.new-port.ensures.number in
    let at = c.in-Err-Refused.ensures.refused (ap (λ (halt : Halt). Err halt) c.in-Err-Refused.field-0-is) in
    subst (λ (text : List ℕ). IfOk c.refused.result (Answers files c.args.script (meaning sources c.args.script text) c.args.fuel (pairs_of c.args.own.now))) c.in_ok-copy.ensures
    (follow_refused files c.args.script whole c.args.fuel c.budget_by-budget.result c.args.own.now (meaning_safe sources c.args.script c.in_ok-copy.copy) c.budget_by-budget.ensures port.number port.own.now port.at number
    (later.0 ∙ c.new-port.ensures.own) (later.1 c.new-port.ensures.met) (g.T.Tree.files c.args.tree.now) port.misfit at.0 at.1 at.2 c.refused.result told at.3 at.4 c.refused.ensures.ok)
