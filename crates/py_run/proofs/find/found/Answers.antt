use Rattle.std.proofs.Common.{None, []}
use Rattle.std.proofs.lemmas.Result.{IfOk-weaker}
use Rattle.find_load.specs.declared.words.In.TheVariants as given
use Rattle.py_run.specs.Turns.{feeds}
use Rattle.drive_account.specs.declared.search.SearchEnd.TheVariants as ends
use Rattle.py_run.proofs.Finding.{after_at, counts_at}
use Rattle.py_run.proofs.Turning.{counts_same}
use Rattle.py_run.proofs.find.found.Goals as goal

pub returns-in-Found-clause-after : goal.returns-in-Found-clause-after
returns-in-Found-clause-after c = IfOk-weaker c.feed.result _ _ (λ turn stepped. λ files whole fuel mine a.
    (stepped files 0 mine).moves whole fuel
    (after_at files whole fuel mine c.args.execution.now.budget (λ answer. feeds c.args.execution.now c.args.procedure (given.Found answer)) c.args.over (ends.Found c.in-Found.answer) c.in-Found.is a)) c.feed.ensures.turned

pub returns-in-Found-clause-counts : goal.returns-in-Found-clause-counts
returns-in-Found-clause-counts c = IfOk-weaker c.feed.result _ _ (λ turn stepped. λ old new it.
    counts_same (counts_at old new c.args.over (ends.Found c.in-Found.answer) c.in-Found.is it) turn (stepped None old []).counts) c.feed.ensures.turned

pub returns-in-Out-clause-after : goal.returns-in-Out-clause-after
returns-in-Out-clause-after c = λ files whole fuel mine a. after_at files whole fuel mine c.args.execution.now.budget (λ answer. feeds c.args.execution.now c.args.procedure (given.Found answer)) c.args.over ends.Out c.in-Out.is a

pub returns-in-Out-clause-counts : goal.returns-in-Out-clause-counts
returns-in-Out-clause-counts c = λ old new it. counts_at old new c.args.over ends.Out c.in-Out.is it

pub returns-in-Unread-clause-after : goal.returns-in-Unread-clause-after
returns-in-Unread-clause-after c =
    λ files whole fuel mine a. after_at files whole fuel mine c.args.execution.now.budget (λ answer. feeds c.args.execution.now c.args.procedure (given.Found answer)) c.args.over (ends.Unread c.in-Unread.left) c.in-Unread.is a

pub returns-in-Unread-clause-counts : goal.returns-in-Unread-clause-counts
returns-in-Unread-clause-counts c = λ old new it. counts_at old new c.args.over (ends.Unread c.in-Unread.left) c.in-Unread.is it
