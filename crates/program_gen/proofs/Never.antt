-- Where no script ended by a failed call of the tree, the status is none of such a call.
use Rattle.std.proofs.Common.{◌≡◌, ◌∙◌, sym, ℕ, zero, suc, ◌≤◌, List, Option, Some, None, arith}
use Rattle.machine_events.specs.declared.event.Entry.{Entry}
use Rattle.machine_events.specs.declared.event.Outcome.{Outcome}
use Rattle.machine_events.specs.declared.event.Outcome.TheVariants as outcome
use Rattle.machine_shown.specs.Own.{own}
use Rattle.machine_desk.specs.declared.outlet.Flow.{Flow}
use Rattle.machine_desk.specs.declared.outlet.Flow.TheVariants.{Open, Failed, Short}
use Rattle.program_run.specs.Alone.{Means}
use Rattle.program_run.specs.Counts.{read_at, reads_of}
use Rattle.program_run.specs.Ends.{end_of, number_at, status_of}
use Rattle.program_run.specs.Sinks.{Moment, status_by}
use Rattle.program_run.specs.Statuses.{spent_budget, tree_fault, sink_fault, want_of_memory}
use Rattle.program_gen.specs.MadeRuns.{Workload, MadeGives}

number_small : (end : Option Outcome) → read_at end ≡ 0 → number_at end ≤ spent_budget
number_small None h = omega arith
number_small (Some outcome.Normal) h = omega arith
number_small (Some (outcome.Raised error)) h = omega arith
number_small (Some outcome.Fuel) h = omega arith
number_small (Some outcome.Read) h = cc

status_small : (scripts : ℕ) (history : List Entry) → reads_of scripts history ≡ 0 → status_of scripts history ≤ spent_budget
status_small zero history h = omega arith
status_small (suc t) history h =
    let before : status_of t history ≤ spent_budget = status_small t history (omega (arith, h)) in
    let last : number_at (end_of (own t history)) ≤ spent_budget = number_small (end_of (own t history)) (omega (arith, h)) in
    omega (arith, before, last)

no_tree_fault : (good : ℕ) (out err : Flow) → good ≤ spent_budget → status_by good sink_fault out err ≡ tree_fault → ⊥
no_tree_fault good Open Open h is = omega (arith, h, is)
no_tree_fault good Open Failed h is = cc
no_tree_fault good Open Short h is = cc
no_tree_fault good Failed Open h is = cc
no_tree_fault good Failed Failed h is = cc
no_tree_fault good Failed Short h is = cc
no_tree_fault good Short err h is = cc

pub never_tree_fault : (means : Means) (made : Workload) (old new : Moment) (history : Option (List Entry)) (status : ℕ) → MadeGives means made old new (record { status = status; history = history }) → status ≡ tree_fault → ⊥
never_tree_fault means made old new None status run four = let no : tree_fault ≡ want_of_memory = sym four ∙ run.0 in cc
never_tree_fault means made old new (Some history) status run four =
    no_tree_fault (status_of made.scripts history) run.leaves.out_flow run.leaves.err_flow (status_small made.scripts history run.reads) (sym run.leaves.is ∙ four)
