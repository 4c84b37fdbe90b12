-- How often scripts made a tree fail or list a directory, by their history.
use Rattle.std.specs.Prelude.{◌≡◌, ◌≤◌, ℕ, zero, suc, ◌+◌, List, Option, Some}
use Rattle.tree_files.specs.Count.{raised}
use Rattle.machine_events.specs.declared.event.Entry.{Entry}
use Rattle.machine_events.specs.declared.event.Outcome.{Outcome}
use Rattle.machine_events.specs.declared.event.Outcome.TheVariants as o
use Rattle.machine_shown.specs.Own.{own}
use Rattle.meaning_runs.specs.Lists.{lists_in, ends_in}
use Rattle.program_run.specs.Ends.{end_of}

-- whether a script ended by a failed call of the tree, counted
abbrev pub read_at : Option Outcome → ℕ
read_at (Some o.Read) = 1
read_at end = 0

-- how many of so many scripts did
abbrev pub reads_of : ℕ → List Entry → ℕ
reads_of zero history = 0
reads_of (suc t) history = reads_of t history + read_at (end_of (own t history))

-- the tree's count of faults rose by at least as much, also where the tree tells nothing
abbrev pub ReadsBy : ℕ → List Entry → ℕ → ℕ → Type 0
ReadsBy scripts history old new = raised old (reads_of scripts history) ≤ new

-- how many listings so many scripts kept
abbrev pub lists_of : ℕ → List Entry → ℕ
lists_of zero history = 0
lists_of (suc t) history = lists_of t history + lists_in (own t history)

-- each of so many scripts came to its End
abbrev pub HaveEnds : ℕ → List Entry → Type 0
HaveEnds zero history = Unit {0}
HaveEnds (suc t) history = HaveEnds t history × (ends_in (own t history) ≡ 1)

-- how often so many scripts may list a directory: once for each listing that they keep, where each came to its End
abbrev pub ListsBy : ℕ → List Entry → ℕ → ℕ → Type 0
ListsBy scripts history old new = HaveEnds scripts history → new ≤ old + lists_of scripts history
