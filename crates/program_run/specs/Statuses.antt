-- The statuses of a call.
use Rattle.std.specs.Prelude.{ℕ}

-- each script ended normally
abbrev pub normal_end : ℕ
normal_end = 0

-- a script ended with an error
abbrev pub error_end : ℕ
error_end = 1

-- the words or a script were refused
abbrev pub refusal : ℕ
refusal = 2

-- a script spent its budget
abbrev pub spent_budget : ℕ
spent_budget = 3

-- a call of the tree failed
abbrev pub tree_fault : ℕ
tree_fault = 4

-- a write to a sink failed
abbrev pub sink_fault : ℕ
sink_fault = 5

-- memory was wanted
abbrev pub want_of_memory : ℕ
want_of_memory = 6
