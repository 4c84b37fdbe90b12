-- What stands around a statement.
use Rattle.std.specs.Prelude.{true, false}
use Rattle.py_syntax.specs.declared.context.Context.{Context}

-- a script's own statements
abbrev pub top : Context
top = record { in_function = false; in_loop = false; in_finally = false }

-- the block of a loop
abbrev pub within_loop : Context → Context
within_loop c = record { in_function = c.in_function; in_loop = true; in_finally = c.in_finally }

-- a `finally` block: a loop around it doesn't count inside
abbrev pub within_finally : Context → Context
within_finally c = record { in_function = c.in_function; in_loop = false; in_finally = true }

-- A function's body begins anew: no loop and no `finally` block around its `def` counts for it.
abbrev pub within_function : Context
within_function = record { in_function = true; in_loop = false; in_finally = false }
