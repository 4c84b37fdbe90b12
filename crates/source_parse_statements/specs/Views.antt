-- What the code holds, as the definitions see it.
use Rattle.std.specs.Prelude.{ℕ, Bool, List, [], ◌∷◌, Option, Result, Ok, Err}
use Rattle.std.specs.Borrow.{Bor}
use Rattle.source_combinators.specs.declared.fault.ReadError.{ReadError}
use Rattle.source_combinators.specs.Reading.{Read, ◌>>=◌, given}
use Rattle.py_syntax.specs.declared.lexeme.Lexeme.{Lexeme}
use Rattle.py_syntax.specs.declared.context.Context.{Context}
use Rattle.py_syntax.specs.declared.expr.Expr.{Expr}
use Rattle.py_syntax.specs.declared.stmt.Script.{Script}
use Rattle.py_syntax.specs.declared.stmt.Stmt.{Stmt}
use Rattle.py_syntax.specs.declared.stmt.Stmt.TheVariants as tree
use Rattle.py_syntax.specs.declared.stmt.Branch.{Branch}
use Rattle.py_syntax.specs.Contexts.{within_finally}
use Rattle.py_syntax.specs.Statements.{Body, body}
use Rattle.source_spec_statements.specs.Reading.{Stmts as Found, Reader, Handlers as FoundHandlers, Names, colon_block, handlers, try_ends}
use Rattle.source_parse_statements.specs.declared.parts.Stmts.{Stmts}
use Rattle.source_parse_statements.specs.declared.parts.Tested.{Tested}
use Rattle.source_parse_statements.specs.declared.parts.Branches.{Branches}
use Rattle.source_parse_statements.specs.declared.parts.Caught.{Caught}
use Rattle.source_parse_statements.specs.declared.parts.Handlers.{Handlers}
use Rattle.source_parse_statements.specs.declared.parts.TryEnds.{TryEnds}
use Rattle.source_parse_statements.specs.declared.parts.Signature.{Signature}
use Rattle.source_parse_statements.specs.declared.parts.FunctionBody.{FunctionBody}
use Rattle.source_parse_statements.specs.declared.parameters.Parameters.{Parameters}

-- statements, and the number of the first function behind them
abbrev pub stmts_of : Stmts → Found
stmts_of stmts = (stmts.found, stmts.next)

-- a test with its block, and the number of the first function behind it
abbrev pub tested_of : Tested → Branch × ℕ
tested_of tested = (tested.branch, tested.next)

-- tests with their blocks, and the number of the first function behind them
abbrev pub branches_of : Branches → List Branch × ℕ
branches_of branches = (branches.found, branches.next)

-- the kinds that a handler takes, and the name that the error is bound to, if there is one
abbrev pub caught_of : Caught → Expr × Option (List ℕ)
caught_of caught = (caught.kinds, caught.bound)

-- handlers, the number of the first function behind them, and whether another one may follow
abbrev pub handlers_of : Handlers → FoundHandlers
handlers_of handlers = record { found = handlers.found; next = handlers.next; is_open = handlers.is_open }

-- the blocks of `else` and `finally`, each empty where there is none, and the number of the first function behind them
abbrev pub ends_of : TryEnds → List Stmt × List Stmt × ℕ
ends_of ends = (ends.otherwise, ends.at_last, ends.next)

-- parameters so far, and whether another one may follow: there is none yet, or a comma came last
abbrev pub names_of : Parameters → Names
names_of parameters = (parameters.found, parameters.is_open)

-- a function's name and its parameters
abbrev pub signature_of : Signature → List ℕ × List (List ℕ)
signature_of signature = (signature.name, signature.parameters)

-- the names of a function's `global` lines and its statements, and the number of the first function behind them
abbrev pub body_of : FunctionBody → Body × ℕ
body_of function = (body function.globals function.stmts, function.next)

-- the two ways in which a `try` goes on behind its block, the first behind its `finally`
abbrev pub only_finally : Reader → ℕ → Context → Found → List Lexeme → Read Lexeme Found
only_finally inner room c b ts = colon_block inner room (within_finally c) b.1 ts >>= λ f. given (tree.Try b.0 [] [] f.0.0 ∷ [], f.0.1) f.1

-- the second: its handlers, one at least, and then the blocks of `else` and `finally`, each of which may be left out
abbrev pub with_handlers : Reader → ℕ → Context → Found → List Lexeme → Read Lexeme Found
with_handlers inner room c b ts = handlers inner room c b.1 ts >>= λ h. try_ends inner room c h.0.next h.1 >>= λ e. given (tree.Try b.0 h.0.found e.0.0 e.0.1 ∷ [], e.0.2) e.1

-- what was read, without what follows it
abbrev pub without_rest : Result (Script × Bor (List Lexeme)) ReadError → Result Script ReadError
without_rest (Ok p) = Ok p.0
without_rest (Err e) = Err e
