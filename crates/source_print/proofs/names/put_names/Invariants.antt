use Rattle.std.proofs.Common.{◌≡◌, ◌++◌, take}
use Rattle.py_syntax.specs.declared.lexeme.Lexeme.TheVariants as token
use Rattle.source_print.specs.Statements.{names_with}
use Rattle.source_print.proofs.names.put_names.Given as goal

abbrev pub invariant-loop-n : goal.invariant-loop-n
invariant-loop-n l = l.out ≡ l.initial.out ++ names_with token.Comma (take l.n l.names)
