use Rattle.std.proofs.Common.{◌∙◌, ap, ◌++◌, ◌∷◌, []}
use Rattle.py_syntax.specs.declared.lexeme.Lexeme.TheVariants as token
use Rattle.source_print.proofs.Separated.{dots_more}
use Rattle.source_print.proofs.imports.put_dots.Goals as goal

pub loop-n-preserved : goal.loop-n-preserved
loop-n-preserved c = c.in_ok-put.ensures ∙ ap (λ ts. ts ++ token.Dot ∷ []) c.loop-n.invariant ∙ dots_more c.args.out.now c.loop-n._n
