use Rattle.std.proofs.Common.{◌∙◌, ap, ◌++◌, codes}
use Rattle.source_print.proofs.Pieces.{indentation_more}
use Rattle.source_print.proofs.page.put_indentation.Goals as goal

pub loop-level-preserved : goal.loop-level-preserved
loop-level-preserved c = c.in_ok-more.ensures ∙ ap (λ t. t ++ codes "    ") c.loop-level.invariant ∙ indentation_more c.args.out c.loop-level._level
