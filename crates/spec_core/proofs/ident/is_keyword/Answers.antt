-- A text is looked for among the keywords of about its length.
use Rattle.std.proofs.Common.{◌∙◌}
use Rattle.spec_core.proofs.Keywords.{of_one, of_short, of_middle, of_long}
use Rattle.spec_core.proofs.ident.is_keyword.Goals as goal

pub returns-then-length-lt2 : goal.returns-then-length-lt2
returns-then-length-lt2 c = of_one c.args.text.now c.if-length-lt2.true

pub returns-then-length-lt4 : goal.returns-then-length-lt4
returns-then-length-lt4 c = c.is_among.ensures ∙ of_short c.args.text.now c.if-length-lt4.true

pub returns-then-length-lt6 : goal.returns-then-length-lt6
returns-then-length-lt6 c = c.is_among-then-length-lt6.ensures ∙ of_middle c.args.text.now c.if-length-lt4.false c.if-length-lt6.true

pub returns : goal.returns
returns c = c.is_among-2.ensures ∙ of_long c.args.text.now c.if-length-lt6.false
