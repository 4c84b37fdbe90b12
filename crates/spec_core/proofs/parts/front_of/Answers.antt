use Rattle.std.proofs.Common.{sym, lit<, Some, None}
use Rattle.std.proofs.lemmas.Str.Pattern.{split_once_first}
use Rattle.spec_core.proofs.Dots.{front-none}
use Rattle.spec_core.proofs.parts.front_of.Goals as goal

pub returns-in-Some : goal.returns-in-Some
returns-in-Some c = (split_once_first 46 c.args.name.now (Some (c.in-Some.front, c.in-Some.field-0-1)) c.in-Some.ensures.cases (lit< tt)).1

pub returns-in-None : goal.returns-in-None
returns-in-None c = sym (front-none c.args.name.now (split_once_first 46 c.args.name.now None c.in-None.ensures.cases (lit< tt)))
