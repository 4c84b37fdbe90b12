use Rattle.std.proofs.Common.{◌∙◌, sym, ap, map}
use Rattle.std.specs.String.{string_bytes}
use Rattle.import_words.specs.Plans.{gen_of}
use Rattle.import_words.proofs.Narrowed.{made_of_words, gen_is}
use Rattle.import_words.proofs.read.gen_plan.Goals as goal

pub returns-in-Some : goal.returns-in-Some
returns-in-Some c = c.gen_of.ensures ∙ ap gen_of c.as_slice.ensures ∙ ap (made_of_words gen_of) (sym c.in-Some.is ∙ c.in_ok-found.ensures) ∙ gen_is (map string_bytes c.args.words.now)

pub returns-in-None : goal.returns-in-None
returns-in-None c = ap (made_of_words gen_of) (sym c.in-None.is ∙ c.in_ok-found.ensures) ∙ gen_is (map string_bytes c.args.words.now)
