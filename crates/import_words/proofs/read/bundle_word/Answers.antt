use Rattle.std.proofs.Common.{◌∙◌, sym, ap, map}
use Rattle.std.specs.String.{string_bytes}
use Rattle.std.proofs.lemmas.Result.{IfOk-weaker}
use Rattle.import_words.specs.Plans.{only_word}
use Rattle.import_words.proofs.Narrowed.{made_of_words, bundle_is}
use Rattle.import_words.proofs.read.bundle_word.Goals as goal

pub returns-in-Some : goal.returns-in-Some
returns-in-Some c = IfOk-weaker c.only_word.result _ _
    (λ o e. e ∙ ap only_word c.as_slice.ensures ∙ ap (made_of_words only_word) (sym c.in-Some.is ∙ c.in_ok-found.ensures) ∙ bundle_is (map string_bytes c.args.words.now)) c.only_word.ensures

pub returns-in-None : goal.returns-in-None
returns-in-None c = ap (made_of_words only_word) (sym c.in-None.is ∙ c.in_ok-found.ensures) ∙ bundle_is (map string_bytes c.args.words.now)
