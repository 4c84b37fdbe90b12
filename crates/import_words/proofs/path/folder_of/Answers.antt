use Rattle.std.proofs.Common.{sym, ap, ◌∙◌, subst}
use Rattle.std.proofs.lemmas.Result.{IfOk-weaker}
use Rattle.import_words.specs.Plans.{or_empty, before_last_slash}
use Rattle.import_words.proofs.Slashes.{no_slash, last_slash, NoSlash}
use Rattle.import_words.proofs.path.folder_of.Goals as goal

pub returns-in-Some : goal.returns-in-Some
returns-in-Some c =
    let cut = sym c.as_str.ensures ∙ c.in-Some.ensures.0 in
    IfOk-weaker c.from_str.result _ _ (λ it e. e ∙ sym (ap or_empty (ap before_last_slash cut ∙ last_slash c.in-Some.folder.now c.in-Some.field-0-1.now c.in-Some.ensures.1))) c.from_str.ensures

pub returns-in-None : goal.returns-in-None
returns-in-None c = c.new.ensures ∙ sym (ap or_empty (no_slash c.args.script.now (subst NoSlash c.as_str.ensures c.in-None.ensures)))
