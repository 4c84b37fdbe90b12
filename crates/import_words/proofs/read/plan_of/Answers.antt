use Rattle.std.proofs.Common.{◌∙◌, sym, ap, map}
use Rattle.std.specs.List.{list_any}
use Rattle.std.specs.String.{string_bytes}
use Rattle.import_words.specs.OptionWords.{is_refused}
use Rattle.import_words.proofs.Narrowed.{refused_plan}
use Rattle.import_words.proofs.read.plan_of.Goals as goal

pub returns-then-any_refused : goal.returns-then-any_refused
returns-then-any_refused c = sym (refused_plan (map string_bytes c.args.words.now)
    (ap (list_any is_refused) (sym c.in_ok-texts.ensures ∙ sym c.as_slice.ensures) ∙ sym c.any_refused.ensures ∙ c.if-any_refused.true))

pub plan_behind-requires : goal.plan_behind-requires
plan_behind-requires c = ap (list_any is_refused) (sym c.in_ok-texts.ensures ∙ sym c.as_slice.ensures) ∙ sym c.any_refused.ensures ∙ c.if-any_refused.false
