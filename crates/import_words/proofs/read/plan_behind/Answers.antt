use Rattle.std.proofs.Common.{◌∙◌, sym, ap, map}
use Rattle.std.specs.List.{list_any}
use Rattle.std.specs.String.{string_bytes}
use Rattle.std.proofs.lemmas.Result.{IfOk-weaker}
use Rattle.import_words.specs.OptionWords.{is_refused}
use Rattle.import_words.specs.Plans.{command_of, plan_by, plan_of}
use Rattle.import_words.proofs.Narrowed.{clear_plan, clear_rest}
use Rattle.import_words.proofs.read.plan_behind.Goals as goal

pub plan_by-requires : goal.plan_by-requires
plan_by-requires c =
    let cut = c.in-Some.ensures.cases.0 in
    clear_rest (string_bytes c.in-Some.word.now) (map string_bytes c.in-Some.rest.now) (ap (λ l. list_any is_refused (map string_bytes l)) (sym cut) ∙ c.requires)

pub returns-in-Some-command_of : goal.returns-in-Some-command_of
returns-in-Some-command_of c =
    let cut = c.in-Some.ensures.cases.0 in
    let clear = ap (λ l. list_any is_refused (map string_bytes l)) (sym cut) ∙ c.requires in
    let named = ap command_of (sym c.as_str.ensures.value) ∙ sym c.command_of.ensures ∙ c.in-Some-command_of.is in
    IfOk-weaker c.plan_by.result _ _
    (λ o e. e ∙ sym (ap (λ l. plan_of (map string_bytes l)) cut ∙ clear_plan (string_bytes c.in-Some.word.now) (map string_bytes c.in-Some.rest.now) clear
    ∙ ap (λ k. plan_by k (map string_bytes c.in-Some.rest.now)) named)) c.plan_by.ensures

pub returns-in-None : goal.returns-in-None
returns-in-None c =
    let cut = c.in-Some.ensures.cases.0 in
    let clear = ap (λ l. list_any is_refused (map string_bytes l)) (sym cut) ∙ c.requires in
    let named = ap command_of (sym c.as_str.ensures.value) ∙ sym c.command_of.ensures ∙ c.in-None.is in
    sym (ap (λ l. plan_of (map string_bytes l)) cut ∙ clear_plan (string_bytes c.in-Some.word.now) (map string_bytes c.in-Some.rest.now) clear
    ∙ ap (λ k. plan_by k (map string_bytes c.in-Some.rest.now)) named)
