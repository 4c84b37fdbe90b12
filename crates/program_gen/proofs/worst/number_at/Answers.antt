use Rattle.std.proofs.Common.{◌≡◌, ◌∙◌, sym, ap, ◌+◌, List, [], ◌∷◌, ◌++◌, take}
use Rattle.std.proofs.lemmas.List.{take_more}
use Rattle.machine_events.specs.declared.event.Entry.{Entry}
use Rattle.machine_shown.specs.Own.{own}
use Rattle.program_run.specs.Ends.{end_of, number_at}
use Rattle.program_gen.specs.Worst.{number_behind}
use Rattle.program_gen.proofs.Ends.{number-push}
use Rattle.program_gen.proofs.worst.number_at.Goals as goal

pub loop-entry-preserved : goal.loop-entry-preserved
loop-entry-preserved c =
    let xs : List Entry = c.args.history.now in
    let i = c.loop-entry.entry-index in
    let x : Entry = c.entry-item.result in
    let t = c.args.script in
    let more : take (i + 1) xs ≡ take i xs ++ x ∷ [] = take_more xs i x c.loop-entry-test.true ∙ ap (λ z. take i xs ++ z ∷ []) (sym c.entry-item.is) in
    c.number_behind-number.ensures
    ∙ ap (λ n. number_behind n x t) c.loop-entry.invariant
    ∙ sym (ap (λ list. number_at (end_of (own t list))) more ∙ number-push t (take i xs) x)
