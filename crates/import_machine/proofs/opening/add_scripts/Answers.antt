use Rattle.std.proofs.Common.{◌≡◌, ◌++◌, ◌∷◌, [], ◌+◌, List, ℕ, length, take, sym, ap, ◌∙◌, append_assoc}
use Rattle.std.proofs.lemmas.List.{take_more, length_push}
use Rattle.module_table.specs.Tables.{with_object}
use Rattle.module_table.specs.declared.table.Table.{Table}
use Rattle.machine_spec.specs.Opening.{script_objects}
use Rattle.import_machine.proofs.Openings.{next_object}
use Rattle.import_machine.proofs.opening.add_scripts.Goals as goal

pub loop-script-preserved : goal.loop-script-preserved
loop-script-preserved c =
    let xs : List (List ℕ) = c.as_slice-script-items.result.now in
    let i = c.loop-script.script-index in
    let x : List ℕ = c.script-item.result in
    let old = c.args.table.now in
    let more : take (i + 1) xs ≡ take i xs ++ x ∷ [] = take_more xs i x c.loop-script-test.true ∙ ap (λ z. take i xs ++ z ∷ []) (sym c.script-item.is) in
    let number = c.loop-script.invariant.number in
    let object = c.in_ok-object.ensures in
    record {
      table =
          c.in_ok-_mid.ensures.ok
          ∙ ap (λ (t : Table). with_object t c.in_ok-object.object) c.loop-script.invariant.table
          ∙ ap (λ os. record old { objects = os }) (
          append_assoc old.objects (script_objects 0 (take i xs)) (c.in_ok-object.object ∷ [])
          ∙ ap (λ o. old.objects ++ (script_objects 0 (take i xs) ++ o ∷ [])) object
          ∙ ap (λ r. old.objects ++ r) (sym (ap (script_objects 0) more ∙ next_object c.loop-script.number (take i xs) x number)));
      number = c.in-Some.ensures.1 ∙ ap (λ n. n + 1) number ∙ sym (ap length more ∙ length_push (take i xs) x);
    }
