use Rattle.std.proofs.Common.{◌≡◌, ◌++◌, ◌∷◌, [], ◌+◌, List, ℕ, length, take, sym, ap, ◌∙◌, append_assoc}
use Rattle.std.proofs.lemmas.List.{take_more, length_push}
use Rattle.module_table.specs.Tables.{with_load}
use Rattle.module_table.specs.declared.table.Table.{Table}
use Rattle.machine_spec.specs.Opening.{script_loads}
use Rattle.import_machine.proofs.Openings.{next_load}
use Rattle.import_machine.proofs.opening.add_bodies.Goals as goal

pub loop-text-preserved : goal.loop-text-preserved
loop-text-preserved c =
    let xs : List (List ℕ) = c.as_slice-text-items.result.now in
    let i = c.loop-text.text-index in
    let x : List ℕ = c.text-item.result in
    let old = c.args.table.now in
    let more : take (i + 1) xs ≡ take i xs ++ x ∷ [] = take_more xs i x c.loop-text-test.true ∙ ap (λ z. take i xs ++ z ∷ []) (sym c.text-item.is) in
    let number = c.loop-text.invariant.number in
    let body = c.in_ok-load.ensures in
    record {
      table =
          c.in_ok-_load.ensures.ok
          ∙ ap (λ (t : Table). with_load t c.in_ok-load.load) c.loop-text.invariant.table
          ∙ ap (λ os. record old { loads = os }) (
          append_assoc old.loads (script_loads 0 (take i xs)) (c.in_ok-load.load ∷ [])
          ∙ ap (λ o. old.loads ++ (script_loads 0 (take i xs) ++ o ∷ [])) body
          ∙ ap (λ r. old.loads ++ r) (sym (ap (script_loads 0) more ∙ next_load c.loop-text.number (take i xs) x number)));
      number = c.in-Some.ensures.1 ∙ ap (λ n. n + 1) number ∙ sym (ap length more ∙ length_push (take i xs) x);
    }
