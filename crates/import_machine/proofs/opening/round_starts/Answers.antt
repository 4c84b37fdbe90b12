use Rattle.std.proofs.Common.{◌≡◌, ◌++◌, ◌∷◌, [], ◌+◌, List, ℕ, take, sym, ap, ◌∙◌, get_or}
use Rattle.std.specs.Prelude.{replicate}
use Rattle.std.proofs.lemmas.List.{take_more}
use Rattle.machine_spec.specs.Opening.{round_starts}
use Rattle.import_machine.proofs.Openings.{next_round, next_first, thread_after}
use Rattle.import_machine.proofs.opening.round_starts.Goals as goal

pub loop-size-preserved : goal.loop-size-preserved
loop-size-preserved c =
    let xs : List ℕ = c.args.sizes.now in
    let i = c.loop-size.size-index in
    let x : ℕ = get_or xs i 0 in
    let more : take (i + 1) xs ≡ take i xs ++ x ∷ [] = take_more xs i 0 c.loop-size-test.true in
    let starts = c.loop-size.invariant.starts in
    let first = c.loop-size.invariant.first in
    record {
      starts =
          c.in_ok-push_round.ensures
          ∙ ap (λ ys. ys ++ replicate x c.loop-size.first) starts
          ∙ ap (λ f. round_starts 0 (take i xs) ++ replicate x f) first
          ∙ sym (ap (round_starts 0) more ∙ next_round 0 (take i xs) x);
      first = c.in-Some.ensures.1 ∙ ap (λ f. f + x) first ∙ sym (ap (thread_after 0) more ∙ next_first 0 (take i xs) x);
    }
