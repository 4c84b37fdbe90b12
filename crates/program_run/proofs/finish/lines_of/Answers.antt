use Rattle.std.proofs.Common.{◌≡◌, ◌<◌, ◌+◌, ◌++◌, ◌∷◌, [], List, ℕ, length, take, sym, ap, ◌∙◌, subst, arith, rules, Ok}
use Rattle.std.proofs.lemmas.List.{take_more, length-take-le}
use Rattle.program_run.specs.Results.{Came, line_by, lines_by, AreWhole}
use Rattle.program_run.proofs.Finishing.{lines_more, whole_more}
use Rattle.program_run.proofs.finish.lines_of.Goals as goal

pub loop-i-preserved : goal.loop-i-preserved
loop-i-preserved c =
    let names : List (List ℕ) = c.args.scripts.now in
    let xs : List Came = c.args.results.now in
    let i = c.loop-i.i in
    let name : List ℕ = c.index-scripts-i.result in
    let x : Came = c.index-results-i.result in
    let many : length xs ≡ length names = c.requires in
    let low : i < length names = c.loop-i-test.true in
    let more_names : take (i + 1) names ≡ take i names ++ name ∷ [] = take_more names i name low ∙ ap (λ z. take i names ++ z ∷ []) (sym c.index-scripts-i.is) in
    let more : take (i + 1) xs ≡ take i xs ++ x ∷ [] = take_more xs i x (omega (arith, low, many)) ∙ ap (λ z. take i xs ++ z ∷ []) (sym c.index-results-i.is) in
    let same : length (take i xs) ≡ length (take i names) = length-take-le i xs (omega (arith, low, many)) ∙ sym (length-take-le i names (omega (arith, low))) in
    let is : x ≡ Ok c.in-Ok.ending = c.in-Ok.is in
    let got : c.extend_from_slice.new.self.items ≡ lines_by (take i names) (take i xs) ++ line_by name (Ok c.in-Ok.ending) = search rules in
    record {
      lines = got ∙ (ap (λ (r : Came). lines_by (take i names) (take i xs) ++ line_by name r) (sym is) ∙ (sym (lines_more (take i names) (take i xs) name x same) ∙ sym (ap (λ (ns : List (List ℕ)). lines_by ns (take (i + 1) xs)) more_names ∙ ap (lines_by (take i names ++ name ∷ [])) more)));
      whole = subst AreWhole (sym (more ∙ ap (λ (r : Came). take i xs ++ r ∷ []) is)) (whole_more (take i xs) c.in-Ok.ending c.loop-i.invariant.whole);
    }
