use Rattle.std.proofs.Common.{◌≡◌, ◌+◌, ◌++◌, ◌∷◌, [], List, ℕ, Option, take, drop, sym, ap, ◌∙◌, subst, arith, rules}
use Rattle.std.proofs.lemmas.List.{take_more, take-append-drop, append_assoc}
use Rattle.tree_files.specs.Files.{Files}
use Rattle.program_run.specs.Scripts.{EachOpens, Opens, StopsAt}
use Rattle.program_run.specs.declared.open.Opened.TheVariants as opened
use Rattle.program_run.proofs.Opening.{each_more, stops_at}
use Rattle.program_run.proofs.open.open_all.Goals as goal

pub returns-in-Err-clause-err : goal.returns-in-Err-clause-err
returns-in-Err-clause-err g c =
    let files = g.T.Tree.files c.args.tree.now in
    let xs : List (List ℕ) = c.args.scripts.now in
    let i = c.loop-script.script-index in
    let x : List ℕ = c.script-item.result in
    let more : take (i + 1) xs ≡ take i xs ++ x ∷ [] = take_more xs i x c.loop-script-test.true ∙ ap (λ z. take i xs ++ z ∷ []) (sym c.script-item.is) in
    let whole : xs ≡ take i xs ++ x ∷ drop (i + 1) xs = sym (take-append-drop (i + 1) xs) ∙ (ap (λ (l : List (List ℕ)). l ++ drop (i + 1) xs) more ∙ append_assoc (take i xs) (x ∷ []) (drop (i + 1) xs)) in
    let mid = g.T.Tree.faults c.loop-script.tree in
    let new = g.T.Tree.faults c.text_of.new.tree in
    stops_at files (g.T.Tree.faults c.args.tree.now) mid new (take i xs) (drop (i + 1) xs) x c.loop-script.texts xs c.in-Err.stop (let same = c.loop-script.invariant.faults in omega (arith, same)) whole c.loop-script.invariant.texts
    (subst (λ (f : Option Files). StopsAt f x mid new c.in-Err.stop) c.loop-script.invariant.files c.in-Err.ensures.err)

pub loop-script-preserved : goal.loop-script-preserved
loop-script-preserved g c =
    let files = g.T.Tree.files c.args.tree.now in
    let xs : List (List ℕ) = c.args.scripts.now in
    let i = c.loop-script.script-index in
    let x : List ℕ = c.script-item.result in
    let more : take (i + 1) xs ≡ take i xs ++ x ∷ [] = take_more xs i x c.loop-script-test.true ∙ ap (λ z. take i xs ++ z ∷ []) (sym c.script-item.is) in
    let opens : Opens files x (opened.Text c.in-Ok.text) = subst (λ (f : Option Files). Opens f x (opened.Text c.in-Ok.text)) c.loop-script.invariant.files c.in-Ok.ensures.ok in
    let pushed : c.push.new.self ≡ c.loop-script.texts ++ c.in-Ok.text ∷ [] = search rules in
    record {
      files = c.text_of.ensures.files_stay ∙ c.loop-script.invariant.files;
      faults = c.in-Ok.ensures.faults_stay ∙ c.loop-script.invariant.faults;
      lists = c.text_of.ensures.lists_stay ∙ c.loop-script.invariant.lists;
      texts = subst (λ (ts : List (List ℕ)). EachOpens files (take (i + 1) xs) ts) (sym pushed)
          (subst (λ (ws : List (List ℕ)). EachOpens files ws (c.loop-script.texts ++ c.in-Ok.text ∷ [])) (sym more)
          (each_more files (take i xs) c.loop-script.texts x c.in-Ok.text c.loop-script.invariant.texts opens));
    }
