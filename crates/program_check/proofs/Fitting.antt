-- Scripts that were opened, and rounds that can be run.
use Rattle.std.proofs.Common.{◌≡◌, ◌∙◌, ◌≤◌, ◌++◌, ◌∷◌, ℕ, List, [], length, Option, Some, None, refl, sym, ap, subst, arith}
use Rattle.std.proofs.lemmas.List.{append-nil}
use Rattle.tree_files.specs.Files.{Files}
use Rattle.words_rounds.specs.declared.rounds.Round.{Round}
use Rattle.import_words.specs.Words.{Word}
use Rattle.import_words.specs.declared.plan.RunPlan.{RunPlan}
use Rattle.program_run.specs.Scripts.{AreFew, EachOpens}
use Rattle.program_rounds.specs.Opened.{HasRounds, EachRoundOpens}
use Rattle.program_rounds.specs.Rounds.{scripts_of}
use Rattle.program_rounds.proofs.Answering.{below_by, can_by, many_texts, one_each}
use Rattle.program_check.specs.Judge.{one_round}
use Rattle.program_check.specs.Opened.{Fit, Opens}

-- the scripts of a plan without a rounds file
module _ (tree : Option Files) (plan : RunPlan) (rounds : List Round) (names : List Word) (texts : List (List ℕ)) (one : rounds ≡ one_round plan) (same : names ≡ plan.scripts) where
  pub plain_opens : plan.rounds ≡ None → EachOpens tree names texts → Opens tree plan rounds texts
  plain_opens none each = subst (λ (r : List Round). Opens tree plan r texts) (sym one) (Opens.plain texts none (subst (λ (ws : List Word). EachOpens tree ws texts) same each))

  pub plain_fit : AreFew plan.scripts → EachOpens tree names texts → Fit rounds texts
  plain_fit few each =
      let all : scripts_of (one_round plan) ≡ plan.scripts = append-nil plan.scripts in
      let many = one_each tree names texts each in
      let count : length (scripts_of (one_round plan)) ≡ length plan.scripts = ap length all in
      let named : length names ≡ length plan.scripts = ap length same in
      let some = few.0 in
      let most = few.1 in
      subst (λ (r : List Round). Fit r texts) (sym one) (record {
        can_run = record { some = omega (arith, some, count); few = omega (arith, most, count); each = (some, tt) };
        below = (refl, tt);
        many = omega (arith, many, count, named);
      })

-- those of a rounds file
module _ (tree now : Option Files) (plan : RunPlan) (file : Word) (list rounds : List Round) (texts : List (List ℕ)) (stays : now ≡ tree) (named : plan.rounds ≡ Some file) (same : rounds ≡ list) where
  pub file_opens : HasRounds tree file list → EachRoundOpens now rounds texts → Opens tree plan list texts
  file_opens has each =
      Opens.in_rounds file list texts named has (subst (λ (t : Option Files). EachRoundOpens t list texts) stays (subst (λ (r : List Round). EachRoundOpens now r texts) same each))

  pub file_fit : HasRounds tree file list → EachRoundOpens now rounds texts → Fit list texts
  file_fit has each = record {
    can_run = can_by has;
    below = below_by has;
    many = many_texts now list texts (subst (λ (r : List Round). EachRoundOpens now r texts) same each);
  }
