use Rattle.std.proofs.Common.{◌≡◌, ℕ, suc, ◌+◌, List, [], ◌∷◌, length, refl, ap, ◌∙◌}
use Rattle.tree_files.specs.Files.{Files}
use Rattle.machine_shown.specs.Shown.{shown_first}
use Rattle.meaning_runs.specs.Runs.{Safe}
use Rattle.meaning_solo.specs.Made.{HaveNoStops}
use Rattle.meaning_solo.specs.Solo.{AllSafe}
use Rattle.program_run.specs.Alone.{Means, turns_of}
use Rattle.program_run.proofs.laws.scripts_have_a_history.Goals as goal

as_many : (means : Means) (t : ℕ) (scripts : List (Files × List ℕ)) → length (turns_of means t scripts) ≡ length scripts
as_many means t [] = refl
as_many means t (script ∷ scripts) = ap suc (as_many means (t + 1) scripts)

all_safe : (means : Means) → ((t : ℕ) (text : List ℕ) → Safe (shown_first t) (means t text)) → (t : ℕ) (scripts : List (Files × List ℕ)) → AllSafe (turns_of means t scripts) t
all_safe means safe t [] = tt
all_safe means safe t (script ∷ scripts) = (safe t script.1, all_safe means safe (t + 1) scripts)

no_stops : (means : Means) (t : ℕ) (scripts : List (Files × List ℕ)) → HaveNoStops (turns_of means t scripts)
no_stops means t [] = tt
no_stops means t (script ∷ scripts) = (refl, no_stops means (t + 1) scripts)

pub returns : goal.returns
returns g c = λ b scripts fuel alone many.
    let means : Means = g.S.Scripts.means in
    c.solo_without_stops.ensures b (turns_of means 0 scripts) fuel alone (as_many means 0 scripts ∙ many) (all_safe means g.met.S.Scripts.safe 0 scripts) (no_stops means 0 scripts)
