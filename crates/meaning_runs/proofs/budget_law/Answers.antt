use Rattle.meaning_runs.proofs.Law as law
use Rattle.meaning_runs.proofs.budget_law.Goals as goal

pub returns : goal.returns
returns c = law.budget_law
