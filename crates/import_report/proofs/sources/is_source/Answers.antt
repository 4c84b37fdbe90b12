use Rattle.std.proofs.Common.{◌∙◌, ap, ℕ, List}
use Rattle.std.specs.Prelude.{codes, eqb}
use Rattle.std.specs.List.{ends_with}
use Rattle.std.proofs.lemmas.Str.Pattern.{ends_text}
use Rattle.import_report.proofs.sources.is_source.Goals as goal

pub returns : goal.returns
returns c = ends_text c.ends_with.result (codes ".py") c.as_str.result.now c.ends_with.ensures.cases ∙ ap (λ (s : List ℕ). ends_with eqb s (codes ".py")) c.as_str.ensures
