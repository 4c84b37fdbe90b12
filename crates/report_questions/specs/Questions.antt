-- What the import statements of a source ask, a question for each line of a report.
use Rattle.std.specs.Prelude.{ℕ, ◌==◌, if◌then◌else◌, List, [], ◌∷◌, ◌++◌, map, flat_map, replicate, Option, Some, None, Result, Ok, Err}
use Rattle.spec_core.specs.Relative.{resolved}
use Rattle.spec_core.specs.declared.relative.RelativeError.{RelativeError}
use Rattle.spec_core.specs.declared.relative.RelativeError.TheVariants as refusal
use Rattle.report_questions.specs.declared.collect.Asked.{Asked}
use Rattle.report_questions.specs.declared.collect.Asked.TheVariants as asked
use Rattle.report_questions.specs.declared.source.Import.{Import}
use Rattle.report_questions.specs.Modules.{name_or_none, package_of_file}
use Rattle.report_questions.specs.declared.question.Query.{Query}
use Rattle.report_questions.specs.declared.question.Query.TheVariants as query
use Rattle.report_questions.specs.declared.question.Question.{Question}

-- a relative name as it is written: its dots and the name behind them
abbrev pub written : ℕ → List ℕ → List ℕ
written level source = replicate level 46 ++ source

-- ---- one statement

-- `import a, b` asks of each name
abbrev pub module_queries : List (List ℕ) → List Query
module_queries names = map (λ n. query.Module n) names

-- `from m import x, y` asks of each name as one of m
abbrev pub member_queries : List ℕ → List (List ℕ) → List Query
member_queries source names = map (λ x. query.Member source x) names

-- `from m import *` asks of m alone
abbrev pub from_queries : List ℕ → Option (List (List ℕ)) → List Query
from_queries source None = query.All source ∷ []
from_queries source (Some names) = member_queries source names

-- a relative name that means nothing has one line, whatever is imported from it
abbrev pub resolved_queries : Result (List ℕ) RelativeError → List ℕ → Option (List (List ℕ)) → List Query
resolved_queries (Ok source) text names = from_queries source names
resolved_queries (Err refusal.NoParent) text names = query.NoParent text ∷ []
resolved_queries (Err refusal.BeyondTop) text names = query.BeyondTop text ∷ []
resolved_queries (Err refusal.NoMemory) text names = []

-- a relative name is what its dots and the name behind them mean in the package (Language Reference 5.7)
abbrev pub relative_queries : Option (List ℕ) → ℕ → List ℕ → Option (List (List ℕ)) → List Query
relative_queries home level source names = resolved_queries (resolved home level (name_or_none source)) (written level source) names

-- of any import statement in a source of this package
abbrev pub queries_of : Option (List ℕ) → Asked → List Query
queries_of home (asked.Modules names) = module_queries names
queries_of home (asked.From level source names) = if level == 0 then from_queries source names else relative_queries home level source names

-- ---- a source

-- the questions of one statement, in its line
abbrev pub in_line : ℕ → List Query → List Question
in_line line queries = map (λ q. record { line = line; query = q }) queries

-- those of all import statements, in their order
abbrev pub questions_of : Option (List ℕ) → List Import → List Question
questions_of home imports = flat_map (λ i. in_line i.line (queries_of home i.asked)) imports
