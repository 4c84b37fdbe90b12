-- What modules mean that run as programs, each in a thread of its own, by their names.
use Rattle.std.specs.Prelude.{◌≡◌, ℕ, zero, suc, true, List, [], ◌∷◌, map}
use Rattle.std.specs.List.{list_all}
use Rattle.meaning_runs.specs.Runs.{Run}
use Rattle.spec_core.specs.Identifiers.{is_dotted}
use Rattle.import_words.specs.Words.{Word}
use Rattle.program_run.specs.Alone.{Means}

-- what names mean, each as the program of the thread of a number
abbrev pub NamesMean : Type 0
NamesMean = ℕ → List ℕ → Run

-- each word is a dotted name
abbrev pub AreNames : List Word → Type 0
AreNames names = list_all is_dotted names ≡ true

-- the name of the thread of a number; behind the last there is none
abbrev pub name_at : List Word → ℕ → Word
name_at [] t = []
name_at (name ∷ names) zero = name
name_at (name ∷ names) (suc t) = name_at names t

-- each thread runs the module of its name, whatever text the machine keeps for it
abbrev pub of_names : NamesMean → List Word → Means
of_names means names t text = means t (name_at names t)

-- the texts that the machine keeps: an empty one for each name, since no script's file is opened
abbrev pub no_texts : List Word → List (List ℕ)
no_texts names = map (λ name. []) names
