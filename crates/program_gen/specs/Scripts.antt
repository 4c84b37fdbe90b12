-- The scripts of a made workload in its tree.
use Rattle.std.specs.Prelude.{◌≡◌, ◌≤◌, ℕ, zero, suc, List, [], ◌∷◌, ◌++◌, length, Some}
use Rattle.std.specs.List.{AllZip}
use Rattle.base_types.specs.declared.limits.TheConstants.{LONGEST_SOURCE}
use Rattle.base_types.specs.Path.{Path, Spells}
use Rattle.tree_files.specs.declared.tree.Node.TheVariants.{File}
use Rattle.tree_files.specs.Files.{Files, node_at}
use Rattle.program_gen.specs.Generator.{Word, before_module, before_script, script_text, made_files, script_files}

-- the text of script s
abbrev pub text_at : ℕ → ℕ → ℕ → Word
text_at seed modules s = script_text modules (before_script s (before_module modules seed))

-- the texts of so many scripts, in their order
abbrev pub script_texts : ℕ → ℕ → ℕ → List Word
script_texts seed modules zero = []
script_texts seed modules (suc s) = script_texts seed modules s ++ text_at seed modules s ∷ []

-- a word names one path, where a file stands with this text, of no more bytes than a script may have
pub record Holds (files : Files) (word text : Word) : Type 0 where
  pub spells : Spells word (word ∷ [])
  pub only : (path : Path) → Spells word path → path ≡ word ∷ []
  pub stands : node_at files (word ∷ []) ≡ Some (File text)
  pub fits : length text ≤ LONGEST_SOURCE

-- the tree of a workload holds each of its scripts
abbrev pub HoldsScripts : ℕ → ℕ → ℕ → Type 0
HoldsScripts seed modules scripts = AllZip (Holds (made_files seed modules scripts)) (script_files scripts) (script_texts seed modules scripts)
