-- From what a word names to why no trace is opened.
use Rattle.std.proofs.Common.{◌≡◌, ℕ, List, Option, Some, None, IfSome, subst, ◌∙◌}
use Rattle.tree_files.specs.Files.{Files}
use Rattle.import_words.specs.Words.{Word}
use Rattle.program_run.specs.Scripts.{IsLineOf}
use Rattle.program_run.specs.declared.open.Unopened.{Unopened}
use Rattle.program_run.specs.declared.open.Unopened.TheVariants as unopened
use Rattle.tree_walk.specs.Reading.{IsFile, HasWithin}
use Rattle.tree_walk.specs.declared.open.Read.{Read}
use Rattle.program_commands.specs.Opening.{Names, NoTrace, unopened_line}
use Rattle.program_commands.specs.declared.trace_open.TheConstants.{LONGEST_TRACE}

-- what was read is what the word names, by either name of both
pub names_by : (tree : Option Files) (word word' : Word) (it it' : Read) → word ≡ word' → it ≡ it' → IfSome tree (λ f. IsFile f LONGEST_TRACE word it) → HasWithin LONGEST_TRACE it → Names tree word' it'
names_by None word word' it it' e o told within = subst (λ (x : Read). HasWithin LONGEST_TRACE x) o within
names_by (Some f) word word' it it' e o told within = subst (λ (x : Read). IsFile f LONGEST_TRACE word' x) o (subst (λ (w : Word). IsFile f LONGEST_TRACE w it) e told)

-- the line about a word that names no trace
pub refused_at : (tree : Option Files) (word : Word) (old new : ℕ) (it : Read) (text : List ℕ) → Names tree word it → unopened_line word it ≡ Some text → (why : Unopened) → IsLineOf (Some text) why → NoTrace tree word old new why
refused_at tree word old new it text names is (unopened.Refused line) told = (it, names, is ∙ told)
refused_at tree word old new it text names is unopened.Unread told = absurd told
refused_at tree word old new it text names is unopened.NoMemory told = tt
