-- How a call ends that writes a bundle.
use Rattle.std.specs.Prelude.{◌≡◌, ℕ, List, [], ◌∷◌, ◌++◌, codes}
use Rattle.tree_files.specs.Count.{Rose}
use Rattle.bundle_hook.specs.declared.bundle.Packed.{Packed}
use Rattle.bundle_hook.specs.Bundle.{IsBundle}
use Rattle.tree_walk.specs.declared.pack.Packing.{Packing}
use Rattle.tree_walk.specs.declared.pack.Packing.TheVariants as packing
use Rattle.import_words.specs.Words.{Word}
use Rattle.program_run.specs.Statuses.{normal_end, refusal, tree_fault, sink_fault, want_of_memory}
use Rattle.program_run.specs.Sinks.{Moment, Leaves, status_by}
use Rattle.program_commands.specs.Making.{Packs, IsUnfit}

-- the line about a word, between these words and a quotation mark
abbrev pub line_about : List ℕ → Word → List ℕ
line_about first word = first ++ word ++ codes "'" ++ 10 ∷ []

-- how a call ends that was to write the bundle of the folder which a word names, from one moment to a later one
pub data Bundles (word : Word) (old new : Moment) (status : ℕ) : Type 0 where
  -- the word names a folder: the one bundle of all files below it is written, and nothing is told
  bundled : (files : List Packed) (bytes : List ℕ) → Packs old.files word (packing.Files files) → IsBundle files bytes
      → Leaves (status_by normal_end sink_fault) bytes [] old new status → Bundles word old new status
  -- it names no folder at a tree path: a line about it
  missing : Packs old.files word packing.Missing
      → Leaves (status_by refusal refusal) [] (line_about (codes "pyimport: cannot open folder '") word) old new status
      → Bundles word old new status
  -- the folder cannot be bundled: a line about it
  unfit : (it : Packing) → Packs old.files word it → IsUnfit it
      → Leaves (status_by refusal refusal) [] (line_about (codes "pyimport: cannot bundle '") word) old new status
      → Bundles word old new status
  -- a call of the tree failed before all files were read: a line about it
  unread : Rose old.faults new.faults
      → Leaves (status_by tree_fault sink_fault) [] (codes "pyimport: file fault" ++ 10 ∷ []) old new status
      → Bundles word old new status
  -- memory was wanted before the bundle was made: nothing is written
  short : status ≡ want_of_memory → new.out ≡ old.out → new.err ≡ old.err → Bundles word old new status
