-- The files of a bundle, as they stand in its bytes.
use Rattle.std.specs.Prelude.{ℕ, ◌-◌, List, [], ◌∷◌, length, take, drop, ◌==◌, Option, Some, None, if◌then◌else◌}
use Rattle.std.specs.Option.{option_and_then, option_map}
use Rattle.bundle_hook.specs.declared.entry.Entry.{Entry}
use Rattle.bundle_hook.specs.declared.bundle.Packed.{Packed}
use Rattle.bundle_hook.specs.declared.bundle.Index.{Index}
use Rattle.bundle_hook.specs.Spelling.{most_front}
use Rattle.bundle_hook.specs.Bundle.{sizes, entries_of, index_of}
use Rattle.bundle_hook.specs.Reading.{front_in}

-- the files of these entries, whose bytes follow one another
abbrev pub cut_up : List Entry → List ℕ → List Packed
cut_up [] bytes = []
cut_up (e ∷ es) bytes = record { path = e.path; bytes = take e.size bytes } ∷ cut_up es (drop e.size bytes)

-- the files, where the entries' sizes add up to all of the bytes
abbrev pub filling : List Entry → List ℕ → Option (List Packed)
filling es bytes = if length bytes == sizes es then Some (cut_up es bytes) else None

-- the files behind a front of so many bytes less than what was looked at
abbrev pub behind : List ℕ → ℕ → List Entry × ℕ → Option (List Packed)
behind bytes looked (es, left) = filling es (drop (looked - left) bytes)

-- the files of which the bytes are a bundle; None where they are none
unfoldable pub files_in : List ℕ → Option (List Packed)
files_in bytes = option_and_then (behind bytes (length (take most_front bytes))) (front_in (take most_front bytes))

-- the index of a file with these bytes; None where it is no bundle
abbrev pub index_in : List ℕ → Option Index
index_in bytes = option_map (λ files. index_of (entries_of files)) (files_in bytes)
