-- What bytes spell.
use Rattle.std.specs.Prelude.{ℕ, List, Option, Some, None, ◌&&◌, if◌then◌else◌}
use Rattle.std.specs.Str.{is_utf8, bytes_eq}
use Rattle.base_spelling.specs.Spelling.{quoted, source}
use Rattle.base_spelling.specs.Candidates.{quoted_candidate, source_candidate}

-- the text that the bytes spell
unfoldable pub text_in : List ℕ → Option (List ℕ)
text_in field = if is_utf8 (quoted_candidate field) && bytes_eq (quoted (quoted_candidate field)) field then Some (quoted_candidate field) else None

-- the source that the bytes spell
unfoldable pub source_in : List ℕ → Option (List ℕ)
source_in field = if bytes_eq (source (source_candidate field)) field then Some (source_candidate field) else None
