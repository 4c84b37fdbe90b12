-- What procedures that are open want and wait for.
use Rattle.std.specs.Prelude.{ℕ, List, Bool, false}
use Rattle.py_value.specs.declared.value.ModRef.{ModRef}
use Rattle.find_load.specs.Means.{wants}
use Rattle.find_load.specs.declared.words.In.TheVariants as given
use Rattle.find_load.specs.declared.words.Want.{Want}
use Rattle.meaning_script.specs.Pieces.{Piece}
use Rattle.meaning_script.specs.Paths.{paths}
use Rattle.meaning_script.specs.Imports.{Inside, roused}
use Rattle.meaning_script.specs.Meaning.{World, bodies_at, imports_at, inside_at}
use Rattle.py_frames.specs.Does.{fed}
use Rattle.py_frames.specs.declared.procedures.Procedure.{Procedure}

-- what a procedure goes into where so many more may be open, by whether the parent of its name is imported as a parent
-- is, or as an `import` of it does
abbrev pub inside_by : World → ℕ → Bool → Inside
inside_by w left is_parent = record { body = bodies_at w left; parent = imports_at w left is_parent false; is_lazy = false }

-- the procedure waits for a piece, and is fed with how that ended
abbrev pub waits : World → ℕ → Procedure → Piece → Piece
waits w d p piece s k = piece s (λ flow s. fed w d p (given.Ended flow) s k)

-- for the import of a parent
abbrev pub waits_parent : World → ℕ → Bool → Procedure → List ℕ → Piece
waits_parent w d is_parent p n = waits w d p ((inside_by w d is_parent).parent n)

-- for the path of a module, at most so many modules one above the other
abbrev pub waits_path : World → ℕ → Procedure → ℕ → ModRef → Piece
waits_path w d p turns m = waits w d p (paths (roused (inside_at w d)) turns m)

-- for the first use of a module
abbrev pub waits_rouse : World → ℕ → Procedure → ModRef → Piece
waits_rouse w d p m = waits w d p (roused (inside_at w d) m)

-- what the procedure wants, and then its next step
abbrev pub lifts : World → ℕ → Bool → Want → Procedure → Piece
lifts w d is_parent wanted p = wants (inside_by w d is_parent) wanted (fed w d p)
