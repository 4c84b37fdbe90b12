-- What stands between tokens.
use Rattle.std.specs.Prelude.{◌≡◌, ℕ, not, List, ◌∷◌, ◌++◌}
use Rattle.py_lexer.specs.declared.chars.Class.TheVariants.{White, Hash, Backslash}
use Rattle.py_lexer.specs.declared.gap.Gap.{Gap}
use Rattle.py_lexer.specs.declared.gap.Gap.TheVariants.{Blank, Joined, Ended}
use Rattle.py_lexer.specs.Chars.{class_of, is_end, IsRun, IsLineEnd}

-- what stands at the front, and what follows it
pub data Stands : List ℕ → Gap → List ℕ → Type 0 where
  -- white space is blank, tab and form feed (Language Reference 2.1.9)
  white : {c : ℕ} {after : List ℕ} → class_of c ≡ White → Stands (c ∷ after) Blank after
  -- `#` begins a comment to the end of its line (2.1.3)
  comment : {c : ℕ} {run after : List ℕ} → class_of c ≡ Hash → IsRun (λ d. not (is_end d)) run after → Stands (c ∷ (run ++ after)) Blank after
  -- a backslash directly before a line end joins the lines (2.1.5)
  joined : {c : ℕ} {end after : List ℕ} → class_of c ≡ Backslash → IsLineEnd end after → Stands (c ∷ (end ++ after)) Joined after
  -- a line end (2.1.2)
  line_end : {end after : List ℕ} → IsLineEnd end after → Stands (end ++ after) Ended after
