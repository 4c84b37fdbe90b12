-- What a step does that needs what stands around it.
use Rattle.meaning_state.specs.declared.thread.Thread.{Thread}
use Rattle.meaning_runs.specs.Runs.{Run}
use Rattle.meaning_script.specs.Pieces.{Piece}
use Rattle.meaning_script.specs.Operators.{Around}
use Rattle.meaning_script.specs.Meaning.{World, around_at}
use Rattle.py_frames.specs.Does.{Rest, pieces}

-- what a piece does in what stands around it
abbrev pub acts : (Around → Piece) → Thread → World → Rest → Run
acts piece = pieces (λ w d. piece (around_at w d))
