-- Bodies and texts of functions where so many more may be open.
use Rattle.std.specs.Prelude.{ℕ, zero, suc, List, Option, Some, None}
use Rattle.py_value.specs.declared.value.ModRef.{ModRef}
use Rattle.machine_events.specs.declared.event.Reply.{Reply}
use Rattle.machine_events.specs.declared.event.Reply.TheVariants as r
use Rattle.meaning_state.specs.declared.fault.Fault.TheVariants as fault
use Rattle.meaning_state.specs.declared.thread.Parsing.{Parsing}
use Rattle.meaning_script.specs.Pieces.{Piece, fails}
use Rattle.meaning_script.specs.Meaning.{World, around_at, starts}

-- a body whose text came to this
abbrev pub starts_at : World → ℕ → ℕ → ℕ → List ℕ → Parsing → Piece
starts_at w zero mid load n parsing = fails fault.TooDeep
starts_at w (suc left) mid load n parsing = starts (around_at w left) mid load n parsing

-- the text that a reply brings, and its module
abbrev pub text_in : Reply → Option (ModRef × List ℕ)
text_in (r.Loaded m text) = Some (m, text)
text_in reply = None

-- no text came for a function
abbrev pub unsourced_at : ℕ → Piece
unsourced_at zero = fails fault.TooDeep
unsourced_at (suc left) = fails fault.NotInProfile
