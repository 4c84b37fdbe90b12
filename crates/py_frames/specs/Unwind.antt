-- Where a leave stops.
use Rattle.std.specs.Prelude.{List, [], ◌∷◌, Bool, true, false, if◌then◌else◌}
use Rattle.py_value.specs.declared.kind.Kind.{Kind}
use Rattle.py_value.specs.declared.kind.Kind.TheVariants as kinds
use Rattle.meaning_state.specs.declared.flow.Leave.{Leave}
use Rattle.meaning_state.specs.declared.flow.Leave.TheVariants.{Raised, Return, Break, Continue}
use Rattle.py_frames.specs.declared.work.Frame.{Frame}
use Rattle.py_frames.specs.declared.work.Frame.TheVariants as frame

-- an error but a ProfileError, which no handler takes
abbrev pub is_taken_kind : Kind → Bool
is_taken_kind kinds.ProfileError = false
is_taken_kind kind = true

-- what stops at the handlers of a `try`: an error that one of them may take; every other leave passes them
abbrev pub is_taken : Leave → Bool
is_taken (Raised error) = is_taken_kind error.kind
is_taken leave = false

-- the kind that a missing attribute raises; no other counts as one (Library Reference, `hasattr`)
abbrev pub is_missing_kind : Kind → Bool
is_missing_kind kinds.AttributeError = true
is_missing_kind kind = false

-- an AttributeError, which alone `hasattr` and `getattr` meet
abbrev pub is_missing : Leave → Bool
is_missing (Raised error) = is_missing_kind error.kind
is_missing leave = false

-- `break` and `continue`, which the innermost loop takes (Language Reference 7.9 and 7.10); errors and `return` pass it
abbrev pub is_jump : Leave → Bool
is_jump Break = true
is_jump Continue = true
is_jump leave = false

-- which frames stop a leave; all others it passes
abbrev pub stops : Leave → Frame → Bool
stops leave (frame.Loop test body turns) = is_jump leave
stops leave (frame.Handlers stmts at) = is_taken leave
stops leave (frame.EndHandler bound) = true
stops leave (frame.Finally block) = true
stops leave (frame.Resume flow) = true
stops leave (frame.Imported left) = true
stops leave (frame.TriedSubmodule n) = true
stops leave (frame.Open procedure) = true
stops leave (frame.Back scope left) = true
stops leave frame.HasAttr = is_missing leave
stops leave (frame.GetAttr v) = is_missing leave
stops leave f = false

-- the work from the first frame on that stops the leave
abbrev pub unwound : Leave → List Frame → List Frame
unwound leave [] = []
unwound leave (f ∷ fs) = if stops leave f then f ∷ fs else unwound leave fs
