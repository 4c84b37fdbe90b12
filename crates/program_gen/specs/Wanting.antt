-- Why scripts are not run that stand in a tree of which no call fails.
use Rattle.program_run.specs.declared.open.Unopened.{Unopened}
use Rattle.program_run.specs.declared.open.Unopened.TheVariants as unopened

-- nothing but memory is wanting
abbrev pub IsWanting : Unopened → Type 0
IsWanting (unopened.Refused line) = ⊥
IsWanting unopened.Unread = ⊥
IsWanting unopened.NoMemory = Unit {0}
