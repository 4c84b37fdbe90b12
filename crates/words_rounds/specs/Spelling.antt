-- The first line of a rounds file. The format is this project's own:
--
--   file   := "pyimport-rounds 1" LF round { round }
--   round  := "round" LF { edit LF } script { script }
--   script := "script " PATH LF
--   edit   := "file " PATH " " TEXT | "dir " PATH " " TIME | "remove " PATH
use Rattle.std.specs.Prelude.{ℕ, List, codes}

-- the name of the format and its version; the LF behind it is no part of it
abbrev pub first_line : List ℕ
first_line = codes "pyimport-rounds 1"
