-- What a folder of the system is called, and what its errors mean.
use Rattle.std.specs.Prelude.{ℕ, ℤ, pos, negsuc, ◌-◌, ◌==◌, Bool, true, false, not, List, [], ◌∷◌, ◌++◌, codes, fold, length, slice_get, Option, Some, None, if◌then◌else◌}
use Rattle.std.specs.declared.io.ErrorKind.{ErrorKind}
use Rattle.std.specs.declared.io.ErrorKind.TheVariants as kind
use Rattle.base_types.specs.Path.{Path}
use Rattle.tree_files.specs.declared.tree.TreeFault.{TreeFault}
use Rattle.tree_files.specs.declared.tree.TreeFault.TheVariants as fault

-- there is such a byte, and it is no slash (47)
abbrev pub is_no_slash : Option ℕ → Bool
is_no_slash (Some byte) = not (byte == 47)
is_no_slash None = false

-- whether a slash is wanted behind a name: where it has a last byte, and that is none
abbrev pub wants_slash : List ℕ → Bool
wants_slash name = is_no_slash (slice_get name (length name - 1))

-- a name with one more part
abbrev pub with_part : List ℕ → List ℕ → List ℕ
with_part name part = (if wants_slash name then name ++ codes "/" else name) ++ part

-- a name with one part after another of a path; the root adds nothing
abbrev pub with_parts : List ℕ → Path → List ℕ
with_parts name parts = fold with_part name parts

-- the folder in which the program runs
abbrev pub or_here : List ℕ → List ℕ
or_here [] = codes "."
or_here (b ∷ name) = b ∷ name

-- what the system calls a path below a folder
abbrev pub system_name : List ℕ → Path → List ℕ
system_name folder path = or_here (with_parts folder path)

-- whether an error of the system says that nothing stands at a name; below a folder that may not be searched nothing does
abbrev pub says_absent : ErrorKind → Bool
says_absent kind.NotFound = true
says_absent kind.NotADirectory = true
says_absent kind.FilesystemLoop = true
says_absent kind.InvalidFilename = true
says_absent kind.PermissionDenied = true
says_absent kind = false

-- what an error of the system means for a call
abbrev pub fault_of : ErrorKind → TreeFault
fault_of kind.OutOfMemory = fault.NoMemory
fault_of kind = fault.Failed

-- the seconds since 1970 of a time of the system; 0 for one that lies before
abbrev pub since_1970 : ℤ → ℕ
since_1970 (pos seconds) = seconds
since_1970 (negsuc before) = 0
