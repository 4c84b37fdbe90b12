-- Relative names (Language Reference 5.7; `_resolve_name` of `importlib._bootstrap`).
use Rattle.std.specs.Prelude.{◌≡◌, ℕ, ◌-◌, not, nat_lt, if◌then◌else◌, List, length, take, Option, Some, None, Result, Ok, Err}
use Rattle.std.specs.List.{join_with_byte}
use Rattle.spec_core.specs.Names.{parts, joined}
use Rattle.spec_core.specs.Identifiers.{is_dotted}
use Rattle.spec_core.specs.declared.relative.RelativeError.{RelativeError}
use Rattle.spec_core.specs.declared.relative.RelativeError.TheVariants.{NoParent, BeyondTop, NoMemory}

-- the first n parts, with dots between
abbrev pub front_parts : ℕ → List ℕ → List ℕ
front_parts n name = join_with_byte 46 (take n (parts name))

-- a base with a name behind it, where there is one
abbrev pub followed : List ℕ → Option (List ℕ) → List ℕ
followed base None = base
followed base (Some name) = joined base name

-- "A single leading dot indicates a relative import, starting with the current package. Two or more leading dots
-- indicate a relative import to the parent(s) of the current package, one level per dot after the first."
abbrev pub resolved : Option (List ℕ) → ℕ → Option (List ℕ) → Result (List ℕ) RelativeError
resolved None level name = Err NoParent
resolved (Some base) level name =
    if not (is_dotted base) then Err NoParent
    else if nat_lt (length (parts base)) level then Err BeyondTop
    else Ok (followed (front_parts (length (parts base) - (level - 1)) base) name)

-- what is answered is the resolved name or its refusal, unless memory is wanted
abbrev pub Resolves : Result (List ℕ) RelativeError → Result (List ℕ) RelativeError → Type 0
Resolves expected (Ok name) = expected ≡ Ok name
Resolves expected (Err NoMemory) = Unit {0}
Resolves expected (Err NoParent) = expected ≡ Err NoParent
Resolves expected (Err BeyondTop) = expected ≡ Err BeyondTop
