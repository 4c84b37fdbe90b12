-- The package of a module, which is its `__package__` (`_calc___package__` of `importlib._bootstrap`).
use Rattle.std.specs.Prelude.{ℕ, List, [], Option, Some, None}
use Rattle.spec_core.specs.Names.{parent_of}
use Rattle.spec_core.specs.declared.spec.SpecKind.{SpecKind}
use Rattle.spec_core.specs.declared.spec.SpecKind.TheVariants as kinds

-- a name without a parent is in no package, which is the empty text
abbrev pub front_or_none : Option (List ℕ) → List ℕ
front_or_none None = []
front_or_none (Some front) = front

-- a package is its own package; any other module's is what stands before the last dot of its name, which may be empty
abbrev pub package_of : List ℕ → SpecKind → List ℕ
package_of name kinds.Builtin = front_or_none (parent_of name)
package_of name (kinds.Source file) = front_or_none (parent_of name)
package_of name (kinds.Package file path) = name
package_of name (kinds.Namespace path) = name
