-- How a search goes on by what a directory has.
use Rattle.std.specs.Prelude.{ℕ, List}
use Rattle.base_types.specs.Path.{Path}
use Rattle.spec_core.specs.Names.{tail_of}
use Rattle.path_finder.specs.Find.{package_in, module_in}
use Rattle.path_finder.specs.Steps.{Search, Onward, ends_with, passes}
use Rattle.path_finder.specs.declared.probes.Has.{Has}
use Rattle.path_finder.specs.declared.probes.Has.TheVariants as has

-- a package or a module ends the search, which else goes on behind the entry, with its portion if it has one
abbrev pub settled : List ℕ → Path → List (List ℕ) → Onward → Has → Search
settled name dir portions go has.Package = ends_with name (package_in dir (tail_of name))
settled name dir portions go has.Module = ends_with name (module_in dir (tail_of name))
settled name dir portions go (has.Rest portion) = passes name dir portion portions go
