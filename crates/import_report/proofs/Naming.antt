-- The source file that a path names.
use Rattle.std.proofs.Common.{◌≡◌, ◌∙◌, refl, sym, ap, ℕ, List, [], ◌∷◌, ◌++◌, Option, Some, None}
use Rattle.base_types.specs.Path.{Path}
use Rattle.import_report.specs.Sources.{seen_from, file_of, only_source, source_of}
use Rattle.import_report.specs.declared.sources.Source.{Source}

-- the last part is the name
file_of_last : (folders : Path) (name : List ℕ) → file_of (folders ++ name ∷ []) ≡ Some (record { folders = folders; name = name })
file_of_last [] name = refl
file_of_last (part ∷ folders) name = ap (λ (o : Option Source). Some (seen_from part o)) (file_of_last folders name)

pub source_last : (path inside folders : Path) (name : List ℕ) (it : Option Source) → inside ≡ path → inside ≡ folders ++ name ∷ [] → it ≡ only_source (Some (record { folders = folders; name = name })) → it ≡ source_of path
source_last path inside folders name it same last is = is ∙ ap only_source (sym (file_of_last folders name)) ∙ ap source_of (sym last ∙ same)

pub no_source : (path inside : Path) → inside ≡ path → inside ≡ [] → None ≡ source_of path
no_source path inside same none = ap source_of (sym none ∙ same)
