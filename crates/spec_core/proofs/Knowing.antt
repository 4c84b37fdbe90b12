-- The known names are dotted names, by computing.
use Rattle.std.proofs.Common.{◌≡◌, refl, true}
use Rattle.std.specs.Str.{chars}
use Rattle.unicode_ident.proofs.Computing.{unicode_ident}
use Rattle.unicode_normalization.proofs.Computing.{unicode_normalization}
use Rattle.spec_core.specs.Identifiers.{is_dotted, is_keyword}
use Rattle.spec_core.specs.Known.{known_text}
use Rattle.spec_core.specs.declared.known.KnownName.{KnownName}
use Rattle.spec_core.specs.declared.known.KnownName.TheVariants.{Main, Sys, Importlib, Pyimport}

pub known_dotted : (name : KnownName) → is_dotted (known_text name) ≡ true
unfolding is_dotted is_keyword chars unicode_ident unicode_normalization
known_dotted Main = refl
known_dotted Sys = refl
known_dotted Importlib = refl
known_dotted Pyimport = refl
