-- What stands below a bundle, as the code keeps it.
use Rattle.bundle_hook.specs.declared.inside.Inner.{Inner}
use Rattle.bundle_hook.specs.declared.inside.Inner.TheVariants as inner
use Rattle.bundle_hook.specs.Things.{Thing, Nothing, Folder, AFile}

-- which thing the code means
abbrev pub thing_in : Inner → Thing
thing_in inner.Nothing = Nothing
thing_in inner.Folder = Folder
thing_in (inner.File item) = AFile item.now
