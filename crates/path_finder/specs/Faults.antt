-- Whether a load failed because a call of the tree did.
use Rattle.std.specs.Prelude.{Result, Err}
use Rattle.tree_files.specs.declared.tree.TreeFault.TheVariants as of_tree
use Rattle.path_finder.specs.declared.load.LoadFault.{LoadFault}
use Rattle.path_finder.specs.declared.load.LoadFault.TheVariants as fault

-- a call of the tree failed; neither want of memory nor a file that is too long is that
abbrev pub HasFailed : {X : Type 0} → Result X LoadFault → Type 0
HasFailed (Err (fault.Tree of_tree.Failed)) = Unit {0}
HasFailed _ = ⊥
