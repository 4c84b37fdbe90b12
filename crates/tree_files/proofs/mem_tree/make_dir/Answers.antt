use Rattle.std.proofs.Common.{refl, sym, subst, take}
use Rattle.std.proofs.lemmas.Result.{on_ok_weaker}
use Rattle.tree_files.specs.Files.{IsDirAt}
use Rattle.tree_files.specs.declared.tree.Node.TheVariants.{Dir}
use Rattle.tree_files.proofs.EditLemmas.{IsDirAt-insert}
use Rattle.tree_files.proofs.mem_tree.make_dir.Goals as goal

pub returns-clause-made : goal.returns-clause-made
returns-clause-made c =
    on_ok_weaker c.put_node.result
    (λ made. subst (λ f. IsDirAt f (take c.args.n c.args.path.now)) (sym (rw c.in_ok-front.ensures at made)) (IsDirAt-insert _ _ (Dir 0) refl))
    c.put_node.ensures.ok
