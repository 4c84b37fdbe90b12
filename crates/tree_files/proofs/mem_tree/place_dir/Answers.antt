use Rattle.std.proofs.lemmas.Result.{on_err_weaker}
use Rattle.tree_files.proofs.EditLemmas.{HasDirs-all}
use Rattle.tree_files.proofs.mem_tree.place_dir.Goals as goal

pub returns-clause-err : goal.returns-clause-err
returns-clause-err c =
    on_err_weaker c.put_node.result (λ same. HasDirs-all _ _ _ c.args.path.now c.in_ok-make_dirs.ensures.ok same) c.put_node.ensures.err
