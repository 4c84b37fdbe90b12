use Rattle.std.proofs.Common.{◌∙◌, ap}
use Rattle.std.proofs.lemmas.Result.{on_err_weaker}
use Rattle.tree_files.specs.Files.{is_dir, node_at}
use Rattle.tree_files.specs.MemFiles.{mem_files}
use Rattle.tree_files.proofs.EditLemmas.{HasDirs-all, same_after_dirs}
use Rattle.tree_files.proofs.mem_tree.place_file.Goals as goal

pub put_node-requires-clause-keeps_dirs : goal.put_node-requires-clause-keeps_dirs
put_node-requires-clause-keeps_dirs c =
    λ _. ap (λ f. is_dir (node_at f c.args.path.now)) c.in_ok-make_dirs.ensures.ok ∙ ap is_dir (same_after_dirs (mem_files c.args.nodes.now) c.args.path.now) ∙ c.requires.no_dir

pub returns-clause-err : goal.returns-clause-err
returns-clause-err c =
    on_err_weaker c.put_node.result (λ same. HasDirs-all _ _ _ c.args.path.now c.in_ok-make_dirs.ensures.ok same) c.put_node.ensures.err
