use Rattle.std.proofs.Common.{rules}
use Rattle.std.proofs.lemmas.Iterator.{YieldsList-from_slice, items_from_collect}
use Rattle.std.proofs.lemmas.Iterator.Consumers.{YieldsList-from_filter_map}
use Rattle.tree_files.specs.MemFiles.{handed_to}
use Rattle.tree_files.proofs.mem_tree.of_fork.Goals as goal

pub returns : goal.returns
returns c = items_from_collect _ c.collect.ensures.ran (YieldsList-from_filter_map _ (handed_to c.args.fork) (YieldsList-from_slice c.args.named.now cc) c.filter_map.ensures.closure (λ x r q k. search rules))
