use Rattle.std.proofs.Common.{◌≡◌, ◌∙◌, ap, rules, arith, ◌<◌, length, take}
use Rattle.std.proofs.Math.Seq.{take-length}
use Rattle.tree_files.specs.Edits.{prefixes, with_dirs, with_dir_at}
use Rattle.tree_files.specs.MemFiles.{mem_files}
use Rattle.tree_files.proofs.EditLemmas.{HasParent-more, with_dirs_more, length-prefixes}
use Rattle.tree_files.proofs.mem_tree.make_dirs.Goals as goal

pub loop-n-preserved : goal.loop-n-preserved
loop-n-preserved c =
    let path = c.args.path.now in
    let below : c.loop-n.n < length path = omega (arith, ap length c.parts.ensures) in
    record {
      tree = search rules;
      made = c.in_ok-make_dir.ensures.ok ∙ ap (λ f. with_dir_at f (take c.loop-n.n path)) c.loop-n.invariant.made
          ∙ with_dirs_more (mem_files c.args.nodes.now) path c.loop-n.n below;
      parent = HasParent-more _ path c.loop-n.n below c.in_ok-make_dir.ensures.made;
    }

pub returns-clause-ok : goal.returns-clause-ok
returns-clause-ok c =
    let path = c.args.path.now in
    let f = mem_files c.args.nodes.now in
    let all : c.loop-n.n ≡ length (prefixes path) = omega (arith, length-prefixes path, ap length c.parts.ensures) in
    c.loop-n.invariant.made ∙ ap (λ k. with_dirs f (take k (prefixes path))) all ∙ ap (with_dirs f) (take-length (prefixes path))
