use Rattle.std.proofs.Common.{◌≡◌, ◌<◌, ◌∙◌, sym, ap, length, take, not, arith}
use Rattle.std.proofs.Math.Seq.{take-length}
use Rattle.std.specs.List.{list_all}
use Rattle.tree_files.specs.Files.{is_file, node_at}
use Rattle.tree_files.specs.Edits.{prefixes}
use Rattle.tree_files.specs.MemFiles.{mem_files}
use Rattle.tree_files.proofs.EditLemmas.{is_way_free_at, is_way_free_more, length-prefixes}
use Rattle.tree_files.proofs.mem_tree.is_way_free.Goals as goal

pub returns-then-is_file : goal.returns-then-is_file
returns-then-is_file c =
    let path = c.args.path.now in
    let below : c.loop-n.n < length path = omega (arith, ap length c.parts.ensures) in
    sym (is_way_free_at _ path c.loop-n.n below (ap (λ q. is_file (node_at (mem_files c.args.nodes.now) q)) (sym c.in_ok-front.ensures) ∙ sym c.if-is_file.ensures))

pub loop-n-preserved : goal.loop-n-preserved
loop-n-preserved c =
    let path = c.args.path.now in
    let below : c.loop-n.n < length path = omega (arith, ap length c.parts.ensures) in
    is_way_free_more _ path c.loop-n.n below (ap (λ q. is_file (node_at (mem_files c.args.nodes.now) q)) (sym c.in_ok-front.ensures) ∙ sym c.if-is_file.ensures) c.loop-n.invariant

pub returns : goal.returns
returns c =
    let path = c.args.path.now in
    let all : c.loop-n.n ≡ length (prefixes path) = omega (arith, length-prefixes path, ap length c.parts.ensures) in
    sym (ap (list_all (λ q. not (is_file (node_at (mem_files c.args.nodes.now) q)))) (sym (take-length (prefixes path)) ∙ ap (λ k. take k (prefixes path)) (sym all)) ∙ c.loop-n.invariant)
