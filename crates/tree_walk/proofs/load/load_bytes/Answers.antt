use Rattle.std.proofs.Common.{◌≡◌, ◌+◌, ◌∙◌, ap, ℕ, List, ◌++◌, take, rules, Option, None, Some, IfSome, arith, length-take}
use Rattle.std.specs.Vec.{vec_len}
use Rattle.tree_files.specs.Files.{Files, node_at, bytes_of, IsRead}
use Rattle.base_types.specs.Path.{Path}
use Rattle.tree_files.specs.Reading.{IsRead-next}
use Rattle.tree_walk.proofs.load.load_bytes.Goals as goal

-- one piece more
so_far : (o : Option Files) (p : Path) (bytes more old new : List ℕ) (at n : ℕ) → IfSome o (λ f. bytes ≡ take at (bytes_of (node_at f p)))
    → IfSome o (λ f. IsRead (bytes_of (node_at f p)) at old new n) → more ≡ bytes ++ take n new
    → IfSome o (λ f. more ≡ take (at + n) (bytes_of (node_at f p)))
so_far None p bytes more old new at n before read e = tt
so_far (Some f) p bytes more old new at n before read e =
    e ∙ ap (λ t. t ++ take n new) before ∙ IsRead-next (bytes_of (node_at f p)) old new at n read

pub loop-bytes-preserved : goal.loop-bytes-preserved
loop-bytes-preserved g c =
    let told = rw (c.loop-bytes.invariant.files, c.len.ensures) at c.in_ok-count.ensures.told in
    let longer : vec_len c.extend_from_slice.new.self ≡ vec_len c.loop-bytes.bytes + c.in_ok-count.count = omega (arith, c.in_ok-count.ensures.count, simp length-take at c.in_ok-extend_from_slice.ensures.len) in
    record {
      fits = omega arith;
      room = omega arith;
      so_far = rw longer (so_far _ _ _ _ c.loop-bytes.piece c.read.new.into _ _ c.loop-bytes.invariant.so_far told c.in_ok-extend_from_slice.ensures.items);
      files = search rules;
      faults = search rules;
      lists = search rules;
    }
