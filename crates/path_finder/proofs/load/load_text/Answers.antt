use Rattle.std.proofs.Common.{◌≡◌, ◌+◌, ◌∙◌, ap, ℕ, List, ◌++◌, take, rules, Option, None, Some, IfSome, arith, length-take}
use Rattle.std.specs.Vec.{vec_len}
use Rattle.tree_files.specs.Files.{Files, node_at, bytes_of, IsRead}
use Rattle.base_types.specs.Path.{Path}
use Rattle.tree_files.specs.Reading.{IsRead-next}
use Rattle.path_finder.proofs.load.load_text.Goals as goal

-- one piece more
so_far : (o : Option Files) (p : Path) (text more old new : List ℕ) (at n : ℕ) → IfSome o (λ f. text ≡ take at (bytes_of (node_at f p)))
    → IfSome o (λ f. IsRead (bytes_of (node_at f p)) at old new n) → more ≡ text ++ take n new
    → IfSome o (λ f. more ≡ take (at + n) (bytes_of (node_at f p)))
so_far None p text more old new at n before read e = tt
so_far (Some f) p text more old new at n before read e =
    e ∙ ap (λ t. t ++ take n new) before ∙ IsRead-next (bytes_of (node_at f p)) old new at n read

pub loop-text-preserved : goal.loop-text-preserved
loop-text-preserved g c =
    let told = rw (c.loop-text.invariant.files, c.len.ensures) at c.in_ok-count.ensures.told in
    let longer : vec_len c.extend_from_slice.new.self ≡ vec_len c.loop-text.text + c.in_ok-count.count = omega (arith, c.in_ok-count.ensures.count, simp length-take at c.in_ok-extend_from_slice.ensures.len) in
    record {
      fits = omega arith;
      room = omega arith;
      so_far = rw longer (so_far _ _ _ _ c.loop-text.buffer c.read.new.into _ _ c.loop-text.invariant.so_far told c.in_ok-extend_from_slice.ensures.items);
      files = search rules;
      faults = search rules;
      lists = search rules;
    }
