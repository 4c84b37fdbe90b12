use Rattle.std.proofs.Common.{◌≡◌, ◌++◌, ◌<◌, ◌≤◌, ℕ, take, get_or, false}
use Rattle.std.specs.List.{flat_map}
use Rattle.std.specs.Str.{IsCharBoundary}
use Rattle.base_spelling.specs.Spelling.{is_escaped, escaped}
use Rattle.base_spelling.proofs.write.put_escaped.Given as goal

abbrev pub invariant-loop-i : goal.invariant-loop-i
invariant-loop-i l = record {
  low : l.from ≤ l.i;
  cut : IsCharBoundary l.text l.from;
  plain : (k : ℕ) → l.from ≤ k → k < l.i → is_escaped (get_or l.text k 0) ≡ false;
  so_far : l.more ≡ l.fn.out ++ flat_map escaped (take l.from l.text);
}
