use Rattle.std.proofs.Common.{◌≡◌, ◌∷◌, ◌<◌, ◌≤◌, ℕ, take, get_or, false}
use Rattle.std.specs.List.{flat_map}
use Rattle.std.specs.Str.{IsCharBoundary}
use Rattle.value_texts.specs.Texts.{put, quote_byte, is_escaped, escaped}
use Rattle.value_texts.proofs.quoting.put_opened.Given as goal

abbrev pub invariant-loop-i : goal.invariant-loop-i
invariant-loop-i l = record {
  low : l.from ≤ l.i;
  cut : IsCharBoundary l.text l.from;
  plain : (k : ℕ) → l.from ≤ k → k < l.i → is_escaped (quote_byte l.quote) (get_or l.text k 0) ≡ false;
  so_far : l.draft ≡ put l.fn.draft (quote_byte l.quote ∷ flat_map (escaped (quote_byte l.quote)) (take l.from l.text));
}
