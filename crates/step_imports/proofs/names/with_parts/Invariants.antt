use Rattle.std.proofs.Common.{◌≡◌, ◌∷◌, drop}
use Rattle.meaning_script.specs.ImportStatements.{dotted_name}
use Rattle.step_imports.proofs.names.with_parts.Given as goal

abbrev pub invariant-loop-part : goal.invariant-loop-part
invariant-loop-part l = dotted_name (l.front ∷ l.parts) ≡ dotted_name (l.name ∷ drop l.part-index l.parts)
