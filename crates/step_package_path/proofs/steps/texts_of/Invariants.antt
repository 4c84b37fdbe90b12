use Rattle.std.proofs.Common.{◌≡◌, take}
use Rattle.meaning_script.specs.Paths.{texts_of}
use Rattle.step_package_path.proofs.steps.texts_of.Given as goal

abbrev pub invariant-loop-text : goal.invariant-loop-text
invariant-loop-text l = l.items ≡ texts_of (take l.text-index l.text-items)
