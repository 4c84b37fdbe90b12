use Rattle.std.proofs.Common.{◌≡◌, ◌++◌}
use Rattle.program_gen.specs.Generator.{after, imports_of}
use Rattle.program_gen.proofs.texts.push_imports.Given as goal

abbrev pub invariant-loop : goal.invariant-loop
invariant-loop l = record {
  text : l.text ≡ l.fn.text ++ imports_of l.bound l.counter l.fn.draws.state;
  state : l.draws.state ≡ after l.counter l.fn.draws.state;
}
