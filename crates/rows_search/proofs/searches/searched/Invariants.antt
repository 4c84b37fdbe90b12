use Rattle.std.proofs.Common.{◌≡◌}
use Rattle.std.specs.Option.{ForSome}
use Rattle.path_finder.specs.Looking.{awaits, input_kind, Suits}
use Rattle.rows_search.proofs.searches.searched.Given as goal

abbrev pub invariant-loop : goal.invariant-loop
invariant-loop g l = record {
  fits : awaits l.look.stage ≡ input_kind l.input;
  suits : ForSome (g.T.Tree.files l.tree) (λ f. Suits l.look.stage f);
}
