use Rattle.std.proofs.Common.{◌≡◌, ◌-◌, ◌^◌, ℕ, Option}
use Rattle.std.specs.Option.{ForSome}
use Rattle.meaning_runs.specs.Runs.{Run}
use Rattle.path_finder.specs.Looking.{awaits, input_kind, means, Suits}
use Rattle.path_finder.specs.declared.words.Found.{Found}
use Rattle.path_finder.specs.declared.words.LookIn.TheVariants as given
use Rattle.drive_account.specs.View.{Stays}
use Rattle.meaning_script.specs.Searches.{searches_in}
use Rattle.machine_shown.specs.Shown.{shown}
use Rattle.drive_account.specs.At.{At}
use Rattle.drive_account.specs.Searching.{IsSafe, Keeps}
use Rattle.drive_account.specs.Asking.{Asked, AllKept}
use Rattle.drive_account.proofs.search.search.Given as goal

abbrev pub invariant-steps : goal.invariant-steps
invariant-steps g l = record {
  stays : Stays (g.P.Port.view l.fn.port) (g.P.Port.view l.port);
  moves : (k : Option Found → Run) (whole : Run) (fuel : ℕ) → At (g.T.Tree.files l.fn.tree) whole fuel (g.P.Port.view l.fn.port).mine l.fn.budget (searches_in (means l.fn.look given.Start) k)
      → At (g.T.Tree.files l.fn.tree) whole fuel (g.P.Port.view l.port).mine l.budget (searches_in (means l.look l.input) k);
  safe : IsSafe (shown (g.P.Port.view l.fn.port).number (g.P.Port.view l.port).mine) (means l.look l.input);
  fits : awaits l.look.stage ≡ input_kind l.input;
  suits : ForSome (g.T.Tree.files l.fn.tree) (λ f. Suits l.look.stage f);
  kept : AllKept (g.T.Tree.lists l.fn.tree) (g.T.Tree.lists l.tree) (g.P.Port.view l.fn.port).mine (g.P.Port.view l.port).mine;
  holds : Keeps (g.P.Port.view l.fn.port) (g.P.Port.view l.port);
  unfailed : g.T.Tree.faults l.tree ≡ g.T.Tree.faults l.fn.tree;
  asked : Asked (g.T.Tree.files l.fn.tree) (g.T.Tree.files l.tree) (g.T.Tree.faults l.fn.tree) (g.T.Tree.faults l.tree);
}

abbrev pub decreases-steps : goal.decreases-steps
decreases-steps g l = 2 ^ 64 - l.steps
