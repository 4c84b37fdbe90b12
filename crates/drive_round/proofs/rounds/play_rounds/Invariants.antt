use Rattle.std.proofs.Common.{◌≡◌, ◌<◌, ℕ, map, take, drop}
use Rattle.machine_desk.specs.Outgo.{Kept}
use Rattle.machine_shown.specs.Own.{HasEnded}
use Rattle.drive_round.specs.Played.{AreShort, NoneBegan}
use Rattle.drive_round.proofs.Playing.{Goes}
use Rattle.drive_round.proofs.rounds.play_rounds.Given as goal

abbrev pub invariant-loop-t : goal.invariant-loop-t
invariant-loop-t g l = record {
  opening : l.book.opening ≡ l.fn.book.opening;
  kept : Kept g.O.Outlet.piece (g.O.Outlet.out l.fn.book.outlet) (g.O.Outlet.out l.book.outlet) l.book.history;
  ended : (u : ℕ) → u < l.t → HasEnded l.book.history u;
  later : NoneBegan l.t l.book.history;
  trees : drop l.t l.trees ≡ drop l.t l.fn.trees;
  short : AreShort (drop l.t l.results);
  goes : Goes g.T.Tree.files g.T.Tree.faults g.T.Tree.lists l.fuel (map g.P.Program.run l.programs) l.fn.trees l.t l.book.history (take l.t l.trees) (take l.t l.results);
}
