use Rattle.std.proofs.Common.{◌∙◌, ◌+◌, map, get_or, refl, sym, ap, subst, arith, Ok}
use Rattle.std.proofs.lemmas.List.{drop-set-lt, length-map}
use Rattle.std.proofs.lemmas.Grind.{drop_more_same}
use Rattle.drive_account.proofs.Meant.{ended_of}
use Rattle.drive_round.specs.Played.{AreShort}
use Rattle.drive_round.proofs.Playing.{all_ended, ended_next, kept_on, next, none_next, own_stays, runs_from, short_next, stop_at}
use Rattle.drive_round.proofs.rounds.play_rounds.Goals as goal

pub returns-in-Err-clause-kept : goal.returns-in-Err-clause-kept
returns-in-Err-clause-kept g c =
    kept_on g.O.Outlet.piece g.O.Outlet.out c.loop-t.t c.args.book.now.outlet c.loop-t.book c.run_at_desk.new.book c.run_at_desk.ensures.goes_on c.loop-t.invariant.kept

pub returns-in-Err-clause-played : goal.returns-in-Err-clause-played
returns-in-Err-clause-played g c =
    let inv = c.loop-t.invariant in
    let left = c.run_at_desk.ensures in
    let on = left.goes_on in
    let t = c.loop-t.t in
    let h = c.loop-t.book.history in
    let h' = c.run_at_desk.new.book.history in
    let run = g.P.Program.run in
    let programs = c.args.programs.now in
    let tree = get_or c.loop-t.trees t c.index-trees-t.result in
    let many = length-map programs run in
    let as_many = c.requires.programs in
    let long = c.requires.results in
    let low = c.loop-t-test.true in
    let long_trees = c.loop-t.long-trees in
    let long_results = c.loop-t.long-results in
    stop_at g.T.Tree.files g.T.Tree.faults g.T.Tree.lists c.args.fuel (map run programs) c.args.trees.now t h h' c.loop-t.trees _ c.loop-t.results (run c.index-programs-t.result) tree c.run_at_desk.new.tree _ (omega (arith, low, long_trees)) (omega (arith, low, long_results, long))
    inv.trees (ap (get_or c.loop-t.trees t) c.index-trees-t.is) (runs_from run programs t c.index-programs-t.result (omega (arith, low, as_many)) c.index-programs-t.is) refl left.files
    (λ u less. own_stays t u h on.gained.rest h' on.gained.joined on.only (λ same. omega (arith, same, less))) c.in-Err.ensures.ran (none_next t h on.gained.rest h' on.gained.joined on.only inv.later) (omega (arith, many, as_many)) (omega (arith, long_results, long)) inv.short inv.goes

pub loop-t-preserved : goal.loop-t-preserved
loop-t-preserved g c =
    let inv = c.loop-t.invariant in
    let left = c.run_at_desk.ensures in
    let on = left.goes_on in
    let t = c.loop-t.t in
    let h = c.loop-t.book.history in
    let h' = c.run_at_desk.new.book.history in
    let run = g.P.Program.run in
    let programs = c.args.programs.now in
    let tree = get_or c.loop-t.trees t c.index-trees-t.result in
    let as_many = c.requires.programs in
    let long = c.requires.results in
    let low = c.loop-t-test.true in
    let long_trees = c.loop-t.long-trees in
    let long_results = c.loop-t.long-results in
    record {
      opening = on.opening ∙ inv.opening;
      kept = kept_on g.O.Outlet.piece g.O.Outlet.out t c.args.book.now.outlet c.loop-t.book c.run_at_desk.new.book on inv.kept;
      ended = ended_next t h h' on.gained.rest c.in-Ok.ending on.gained.joined (ended_of c.in-Ok.ensures.ran.meant) inv.ended;
      later = none_next t h on.gained.rest h' on.gained.joined on.only inv.later;
      trees = drop-set-lt (t + 1) c.loop-t.trees t c.run_at_desk.new.tree (omega arith) ∙ drop_more_same c.loop-t.trees c.args.trees.now t inv.trees;
      short = subst AreShort (sym (drop-set-lt (t + 1) c.loop-t.results t (Ok c.in-Ok.ending) (omega arith))) (short_next c.loop-t.results t inv.short);
      goes = next g.T.Tree.files g.T.Tree.faults g.T.Tree.lists c.args.fuel (map run programs) c.args.trees.now t h h' c.loop-t.trees _ c.loop-t.results _ (run c.index-programs-t.result) tree c.run_at_desk.new.tree c.in-Ok.ending (omega (arith, low, long_trees))
          (omega (arith, low, long_results, long)) inv.trees (ap (get_or c.loop-t.trees t) c.index-trees-t.is) (runs_from run programs t c.index-programs-t.result (omega (arith, low, as_many)) c.index-programs-t.is) refl refl left.files
          (λ u less. own_stays t u h on.gained.rest h' on.gained.joined on.only (λ same. omega (arith, same, less))) c.in-Ok.ensures.ran inv.goes;
    }

pub returns-clause-played : goal.returns-clause-played
returns-clause-played g c =
    let over = c.loop-t-test.false in
    let long_trees = c.loop-t.long-trees in
    let long_results = c.loop-t.long-results in
    let long = c.requires.results in
    let as_many = c.requires.programs in
    let many = length-map c.args.programs.now g.P.Program.run in
    all_ended g.T.Tree.files g.T.Tree.faults g.T.Tree.lists c.args.fuel (map g.P.Program.run c.args.programs.now) c.args.trees.now c.loop-t.t c.loop-t.book.history c.loop-t.trees c.loop-t.results (omega (arith, over, long_trees)) (omega (arith, over, long_results, long)) (omega (arith, over, many, as_many)) (omega (arith, over)) c.loop-t.invariant.goes
