use Rattle.std.proofs.Common.{◌≡◌, ◌∙◌, ◌++◌, ◌∷◌, [], List, Option, take, refl, rules, sym, subst, arith}
use Rattle.std.proofs.lemmas.List.{take_all}
use Rattle.tree_files.specs.Files.{Files}
use Rattle.words_rounds.specs.declared.rounds.Round.{Round}
use Rattle.drive_round.specs.Ran.{counted}
use Rattle.program_rounds.specs.Course.{HasCome, under_by}
use Rattle.program_rounds.proofs.Coursing.{below_so_far, come_next, come_start, fits_next, may_go}
use Rattle.program_rounds.proofs.Opening.{below_at}
use Rattle.program_rounds.proofs.course.run_course.Goals as goal

pub loop-round-init : goal.loop-round-init
loop-round-init g c =
    let unedited : c.new-edits.result ≡ [] = search rules in
    let nothing : c.new-results.result.items ≡ [] = search rules in
    record {
      files = refl;
      grows = omega arith;
      come = come_start g.S.Scripts.means g.O.Outlet.piece g.O.Outlet.out (λ v. v.items) (under_by (g.T.Tree.files c.args.tree.now) c.args.fuel c.args.texts.now (counted g.T.Tree.faults g.T.Tree.lists c.args.tree.now) c.args.book.opening (g.O.Outlet.out c.args.book.outlet))
          c.args.book c.new-edits.result c.new-results.result c.requires.start refl refl unedited nothing;
    }

pub go_on-course-requires-clause-may : goal.go_on-course-requires-clause-may
go_on-course-requires-clause-may g c κs within =
    let tally = counted g.T.Tree.faults g.T.Tree.lists in
    may_go g.S.Scripts.means (under_by (g.T.Tree.files c.args.tree.now) c.args.fuel c.args.texts.now (tally c.args.tree.now) c.args.book.opening (g.O.Outlet.out c.args.book.outlet)) g.O.Outlet.piece g.O.Outlet.out (λ v. v.items) c.args.rounds.now c.requires.can_run c.requires.rounds
    c.requires.texts c.loop-round.round-index c.round-item.result c.loop-round-test.true c.round-item.is (tally c.loop-round.tree) c.loop-round.course.book c.loop-round.course.edits c.loop-round.course.results c.loop-round.invariant.come

pub go_on-course-requires-clause-before : goal.go_on-course-requires-clause-before
go_on-course-requires-clause-before g c κs within =
    let tally = counted g.T.Tree.faults g.T.Tree.lists in
    below_so_far g.S.Scripts.means (under_by (g.T.Tree.files c.args.tree.now) c.args.fuel c.args.texts.now (tally c.args.tree.now) c.args.book.opening (g.O.Outlet.out c.args.book.outlet)) g.O.Outlet.piece g.O.Outlet.out (λ v. v.items) c.args.rounds.now c.requires.can_run c.requires.rounds
    c.requires.texts c.loop-round.round-index c.round-item.result c.loop-round-test.true c.round-item.is (tally c.loop-round.tree) c.loop-round.course.book c.loop-round.course.edits c.loop-round.course.results c.loop-round.invariant.come

pub go_on-course-requires-clause-below : goal.go_on-course-requires-clause-below
go_on-course-requires-clause-below g c κs within = below_at c.args.rounds.now c.loop-round.round-index c.round-item.result c.requires.below c.loop-round-test.true c.round-item.is

pub loop-round-preserved : goal.loop-round-preserved
loop-round-preserved g c =
    let tally = counted g.T.Tree.faults g.T.Tree.lists in
    let under = under_by (g.T.Tree.files c.args.tree.now) c.args.fuel c.args.texts.now (tally c.args.tree.now) c.args.book.opening (g.O.Outlet.out c.args.book.outlet) in
    let inv = c.loop-round.invariant in
    let went = c.go_on-course.ensures in
    let grown = inv.grows in
    let grows = went.faults_grow in
    let fits = fits_next c.args.rounds.now c.args.texts.now c.requires.texts c.loop-round.round-index c.round-item.result c.loop-round-test.true c.round-item.is in
    let same = inv.files in
    record {
      files = went.files ∙ same;
      grows = omega (arith, grown, grows);
      come = come_next g.S.Scripts.means under g.O.Outlet.piece g.O.Outlet.out (λ v. v.items) c.args.rounds.now c.requires.can_run c.requires.rounds c.requires.texts c.loop-round.round-index c.round-item.result c.loop-round-test.true c.round-item.is
          (tally c.go_on-course.new.tree) c.loop-round.course.book c.loop-round.course.edits c.go_on-course.result.book c.go_on-course.result.edits c.go_on-course.result.results
          (subst (λ (x : Option Files). HasCome g.O.Outlet.piece g.O.Outlet.out g.S.Scripts.means (under_by x c.args.fuel c.args.texts.now (tally c.args.tree.now) c.args.book.opening (g.O.Outlet.out c.args.book.outlet))
          (take c.loop-round.round-index c.args.rounds.now) (tally c.loop-round.tree) c.loop-round.course.book c.loop-round.course.edits c.loop-round.course.results (λ r. r.items)
          → HasCome g.O.Outlet.piece g.O.Outlet.out g.S.Scripts.means (under_by x c.args.fuel c.args.texts.now (tally c.args.tree.now) c.args.book.opening (g.O.Outlet.out c.args.book.outlet))
          (take c.loop-round.round-index c.args.rounds.now ++ c.round-item.result ∷ []) (tally c.go_on-course.new.tree) c.go_on-course.result.book c.go_on-course.result.edits c.go_on-course.result.results (λ r. r.items))
          same (went.come (tally c.args.tree.now) c.args.book.opening (g.O.Outlet.out c.args.book.outlet) (take c.loop-round.round-index c.args.rounds.now) fits) inv.come);
    }

pub returns-clause-come : goal.returns-clause-come
returns-clause-come g c =
    let tally = counted g.T.Tree.faults g.T.Tree.lists in
    let over = c.loop-round-test.false in
    let whole : take c.loop-round.round-index c.args.rounds.now ≡ c.args.rounds.now = take_all c.loop-round.round-index c.args.rounds.now (omega (arith, over)) in
    subst (λ (rs : List Round). HasCome g.O.Outlet.piece g.O.Outlet.out g.S.Scripts.means (under_by (g.T.Tree.files c.args.tree.now) c.args.fuel c.args.texts.now (tally c.args.tree.now) c.args.book.opening (g.O.Outlet.out c.args.book.outlet))
    rs (tally c.loop-round.tree) c.loop-round.course.book c.loop-round.course.edits c.loop-round.course.results (λ v. v.items)) whole c.loop-round.invariant.come
