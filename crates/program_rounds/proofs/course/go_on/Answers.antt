use Rattle.std.proofs.Common.{◌≡◌, ◌∙◌, ◌+◌, ◌<◌, ◌≤◌, ◌^◌, ◌++◌, List, ℕ, Option, Some, length, take, drop, refl, sym, ap, subst, arith}
use Rattle.std.specs.Prelude.{IfSome}
use Rattle.std.proofs.lemmas.List.{length-take-le}
use Rattle.tree_files.specs.declared.edit.Edit.{Edit}
use Rattle.tree_overlay.specs.Kinds.{IsBelowRoot}
use Rattle.drive_round.specs.Ran.{Counts, MayBegin, counted}
use Rattle.program_run.specs.Together.{Mean}
use Rattle.program_run.proofs.Threads.{many_mean}
use Rattle.program_rounds.specs.Course.{HasCome, MayGoOn, under_by}
use Rattle.program_rounds.proofs.Coursing.{come_over, come_stopped, go_on_at, many_programs}
use Rattle.program_rounds.proofs.course.go_on.Goals as goal

pub run_edited-requires-clause-some : goal.run_edited-requires-clause-some
run_edited-requires-clause-some g c κs within =
    let go = go_on_at (λ v. v.items) c.args.course.book c.args.course.results c.in-Some.done c.args.round.now c.args.texts.now c.in-Some.is c.requires.may in
    let some = go.some in
    let fits : length c.in-Some.done.items + length c.args.round.now.scripts ≤ length c.args.texts.now = go.fits in
    let many = many_programs g.S.Program.run g.S.Scripts.means c.args.round.now c.args.texts.now c.in-Ok-programs_at.programs.items _ _ _ (c.len-from.ensures ∙ c.in-Some.done.ok.0) c.len.ensures fits c.in-Ok-programs_at.ensures in
    omega (arith, some, many)

pub run_edited-requires-clause-fits : goal.run_edited-requires-clause-fits
run_edited-requires-clause-fits g c κs within =
    let go = go_on_at (λ v. v.items) c.args.course.book c.args.course.results c.in-Some.done c.args.round.now c.args.texts.now c.in-Some.is c.requires.may in
    let fits : length c.in-Some.done.items + length c.args.round.now.scripts ≤ length c.args.texts.now = go.fits in
    let few = go.few in
    let from = c.len-from.ensures ∙ c.in-Some.done.ok.0 in
    let many = many_programs g.S.Program.run g.S.Scripts.means c.args.round.now c.args.texts.now c.in-Ok-programs_at.programs.items _ _ _ from c.len.ensures fits c.in-Ok-programs_at.ensures in
    omega (arith, fits, few, from, many)

pub run_edited-requires-clause-may : goal.run_edited-requires-clause-may
run_edited-requires-clause-may g c κs within =
    let go = go_on_at (λ v. v.items) c.args.course.book c.args.course.results c.in-Some.done c.args.round.now c.args.texts.now c.in-Some.is c.requires.may in
    let fits : length c.in-Some.done.items + length c.args.round.now.scripts ≤ length c.args.texts.now = go.fits in
    let from = c.len-from.ensures ∙ c.in-Some.done.ok.0 in
    let many = many_programs g.S.Program.run g.S.Scripts.means c.args.round.now c.args.texts.now c.in-Ok-programs_at.programs.items _ _ _ from c.len.ensures fits c.in-Ok-programs_at.ensures in
    subst (λ (n : ℕ). MayBegin c.args.course.book c.len-from.result n) (sym many) (subst (λ (k : ℕ). MayBegin c.args.course.book k (length c.args.round.now.scripts)) (sym from) go.may)

pub returns-in_default-clause-come : goal.returns-in_default-clause-come
returns-in_default-clause-come g c = λ old first start rounds fits come.
    let tally = counted g.T.Tree.faults g.T.Tree.lists in
    come_stopped g.S.Scripts.means (under_by (g.T.Tree.files c.args.tree.now) c.args.fuel c.args.texts.now old first start) rounds c.args.round.now g.O.Outlet.piece g.O.Outlet.out (λ v. v.items)
    (tally c.args.tree.now) (tally c.args.tree.now) c.args.course.book c.stopped.result.book c.args.course.edits c.stopped.result.edits c.args.course.results c.stopped.result.results fits come refl c.stopped.ensures.book c.stopped.ensures.results

pub returns-in_default-add_edits-clause-come : goal.returns-in_default-add_edits-clause-come
returns-in_default-add_edits-clause-come g c = λ old first start rounds fits come.
    let tally = counted g.T.Tree.faults g.T.Tree.lists in
    come_stopped g.S.Scripts.means (under_by (g.T.Tree.files c.args.tree.now) c.args.fuel c.args.texts.now old first start) rounds c.args.round.now g.O.Outlet.piece g.O.Outlet.out (λ v. v.items)
    (tally c.args.tree.now) (tally c.args.tree.now) c.args.course.book c.stopped-in_default-add_edits.result.book c.args.course.edits c.stopped-in_default-add_edits.result.edits c.args.course.results c.stopped-in_default-add_edits.result.results fits come refl c.stopped-in_default-add_edits.ensures.book c.stopped-in_default-add_edits.ensures.results

pub returns-in_default-programs_at-clause-come : goal.returns-in_default-programs_at-clause-come
returns-in_default-programs_at-clause-come g c = λ old first start rounds fits come.
    let tally = counted g.T.Tree.faults g.T.Tree.lists in
    come_stopped g.S.Scripts.means (under_by (g.T.Tree.files c.args.tree.now) c.args.fuel c.args.texts.now old first start) rounds c.args.round.now g.O.Outlet.piece g.O.Outlet.out (λ v. v.items)
    (tally c.args.tree.now) (tally c.args.tree.now) c.args.course.book c.stopped-in_default-programs_at.result.book c.args.course.edits c.stopped-in_default-programs_at.result.edits c.args.course.results c.stopped-in_default-programs_at.result.results fits come refl c.stopped-in_default-programs_at.ensures.book c.stopped-in_default-programs_at.ensures.results

pub returns-in-Err-clause-come : goal.returns-in-Err-clause-come
returns-in-Err-clause-come g c = λ old first start rounds fits come.
    let tally = counted g.T.Tree.faults g.T.Tree.lists in
    let same : tally c.run_edited.new.tree ≡ tally c.args.tree.now = λ i. record { faults = c.in-Err.ensures.unchanged.0 i; lists = c.in-Err.ensures.unchanged.1 i } in
    come_stopped g.S.Scripts.means (under_by (g.T.Tree.files c.args.tree.now) c.args.fuel c.args.texts.now old first start) rounds c.args.round.now g.O.Outlet.piece g.O.Outlet.out (λ v. v.items)
    (tally c.args.tree.now) (tally c.run_edited.new.tree) c.args.course.book c.stopped-in-Err.result.book c.args.course.edits c.stopped-in-Err.result.edits c.args.course.results c.stopped-in-Err.result.results fits come same (c.stopped-in-Err.ensures.book ∙ c.in-Err.ensures.err) c.stopped-in-Err.ensures.results

pub returns-in-Ok-run_edited-clause-come : goal.returns-in-Ok-run_edited-clause-come
returns-in-Ok-run_edited-clause-come g c = λ old first start rounds fits come.
    let tally = counted g.T.Tree.faults g.T.Tree.lists in
    come_over g.S.Scripts.means (under_by (g.T.Tree.files c.args.tree.now) c.args.fuel c.args.texts.now old first start) rounds c.args.round.now g.O.Outlet.piece g.O.Outlet.out (λ v. v.items) g.S.Program.run
    (tally c.args.tree.now) (tally c.run_edited.new.tree) c.args.course.book c.in-Ok-run_edited.ran.book c.args.course.edits c.as_slice.result.now c.add_edits.new.edits c.as_slice-all.result.now c.args.course.results c.joined.result
    c.in-Some.done c.in-Ok-programs_at.programs.items c.in-Ok-run_edited.ran.results.items c.len-from.result c.len.result fits come c.in-Some.is c.as_slice.ensures c.in-Ok.ensures c.as_slice-all.ensures c.requires.below
    (c.len-from.ensures ∙ c.in-Some.done.ok.0) c.len.ensures c.in-Ok-programs_at.ensures c.in-Ok-run_edited.ensures.ok c.joined.ensures
