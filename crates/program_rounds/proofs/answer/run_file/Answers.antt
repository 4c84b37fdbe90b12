use Rattle.std.proofs.Common.{◌≡◌, List, refl, sym, subst, arith}
use Rattle.words_rounds.specs.declared.rounds.Round.{Round}
use Rattle.program_rounds.specs.Opened.{HasRounds}
use Rattle.program_rounds.specs.Rounds.{AreBelowRoot, CanRun}
use Rattle.program_rounds.proofs.Answering.{below_by, can_by, ends_without}
use Rattle.program_rounds.proofs.answer.run_file.Goals as goal

pub returns-in-Err-clause-answers : goal.returns-in-Err-clause-answers
returns-in-Err-clause-answers g c = λ words is.
    ends_without g.S.Scripts.means _ _ _ c.tell_why.result c.args.run c.in-Some.file c.in-Err.why (record { run_is = is; file_is = c.in-Some.is; plan = c.tell_why.ensures.plan }) c.tell_why.ensures.history c.in-Err.ensures.err
    (c.tell_why.ensures.leaves _ _ refl refl refl) c.rounds_of.ensures.faults_grow (let lists = c.rounds_of.ensures.lists_stay in omega (arith, lists))

pub run_list-requires-clause-can_run : goal.run_list-requires-clause-can_run
run_list-requires-clause-can_run g c κs within = subst CanRun (sym c.as_slice.ensures) (can_by c.in-Ok.ensures.ok)

pub run_list-requires-clause-below : goal.run_list-requires-clause-below
run_list-requires-clause-below g c κs within = subst AreBelowRoot (sym c.as_slice.ensures) (below_by c.in-Ok.ensures.ok)

pub returns-clause-answers : goal.returns-clause-answers
returns-clause-answers g c = λ words is.
    let read = c.rounds_of.ensures in
    let lists = read.lists_stay in
    let has : HasRounds (g.T.Tree.files c.args.tree.now) c.in-Some.file c.as_slice.result.now = subst (λ (rs : List Round). HasRounds (g.T.Tree.files c.args.tree.now) c.in-Some.file rs) (sym c.as_slice.ensures) c.in-Ok.ensures.ok in
    c.run_list.ensures.answers words c.in-Some.file _ is c.in-Some.is has (record { files = read.files_stay; faults = c.in-Ok.ensures.faults_stay; lists = omega (arith, lists); out = refl; err = refl })
