use Rattle.std.proofs.Common.{◌≡◌, ◌∙◌, ◌+◌, ◌≤◌, ◌⊎◌, ℕ, List, length, map, sym, ap, subst, arith}
use Rattle.std.specs.List.{AllByRecursion}
use Rattle.std.proofs.lemmas.List.{length-map}
use Rattle.tree_files.specs.Count.{raised}
use Rattle.tree_files.specs.declared.edit.Edit.{Edit}
use Rattle.tree_overlay.specs.Told.{edited_told}
use Rattle.tree_overlay.specs.Rounds as trees
use Rattle.program_run.specs.Sinks.{Moment, at, moment}
use Rattle.program_run.specs.Results.{Came, AllEnded, AreWhole}
use Rattle.program_run.specs.Statuses.{want_of_memory}
use Rattle.program_run.specs.declared.report.Left.{Left}
use Rattle.program_run.proofs.Leaving.{leaves_of}
use Rattle.program_run.proofs.Threads.{many_mean}
use Rattle.program_rounds.specs.Rounds.{edits_of, scripts_of}
use Rattle.program_rounds.specs.Runs.{Gives}
use Rattle.program_rounds.proofs.Begun.{below_edits, each_one, many_scripts, many_sizes}
use Rattle.program_rounds.proofs.Running.{ended_played, has_run, many_edits, many_forks, many_left, many_played, written_back}
use Rattle.program_rounds.proofs.solo.run_rounds_alone.Goals as goal

pub edited_forks-requires-after_bounds : goal.edited_forks-requires-after_bounds
edited_forks-requires-after_bounds g c κs within =
    subst (λ (es : List (List Edit)). trees.AreBelowRoot es) (sym (c.as_slice.ensures ∙ c.in-Ok-edits_of.ensures)) (below_edits c.args.rounds.now c.requires.below)

pub play_on_book-history-requires-clause-single : goal.play_on_book-history-requires-clause-single
play_on_book-history-requires-clause-single g c =
    subst (λ (ns : List ℕ). AllByRecursion (λ size. size ≡ 1) ns) (sym c.in-Ok-begin.ensures.rounds) (each_one c.args.rounds.now c.requires.single)

pub play_on_book-history-requires-clause-many : goal.play_on_book-history-requires-clause-many
play_on_book-history-requires-clause-many g c =
    let forks = many_forks (λ fork. edited_told fork.edits (g.T.Tree.files fork.tree)) (λ fork. g.T.Tree.faults fork.tree) (λ fork. raised (g.T.Tree.lists fork.tree) fork.more) (g.T.Tree.files c.args.tree.now) c.as_slice.result.now c.in-Ok-edited_forks.forks.items c.in-Ok-edited_forks.ensures.forks in
    let edits = ap length (c.as_slice.ensures ∙ c.in-Ok-edits_of.ensures) ∙ many_edits c.args.rounds.now in
    let lent = ap length c.as_mut_slice.ensures.value in
    let sizes = ap length c.in-Ok-begin.ensures.rounds ∙ many_sizes c.args.rounds.now in
    omega (arith, forks, edits, lent, sizes)

pub play_on_book-history-requires-clause-programs : goal.play_on_book-history-requires-clause-programs
play_on_book-history-requires-clause-programs g c =
    let forks = many_forks (λ fork. edited_told fork.edits (g.T.Tree.files fork.tree)) (λ fork. g.T.Tree.faults fork.tree) (λ fork. raised (g.T.Tree.lists fork.tree) fork.more) (g.T.Tree.files c.args.tree.now) c.as_slice.result.now c.in-Ok-edited_forks.forks.items c.in-Ok-edited_forks.ensures.forks in
    let edits = ap length (c.as_slice.ensures ∙ c.in-Ok-edits_of.ensures) ∙ many_edits c.args.rounds.now in
    let lent = ap length c.as_mut_slice.ensures.value in
    let programs = many_mean g.S.Program.run g.S.Scripts.means c.args.texts c.in-Ok-begin.it.programs.items c.in-Ok-begin.ensures.programs in
    let many = c.requires.texts in
    omega (arith, forks, edits, lent, programs, many)

pub play_on_book-history-requires-clause-results : goal.play_on_book-history-requires-clause-results
play_on_book-history-requires-clause-results g c =
    let forks = many_forks (λ fork. edited_told fork.edits (g.T.Tree.files fork.tree)) (λ fork. g.T.Tree.faults fork.tree) (λ fork. raised (g.T.Tree.lists fork.tree) fork.more) (g.T.Tree.files c.args.tree.now) c.as_slice.result.now c.in-Ok-edited_forks.forks.items c.in-Ok-edited_forks.ensures.forks in
    let edits = ap length (c.as_slice.ensures ∙ c.in-Ok-edits_of.ensures) ∙ many_edits c.args.rounds.now in
    let lent = ap length c.as_mut_slice.ensures.value in
    let results = c.in-Ok-begin.ensures.results.1 in
    (c.in-Ok-begin.ensures.results.0, omega (arith, forks, edits, lent, results))

pub finish_run-status-requires : goal.finish_run-status-requires
finish_run-status-requires g c =
    let left = c.play_on_book-history in
    let played = many_played (λ fork. edited_told fork.edits (g.T.Tree.files fork.tree)) (λ fork. g.T.Tree.faults fork.tree) (λ fork. raised (g.T.Tree.lists fork.tree) fork.more) c.args.plan.now.fuel left.result.history left.ensures.played in
    let runs = length-map c.in-Ok-begin.it.programs.items g.S.Program.run in
    let programs = many_mean g.S.Program.run g.S.Scripts.means c.args.texts c.in-Ok-begin.it.programs.items c.in-Ok-begin.ensures.programs in
    let many = c.requires.texts in
    let scripts = ap length (c.as_slice-2.ensures ∙ c.in-Ok.ensures) ∙ many_scripts c.args.rounds.now c.requires.single in
    let seen = ap length c.as_slice-3.ensures.value in
    omega (arith, played, runs, programs, many, scripts, seen)

pub returns-clause-run : goal.returns-clause-run
returns-clause-run g c =
    let run = g.S.Program.run in
    let means = g.S.Scripts.means in
    let plan = c.args.plan.now in
    let rounds = c.args.rounds.now in
    let it = c.in-Ok-begin.it in
    let is = c.in-Ok-begin.ensures in
    let old : Moment = moment g.T.Tree g.O.Sink g.K.Sink c.args.tree.now c.args.out.now c.args.err.now in
    let new : Moment = moment g.T.Tree g.O.Sink g.K.Sink c.absorb_forks.new.tree c.close-flow.new.sink c.finish_run-status.new.err in
    let left = c.play_on_book-history.result in
    let ran = c.play_on_book-history.ensures in
    let status = c.finish_run-status.result in
    let olds = c.as_mut_slice.result.now in
    let news = c.play_on_book-history.new.trees in
    let lent = ap length c.as_mut_slice.ensures.value in
    let long = c.as_mut_slice.ensures.len in
    let left_many = many_left (λ fork. edited_told fork.edits (g.T.Tree.files fork.tree)) (λ fork. g.T.Tree.faults fork.tree) (λ fork. raised (g.T.Tree.lists fork.tree) fork.more) plan.fuel left.history ran.played in
    let back = written_back c.in-Ok-edited_forks.forks.len news c.in-Ok-edited_forks.forks.items (omega (arith, left_many, lent)) (omega (arith, long, lent)) in
    let faults_same = c.edited_forks.ensures.faults_stay in
    let lists_same = c.edited_forks.ensures.lists_stay in
    let faults_all = ap (trees.total (λ fork. g.T.Tree.faults fork.tree)) back in
    let lists_all = ap (trees.total (λ fork. raised (g.T.Tree.lists fork.tree) fork.more)) back in
    let took = c.absorb_forks.ensures.faults in
    let listed = c.absorb_forks.ensures.lists in
    let are = subst (λ (es : List (List Edit)). trees.AreForks (λ fork. edited_told fork.edits (g.T.Tree.files fork.tree)) (λ fork. g.T.Tree.faults fork.tree) (λ fork. raised (g.T.Tree.lists fork.tree) fork.more) old.files es olds) (c.as_slice.ensures ∙ c.in-Ok-edits_of.ensures)
    (subst (λ xs. trees.AreForks (λ fork. edited_told fork.edits (g.T.Tree.files fork.tree)) (λ fork. g.T.Tree.faults fork.tree) (λ fork. raised (g.T.Tree.lists fork.tree) fork.more) old.files c.as_slice.result.now xs) (sym c.as_mut_slice.ensures.value) c.in-Ok-edited_forks.ensures.forks) in
    let ended = ended_played (λ fork. edited_told fork.edits (g.T.Tree.files fork.tree)) (λ fork. g.T.Tree.faults fork.tree) (λ fork. raised (g.T.Tree.lists fork.tree) fork.more) plan.fuel left.history old.files (edits_of rounds) olds are ran.played in
    let told = subst (λ (rs : List Came). AllEnded 0 rs left.history) (sym c.as_slice-3.ensures.value) ended in
    let short = subst (λ (rs : List Came). (status ≡ want_of_memory) ⊎ AreWhole rs) c.as_slice-3.ensures.value c.finish_run-status.ensures.short in
    let leaves = leaves_of old new _ _ plan.trace c.as_slice-2.result.now (scripts_of rounds) left.history status c.close-flow.result c.open-outlet.ensures.trace c.open-outlet.ensures.gets ran.kept c.close-flow.ensures.written c.close-flow.ensures.faults
    c.close-flow.ensures.flow (c.as_slice-2.ensures ∙ c.in-Ok.ensures) (c.finish_run-status.ensures.leaves left.history told) in
    subst (λ (r : Left). Gives means plan rounds c.args.texts old new r) (sym c.of_run.ensures)
    (has_run means g.met.S.Scripts.safe plan rounds c.requires.single c.args.texts old new left.history status it.opening is.can_open is.rounds is.opening ran.legal (λ fork. edited_told fork.edits (g.T.Tree.files fork.tree)) (λ fork. g.T.Tree.faults fork.tree)
    (λ fork. raised (g.T.Tree.lists fork.tree) fork.more) run it.programs.items is.programs c.requires.texts olds news left.results.items ran.played (omega (arith, took, faults_all, faults_same)) (omega (arith, listed, lists_all, lists_same)) short are leaves)
