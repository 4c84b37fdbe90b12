use Rattle.std.proofs.Common.{◌+◌, ◌∙◌, refl, rules, subst}
use Rattle.std.proofs.lemmas.Result.{IfOk-weaker}
use Rattle.meaning_runs.specs.Runs.{Run}
use Rattle.drive_account.specs.At.{At}
use Rattle.py_frames.specs.declared.want.Want.TheVariants as want
use Rattle.py_frames.specs.declared.work.Item.TheVariants as it
use Rattle.drive_straight.specs.Remains.{due, remains}
use Rattle.drive_straight.proofs.AtOnce.{block_over, did_not, did_one, moves_on}
use Rattle.drive_straight.proofs.blocks.block.Goals as goal

pub returns-then-not-branch-clause-moves : goal.returns-then-not-branch-clause-moves
returns-then-not-branch-clause-moves c =
    let old = c.args.execution.now in
    let here = want.Then (it.Block c.args.stmts c.statements.at) in
    let run = remains old (want.Then (it.Block c.args.stmts c.args.first)) in
    IfOk-weaker c.begin_statement.result _ _ (λ next behind.
    moves_on old.budget run c.statement.new.execution c.begin_statement.new.execution here (due next c.begin_statement.new.execution)
    (moves_on old.budget run c.statements.execution c.statement.new.execution here (remains c.statement.new.execution here) c.statements.invariant.moves
    (did_not c.statements.execution c.statement.new.execution c.args.stmts c.statements.at c.in_ok-statement.field-0 (search rules) c.in_ok-statement.ensures.did))
    behind) c.begin_statement.ensures.moves

pub returns-clause-moves : goal.returns-clause-moves
returns-clause-moves c = λ files whole fuel mine a.
    subst (λ (run : Run). At files whole fuel mine c.statements.execution.budget run) (block_over c.statements.execution c.args.stmts c.statements.at (search rules))
    (c.statements.invariant.moves files whole fuel mine a)

pub statements-preserved : goal.statements-preserved
statements-preserved c =
    let old = c.args.execution.now in
    record {
      moves =
          moves_on old.budget (remains old (want.Then (it.Block c.args.stmts c.args.first))) c.statements.execution c.statement.new.execution
          (want.Then (it.Block c.args.stmts c.statements.at)) (remains c.statement.new.execution (want.Then (it.Block c.args.stmts (c.statements.at + 1)))) c.statements.invariant.moves
          (did_one c.statements.execution c.statement.new.execution c.args.stmts c.statements.at c.in_ok-statement.field-0 (search rules) c.in_ok-statement.ensures.did);
      held = c.in_ok-statement.ensures.held ∙ c.statements.invariant.held;
      block = refl;
    }
