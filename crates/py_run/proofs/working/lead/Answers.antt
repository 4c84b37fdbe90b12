use Rattle.std.proofs.Common.{◌≡◌, refl, rules, ap, subst, sym, ◌∙◌}
use Rattle.meaning_runs.specs.Runs.{Run}
use Rattle.py_frames.specs.declared.want.Want.TheVariants as wants
use Rattle.drive_account.specs.At.{At}
use Rattle.drive_straight.specs.Remains.{begins, remains}
use Rattle.drive_straight.specs.declared.execution.Execution.{Execution}
use Rattle.py_run.proofs.InPlace.{Reaches, known_want, led_behind, led_wanted}
use Rattle.py_run.proofs.Leading.{begins_pushed}
use Rattle.py_run.proofs.working.lead.Goals as goal
use Rattle.py_run.proofs.working.lead.Goals.{in-Then, in-Both+in-Ok, in-Pay+else-not-spend}

pub pieces-init : goal.pieces-init
pieces-init c = record {
  moves = λ files whole fuel mine a. a;
  held = refl;
}

pub returns-then-pieces-clause-moves : goal.returns-then-pieces-clause-moves
returns-then-pieces-clause-moves c =
    led_wanted c.args.execution.now c.pieces.execution (λ here. remains here c.args.first) c.pieces.want c.wanted.result c.pieces.invariant.moves c.wanted.ensures

pub returns-in-Go-clause-moves : goal.returns-in-Go-clause-moves
returns-in-Go-clause-moves c files whole fuel mine a =
    subst (λ (run : Run). At files whole fuel mine c.pieces.execution.budget run) (sym (c.passing.ensures c.pieces.execution))
    (known_want c.args.execution.now c.pieces.execution (remains c.args.execution.now c.args.first) c.pieces.want (wants.Go c.in-Go.flow) c.in-Go.is c.pieces.invariant.moves files whole fuel mine a)

pub returns-in_default-clause-moves : goal.returns-in_default-clause-moves
returns-in_default-clause-moves c =
    led_wanted c.args.execution.now c.pieces.execution (λ here. remains here c.args.first) c.pieces.want c.wanted-in_default.result c.pieces.invariant.moves c.wanted-in_default.ensures

pub returns-then-not-spend-clause-moves : goal.returns-then-not-spend-clause-moves
returns-then-not-spend-clause-moves c =
    let old = c.args.execution.now in
    let here : Execution = c.pieces.execution in
    let unpaid : Execution = record { budget = c.spend.new.budget; held = here.held; thread = here.thread; work = here.work } in
    let want = wants.Pay c.in-Pay.of_tree c.in-Pay.units c.in-Pay.item in
    led_wanted old unpaid (λ here. remains here c.args.first) want c.wanted-then-not-spend.result
    (λ files whole fuel mine a. rw (c.if-not-spend.ensures.unpaid refl) (known_want old here (remains old c.args.first) c.pieces.want want c.in-Pay.is c.pieces.invariant.moves files whole fuel mine a)) c.wanted-then-not-spend.ensures

pub returns-then-begins_in_place-clause-moves : goal.returns-then-begins_in_place-clause-moves
returns-then-begins_in_place-clause-moves c =
    let old = c.args.execution.now in
    let here : Execution = c.pieces.execution in
    let came = c.pieces.invariant.moves in
    let begun : Reaches old.budget (remains old c.args.first) c.match-want.execution.budget (begins c.match-want.item c.match-want.execution) = elim c.match-want.branch [
      | in-Then w ↦ λ files whole fuel mine a. rw (w.execution-is, w.item-is) (known_want old here (remains old c.args.first) c.pieces.want (wants.Then w.in-Then.item) w.in-Then.is came files whole fuel mine a)
      | in-Both+in-Ok w ↦ λ files whole fuel mine a.
          rw (w.execution-is, w.item-is) (begins_pushed here w.push.new.self w.in-Both.item w.in-Both.frame (search rules) files whole fuel mine
          (known_want old here (remains old c.args.first) c.pieces.want (wants.Both w.in-Both.item w.in-Both.frame) w.in-Both.is came files whole fuel mine a))
      | in-Pay+else-not-spend w ↦ λ files whole fuel mine a.
          rw (w.execution-is, w.item-is) (w.if-not-spend.ensures.paid refl files whole fuel mine _
          (known_want old here (remains old c.args.first) c.pieces.want (wants.Pay w.in-Pay.of_tree w.in-Pay.units w.in-Pay.item) w.in-Pay.is came files whole fuel mine a))
    ] in
    led_behind old c.match-want.execution c.begin_in_place.new.execution (λ here. remains here c.args.first) (begins c.match-want.item) c.begin_in_place.result begun c.begin_in_place.ensures.moves

pub pieces-preserved : goal.pieces-preserved
pieces-preserved c =
    let old = c.args.execution.now in
    let here : Execution = c.pieces.execution in
    let came = c.pieces.invariant.moves in
    let begun : Reaches old.budget (remains old c.args.first) c.match-want.execution.budget (begins c.match-want.item c.match-want.execution) = elim c.match-want.branch [
      | in-Then w ↦ λ files whole fuel mine a. rw (w.execution-is, w.item-is) (known_want old here (remains old c.args.first) c.pieces.want (wants.Then w.in-Then.item) w.in-Then.is came files whole fuel mine a)
      | in-Both+in-Ok w ↦ λ files whole fuel mine a.
          rw (w.execution-is, w.item-is) (begins_pushed here w.push.new.self w.in-Both.item w.in-Both.frame (search rules) files whole fuel mine
          (known_want old here (remains old c.args.first) c.pieces.want (wants.Both w.in-Both.item w.in-Both.frame) w.in-Both.is came files whole fuel mine a))
      | in-Pay+else-not-spend w ↦ λ files whole fuel mine a.
          rw (w.execution-is, w.item-is) (w.if-not-spend.ensures.paid refl files whole fuel mine _
          (known_want old here (remains old c.args.first) c.pieces.want (wants.Pay w.in-Pay.of_tree w.in-Pay.units w.in-Pay.item) w.in-Pay.is came files whole fuel mine a))
    ] in
    let kept : c.match-want.execution.held ≡ here.held = elim c.match-want.branch [
      | in-Then w ↦ ap (λ (c : Execution). c.held) w.execution-is
      | in-Both+in-Ok w ↦ ap (λ (c : Execution). c.held) w.execution-is
      | in-Pay+else-not-spend w ↦ ap (λ (c : Execution). c.held) w.execution-is
    ] in
    record {
      moves = λ files whole fuel mine a. c.in_ok-want.ensures.moves files whole fuel mine (begun files whole fuel mine a);
      held = c.in_ok-want.ensures.held ∙ kept ∙ c.pieces.invariant.held;
    }
