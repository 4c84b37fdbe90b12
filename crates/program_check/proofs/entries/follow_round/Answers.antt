use Rattle.std.proofs.Common.{◌≡◌, ◌≤◌, ◌<◌, ◌+◌, ◌++◌, ◌∙◌, ℕ, List, Option, IfSome, [], length, get_or, replicate, take, refl, arith, subst}
use Rattle.std.proofs.lemmas.List.{get_or_default}
use Rattle.tree_files.specs.Files.{Files}
use Rattle.tree_overlay.specs.Told.{edited_told}
use Rattle.drive_account.specs.Following.{Answers}
use Rattle.machine_events.specs.declared.event.Follow.{Follow}
use Rattle.machine_events.specs.declared.event.Pair.{Pair}
use Rattle.program_check.proofs.Following.{round_none, round_more}
use Rattle.trace_check.specs.Threads.{list_of, pairs_of}
use Rattle.program_check.proofs.entries.follow_round.Goals as goal

pub loop-i-init : goal.loop-i-init
loop-i-init g c = record {
  files = refl;
  faults = omega arith;
  each = λ trees before is all. round_none g.F.Followed.means c.args.fuel (list_of c.args.lists.now) trees before c.args.texts.now c.args.follows.now.items (edited_told c.args.edits.now (g.T.Tree.files c.args.tree.now)) all;
}

pub loop-i-preserved : goal.loop-i-preserved
loop-i-preserved g c =
    let means = g.F.Followed.means in
    let told : Option Files = edited_told c.args.edits.now (g.T.Tree.files c.args.tree.now) in
    let xs : List (List ℕ) = c.args.texts.now in
    let i = c.loop-i.i in
    let n = c.args.from + i in
    let x : List ℕ = c.index-texts-i.result in
    let low : i < length xs = c.loop-i-test.true in
    let later = c.loop-i.invariant.faults in
    let grows = c.follow_one.ensures.faults_grow in
    let follow : Follow = c.in_ok-follow.follow in
    let held = c.requires.held in
    let own : c.as_slice-own.result.now ≡ get_or c.args.lists.now n [] = c.as_slice-own.ensures ∙ (c.index-lists-at.is ∙ get_or_default c.args.lists.now n c.index-lists-at.result [] (omega (arith, low, held))) in
    let told_here = subst (λ (ps : List Pair). IfSome (edited_told c.args.edits.now (g.T.Tree.files c.loop-i.tree)) (λ fs. Answers fs n (means n c.as_slice-text.result.now) c.args.fuel (pairs_of ps) follow)) own c.in_ok-follow.ensures.answers in
    let here = subst (λ (f : Option Files). IfSome (edited_told c.args.edits.now f) (λ fs. Answers fs n (means n c.as_slice-text.result.now) c.args.fuel (list_of c.args.lists.now n) follow)) c.loop-i.invariant.files told_here in
    record {
      files = c.follow_one.ensures.files_stay ∙ c.loop-i.invariant.files;
      faults = omega (arith, later, grows);
      each = λ trees before is all.
          let count : n ≡ length before + i = omega (arith, is) in
          round_more means c.args.fuel (list_of c.args.lists.now) n i trees before xs c.loop-i.follows.items told x c.as_slice-text.result.now follow c.push.new.self.items count low c.index-texts-i.is c.as_slice-text.ensures c.in_ok-push.ensures.items
          (c.loop-i.invariant.each trees before is all) here;
    }

pub overflow_cast-script : goal.overflow_cast-script
overflow_cast-script g c =
    let low = c.loop-i-test.true in
    let few = c.requires.few in
    omega (arith, low, few)

pub overflow_add-script : goal.overflow_add-script
overflow_add-script g c =
    let low = c.loop-i-test.true in
    let few = c.requires.few in
    omega (arith, low, few)
