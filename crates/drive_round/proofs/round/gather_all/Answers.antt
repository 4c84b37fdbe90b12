use Rattle.std.proofs.Common.{◌≡◌, ◌+◌, suc, [], ◌∷◌, ◌++◌, Some, length, length-append, append-nil, map, arith, sym, ap, ◌∙◌, subst}
use Rattle.std.proofs.lemmas.List.{map-append}
use Rattle.std.specs.Prelude.{IsSomeAnd}
use mathlib.Core.List.{IsPrefix}
use Rattle.trace_book.specs.Told.{Told}
use Rattle.drive_round.specs.declared.worker.Worker.{Worker}
use Rattle.drive_round.specs.Ran.{counted}
use Rattle.drive_round.specs.Workers.{facts}
use Rattle.drive_round.proofs.Places.{shorter, all-front}
use Rattle.drive_round.proofs.Gathering.{gather-starts, gather-goes-on}
use Rattle.drive_round.proofs.round.gather_all.Goals as goal

pub loop-worker-init : goal.loop-worker-init
loop-worker-init g c =
    let seen = facts g.P.Program.run g.T.Tree.files g.T.Tree.faults g.T.Tree.lists in
    let tally = counted g.T.Tree.faults g.T.Tree.lists in
    let shelf = c.args.shelf.now.table.shared.table_id in
    let IsThere : Worker g.row.T.Denot g.row.P.Denot → Type 0 = λ w. IsSomeAnd w.pass (λ (pass : Told). pass.table ≡ shelf) in
    let left = c.last_of-first.new.items.items in
    let first = c.last_of-first.result in
    let is : first.pass ≡ Some c.in-Some.pass = sym c.in-Some.ensures.pass in
    let there = all-front IsThere c.args.workers.items left first ([], append-nil _ ∙ sym c.last_of-first.ensures) c.requires.passes in
    let alone : c.leave.new.trees.items ≡ first.tree ∷ [] = c.leave.ensures.trees ∙ ap (λ l. l ++ first.tree ∷ []) c.requires.tree_room.0 in
    let one : c.leave.new.results.items ≡ first.ran ∷ [] = c.leave.ensures.results ∙ ap (λ l. l ++ first.ran ∷ []) c.requires.room.0 in
    let size = ap length c.last_of-first.ensures ∙ length-append left (first ∷ []) in
    record {
      workers = (first ∷ [], sym c.last_of-first.ensures);
      count = let a = ap length one in omega (arith, a, size);
      room = let a = c.requires.room.1 in let b = c.leave.ensures.room in omega (arith, a, b);
      as_many = (let a = ap length alone in let b = ap length one in omega (arith, a, b));
      tree_room = let a = c.requires.tree_room.1 in let b = c.leave.ensures.tree_room in omega (arith, a, b);
      table = subst (λ o. IsSomeAnd o (λ (pass : Told). pass.table ≡ shelf)) is there;
      gathered = gather-starts seen tally shelf c.args.workers.items left first c.in-Some.pass c.leave.new.trees.items c.leave.new.results.items c.last_of-first.ensures is (ap (map tally) alone) one;
    }

pub unreachable-requires-in_default-leave : goal.unreachable-requires-in_default-leave
unreachable-requires-in_default-leave g c =
    let shelf = c.args.shelf.now.table.shared.table_id in
    let IsThere : Worker g.row.T.Denot g.row.P.Denot → Type 0 = λ w. IsSomeAnd w.pass (λ (pass : Told). pass.table ≡ shelf) in
    let pre = subst (λ l. IsPrefix l c.args.workers.items) c.in-Some-pop.ensures.items c.loop-worker.invariant.workers in
    let there = all-front IsThere c.args.workers.items c.pop.new.self.items c.in-Some-pop.worker pre c.requires.passes in
    subst (λ o. IsSomeAnd o (λ (pass : Told). pass.table ≡ shelf)) (sym c.leave-in-Some-pop.ensures.pass ∙ c.in_default-leave.is) there

pub gather-requires : goal.gather-requires
gather-requires g c =
    let shelf = c.args.shelf.now.table.shared.table_id in
    let IsThere : Worker g.row.T.Denot g.row.P.Denot → Type 0 = λ w. IsSomeAnd w.pass (λ (pass : Told). pass.table ≡ shelf) in
    let pre = subst (λ l. IsPrefix l c.args.workers.items) c.in-Some-pop.ensures.items c.loop-worker.invariant.workers in
    let there = all-front IsThere c.args.workers.items c.pop.new.self.items c.in-Some-pop.worker pre c.requires.passes in
    (c.loop-worker.invariant.table, subst (λ o. IsSomeAnd o (λ (pass : Told). pass.table ≡ shelf)) (sym c.in-Some-leave.ensures.pass) there)

pub loop-worker-preserved : goal.loop-worker-preserved
loop-worker-preserved g c =
    let seen = facts g.P.Program.run g.T.Tree.files g.T.Tree.faults g.T.Tree.lists in
    let tally = counted g.T.Tree.faults g.T.Tree.lists in
    let shelf = c.args.shelf.now.table.shared.table_id in
    let inv = c.loop-worker.invariant in
    let left = c.pop.new.self.items in
    let w = c.in-Some-pop.worker in
    let popped = c.in-Some-pop.ensures.items in
    let results = c.loop-worker.results.items in
    let leaves = c.leave-in-Some-pop.ensures in
    let pre = subst (λ l. IsPrefix l c.args.workers.items) popped inv.workers in
    let is : w.pass ≡ Some c.in-Some-leave.other = sym c.in-Some-leave.ensures.pass in
    let fewer = ap length popped ∙ length-append left (w ∷ []) in
    let more = ap length leaves.results ∙ length-append results (w.ran ∷ []) in
    let trees = c.loop-worker.trees.items in
    let longer = ap length leaves.trees ∙ length-append trees (w.tree ∷ []) in
    let size : length results + suc (length left) ≡ length c.args.workers.items = let a = inv.count in omega (arith, a, fewer) in
    record {
      workers = shorter c.args.workers.items c.loop-worker.workers.items left w inv.workers popped;
      count = let a = inv.count in omega (arith, a, fewer, more);
      room = let a = inv.room in let b = leaves.room in omega (arith, a, b);
      as_many = (let a = inv.as_many in omega (arith, a, longer, more));
      tree_room = let a = inv.tree_room in let b = leaves.tree_room in omega (arith, a, b);
      table = c.gather.ensures.same.0 ∙ inv.table;
      gathered = λ base files from runs fuel d. gather-goes-on seen tally shelf c.args.workers.items left w
          c.loop-worker.pass c.in-Some-leave.other c.gather.new.into trees c.leave-in-Some-pop.new.trees.items results c.leave-in-Some-pop.new.results.items pre size is
          c.gather.ensures.same.0 c.gather.ensures.same.1 c.gather.ensures.numbers c.gather.ensures.into_calls c.gather.ensures.other_calls
          (ap (map tally) leaves.trees ∙ map-append tally trees (w.tree ∷ [])) leaves.results base files from runs fuel d (inv.gathered base files from runs fuel d);
    }
