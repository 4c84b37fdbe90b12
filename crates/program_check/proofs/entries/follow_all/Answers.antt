use Rattle.std.proofs.Common.{◌≡◌, ◌≤◌, ◌<◌, ◌+◌, ◌++◌, ◌∙◌, ℕ, List, [], Option, length, take, drop, replicate, refl, arith, rules, sym, ap, subst}
use Rattle.tree_files.specs.Files.{Files}
use Rattle.tree_files.specs.declared.edit.Edit.{Edit}
use Rattle.tree_overlay.specs.Kinds.{IsBelowRoot}
use Rattle.tree_overlay.specs.Told.{edited_told}
use Rattle.words_rounds.specs.declared.rounds.Round.{Round}
use Rattle.machine_events.specs.declared.event.Follow.{Follow}
use Rattle.program_rounds.specs.Rounds.{told_in}
use Rattle.program_rounds.specs.Opened.{files_after}
use Rattle.program_rounds.proofs.Coursing.{fits_at}
use Rattle.program_rounds.proofs.Opening.{below_at, told_same}
use Rattle.program_check.specs.Judge.{AreFollows}
use Rattle.program_check.proofs.Following.{after_next, below_joined, front_many, rounds_more, told_next, whole_rounds}
use Rattle.trace_check.specs.Threads.{list_of}
use Rattle.program_check.proofs.entries.follow_all.Goals as goal

pub loop-round-init : goal.loop-round-init
loop-round-init g c =
    let items : c.new-follows.result.items ≡ [] = search rules in
    record {
      files = refl;
      faults = omega arith;
      edits = ap (λ (x : List Edit). edited_told x (g.T.Tree.files c.args.tree.now)) c.new-edits.ensures ∙ told_same (g.T.Tree.files c.args.tree.now);
      below = subst IsBelowRoot (sym c.new-edits.ensures) refl;
      many = ap length items;
      each = subst (λ (fs : List Follow). AreFollows g.F.Followed.means c.args.fuel (list_of c.args.lists.now) 0 [] (take (length fs) c.args.texts.now) fs) (sym items) (AreFollows.none 0);
    }

pub follow_next-requires-clause-before : goal.follow_next-requires-clause-before
follow_next-requires-clause-before g c κs within = c.loop-round.invariant.below

pub follow_next-requires-clause-below : goal.follow_next-requires-clause-below
follow_next-requires-clause-below g c κs within = below_at c.args.rounds.now c.loop-round.round-index c.round-item.result c.requires.fit.below c.loop-round-test.true c.round-item.is

pub follow_next-requires-clause-fits : goal.follow_next-requires-clause-fits
follow_next-requires-clause-fits g c κs within =
    let fits = fits_at c.args.rounds.now c.loop-round.round-index c.round-item.result c.loop-round-test.true c.round-item.is in
    let many = c.loop-round.invariant.many in
    let all = c.requires.fit.many in
    omega (arith, fits, many, all)

pub follow_next-requires-clause-few : goal.follow_next-requires-clause-few
follow_next-requires-clause-few g c κs within =
    let most = c.requires.fit.can_run.few in
    let all = c.requires.fit.many in
    omega (arith, most, all)

pub loop-round-preserved : goal.loop-round-preserved
loop-round-preserved g c =
    let means = g.F.Followed.means in
    let tree : Option Files = g.T.Tree.files c.args.tree.now in
    let rounds : List Round = c.args.rounds.now in
    let i = c.loop-round.round-index in
    let round : Round = c.round-item.result in
    let low : i < length rounds = c.loop-round-test.true in
    let texts : List (List ℕ) = c.args.texts.now in
    let inv = c.loop-round.invariant in
    let went = c.in_ok-follow_next.ensures in
    let old : List Edit = c.loop-round.edits in
    let new : List Edit = c.follow_next.new.edits in
    let k = length c.loop-round.follows.items in
    let follows : List Follow = c.follow_next.new.follows.items in
    let later = inv.faults in
    let grows = c.follow_next.ensures.faults_grow in
    let fits_in = fits_at rounds i round low c.round-item.is in
    let many = inv.many in
    let all = c.requires.fit.many in
    let fits : k + length round.scripts ≤ length texts = omega (arith, fits_in, many, all) in
    let told : edited_told new tree ≡ edited_told round.edits (files_after tree (take i rounds)) = told_next tree (files_after tree (take i rounds)) old round.edits new went.edits inv.edits in
    let here = subst (λ (f : Option Files). AreFollows means c.args.fuel (list_of c.args.lists.now) 0 (told_in tree (take i rounds) ++ replicate (length round.scripts) (edited_told new f)) (take k texts ++ take (length round.scripts) (drop k texts)) follows) inv.files
    (went.each (told_in tree (take i rounds)) (take k texts) (front_many means c.args.fuel (list_of c.args.lists.now) k (length round.scripts) texts fits) inv.each) in
    let next = rounds_more means c.args.fuel (list_of c.args.lists.now) tree rounds i round low c.round-item.is texts k many fits (edited_told new tree) told follows here in
    record {
      files = c.follow_next.ensures.files_stay ∙ inv.files;
      faults = omega (arith, later, grows);
      edits = told ∙ after_next tree rounds i round low c.round-item.is;
      below = below_joined old round.edits round.edits new new refl went.edits refl inv.below (below_at rounds i round c.requires.fit.below low c.round-item.is);
      many = next.0;
      each = next.1;
    }

pub returns-clause-each : goal.returns-clause-each
returns-clause-each g c =
    let inv = c.loop-round.invariant in
    whole_rounds g.F.Followed.means c.args.fuel (list_of c.args.lists.now) (g.T.Tree.files c.args.tree.now) c.args.rounds.now c.loop-round.round-index c.args.texts.now c.loop-round.follows.items c.loop-round-test.false c.requires.fit.many inv.many inv.each
