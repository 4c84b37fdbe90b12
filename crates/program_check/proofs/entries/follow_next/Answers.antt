use Rattle.std.proofs.Common.{◌≡◌, ◌∙◌, ◌++◌, List, Option, length, refl, ap, arith}
use Rattle.tree_files.specs.Files.{Files}
use Rattle.tree_files.specs.declared.edit.Edit.{Edit}
use Rattle.tree_overlay.specs.Told.{edited_told}
use Rattle.program_check.proofs.Following.{always_ok, below_joined, few_here, round_here, then_ok}
use Rattle.trace_check.specs.Threads.{list_of}
use Rattle.program_check.proofs.entries.follow_next.Goals as goal

pub follow_round-requires-clause-below : goal.follow_round-requires-clause-below
follow_round-requires-clause-below g c κs within =
    below_joined c.args.edits.now c.args.round.now.edits c.as_slice.result.now c.add_edits.new.edits c.as_slice-edits.result.now c.as_slice-edits.ensures c.in_ok-add_edits.ensures c.as_slice.ensures c.requires.before c.requires.below

pub follow_round-requires-clause-few : goal.follow_round-requires-clause-few
follow_round-requires-clause-few g c κs within =
    few_here (length c.args.round.now.scripts) (length c.args.follows.now.items) c.len.result c.len-from.result 16 c.args.texts.now _ refl c.len.ensures (c.len-from.ensures ∙ c.args.follows.now.ok.0) c.requires.fits c.requires.few

pub follow_round-requires-clause-held : goal.follow_round-requires-clause-held
follow_round-requires-clause-held g c κs within =
    few_here (length c.args.round.now.scripts) (length c.args.follows.now.items) c.len.result c.len-from.result (length c.args.lists.now) c.args.texts.now _ refl c.len.ensures (c.len-from.ensures ∙ c.args.follows.now.ok.0) c.requires.fits c.requires.held

pub returns-clause-edits : goal.returns-clause-edits
returns-clause-edits g c = always_ok c.follow_round.result (c.in_ok-add_edits.ensures ∙ ap (λ (x : List Edit). c.args.edits.now ++ x) c.as_slice.ensures)

pub returns-clause-each : goal.returns-clause-each
returns-clause-each g c =
    let tree : Option Files = g.T.Tree.files c.args.tree.now in
    let at : c.len-from.result ≡ length c.args.follows.now.items = c.len-from.ensures ∙ c.args.follows.now.ok.0 in
    then_ok c.follow_round.result c.follow_round.ensures.each (λ all trees before is first.
    round_here g.F.Followed.means c.args.fuel (list_of c.args.lists.now) (length c.args.round.now.scripts) (length c.args.follows.now.items) c.len.result c.len-from.result trees before c.args.texts.now _ (edited_told c.as_slice-edits.result.now tree) (edited_told c.add_edits.new.edits tree) c.follow_round.new.follows.items
    refl c.len.ensures at c.requires.fits (ap (λ (x : List Edit). edited_told x tree) c.as_slice-edits.ensures) (all trees before (at ∙ is) first))

pub overflow_cast-first : goal.overflow_cast-first
overflow_cast-first g c =
    let at : c.len-from.result ≡ length c.args.follows.now.items = c.len-from.ensures ∙ c.args.follows.now.ok.0 in
    let fits = c.requires.fits in
    let few = c.requires.few in
    omega (arith, at, fits, few)
