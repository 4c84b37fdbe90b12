use Rattle.std.proofs.Common.{◌≡◌, ◌∙◌, ◌++◌, ◌∷◌, [], ap, subst, true, false, Bool, Option, IfSome, MatchOption, arith}
use Rattle.base_types.specs.Path.{Path}
use Rattle.tree_files.specs.Files.{Files}
use Rattle.tree_walk.specs.Due.{TakesAt, TakesFolder}
use Rattle.tree_walk.specs.declared.pile.Walk.{Walk}
use Rattle.tree_walk.proofs.Walking.{refused_at_once, begun, under_way, refused_later, over}
use Rattle.tree_walk.proofs.take.take_files.Goals as goal

pub returns-then-not-branch-clause-taken : goal.returns-then-not-branch-clause-taken
returns-then-not-branch-clause-taken g c =
    refused_at_once (g.T.Tree.files c.args.tree.now) c.args.dir.now c.new_walk-walk.result c.enter.new.walk (ap (λ (w : Walk). w.parts) c.new_walk-walk.ensures) (ap (λ (w : Walk). w.room) c.new_walk-walk.ensures)
    (subst (λ (p : Path). IfSome (g.T.Tree.files c.args.tree.now) (λ f. TakesAt f p c.new_walk-walk.result c.enter.new.walk false)) c.in_ok-copy.ensures
    (subst (λ (b : Bool). IfSome (g.T.Tree.files c.args.tree.now) (λ f. TakesAt f c.in_ok-copy.field-0 c.new_walk-walk.result c.enter.new.walk b)) c.if-not-branch.true c.in_ok-enter.ensures.takes))

pub returns-then-not-branch-2-clause-taken : goal.returns-then-not-branch-2-clause-taken
returns-then-not-branch-2-clause-taken g c =
    refused_later (g.T.Tree.files c.args.tree.now) c.args.dir.now c.folders.walk c.pop.new.self c.in-Some.folder c.take_folder.new.walk c.in-Some.ensures c.folders.invariant.so_far
    (subst (λ (o : Option Files). IfSome o (λ f. TakesFolder f c.in-Some.folder (record { parts = c.folders.walk.parts; pile = c.pop.new.self; files = c.folders.walk.files; room = c.folders.walk.room }) c.take_folder.new.walk false)) c.folders.invariant.files
    (subst (λ (b : Bool). IfSome (g.T.Tree.files c.folders.tree) (λ f. TakesFolder f c.in-Some.folder (record { parts = c.folders.walk.parts; pile = c.pop.new.self; files = c.folders.walk.files; room = c.folders.walk.room }) c.take_folder.new.walk b)) c.if-not-branch-2.true c.in_ok-take_folder.ensures.takes))

pub returns-in_default-clause-taken : goal.returns-in_default-clause-taken
returns-in_default-clause-taken g c =
    over (g.T.Tree.files c.args.tree.now) c.args.dir.now c.folders.walk
    (subst (λ o. MatchOption o ((c.folders.walk.pile ≡ []) × (c.pop.new.self ≡ [])) (λ last. c.folders.walk.pile ≡ c.pop.new.self ++ last ∷ [])) c.in_default.is c.pop.ensures).0 c.folders.invariant.so_far

pub folders-init : goal.folders-init
folders-init g c = record {
  so_far = begun (g.T.Tree.files c.args.tree.now) c.args.dir.now c.new_walk-walk.result c.enter.new.walk c.new_walk-walk.ensures
      (subst (λ (p : Path). IfSome (g.T.Tree.files c.args.tree.now) (λ f. TakesAt f p c.new_walk-walk.result c.enter.new.walk true)) c.in_ok-copy.ensures
      (subst (λ (b : Bool). IfSome (g.T.Tree.files c.args.tree.now) (λ f. TakesAt f c.in_ok-copy.field-0 c.new_walk-walk.result c.enter.new.walk b)) c.if-not-branch.false c.in_ok-enter.ensures.takes));
  files = c.enter.ensures.files_stay;
  faults = c.in_ok-enter.ensures.faults_stay;
  lists = c.enter.ensures.lists_grow;
}

pub folders-preserved : goal.folders-preserved
folders-preserved g c =
    let before = c.folders.invariant.lists in
    let grows = c.take_folder.ensures.lists_grow in
    record {
      so_far = under_way (g.T.Tree.files c.args.tree.now) c.args.dir.now c.folders.walk c.pop.new.self c.in-Some.folder c.take_folder.new.walk c.in-Some.ensures c.folders.invariant.so_far
          (subst (λ (o : Option Files). IfSome o (λ f. TakesFolder f c.in-Some.folder (record { parts = c.folders.walk.parts; pile = c.pop.new.self; files = c.folders.walk.files; room = c.folders.walk.room }) c.take_folder.new.walk true)) c.folders.invariant.files
          (subst (λ (b : Bool). IfSome (g.T.Tree.files c.folders.tree) (λ f. TakesFolder f c.in-Some.folder (record { parts = c.folders.walk.parts; pile = c.pop.new.self; files = c.folders.walk.files; room = c.folders.walk.room }) c.take_folder.new.walk b)) c.if-not-branch-2.false c.in_ok-take_folder.ensures.takes));
      files = c.take_folder.ensures.files_stay ∙ c.folders.invariant.files;
      faults = c.in_ok-take_folder.ensures.faults_stay ∙ c.folders.invariant.faults;
      lists = omega (arith, before, grows);
    }
