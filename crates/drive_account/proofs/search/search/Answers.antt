use Rattle.std.proofs.Common.{◌≡◌, ℕ, Option, Err, refl, sym, ap, subst, ◌∙◌}
use Rattle.std.specs.Option.{ForSome}
use Rattle.tree_files.specs.Files.{Files}
use Rattle.meaning_runs.proofs.Stand.{in_some}
use Rattle.path_finder.specs.Looking.{awaits, means, Suits}
use Rattle.drive_account.specs.declared.port.Halt.TheVariants.{Refused}
use Rattle.drive_account.proofs.Staying.{stays_refl, stays_trans}
use Rattle.machine_shown.specs.Shown.{shown}
use Rattle.drive_account.specs.Searching.{AfterStep, CountsStep, SafeStep, Fits, IsSafe}
use Rattle.drive_account.specs.declared.search.Step.{Step}
use Rattle.drive_account.proofs.Asking.{asked_refl, asked_trans, kept_refl, kept_trans}
use Rattle.drive_account.proofs.Looping.{suits_fresh, took, over_counts, steps_parted, steps_refused}
use Rattle.drive_account.proofs.search.search.Goals as goal

pub steps-init : goal.steps-init
steps-init g c = record {
  stays = stays_refl _;
  moves = λ k whole fuel a. a;
  safe = c.requires.safe;
  fits = rw c.requires.fresh refl;
  suits = suits_fresh c.args.look.now.stage (g.T.Tree.files c.args.tree.now) c.requires.fresh;
  kept = kept_refl _ _;
  holds = λ held known. known;
  unfailed = refl;
  asked = asked_refl _ _;
}

pub take_step-requires-clause-ready : goal.take_step-requires-clause-ready
take_step-requires-clause-ready g c = c.steps.invariant.stays.ready c.requires.ready

pub take_step-requires-clause-safe : goal.take_step-requires-clause-safe
take_step-requires-clause-safe g c = subst (λ (t : ℕ). IsSafe (shown t (g.P.Port.view c.steps.port).mine) (means c.steps.look c.steps.input)) (sym c.steps.invariant.stays.number) c.steps.invariant.safe

pub take_step-requires-clause-suits : goal.take_step-requires-clause-suits
take_step-requires-clause-suits g c = subst (λ (o : Option Files). ForSome o (λ f. Suits c.steps.look.stage f)) (sym c.steps.invariant.asked.files) c.steps.invariant.suits

pub returns-then-steps : goal.returns-then-steps
returns-then-steps g c = record {
  stays = c.steps.invariant.stays;
  searched = tt;
  kept = tt;
  holds = tt;
  part = λ k whole fuel a. in_some (c.steps.invariant.moves k whole fuel a).stands;
  refused = λ is. absurd (cc is);
  asked = c.steps.invariant.asked;
}

pub returns-in-Err : goal.returns-in-Err
returns-in-Err g c = record {
  stays = stays_trans _ _ _ c.steps.invariant.stays c.take_step.ensures.stays;
  searched = tt;
  kept = tt;
  holds = tt;
  part = λ k whole fuel a. steps_parted (g.T.Tree.files c.args.tree.now) (g.T.Tree.files c.steps.tree) _ _ _ _ c.steps.invariant.asked.files c.in-Err.ensures.part k whole fuel (c.steps.invariant.moves k whole fuel a);
  refused = λ is k whole fuel a.
      let same : c.in-Err.halt ≡ Refused = cc in
      steps_refused (g.P.Port.view c.take_step.new.port) (g.T.Tree.files c.args.tree.now) (g.T.Tree.files c.steps.tree) _ _ _ c.steps.invariant.asked.files (c.in-Err.ensures.refused (ap Err same)) k whole fuel (c.steps.invariant.moves k whole fuel a);
  asked = asked_trans c.steps.invariant.asked c.take_step.ensures.asked;
}

pub steps-preserved : goal.steps-preserved
steps-preserved g c =
    let first = g.P.Port.view c.args.port.now in
    let old = g.P.Port.view c.steps.port in
    let new = g.P.Port.view c.take_step.new.port in
    let files = g.T.Tree.files c.args.tree.now in
    let taken = took files (g.T.Tree.files c.steps.tree) _ _ old.number first.number old.mine new.mine c.steps.budget c.take_step.new.budget _ _ c.in-Ok.step c.steps.invariant.asked.files c.steps.invariant.stays.number c.in-Ok.ensures.taken in
    record {
      stays = stays_trans _ _ _ c.steps.invariant.stays c.take_step.ensures.stays;
      moves = λ k whole fuel a. subst (λ (it : Step). AfterStep files whole fuel new.mine c.take_step.new.budget (means c.take_step.new.look) k it) c.in-On.is (taken.moves k whole fuel (c.steps.invariant.moves k whole fuel a));
      safe =
          let k = c.steps.invariant.safe.0 in
          (k, subst (λ (it : Step). SafeStep (shown first.number new.mine) (means c.take_step.new.look) k it) c.in-On.is (taken.safe k c.steps.invariant.safe.1));
      fits = subst (λ (it : Step). Fits (awaits c.take_step.new.look.stage) it) c.in-On.is c.in-Ok.ensures.fits;
      suits = subst (λ (o : Option Files). ForSome o (λ f. Suits c.take_step.new.look.stage f)) c.steps.invariant.asked.files c.in-Ok.ensures.suits;
      kept = kept_trans _ _ _ first.mine old.mine new.mine c.steps.invariant.kept c.in-Ok.ensures.kept;
      holds = λ held known. c.in-Ok.ensures.holds held (c.steps.invariant.holds held known);
      unfailed = subst (λ (it : Step). CountsStep (g.T.Tree.faults c.steps.tree) (g.T.Tree.faults c.take_step.new.tree) it) c.in-On.is taken.counts ∙ c.steps.invariant.unfailed;
      asked = asked_trans c.steps.invariant.asked c.in-Ok.ensures.asked;
    }

pub returns-in-Over : goal.returns-in-Over
returns-in-Over g c =
    let first = g.P.Port.view c.args.port.now in
    let old = g.P.Port.view c.steps.port in
    let new = g.P.Port.view c.take_step.new.port in
    let files = g.T.Tree.files c.args.tree.now in
    let taken = took files (g.T.Tree.files c.steps.tree) _ _ old.number first.number old.mine new.mine c.steps.budget c.take_step.new.budget _ _ c.in-Ok.step c.steps.invariant.asked.files c.steps.invariant.stays.number c.in-Ok.ensures.taken in
    record {
      stays = stays_trans _ _ _ c.steps.invariant.stays c.take_step.ensures.stays;
      searched = record {
        moves = λ k whole fuel a. subst (λ (it : Step). AfterStep files whole fuel new.mine c.take_step.new.budget (means c.take_step.new.look) k it) c.in-Over.is (taken.moves k whole fuel (c.steps.invariant.moves k whole fuel a));
        counts = over_counts _ _ _ c.in-Over.over c.steps.invariant.unfailed (subst (λ (it : Step). CountsStep (g.T.Tree.faults c.steps.tree) (g.T.Tree.faults c.take_step.new.tree) it) c.in-Over.is taken.counts);
      };
      kept = kept_trans _ _ _ first.mine old.mine new.mine c.steps.invariant.kept c.in-Ok.ensures.kept;
      holds = λ held known. c.in-Ok.ensures.holds held (c.steps.invariant.holds held known);
      part = tt;
      refused = λ is. absurd (cc is);
      asked = asked_trans c.steps.invariant.asked c.take_step.ensures.asked;
    }
