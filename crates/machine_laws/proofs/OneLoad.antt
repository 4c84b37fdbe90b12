-- A module that is initialising or lazy has one load of kind Plain or Lazy.
use Rattle.std.proofs.Common.{◌≡◌, ℕ, true, Some, refl, sym, ap, subst, ◌∙◌}
use Rattle.std.specs.Prelude.{slice_get}
use Rattle.module_table.specs.declared.module.Object.{Object}
use Rattle.module_table.specs.declared.module.LoadStage.{LoadStage}
use Rattle.module_table.specs.declared.module.LoadStage.TheVariants as stages
use Rattle.module_table.specs.declared.module.Phase.TheVariants as phases
use Rattle.machine_spec.specs.declared.state.State.{State}
use Rattle.machine_spec.specs.Parts.{is_imported}
use Rattle.machine_laws.specs.Bones.{Module, Body, bones, module_bone, body_bone}
use Rattle.machine_laws.specs.Sound.{IsSound, HasBody, FitsPhase, phase_of}
use Rattle.machine_laws.specs.Answered.{HasOneLoad}
use Rattle.machine_laws.proofs.Same.{map_at, unmap}
use Rattle.machine_laws.proofs.Changes.{made_fits}

opened : (stage : LoadStage) → phase_of stage ≡ phases.Initialising → stage ≡ stages.Open
opened stages.Resting h = cc
opened stages.Open h = refl
opened stages.Ended h = cc

rested : (stage : LoadStage) → phase_of stage ≡ phases.Lazy → stage ≡ stages.Resting
rested stages.Resting h = refl
rested stages.Open h = cc
rested stages.Ended h = cc

module _ (s : State) (sound : IsSound s) (mid : ℕ) (o : Object) (is : slice_get s.table.objects mid ≡ Some o) where
  there : slice_get (bones s).modules mid ≡ Some (module_bone o)
  there = map_at module_bone s.table.objects mid o is

  -- the load at a number, of this module, is the one that it was made with
  made_with : (j : ℕ) (k : Body) → slice_get (bones s).bodies j ≡ Some k → k.mid ≡ mid → is_imported k.kind ≡ true → (o.load ≡ Some j) × (o.phase ≡ phase_of k.stage)
  made_with j k at of_it imported =
      let fits = sound.bodies j k at in
      let same : fits.0 ≡ module_bone o = let e : Some fits.0 ≡ Some (module_bone o) = sym fits.1 ∙ ap (slice_get (bones s).modules) of_it ∙ there in cc in
      let made = made_fits j k fits.0 k.kind imported fits.2 in
      (ap (λ (z : Module). z.load) (sym same) ∙ made.0, ap (λ (z : Module). z.phase) (sym same) ∙ made.1)

  with_body : (stage : LoadStage) → HasBody (bones s) mid (module_bone o) → ((k : LoadStage) → o.phase ≡ phase_of k → k ≡ stage) → HasOneLoad s mid stage
  with_body stage has tells =
      let load = unmap body_bone s.table.loads has.0 has.1 has.3 in
      let made = made_with has.0 has.1 has.3 has.4 has.5 in
      record {
        number = has.0;
        load = load.0;
        there = load.1;
        of_it = ap (λ (z : Body). z.mid) load.2 ∙ has.4;
        imported = ap (λ (z : Body). is_imported z.kind) load.2 ∙ has.5;
        at = ap (λ (z : Body). z.stage) load.2 ∙ tells has.1.stage made.1;
        only = λ j k at of_it imported.
            let other = made_with j (body_bone k) (map_at body_bone s.table.loads j k at) of_it imported in
            let e : Some j ≡ Some has.0 = sym other.0 ∙ made.0 in cc;
      }

  pub one_open : o.phase ≡ phases.Initialising → HasOneLoad s mid stages.Open
  one_open phase =
      with_body stages.Open (subst (FitsPhase (bones s) mid (module_bone o)) phase (sound.modules mid (module_bone o) there)) (λ k h. opened k (sym h ∙ phase))

  pub one_resting : o.phase ≡ phases.Lazy → HasOneLoad s mid stages.Resting
  one_resting phase =
      with_body stages.Resting (subst (FitsPhase (bones s) mid (module_bone o)) phase (sound.modules mid (module_bone o) there)) (λ k h. rested k (sym h ∙ phase))
