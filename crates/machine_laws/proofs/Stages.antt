-- What holds in every state is kept where a load goes on with its module,
-- where a reload begins or ends its load, and where a thread ends.
use Rattle.std.proofs.Common.{◌≡◌, ℕ, ◌+◌, ◌≤◌, true, false, List, Some, refl, sym, ap, subst, ◌∙◌, eqb, inl, inr}
use Rattle.std.specs.Prelude.{slice_get, slice_set, is_some}
use Rattle.std.specs.FinMap.{get}
use Rattle.std.proofs.lemmas.Bool.{false≢true, eqb-true, eqb-false}
use Rattle.module_table.specs.declared.module.LoadKind.{LoadKind}
use Rattle.module_table.specs.declared.module.LoadKind.TheVariants as load_kinds
use Rattle.module_table.specs.declared.module.LoadStage.{LoadStage}
use Rattle.module_table.specs.declared.module.Reload.{Reload}
use Rattle.machine_spec.specs.Parts.{is_open, is_imported}
use Rattle.machine_laws.specs.Bones.{Bones, Module, Body, counts_in, opens, held}
use Rattle.machine_laws.specs.Sound.{AreSound, FitsModule, FitsKind, FitsPhase, FitsReload, phase_of}
use Rattle.machine_laws.proofs.Lists.{set_there, set_elsewhere, set_at}
use Rattle.machine_laws.proofs.Counts.{bit, renamed, opens_set, changed_name}
use Rattle.machine_laws.proofs.Changes.{fits_made, made_fits, other_fits, more_phase, any_phase, more_load}

not_reload : (kind : LoadKind) → is_imported kind ≡ true → kind ≡ load_kinds.Reload → ⊥
not_reload load_kinds.Main h is = false≢true h
not_reload load_kinds.Plain h is = false≢true (sym (ap is_imported is))
not_reload load_kinds.Lazy h is = false≢true (sym (ap is_imported is))
not_reload load_kinds.Reload h is = false≢true h

-- a load of kind Plain or Lazy goes on to a stage, and its module with it
module _ (b : Bones) (sound : AreSound b) (i : ℕ) (l : Body) (m : Module) (is : slice_get b.bodies i ≡ Some l) (there : slice_get b.modules l.mid ≡ Some m) (imported : is_imported l.kind ≡ true) (t : ℕ) (stage : LoadStage) where
  abbrev staged_body : Body
  staged_body = record { kind = l.kind; thread = t; mid = l.mid; stage = stage }

  abbrev staged_module : Module
  staged_module = record { name = m.name; phase = phase_of stage; load = m.load }

  abbrev pub staged : Bones
  staged = record b { bodies = slice_set b.bodies i staged_body; modules = slice_set b.modules l.mid staged_module }

  own_load : m.load ≡ Some i
  own_load =
      let fits = sound.bodies i l is in
      let same : fits.0 ≡ m = let e : Some fits.0 ≡ Some m = sym fits.1 ∙ there in cc in
      (made_fits i l m l.kind imported (subst (λ z. FitsKind i l z l.kind) same fits.2)).0

  bodies_staged : (j : ℕ) (k : Body) → slice_get (slice_set b.bodies i staged_body) j ≡ Some k → FitsModule staged j k
  bodies_staged j k h = elim (set_at b.bodies i j staged_body k h) [
    | inl here ↦
        subst (λ z. FitsModule staged z k) (sym here.0)
        (subst (λ z. FitsModule staged i z) (sym here.1)
        (staged_module, set_there b.modules l.mid m staged_module there, fits_made i staged_body staged_module l.kind imported (own_load, refl)))
    | inr other ↦
        let fits = sound.bodies j k other.1 in
        elim (eqb k.mid l.mid) as (λ c. eqb k.mid l.mid ≡ c → FitsModule staged j k) [
          | true ↦ λ p.
              let mid : k.mid ≡ l.mid = eqb-true k.mid l.mid p in
              let same : fits.0 ≡ m = let e : Some fits.0 ≡ Some m = sym fits.1 ∙ ap (slice_get b.modules) mid ∙ there in cc in
              let old : FitsKind j k m k.kind = subst (λ z. FitsKind j k z k.kind) same fits.2 in
              let new = other_fits j k m staged_module k.kind (λ made. other.0 (let e : Some j ≡ Some i = sym made.0 ∙ own_load in cc)) old in
              (staged_module, ap (slice_get (slice_set b.modules l.mid staged_module)) mid ∙ set_there b.modules l.mid m staged_module there, new)
          | false ↦ λ p. (fits.0, set_elsewhere b.modules l.mid k.mid staged_module (eqb-false k.mid l.mid p) ∙ fits.1, fits.2)
        ] refl
  ]

  modules_staged : (mid : ℕ) (k : Module) → slice_get (slice_set b.modules l.mid staged_module) mid ≡ Some k → FitsPhase staged mid k k.phase
  modules_staged mid k h = elim (set_at b.modules l.mid mid staged_module k h) [
    | inl here ↦
        subst (λ z. FitsPhase staged mid z z.phase) (sym here.1)
        (any_phase staged mid staged_module (phase_of stage) (i, staged_body, own_load, set_there b.bodies i l staged_body is, sym here.0, imported))
    | inr other ↦
        more_phase b staged mid k k.phase
        (λ has. (
          has.0,
          has.1,
          has.2,
          set_elsewhere b.bodies i has.0 staged_body (λ e. other.0 (let same : has.1 ≡ l = let f : Some has.1 ≡ Some l = sym has.3 ∙ ap (slice_get b.bodies) e ∙ is in cc in sym has.4 ∙ ap (λ (z : Body). z.mid) same)) ∙ has.3,
          has.4,
          has.5,
        ))
        (sound.modules mid k other.1)
  ]

  reloads_staged : (n : List ℕ) (r : Reload) → get b.reloads n ≡ Some r → FitsReload staged n r
  reloads_staged n r h =
      let old = sound.reloads n r h in
      let loads = more_load b staged r r.load (λ j k at kind. set_elsewhere b.bodies i j staged_body (λ e. not_reload l.kind imported (let same : k ≡ l = let f : Some k ≡ Some l = sym at ∙ ap (slice_get b.bodies) e ∙ is in cc in ap (λ (z : Body). z.kind) (sym same) ∙ kind)) ∙ at) old.3 in
      elim (eqb r.mid l.mid) as (λ c. eqb r.mid l.mid ≡ c → FitsReload staged n r) [
        | true ↦ λ p.
            let mid : r.mid ≡ l.mid = eqb-true r.mid l.mid p in
            let same : old.0 ≡ m = let e : Some old.0 ≡ Some m = sym old.1 ∙ ap (slice_get b.modules) mid ∙ there in cc in
            (staged_module, ap (slice_get (slice_set b.modules l.mid staged_module)) mid ∙ set_there b.modules l.mid m staged_module there, ap (λ (z : Module). z.name) (sym same) ∙ old.2, loads)
        | false ↦ λ p. (old.0, set_elsewhere b.modules l.mid r.mid staged_module (eqb-false r.mid l.mid p) ∙ old.1, old.2, loads)
      ] refl

  -- the counts change by this load alone
  pub opens_staged : (u : ℕ) (n : List ℕ) → opens staged u n + bit (counts_in b u n l) ≡ opens b u n + bit (counts_in b u n staged_body)
  opens_staged u n =
      let moved : Bones = record b { bodies = slice_set b.bodies i staged_body } in
      ap (λ k. k + bit (counts_in b u n l)) (renamed moved (slice_set b.modules l.mid staged_module) (λ j k h name. changed_name b.modules l.mid m staged_module there refl k.mid name) u n)
      ∙ opens_set b i l staged_body is u n

  pub sound_staged : ((u : ℕ) (n : List ℕ) → opens staged u n ≤ held b.locks u n) → (is_open stage ≡ true → is_some (get b.ended t) ≡ false) → AreSound staged
  sound_staged covers going = record {
    few = sound.few;
    acyclic = sound.acyclic;
    covered = covers;
    bodies = bodies_staged;
    modules = modules_staged;
    reloads = reloads_staged;
    owners = λ n u h. let r = sound.owners n u h in record { first = r.first; round = r.round; going = r.going; earlier = r.earlier };
    alive = λ j k h opened kind. elim (set_at b.bodies i j staged_body k h) [
      | inl here ↦ ap (λ (z : Body). is_some (get b.ended z.thread)) here.1 ∙ going (ap (λ (z : Body). is_open z.stage) (sym here.1) ∙ opened)
      | inr other ↦ sound.alive j k other.1 opened kind
    ];
  }
