-- What holds in every state is kept where modules and loads are added or changed, and where a thread ends.
use Rattle.std.proofs.Common.{◌≡◌, ℕ, ◌+◌, ◌<◌, ◌≤◌, length, arith, true, false, List, [], ◌∷◌, ◌++◌, Option, Some, None, refl, sym, ap, subst, ◌∙◌, inl, inr}
use Rattle.std.specs.Prelude.{slice_get, is_some}
use Rattle.std.specs.FinMap.{get}
use Rattle.std.proofs.lemmas.Bool.{false≢true}
use Rattle.module_table.specs.declared.module.LoadKind.{LoadKind}
use Rattle.module_table.specs.declared.module.LoadKind.TheVariants as load_kinds
use Rattle.module_table.specs.declared.module.LoadStage.{LoadStage}
use Rattle.module_table.specs.declared.module.Phase.{Phase}
use Rattle.module_table.specs.declared.module.Phase.TheVariants as phases
use Rattle.module_table.specs.declared.module.Reload.{Reload}
use Rattle.machine_spec.specs.Parts.{is_imported}
use Rattle.machine_laws.specs.Bones.{Bones, Module, Body, is_named, counts_in, opens, held}
use Rattle.machine_laws.specs.Sound.{AreSound, FitsModule, FitsKind, FitsPhase, FitsLoad, HasBody, IsMadeBy, phase_of}
use Rattle.machine_laws.proofs.Lists.{pushed_last, pushed_keeps, pushed_at}
use Rattle.machine_laws.proofs.Counts.{bit, counts_own, renamed, opens_push}
use Rattle.machine_laws.proofs.Moves.{made}

-- a load of kind Plain or Lazy is the one that its module was made with
pub fits_made : (i : ℕ) (l : Body) (m : Module) (kind : LoadKind) → is_imported kind ≡ true → IsMadeBy i l m → FitsKind i l m kind
fits_made i l m load_kinds.Main h fits = absurd (false≢true h)
fits_made i l m load_kinds.Plain h fits = fits
fits_made i l m load_kinds.Lazy h fits = fits
fits_made i l m load_kinds.Reload h fits = absurd (false≢true h)

pub made_fits : (i : ℕ) (l : Body) (m : Module) (kind : LoadKind) → is_imported kind ≡ true → FitsKind i l m kind → IsMadeBy i l m
made_fits i l m load_kinds.Main h fits = absurd (false≢true h)
made_fits i l m load_kinds.Plain h fits = fits
made_fits i l m load_kinds.Lazy h fits = fits
made_fits i l m load_kinds.Reload h fits = absurd (false≢true h)

-- another load of the module does not say how far it is
pub other_fits : (i : ℕ) (l : Body) (m n : Module) (kind : LoadKind) → (IsMadeBy i l m → ⊥) → FitsKind i l m kind → FitsKind i l n kind
other_fits i l m n load_kinds.Main other fits = fits
other_fits i l m n load_kinds.Plain other fits = absurd (other fits)
other_fits i l m n load_kinds.Lazy other fits = absurd (other fits)
other_fits i l m n load_kinds.Reload other fits = fits

-- how far a module is with more loads, or with other ones
pub more_phase : (b c : Bones) (mid : ℕ) (m : Module) (phase : Phase) → (HasBody b mid m → HasBody c mid m) → FitsPhase b mid m phase → FitsPhase c mid m phase
more_phase b c mid m phases.Ready h fits = tt
more_phase b c mid m phases.Initialising h fits = h fits
more_phase b c mid m phases.Lazy h fits = h fits

pub any_phase : (b : Bones) (mid : ℕ) (m : Module) (phase : Phase) → HasBody b mid m → FitsPhase b mid m phase
any_phase b mid m phases.Ready h = tt
any_phase b mid m phases.Initialising h = h
any_phase b mid m phases.Lazy h = h

pub more_load : (b c : Bones) (r : Reload) (load : Option ℕ) → ((i : ℕ) (l : Body) → slice_get b.bodies i ≡ Some l → l.kind ≡ load_kinds.Reload → slice_get c.bodies i ≡ Some l) → FitsLoad b r load → FitsLoad c r load
more_load b c r None h fits = tt
more_load b c r (Some i) h fits = h i _ fits refl

module _ (b : Bones) (sound : AreSound b) where
  -- the next module, with its load; where the load is open, the thread has taken the lock once more than needed
  module _ (t : ℕ) (n : List ℕ) (kind : LoadKind) (stage : LoadStage) (imported : is_imported kind ≡ true) (going : is_some (get b.ended t) ≡ false) where
    -- the old loads count as before, and the new one at this thread and name alone
    pub opens_made : (u : ℕ) (m : List ℕ) → opens (made b t n (phase_of stage) kind stage) u m ≡ opens b u m + bit (counts_in (made b t n (phase_of stage) kind stage) u m (record { kind = kind; thread = t; mid = length b.modules; stage = stage }))
    opens_made u m =
        let more : List Module = b.modules ++ record { name = n; phase = phase_of stage; load = Some (length b.bodies) } ∷ [] in
        opens_push (record b { modules = more }) (record { kind = kind; thread = t; mid = length b.modules; stage = stage }) u m
        ∙ ap (λ k. k + bit (counts_in (made b t n (phase_of stage) kind stage) u m (record { kind = kind; thread = t; mid = length b.modules; stage = stage })))
        (renamed b more (λ i l is k. let old = sound.bodies i l is in ap (λ o. is_named o k) (pushed_keeps b.modules _ l.mid old.0 old.1 ∙ sym old.1)) u m)

    -- what holds of the new list of loads and modules beside the counts
    pub bodies_made : (i : ℕ) (l : Body) → slice_get (b.bodies ++ record { kind = kind; thread = t; mid = length b.modules; stage = stage } ∷ []) i ≡ Some l → FitsModule (made b t n (phase_of stage) kind stage) i l
    bodies_made i l is = elim (pushed_at b.bodies _ i l is) [
      | inl old ↦ let fits = sound.bodies i l old in (fits.0, pushed_keeps b.modules _ l.mid fits.0 fits.1, fits.2)
      | inr new ↦
          let m : Module = record { name = n; phase = phase_of stage; load = Some (length b.bodies) } in
          let body : Body = record { kind = kind; thread = t; mid = length b.modules; stage = stage } in
          subst (λ k. FitsModule (made b t n (phase_of stage) kind stage) k l) (sym new.0)
          (subst (λ z. FitsModule (made b t n (phase_of stage) kind stage) (length b.bodies) z) (sym new.1)
          (m, pushed_last b.modules m, fits_made (length b.bodies) body m kind imported (refl, refl)))
    ]

    pub modules_made : (mid : ℕ) (m : Module) → slice_get (b.modules ++ record { name = n; phase = phase_of stage; load = Some (length b.bodies) } ∷ []) mid ≡ Some m → FitsPhase (made b t n (phase_of stage) kind stage) mid m m.phase
    modules_made mid m is = elim (pushed_at b.modules _ mid m is) [
      | inl old ↦ more_phase b (made b t n (phase_of stage) kind stage) mid m m.phase (λ h. (h.0, h.1, h.2, pushed_keeps b.bodies _ h.0 h.1 h.3, h.4, h.5)) (sound.modules mid m old)
      | inr new ↦
          let body : Body = record { kind = kind; thread = t; mid = length b.modules; stage = stage } in
          subst (λ z. FitsPhase (made b t n (phase_of stage) kind stage) mid z z.phase) (sym new.1)
          (any_phase (made b t n (phase_of stage) kind stage) mid (record { name = n; phase = phase_of stage; load = Some (length b.bodies) }) (phase_of stage) (length b.bodies, body, refl, pushed_last b.bodies body, sym new.0, imported))
    ]

    pub sound_made : ((u : ℕ) (m : List ℕ) → opens (made b t n (phase_of stage) kind stage) u m ≤ held b.locks u m) → AreSound (made b t n (phase_of stage) kind stage)
    sound_made covers = record {
      few = sound.few;
      acyclic = sound.acyclic;
      covered = covers;
      bodies = bodies_made;
      modules = modules_made;
      reloads = λ k r h. let old = sound.reloads k r h in
          (old.0, pushed_keeps b.modules _ r.mid old.0 old.1, old.2, more_load b (made b t n (phase_of stage) kind stage) r r.load (λ i l is _. pushed_keeps b.bodies _ i l is) old.3);
      owners = λ m u h. let r = sound.owners m u h in record { first = r.first; round = r.round; going = r.going; earlier = r.earlier };
      alive = λ i l is opened kind_is. elim (pushed_at b.bodies _ i l is) [
        | inl old ↦ sound.alive i l old opened kind_is
        | inr new ↦ ap (λ (z : Body). is_some (get b.ended z.thread)) new.1 ∙ going
      ];
    }

    -- where the lock was taken once more than needed the counts are covered
    pub covered_made : opens b t n < held b.locks t n → (u : ℕ) (m : List ℕ) → opens (made b t n (phase_of stage) kind stage) u m ≤ held b.locks u m
    covered_made spare u m =
        let body : Body = record { kind = kind; thread = t; mid = length b.modules; stage = stage } in
        let new : Module = record { name = n; phase = phase_of stage; load = Some (length b.bodies) } in
        let total = opens_made u m in
        let old = sound.covered u m in
        elim (counts_in (made b t n (phase_of stage) kind stage) u m body) as (λ c. counts_in (made b t n (phase_of stage) kind stage) u m body ≡ c → opens (made b t n (phase_of stage) kind stage) u m ≡ opens b u m + bit c → opens (made b t n (phase_of stage) kind stage) u m ≤ held b.locks u m) [
          | true ↦ λ p e.
              let own = counts_own (made b t n (phase_of stage) kind stage) u m body new (pushed_last b.modules new) p in
              let more : opens b u m < held b.locks u m = subst (λ z. opens b z m < held b.locks z m) (sym own.0) (subst (λ z. opens b t z < held b.locks t z) (sym own.1) spare) in
              omega arith
          | false ↦ λ p e. omega arith
        ] refl total
