-- What holds in every state is kept where a reload begins or ends its load, and where a thread ends.
use Rattle.std.proofs.Common.{◌≡◌, ◌≢◌, ℕ, ◌+◌, ◌≤◌, length, arith, true, false, cond, List, [], ◌∷◌, ◌++◌, Option, Some, None, refl, sym, ap, subst, ◌∙◌, inl, inr}
use Rattle.std.specs.Prelude.{slice_get, slice_set, is_some}
use Rattle.std.specs.Ordering.{nat_cmp, eq_by_cmp}
use Rattle.std.specs.Cmp.{nat_cmp_total}
use Rattle.std.specs.Cmp.Lexicographic.{nat_list_cmp_total}
use Rattle.std.specs.FinMap.{get, insert, remove, get-insert, get-remove}
use Rattle.std.proofs.lemmas.Bool.{false≢true}
use Rattle.std.proofs.lemmas.Bool.Decides.{nat_tests}
use Rattle.module_lock.specs.Table.{owner_of}
use Rattle.module_table.specs.declared.module.LoadKind.TheVariants as load_kinds
use Rattle.module_table.specs.declared.module.LoadStage.TheVariants as stages
use Rattle.module_table.specs.declared.module.Reload.{Reload}
use Rattle.machine_spec.specs.Parts.{is_open, is_main, is_imported}
use Rattle.machine_laws.specs.Bones.{Bones, Module, Body, counts_in, opens, held}
use Rattle.machine_laws.specs.Sound.{AreSound, FitsModule, FitsLoad, FitsReload}
use Rattle.machine_laws.proofs.Lists.{pushed_last, pushed_keeps, pushed_at, set_elsewhere, set_at}
use Rattle.machine_laws.proofs.Holds.{same_text, same_name, same_self}
use Rattle.machine_laws.proofs.Counts.{bit, opens_push, opens_set}
use Rattle.machine_laws.proofs.Changes.{more_phase, more_load}

same_number : (x t : ℕ) → eq_by_cmp nat_cmp x t ≡ true → x ≡ t
same_number x t h = grind (arith, nat_tests)

module _ (b : Bones) (sound : AreSound b) where
  -- a reload of a name that runs has the next load, whose lock was taken for it
  module _ (n : List ℕ) (r : Reload) (m : Module) (is : slice_get b.modules r.mid ≡ Some m) (named : m.name ≡ n) (going : is_some (get b.ended r.thread) ≡ false) where
    abbrev next_body : Body
    next_body = record { kind = load_kinds.Reload; thread = r.thread; mid = r.mid; stage = stages.Open }

    abbrev pub again : Bones
    again = record b { bodies = b.bodies ++ next_body ∷ []; reloads = insert b.reloads n (record { thread = r.thread; mid = r.mid; load = Some (length b.bodies) }) }

    reloads_again : (k : List ℕ) (q : Reload) → get (insert b.reloads n (record { thread = r.thread; mid = r.mid; load = Some (length b.bodies) })) k ≡ Some q → FitsReload again k q
    reloads_again k q h =
        let new : Reload = record { thread = r.thread; mid = r.mid; load = Some (length b.bodies) } in
        elim (same_text k n) as (λ c. same_text k n ≡ c → cond c (Some new) (get b.reloads k) ≡ Some q → FitsReload again k q) [
          | true ↦ λ p e.
              let same : new ≡ q = cc in
              subst (λ z. FitsReload again k z) same (m, is, named ∙ sym (same_name k n p), pushed_last b.bodies next_body)
          | false ↦ λ p e.
              let old = sound.reloads k q e in
              (old.0, old.1, old.2, more_load b again q q.load (λ i l at _. pushed_keeps b.bodies next_body i l at) old.3)
        ] refl (sym (get-insert nat_list_cmp_total b.reloads n new k) ∙ h)

    pub sound_again : ((u : ℕ) (k : List ℕ) → opens again u k ≤ held b.locks u k) → AreSound again
    sound_again covers = record {
      few = sound.few;
      acyclic = sound.acyclic;
      covered = covers;
      bodies = λ i l h. elim (pushed_at b.bodies next_body i l h) [
        | inl old ↦ sound.bodies i l old
        | inr new ↦ subst (λ z. FitsModule again i z) (sym new.1) (m, is, tt)
      ];
      modules = λ mid k h. more_phase b again mid k k.phase (λ has. (has.0, has.1, has.2, pushed_keeps b.bodies next_body has.0 has.1 has.3, has.4, has.5)) (sound.modules mid k h);
      reloads = reloads_again;
      owners = λ k u h. let o = sound.owners k u h in record { first = o.first; round = o.round; going = o.going; earlier = o.earlier };
      alive = λ i l h opened kind. elim (pushed_at b.bodies next_body i l h) [
        | inl old ↦ sound.alive i l old opened kind
        | inr new ↦ ap (λ (z : Body). is_some (get b.ended z.thread)) new.1 ∙ going
      ];
    }

    pub opens_again : (u : ℕ) (k : List ℕ) → opens again u k ≡ opens b u k + bit (counts_in b u k next_body)
    opens_again u k = opens_push b next_body u k

  -- a reload with a load ends
  module _ (n : List ℕ) (r : Reload) (i : ℕ) (runs : get b.reloads n ≡ Some r) (load : r.load ≡ Some i) where
    abbrev reload_body : Body
    reload_body = record { kind = load_kinds.Reload; thread = r.thread; mid = r.mid; stage = stages.Open }

    abbrev ended_body : Body
    ended_body = record { kind = load_kinds.Reload; thread = r.thread; mid = r.mid; stage = stages.Ended }

    abbrev pub done_again : Bones
    done_again = record b { bodies = slice_set b.bodies i ended_body; reloads = remove b.reloads n }

    pub reload_there : slice_get b.bodies i ≡ Some reload_body
    reload_there = subst (λ o. FitsLoad b r o) load (sound.reloads n r runs).3

    -- a reload of another name is of another module, so it has another load
    keep : (q : Reload) → (q.mid ≡ r.mid → ⊥) → (o : Option ℕ) → FitsLoad b q o → FitsLoad done_again q o
    keep q apart None fits = tt
    keep q apart (Some j) fits =
        let other : j ≢ i = λ e. apart (let f : Some (record { kind = load_kinds.Reload; thread = q.thread; mid = q.mid; stage = stages.Open }) ≡ Some reload_body = sym fits ∙ ap (slice_get b.bodies) e ∙ reload_there in same_mid _ _ f) in
        set_elsewhere b.bodies i j ended_body other ∙ fits
      where
        same_mid : (x y : Body) → Some x ≡ Some y → x.mid ≡ y.mid
        same_mid x y e = let f : x ≡ y = cc in ap (λ (z : Body). z.mid) f

    names_apart : (k : List ℕ) (q : Reload) (m : Module) → same_text k n ≡ false → slice_get b.modules q.mid ≡ Some m → m.name ≡ k → q.mid ≡ r.mid → ⊥
    names_apart k q m p at named same =
        let mine = sound.reloads n r runs in
        let one : m ≡ mine.0 = let e : Some m ≡ Some mine.0 = sym at ∙ ap (slice_get b.modules) same ∙ mine.1 in cc in
        let equal : k ≡ n = sym named ∙ ap (λ (z : Module). z.name) one ∙ mine.2 in
        false≢true (sym p ∙ ap (λ z. same_text z n) equal ∙ same_self n)

    reloads_done : (k : List ℕ) (q : Reload) → get (remove b.reloads n) k ≡ Some q → FitsReload done_again k q
    reloads_done k q h =
        elim (same_text k n) as (λ c. same_text k n ≡ c → cond c None (get b.reloads k) ≡ Some q → FitsReload done_again k q) [
          | true ↦ λ p e. cc
          | false ↦ λ p e.
              let old = sound.reloads k q e in
              (old.0, old.1, old.2, keep q (names_apart k q old.0 p old.1 old.2) q.load old.3)
        ] refl (sym (get-remove nat_list_cmp_total b.reloads n k) ∙ h)

    pub opens_done : (u : ℕ) (k : List ℕ) → opens done_again u k + bit (counts_in b u k reload_body) ≡ opens b u k + bit (counts_in b u k ended_body)
    opens_done u k = opens_set b i reload_body ended_body reload_there u k

    pub sound_done_again : ((u : ℕ) (k : List ℕ) → opens done_again u k ≤ held b.locks u k) → AreSound done_again
    sound_done_again covers = record {
      few = sound.few;
      acyclic = sound.acyclic;
      covered = covers;
      bodies = λ j l h. elim (set_at b.bodies i j ended_body l h) [
        | inl here ↦ let fits = sound.bodies i reload_body reload_there in subst (λ z. FitsModule done_again j z) (sym here.1) (fits.0, fits.1, tt)
        | inr other ↦ sound.bodies j l other.1
      ];
      modules = λ mid k h. more_phase b done_again mid k k.phase
          (λ has. (
            has.0,
            has.1,
            has.2,
            set_elsewhere b.bodies i has.0 ended_body (λ e. false≢true (let f : Some has.1 ≡ Some reload_body = sym has.3 ∙ ap (slice_get b.bodies) e ∙ reload_there in let g : has.1 ≡ reload_body = cc in ap (λ (z : Body). is_imported z.kind) (sym g) ∙ has.5)) ∙ has.3,
            has.4,
            has.5,
          ))
          (sound.modules mid k h);
      reloads = reloads_done;
      owners = λ k u h. let o = sound.owners k u h in record { first = o.first; round = o.round; going = o.going; earlier = o.earlier };
      alive = λ j l h opened kind. elim (set_at b.bodies i j ended_body l h) [
        | inl here ↦ absurd (false≢true (ap (λ (z : Body). is_open z.stage) (sym here.1) ∙ opened))
        | inr other ↦ sound.alive j l other.1 opened kind
      ];
    }

  -- a thread ends that owns no lock and has no open load but its Main
  pub sound_ended : (t : ℕ) → ((n : List ℕ) → owner_of b.locks n ≡ Some t → ⊥) → ((i : ℕ) (l : Body) → slice_get b.bodies i ≡ Some l → is_open l.stage ≡ true → is_main l.kind ≡ false → l.thread ≡ t → ⊥) → AreSound (record b { ended = insert b.ended t tt })
  sound_ended t free none = record {
    few = sound.few;
    acyclic = sound.acyclic;
    covered = sound.covered;
    bodies = sound.bodies;
    modules = sound.modules;
    reloads = sound.reloads;
    owners = λ n u h. let o = sound.owners n u h in record {
      first = o.first;
      round = o.round;
      going = still u (λ e. free n (h ∙ ap (λ z. Some z) e)) o.going;
      earlier = λ v less. more v (o.earlier v less);
    };
    alive = λ i l is opened kind. still l.thread (none i l is opened kind) (sound.alive i l is opened kind);
  }
    where
      still : (u : ℕ) → (u ≡ t → ⊥) → is_some (get b.ended u) ≡ false → is_some (get (insert b.ended t tt) u) ≡ false
      still u other h =
          rw (get-insert nat_cmp_total b.ended t tt u)
          (elim (eq_by_cmp nat_cmp u t) as (λ c. eq_by_cmp nat_cmp u t ≡ c → is_some (cond c (Some tt) (get b.ended u)) ≡ false) [
            | true ↦ λ p. absurd (other (same_number u t p))
            | false ↦ λ p. h
          ] refl)

      more : (v : ℕ) → is_some (get b.ended v) ≡ true → is_some (get (insert b.ended t tt) v) ≡ true
      more v h = rw (get-insert nat_cmp_total b.ended t tt v) (elim (eq_by_cmp nat_cmp v t) as (λ c. is_some (cond c (Some tt) (get b.ended v)) ≡ true) [ true ↦ refl | false ↦ h ])
